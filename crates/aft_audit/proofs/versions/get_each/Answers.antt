use Rattle.std.proofs.Common.{rules, ◌++◌, subst, sym}
use Rattle.std.specs.List.Sorted.{IsStrictlySortedBy}
use Rattle.std.specs.Map.{keys_of}
use Rattle.std.specs.Map.Iter.{deref_pair}
use Rattle.std.specs.String.{string_bytes, string_cmp}
use Rattle.std.proofs.lemmas.Map.Iter.{rest_more}
use Rattle.std.proofs.lemmas.Map.Keys.{sorted_tail}
use Rattle.aft_audit.specs.Versions.{IsGetting, found_under}
use Rattle.aft_audit.proofs.Gets.{gets_in_order, gets_on, may_get}
use Rattle.aft_audit.proofs.versions.get_each.Goals as goal

pub get_version-requires-clause-reading : goal.get_version-requires-clause-reading
get_version-requires-clause-reading g c = c.loop-text.invariant.getting.shows.reading

pub get_version-requires-clause-next : goal.get_version-requires-clause-next
get_version-requires-clause-next g c =
    let rest = rest_more deref_pair c.loop-text.text-iterator c.next.new.self c.next.result (c.in-Some.text, c.in-Some.name) c.in-Some.is c.next.ensures.steps in
    may_get (c.in-Some.text.now, c.in-Some.name.now) c.next.new.self c.args.names.now.entries c.loop-text.pairs.items c.args.door.now.history c.loop-text.door.history
    (subst (λ left. IsGetting left c.args.names.now.entries c.loop-text.pairs.items c.args.door.now.history c.loop-text.door.history) rest c.loop-text.invariant.getting)

pub get_version-requires-clause-later : goal.get_version-requires-clause-later
get_version-requires-clause-later g c =
    let rest = rest_more deref_pair c.loop-text.text-iterator c.next.new.self c.next.result (c.in-Some.text, c.in-Some.name) c.in-Some.is c.next.ensures.steps in
    gets_in_order (c.in-Some.text.now, c.in-Some.name.now) c.next.new.self c.args.names.now.entries c.loop-text.pairs.items c.args.door.now.history c.loop-text.door.history
    (subst (λ left. IsGetting left c.args.names.now.entries c.loop-text.pairs.items c.args.door.now.history c.loop-text.door.history) rest c.loop-text.invariant.getting)

pub loop-text-preserved : goal.loop-text-preserved
loop-text-preserved g c =
    let rest = rest_more deref_pair c.loop-text.text-iterator c.next.new.self c.next.result (c.in-Some.text, c.in-Some.name) c.in-Some.is c.next.ensures.steps in
    let sorted = subst (λ left. IsStrictlySortedBy string_cmp (keys_of left)) rest c.loop-text.invariant.sorted in
    record {
      getting = subst (λ pairs. IsGetting c.next.new.self c.args.names.now.entries pairs c.args.door.now.history c.get_version.new.door.history) (sym c.in_ok-add_found.ensures.ok)
          (subst (λ now. IsGetting c.next.new.self c.args.names.now.entries (c.loop-text.pairs.items ++ found_under (string_bytes c.in-Some.text.now) c.in_ok-found.found) c.args.door.now.history now) (sym c.in_ok-found.ensures.ok)
          (gets_on (c.in-Some.text.now, c.in-Some.name.now) c.next.new.self c.args.names.now.entries c.loop-text.pairs.items c.args.door.now.history c.loop-text.door.history
          (subst (λ left. IsGetting left c.args.names.now.entries c.loop-text.pairs.items c.args.door.now.history c.loop-text.door.history) rest c.loop-text.invariant.getting) c.in_ok-found.found sorted));
      sorted = sorted_tail string_cmp _ _ sorted;
      store = search rules;
      falls = search rules;
    }
