use Rattle.std.proofs.Common.{◌≡◌, ℕ, List, Some, Option, None, refl, sym, ap, subst, ◌∙◌}
use Rattle.std.specs.Prelude.{IfSome, IsTrue, Ok, is_some, if◌then◌else◌}
use Rattle.std.proofs.lemmas.Bool.{false≢true}
use Rattle.aft_model.specs.declared.door.DoorEntry.{DoorEntry}
use Rattle.aft_model.specs.Membership.{up_now}
use Rattle.aft_door.specs.declared.fault.DoorFault.TheVariants.{Fenced}
use Rattle.aft_door.specs.Calls.{DoorView}
use Rattle.aft_door.specs.Ledger.{Standing}
use Rattle.aft_door.specs.Refusals.{RefusedBy}
use Rattle.aft_door.proofs.Standing.{up_is_fresh}
use Rattle.aft_door.specs.Entries.{came_up}
use Rattle.aft_door.proofs.Along.{quiet_on}
use Rattle.aft_door.proofs.door.Door.up.Goals as goal

pub invariant_of-self-2 : goal.invariant_of-self-2
invariant_of-self-2 g c = rw (c.add_up.ensures, c.make_room.ensures.history) (quiet_on _ (came_up c.args.by c.args.node c.args.inc) refl (λ pairs. refl) c.self.invariant)

-- an incarnation that is up, where no other one may be
this_one : (o : Option ℕ) (inc : ℕ) → IsTrue (is_some o) → IfSome o (λ other. other ≡ inc) → o ≡ Some inc
this_one None inc there same = absurd (false≢true there)
this_one (Some other) inc there same = ap (λ n. Some n) same

pub returns-then-is_some-clause-refused : goal.returns-then-is_some-clause-refused
returns-then-is_some-clause-refused g c =
    let h = ap (λ (v : DoorView). v.history) c.self.view_is in
    let there = this_one (up_now c.args.node c.args.self.now.history) c.args.inc (subst (λ (o : Option ℕ). IsTrue (is_some o)) (c.up_now.ensures ∙ ap (λ (x : List DoorEntry). up_now c.args.node x) h) (sym c.is_some.ensures ∙ c.if-is_some.true)) c.requires.alone in
    let fresh = up_is_fresh c.args.node c.args.inc c.args.self.now.history (subst Standing h c.law.ensures.standing) there in
    subst (λ t. RefusedBy {T = Unit {0}} (if t then Some (Fenced c.args.node c.args.inc) else None) (Ok tt)) (sym fresh) tt
