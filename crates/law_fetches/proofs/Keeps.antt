-- What a node keeps of values, and what it told, is true of what it has seen.
use Rattle.std.proofs.Common.{◌≡◌, ℕ, zero, suc, Bool, true, false, ◌&&◌, not, List, [], ◌∷◌, ◌++◌, refl, sym, ap, subst, ◌∙◌, ◌⊎◌, inl, inr, append_assoc, take}
use Rattle.std.specs.Prelude.{IsTrue, None, Option, Some, filter, if◌then◌else◌}
use Rattle.std.specs.Str.{bytes_eq}
use Rattle.std.proofs.lemmas.Bool.{and_parts, false≢true}
use Rattle.std.proofs.lemmas.List.Sums.{fold-append}
use Rattle.aft_id.specs.TxnId.{same_id}
use Rattle.aft_id.specs.declared.txn_id.TxnId.{TxnId}
use Rattle.aft_records.specs.Kept.{Kept, is_kept_at, kept_value, with_front}
use Rattle.aft_model.specs.declared.caller.Attempt.{Attempt}
use Rattle.aft_model.specs.declared.choice.Choice.{Choice}
use Rattle.aft_model.specs.declared.choice.Choice.TheVariants as choices
use Rattle.aft_model.specs.declared.choice.Picked.{Picked}
use Rattle.aft_model.specs.declared.choice.Picked.TheVariants as picked
use Rattle.aft_model.specs.declared.door.DoorEntry.{DoorEntry}
use Rattle.aft_model.specs.declared.node.NodeAct.{NodeAct}
use Rattle.aft_model.specs.declared.node.NodeAct.TheVariants.{Select, Value}
use Rattle.aft_model.specs.declared.node.NodeEntry.{NodeEntry}
use Rattle.aft_model.specs.declared.reply.Reply.{Reply}
use Rattle.aft_model.specs.declared.reply.Reply.TheVariants as replies
use Rattle.aft_model.specs.Attempts.{buffer, buffered, reads, same_attempt}
use Rattle.aft_model.specs.Cache.{cache, cache_after}
use Rattle.aft_model.specs.Choice.{choice}
use Rattle.aft_model.specs.Known.{known_in}
use Rattle.aft_model.specs.LegalNode.{front, may_be_done, may_serve}
use Rattle.aft_model.specs.NodeRules.{answers_pick, is_value_of, kept_or_fetched, own_or, picked_by, same_picked}
use Rattle.aft_model.specs.NodeState.{NodeState, extended, newest, node_state, part, part_in, service_in}
use Rattle.aft_model.proofs.Histories.{In, in_append}
use Rattle.aft_model.proofs.Ids.{same_ids}
use Rattle.aft_model.proofs.Incarnations.{part-at}
use Rattle.aft_model.proofs.Lists.{in_filter}
use Rattle.aft_model.proofs.Services.{Begins, Boots, GoesDown, Moved, Serves, Waits, moved_by}
use Rattle.aft_model.proofs.Sights.{same_bytes}
use Rattle.aft_lines.specs.Headline.{got_in, put_by, told, told_after, told_by, told_since}
use Rattle.law_kept.specs.Kept.{Lawful}
use Rattle.law_boots.specs.Beside.{Beside}
use Rattle.law_boots.proofs.Nodes.{done, front-snoc, kept, rule, up}
use Rattle.law_boots.proofs.Picks.{in_one, picking}
use Rattle.law_fetches.specs.Values.{TrueValue}
use Rattle.law_fetches.proofs.Shown.{stays_true}

-- ---- kept values

pub record KeptAt (key : List ℕ) (id : TxnId) (value : List ℕ) (values : List Kept) : Type 0 where
  pub one : Kept
  pub among : In one values
  pub its_key : one.key ≡ key
  pub its_id : one.id ≡ id
  pub its_value : one.value ≡ value

-- a value that is kept of a key and id is one of those that are kept
kept_at : (key : List ℕ) (id : TxnId) (value : List ℕ) (values : List Kept) → kept_value key id values ≡ Some value → KeptAt key id value values
kept_at key id value [] is = absurd (let no : None ≡ Some value = is in cc)
kept_at key id value (one ∷ values) is = cases (is_kept_at key id one) refl is (kept_at key id value values)
  where
    cases : (t : Bool) → is_kept_at key id one ≡ t → (if t then Some one.value else kept_value key id values) ≡ Some value → (kept_value key id values ≡ Some value → KeptAt key id value values) → KeptAt key id value (one ∷ values)
    cases true same found rest =
        let parts = and_parts (bytes_eq key one.key) (same_id id one.id) same in
        let its : one.value ≡ value = (let e : Some one.value ≡ Some value = found in cc) in
        record { one = one; among = inl refl; its_key = sym (same_bytes key one.key parts.0); its_id = sym (same_ids id one.id parts.1); its_value = its }
    cases false other found rest = (let more = rest found in record { one = more.one; among = inr more.among; its_key = more.its_key; its_id = more.its_id; its_value = more.its_value })

in_taken : {A : Type 0} (x : A) (n : ℕ) (xs : List A) → In x (take n xs) → In x xs
in_taken x zero xs among = absurd among
in_taken x (suc n) [] among = absurd among
in_taken x (suc n) (y ∷ ys) (inl here) = inl here
in_taken x (suc n) (y ∷ ys) (inr later) = inr (in_taken x n ys later)

with_front_from : (capacity : ℕ) (one other : Kept) (values : List Kept) → In other (with_front capacity one values) → (other ≡ one) ⊎ In other values
with_front_from capacity one other values among =
    elim (in_taken other capacity (one ∷ filter (λ (k : Kept). not (is_kept_at one.key one.id k)) values) among) [
      | inl here ↦ inl here
      | inr later ↦ inr (in_filter (λ (k : Kept). not (is_kept_at one.key one.id k)) other values later).0
    ]

-- a pick of a kept value is of one
from_kept : (own : Option (List ℕ)) (key : List ℕ) (values : List Kept) (ch : Choice) (id : TxnId) (value : List ℕ) → IsTrue (same_picked (own_or own (picked_by key values ch)) (picked.Cached id value)) → KeptAt key id value values
from_kept (Some own) key values ch id value same = absurd (false≢true same)
from_kept None key values (choices.Version i) id value same = by_kept (kept_value key i values) refl same
  where
    by_kept : (o : Option (List ℕ)) → kept_value key i values ≡ o → IsTrue (same_picked (kept_or_fetched i o) (picked.Cached id value)) → KeptAt key id value values
    by_kept None at is = absurd (false≢true is)
    by_kept (Some v) at is =
        let parts = and_parts (same_id i id) (bytes_eq v value) is in
        let found = kept_at key i v values at in
        record { one = found.one; among = found.among; its_key = found.its_key; its_id = found.its_id ∙ same_ids i id parts.0; its_value = found.its_value ∙ same_bytes v value parts.1 }
from_kept None key values choices.Absent id value same = absurd (false≢true same)
from_kept None key values (choices.NoneFits blocked) id value same = absurd (false≢true same)

-- ---- over a history

module _ (node capacity : ℕ) (door : List DoorEntry) (lawful : Lawful door) (whole : List NodeEntry) where
  -- each value that came is true
  abbrev pub ComeTrue : Type 0
  ComeTrue = (history more : List NodeEntry) (entry : NodeEntry) → whole ≡ (history ++ entry ∷ []) ++ more → (a : Attempt) (key : List ℕ) (id : TxnId) (place : ℕ) (kept_it : Bool) → entry.act ≡ Value a key id place kept_it
      → (answered : TxnId) (value : List ℕ) → entry.answer ≡ Some (replies.Value answered value) → TrueValue key id value (take entry.front door)

  -- what is kept is true, and what was told
  pub record Keeps (history : List NodeEntry) : Type 0 where
    pub cached : (k : Kept) → In k (cache capacity (part history)) → TrueValue k.key k.id k.value (take (front history) door)
    pub said : (a : Attempt) (key : List ℕ) (id : TxnId) (value : List ℕ) → In (replies.Value id value) (told a key history) → TrueValue key id value (take (front history) door)

  module _ (come : ComeTrue) (history more : List NodeEntry) (entry : NodeEntry) (parts : whole ≡ (history ++ entry ∷ []) ++ more) (beside : Beside node capacity door (history ++ entry ∷ [])) (was : Keeps history) where
    abbrev now : List DoorEntry
    now = take entry.front door

    later : (key : List ℕ) (id : TxnId) (value : List ℕ) → TrueValue key id value (take (front history) door) → TrueValue key id value now
    later key id value = stays_true door lawful key id value (front history) entry.front (up node capacity door history entry beside)

    -- a kept value that is picked is true
    picked_true : (a : Attempt) (key : List ℕ) (id : TxnId) (value : List ℕ) (answer : Option Reply) → IsTrue (may_be_done node capacity history (Select a key (picked.Cached id value)) answer) → TrueValue key id value now
    picked_true a key id value answer may =
        let at = picking node capacity history a key (picked.Cached id value) answer may in
        let found = from_kept (buffered key (buffer a at.s.part)) key (cache capacity at.s.part) (choice key (reads a at.s.part) (known_in at.s)) id value at.picks in
        let kept_one = was.cached found.one (subst (λ (l : List NodeEntry). In found.one (cache capacity l)) (sym (part-at history at.s at.is)) found.among) in
        subst (λ (k : List ℕ). TrueValue k id value now) found.its_key
        (subst (λ (i : TxnId). TrueValue found.one.key i value now) found.its_id
        (subst (λ (v : List ℕ). TrueValue found.one.key found.one.id v now) found.its_value (later found.one.key found.one.id found.one.value kept_one)))

    -- what an act answers is true
    pub selected : (a : Attempt) (key : List ℕ) (p : Picked) (id : TxnId) (value : List ℕ) → IsTrue (may_be_done node capacity history (Select a key p) (Some (replies.Value id value))) → TrueValue key id value now
    selected a key p id value may = by_pick p may (picking node capacity history a key p (Some (replies.Value id value)) may).answers
      where
        by_pick : (q : Picked) → IsTrue (may_be_done node capacity history (Select a key q) (Some (replies.Value id value))) → IsTrue (answers_pick q (Some (replies.Value id value))) → TrueValue key id value now
        by_pick (picked.Cached i v) rules answers =
            let same = and_parts (same_id i id) (bytes_eq v value) answers in
            subst (λ (x : TxnId). TrueValue key x value now) (same_ids i id same.0) (subst (λ (w : List ℕ). TrueValue key i w now) (same_bytes v value same.1) (picked_true a key i v (Some (replies.Value id value)) rules))
        by_pick (picked.Own v) rules answers = absurd (false≢true answers)
        by_pick (picked.Fetch i) rules answers = absurd (false≢true answers)
        by_pick picked.Absent rules answers = absurd (false≢true answers)
        by_pick (picked.NoneFits blocked) rules answers = absurd (false≢true answers)

    -- the id that a fetched value is answered with is that of the version
    pub its_answer : (a : Attempt) (key : List ℕ) (id answered : TxnId) (place : ℕ) (kept_it : Bool) (value : List ℕ) → entry.act ≡ Value a key id place kept_it → entry.answer ≡ Some (replies.Value answered value) → id ≡ answered
    its_answer a key id answered place kept_it value is answers =
        let at = in_one (may_serve node capacity (Value a key id place kept_it) entry.answer) (node_state history) (subst (λ (act : NodeAct). IsTrue (may_be_done node capacity history act entry.answer)) is (done node capacity door history entry beside)) in
        same_ids id answered (subst (λ (answer : Option Reply). IsTrue (is_value_of id answer)) answers (and_parts _ (is_value_of id entry.answer) at.2).1)

    its_rule : IsTrue (may_be_done node capacity history entry.act entry.answer)
    its_rule = done node capacity door history entry beside

    in_answer : (id : TxnId) (value : List ℕ) (answer : Option Reply) → In (replies.Value id value) (got_in answer) → answer ≡ Some (replies.Value id value)
    in_answer id value (Some (replies.Value i v)) (inl is) = ap (λ (r : Reply). Some r) (sym is)
    in_answer id value (Some (replies.Value i v)) (inr nowhere) = absurd nowhere
    in_answer id value (Some replies.Absent) (inl is) = absurd (let no : replies.Value id value ≡ replies.Absent = is in cc)
    in_answer id value (Some replies.Absent) (inr nowhere) = absurd nowhere
    in_answer id value answer among = absurd among

    -- what an entry tells is true
    pub told_true : (a : Attempt) (key : List ℕ) (id : TxnId) (value : List ℕ) → In (replies.Value id value) (told_by a key entry.act entry.answer) → TrueValue key id value now
    told_true a key id value among = by_act entry.act refl among
      where
        by_act : (act : NodeAct) → entry.act ≡ act → In (replies.Value id value) (told_by a key act entry.answer) → TrueValue key id value now
        by_act (Select b got p) is tells = cases (same_attempt a b && bytes_eq key got) refl tells
          where
            cases : (t : Bool) → (same_attempt a b && bytes_eq key got) ≡ t → In (replies.Value id value) (if t then got_in entry.answer else []) → TrueValue key id value now
            cases false other told_it = absurd told_it
            cases true same told_it =
                let answers = in_answer id value entry.answer told_it in
                let ruled = subst (λ (answer : Option Reply). IsTrue (may_be_done node capacity history (Select b got p) answer)) answers (subst (λ (act : NodeAct). IsTrue (may_be_done node capacity history act entry.answer)) is its_rule) in
                subst (λ (k : List ℕ). TrueValue k id value now) (sym (same_bytes key got (and_parts (same_attempt a b) (bytes_eq key got) same).1)) (selected b got p id value ruled)
        by_act (Value b got i place kept_it) is tells = cases (same_attempt a b && bytes_eq key got) refl tells
          where
            cases : (t : Bool) → (same_attempt a b && bytes_eq key got) ≡ t → In (replies.Value id value) (if t then got_in entry.answer else []) → TrueValue key id value now
            cases false other told_it = absurd told_it
            cases true same told_it =
                let answers = in_answer id value entry.answer told_it in
                subst (λ (k : List ℕ). TrueValue k id value now) (sym (same_bytes key got (and_parts (same_attempt a b) (bytes_eq key got) same).1))
                (subst (λ (x : TxnId). TrueValue got x value now) (its_answer b got i id place kept_it value is answers) (come history more entry parts b got i place kept_it is id value answers))
        by_act act is tells = absurd tells

    -- ---- behind the entry

    one_front : (capacity' : ℕ) (key : List ℕ) (id : TxnId) (value : List ℕ) (values : List Kept) (k : Kept) → TrueValue key id value now → ((x : Kept) → In x values → TrueValue x.key x.id x.value now) → In k (with_front capacity' (record { key = key; id = id; value = value }) values) → TrueValue k.key k.id k.value now
    one_front capacity' key id value values k new old among = elim (with_front_from capacity' (record { key = key; id = id; value = value }) k values among) [
      | inl it ↦ subst (λ (x : Kept). TrueValue x.key x.id x.value now) (sym it) new
      | inr was_it ↦ old k was_it
    ]

    cached_by : (values : List Kept) → ((x : Kept) → In x values → TrueValue x.key x.id x.value now) → (k : Kept) → In k (cache_after capacity values entry.act entry.answer) → TrueValue k.key k.id k.value now
    cached_by values old k among = by_act entry.act refl entry.answer refl among
      where
        by_act : (act : NodeAct) → entry.act ≡ act → (answer : Option Reply) → entry.answer ≡ answer → In k (cache_after capacity values act answer) → TrueValue k.key k.id k.value now
        by_act (Value a key id place true) is (Some (replies.Value answered value)) answers there =
            one_front capacity key id value values k (come history more entry parts a key id place true is answered value answers) old there
        by_act (Select a key (picked.Cached id value)) is answer answers there =
            one_front capacity key id value values k (picked_true a key id value entry.answer (subst (λ (act : NodeAct). IsTrue (may_be_done node capacity history act entry.answer)) is its_rule)) old there
        by_act act is answer answers there = old k there

    cached_next : Moved node capacity (newest history) (node_state history) entry entry.act entry.answer (node_state (history ++ entry ∷ [])) → (k : Kept) → In k (cache capacity (part (history ++ entry ∷ []))) → TrueValue k.key k.id k.value now
    cached_next (Serves s before_it may is) k among =
        let there : In k (cache_after capacity (cache capacity s.part) entry.act entry.answer) =
        subst (In k) (fold-append (λ (values : List Kept) (e : NodeEntry). cache_after capacity values e.act e.answer) [] s.part (entry ∷ [])) (subst (λ (l : List NodeEntry). In k (cache capacity l)) (part-at (history ++ entry ∷ []) (extended s entry) is) among) in
        cached_by (cache capacity s.part) (λ x in_it. later x.key x.id x.value (was.cached x (subst (λ (l : List NodeEntry). In x (cache capacity l)) (sym (part-at history s before_it)) in_it))) k there
    cached_next (GoesDown is) k among = absurd (subst (λ (state : NodeState). In k (cache capacity (part_in (service_in state)))) is among)
    cached_next (Begins inc by begun is) k among = absurd (subst (λ (state : NodeState). In k (cache capacity (part_in (service_in state)))) is among)
    cached_next (Waits inc running still before_it is) k among = absurd (subst (λ (state : NodeState). In k (cache capacity (part_in (service_in state)))) is among)
    cached_next (Boots inc commits boot is) k among = absurd (subst (λ (state : NodeState). In k (cache capacity (part_in (service_in state)))) is among)

    since : (values : List (List ℕ)) (all : List Reply) (reply : Reply) → In reply (told_since values all) → In reply all
    since [] all reply among = among
    since (value ∷ values) all reply among = absurd among

    said_next : (a : Attempt) (key : List ℕ) (id : TxnId) (value : List ℕ) → In (replies.Value id value) (told a key (history ++ entry ∷ [])) → TrueValue key id value now
    said_next a key id value among =
        let after : In (replies.Value id value) (told_after a key (told a key history) entry) = subst (In (replies.Value id value)) (fold-append (told_after a key) [] history (entry ∷ [])) among in
        elim (in_append (replies.Value id value) (told a key history) (told_by a key entry.act entry.answer) (since (put_by a key entry.act) (told a key history ++ told_by a key entry.act entry.answer) (replies.Value id value) after)) [
          | inl earlier ↦ later key id value (was.said a key id value earlier)
          | inr new ↦ told_true a key id value new
        ]

    pub keeps_next : Keeps (history ++ entry ∷ [])
    keeps_next = record {
      cached = λ k among. subst (λ (n : ℕ). TrueValue k.key k.id k.value (take n door)) (sym (front-snoc history entry)) (cached_next (moved_by node capacity history entry (rule node capacity door history entry beside)) k among);
      said = λ a key id value among. subst (λ (n : ℕ). TrueValue key id value (take n door)) (sym (front-snoc history entry)) (said_next a key id value among);
    }

  pub keeps : ComeTrue → (history : List NodeEntry) → Beside node capacity door history → (more : List NodeEntry) → whole ≡ history ++ more → Keeps history
  keeps come history beside =
      kept node capacity door (λ (h : List NodeEntry). (more : List NodeEntry) → whole ≡ h ++ more → Keeps h) (λ more is. record { cached = λ k among. absurd among; said = λ a key id value among. absurd among })
      (λ h entry its holds more is. keeps_next come h more entry is its (holds (entry ∷ more) (is ∙ append_assoc h (entry ∷ []) more))) history beside
