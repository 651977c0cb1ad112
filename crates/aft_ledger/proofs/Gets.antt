-- Entries that tell of gets.
use Rattle.std.proofs.Common.{◌≡◌, ℕ, ◌+◌, ◌-◌, ◌≤◌, Bool, ◌&&◌, not, List, [], ◌∷◌, refl, sym, ap, subst, ◌∙◌, length}
use Rattle.std.specs.Prelude.{IsTrue, IsFalse, Err, None, Ok, OnErr, OnOk, Option, Result, Some, if◌then◌else◌, is_ok, nat_lt, option_map}
use Rattle.std.specs.Option.{option_map_or}
use Rattle.std.proofs.lemmas.Bool.{and_parts, and_from, not-true}
use Rattle.aft_id.specs.declared.txn_id.TxnId.{TxnId}
use Rattle.aft_records.specs.Kept.{Kept, kept_value, with_front}
use Rattle.aft_model.specs.declared.caller.Attempt.{Attempt}
use Rattle.aft_model.specs.declared.caller.By.{By}
use Rattle.aft_model.specs.declared.choice.Blocked.{Blocked}
use Rattle.aft_model.specs.declared.choice.Choice.{Choice}
use Rattle.aft_model.specs.declared.choice.Choice.TheVariants as choices
use Rattle.aft_model.specs.declared.choice.Picked.{Picked}
use Rattle.aft_model.specs.declared.choice.Picked.TheVariants as picked
use Rattle.aft_model.specs.declared.node.NodeAct.TheVariants as acts
use Rattle.aft_model.specs.declared.node.NodeEntry.{NodeEntry}
use Rattle.aft_model.specs.declared.reply.Reply.{Reply}
use Rattle.aft_model.specs.declared.reply.Reply.TheVariants as replies
use Rattle.aft_model.specs.Attempts.{attempt_state, buffer, buffered, is_gone, is_running, open_reads, reads}
use Rattle.aft_model.specs.Cache.{cache, cache_after}
use Rattle.aft_model.specs.Choice.{choice}
use Rattle.aft_model.specs.Known.{known_in}
use Rattle.aft_model.specs.LegalNode.{may_serve}
use Rattle.aft_model.specs.NodeRules.{answers_pick, is_fetch_refusal, kept_or_fetched, own_or, pick, picked_by, same_picked}
use Rattle.aft_model.specs.NodeState.{NodeState, IsServing, Service, node_state, part, serves, service, service_in}
use Rattle.aft_model.specs.Replies.{is_silent, same_blockers}
use Rattle.aft_model.proofs.Ids.{same_id-refl}
use Rattle.aft_model.proofs.Incarnations.{part-at}
use Rattle.aft_model.proofs.Services.{serving}
use Rattle.aft_model.proofs.Sights.{bytes_eq-refl}
use Rattle.aft_cache.specs.Values.{Values}
use Rattle.aft_ledger.specs.Ledger.{Held, IsLedger}
use Rattle.aft_ledger.specs.Picks.{used}
use Rattle.aft_ledger.specs.Turns.{answer_of, is_doing, is_fetching}
use Rattle.aft_ledger.proofs.Acts.{doing}
use Rattle.aft_ledger.proofs.Entries.{goes, in_now, with_entry}

-- ---- picks

blockers-refl : (blocked : List Blocked) → IsTrue (same_blockers blocked blocked)
blockers-refl [] = refl
blockers-refl (b ∷ blocked) = and_from _ _ (and_from _ _ (and_from _ _ (same_id-refl b.id) (bytes_eq-refl b.key)) (same_id-refl b.read)) (blockers-refl blocked)

picked-refl : (p : Picked) → IsTrue (same_picked p p)
picked-refl (picked.Own value) = bytes_eq-refl value
picked-refl (picked.Cached id value) = and_from _ _ (same_id-refl id) (bytes_eq-refl value)
picked-refl (picked.Fetch id) = same_id-refl id
picked-refl picked.Absent = refl
picked-refl (picked.NoneFits blocked) = blockers-refl blocked

answers-refl : (p : Picked) → IsTrue (answers_pick p (answer_of p))
answers-refl (picked.Own value) = bytes_eq-refl value
answers-refl (picked.Cached id value) = and_from _ _ (same_id-refl id) (bytes_eq-refl value)
answers-refl (picked.Fetch id) = refl
answers-refl picked.Absent = refl
answers-refl (picked.NoneFits blocked) = blockers-refl blocked

-- a pick of a kept version is of its value
kept_picked : (key : List ℕ) (id : TxnId) (value : List ℕ) (own : Option (List ℕ)) (kept : List Kept) (ch : Choice) → own_or own (picked_by key kept ch) ≡ picked.Cached id value → kept_value key id kept ≡ Some value
kept_picked key id value (Some v) kept ch is = cc
kept_picked key id value None kept (choices.Version i) is = cases (kept_value key i kept) refl is
  where
    cases : (o : Option (List ℕ)) → kept_value key i kept ≡ o → kept_or_fetched i o ≡ picked.Cached id value → kept_value key id kept ≡ Some value
    cases (Some v) found is = let e : i ≡ id = cc in let f : v ≡ value = cc in subst (λ (j : TxnId). kept_value key j kept ≡ Some value) e (found ∙ ap Some f)
    cases None found is = cc
kept_picked key id value None kept choices.Absent is = cc
kept_picked key id value None kept (choices.NoneFits blocked) is = cc

some_is : (a b : Picked) → Some a ≡ Some b → a ≡ b
some_is a b is = cc

module _ (h : Held) (l : IsLedger h) (handed : ℕ) (by : By) (b : Attempt) (space : ℕ) where
  its_pick : (key : List ℕ) (p : Picked) (s : Service) → node_state h.history ≡ IsServing s → option_map (λ (t : Service). pick h.capacity t b key) (service h.history) ≡ Some p → pick h.capacity s b key ≡ p
  its_pick key p s is picks = some_is (pick h.capacity s b key) p (sym (ap (λ (state : NodeState). option_map (λ (t : Service). pick h.capacity t b key) (service_in state)) is) ∙ picks)

  -- a running attempt gets a key
  pub selects : (key : List ℕ) (p : Picked) → IsTrue (is_doing is_running b h.history) → option_map (λ (t : Service). pick h.capacity t b key) (service h.history) ≡ Some p
      → length h.history + 1 + (if is_silent (answer_of p) then h.room else h.room - 1) ≤ space → IsLedger (with_entry h handed by (acts.Select b key p) (answer_of p) space)
  selects key p does picks fits =
      let d = doing is_running b h.history does in
      goes h l handed by (acts.Select b key p) (answer_of p)
      (in_now (may_serve h.number h.capacity (acts.Select b key p) (answer_of p)) h.history b.inc d.0
      (λ s is of at. and_from _ _ (and_from _ _ (subst (λ (q : List NodeEntry). IsTrue (is_running (attempt_state b q))) at d.1) (subst (λ (q : Picked). IsTrue (same_picked q p)) (sym (its_pick key p s is picks)) (picked-refl p))) (answers-refl p)))
      refl b.inc d.0 (λ s e. refl) (λ n. refl) space fits

  -- what is kept behind a get
  pub used_is : (key : List ℕ) (p : Picked) → IsTrue (serves b.inc (node_state h.history)) → option_map (λ (t : Service). pick h.capacity t b key) (service h.history) ≡ Some p
      → used h.capacity key p h.kept ≡ cache_after h.capacity h.kept (acts.Select b key p) (answer_of p)
  used_is key p serve picks =
      let at = serving b.inc (node_state h.history) serve in
      let is_kept : cache h.capacity at.0.part ≡ h.kept = ap (cache h.capacity) (sym (part-at h.history at.0 at.1)) ∙ sym l.keeps in
      comes p (λ id value is. subst (λ (k : List Kept). kept_value key id k ≡ Some value) is_kept
      (kept_picked key id value (buffered key (buffer b at.0.part)) (cache h.capacity at.0.part) (choice key (reads b at.0.part) (known_in at.0)) (its_pick key p at.0 at.1 picks ∙ is)))
    where
      comes : (q : Picked) → ((id : TxnId) (value : List ℕ) → q ≡ picked.Cached id value → kept_value key id h.kept ≡ Some value) → used h.capacity key q h.kept ≡ cache_after h.capacity h.kept (acts.Select b key q) (answer_of q)
      comes (picked.Own value) there = refl
      comes (picked.Cached id value) there = ap (λ (o : Option (List ℕ)). option_map_or (λ v. with_front h.capacity (record { key = key; id = id; value = v }) h.kept) o h.kept) (there id value refl)
      comes (picked.Fetch id) there = refl
      comes picked.Absent there = refl
      comes (picked.NoneFits blocked) there = refl

  -- a read of it isn't over
  pub fetching : IsTrue (is_fetching b h.history) → IsTrue (serves b.inc (node_state h.history)) × IsFalse (is_gone (attempt_state b (part h.history))) × IsTrue (nat_lt 0 (open_reads b (part h.history)))
  fetching does =
      let d = doing (λ state. not (is_gone state) && nat_lt 0 (open_reads b (part h.history))) b h.history does in
      let parts = and_parts (not (is_gone (attempt_state b (part h.history)))) (nat_lt 0 (open_reads b (part h.history))) d.1 in
      (d.0, not-true (is_gone (attempt_state b (part h.history))) parts.0, parts.1)

  -- the value of a fetched version came
  pub fetched : (key value : List ℕ) (id : TxnId) (place : ℕ) (kept : Bool) → IsTrue (is_fetching b h.history) → length h.history + 1 + (h.room - 1) ≤ space
      → IsLedger (with_entry h handed by (acts.Value b key id place kept) (Some (replies.Value id value)) space)
  fetched key value id place kept does fits =
      let f = fetching does in
      goes h l handed by (acts.Value b key id place kept) (Some (replies.Value id value))
      (in_now (may_serve h.number h.capacity (acts.Value b key id place kept) (Some (replies.Value id value))) h.history b.inc f.0
      (λ s is of at. and_from _ _ (subst (λ (q : List NodeEntry). IsTrue (nat_lt 0 (open_reads b q))) at f.2) (same_id-refl id)))
      refl b.inc f.0 (λ s e. refl) (λ n. refl) space fits

  -- no value came
  pub lost : (key : List ℕ) (id : TxnId) (reply : Reply) → IsTrue (is_fetching b h.history) → IsTrue (is_fetch_refusal id (Some reply)) → length h.history + 1 + (h.room - 1) ≤ space
      → IsLedger (with_entry h handed by (acts.Lost b key id) (Some reply) space)
  lost key id reply does may fits =
      let f = fetching does in
      goes h l handed by (acts.Lost b key id) (Some reply)
      (in_now (may_serve h.number h.capacity (acts.Lost b key id) (Some reply)) h.history b.inc f.0
      (λ s is of at. and_from _ _ (subst (λ (q : List NodeEntry). IsTrue (nat_lt 0 (open_reads b q))) at f.2) may))
      refl b.inc f.0 (λ s e. refl) (λ n. refl) space fits

-- what a value that may be kept makes of the cache
pub kept_by : {T E : Type 0} (r : Result T E) (before after : Values) (b : Attempt) (key value : List ℕ) (id : TxnId) (place : ℕ) → OnOk r (after ≡ record before { kept = with_front before.capacity (record { key = key; id = id; value = value }) before.kept }) → OnErr r (after ≡ before)
    → (after.capacity ≡ before.capacity) × (after.kept ≡ cache_after before.capacity before.kept (acts.Value b key id place (is_ok r)) (Some (replies.Value id value)))
kept_by (Ok x) before after b key value id place ok err = (ap (λ (v : Values). v.capacity) ok, ap (λ (v : Values). v.kept) ok)
kept_by (Err e) before after b key value id place ok err = (ap (λ (v : Values). v.capacity) err, ap (λ (v : Values). v.kept) err)
