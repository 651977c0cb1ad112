-- An attempt with a fetch that isn't over runs.
use Rattle.std.proofs.Common.{◌≡◌, ℕ, ◌<◌, Bool, true, false, ◌&&◌, List, [], ◌∷◌, ◌++◌, refl, sym, ap, subst, ◌∙◌, ◌⊎◌, inl, inr, arith, eqb}
use Rattle.std.specs.Prelude.{IsTrue, if◌then◌else◌, nat_lt, suc, ◌-◌, Option}
use Rattle.std.proofs.lemmas.Bool.{and_parts, eqb-true, false≢true, lt-ltb, ltb-true, true≢false}
use Rattle.aft_records.specs.declared.stored.Commit.{Commit}
use Rattle.aft_model.specs.declared.caller.Attempt.{Attempt}
use Rattle.aft_model.specs.declared.choice.Picked.TheVariants as picked
use Rattle.aft_model.specs.declared.node.NodeAct.{NodeAct}
use Rattle.aft_model.specs.declared.node.NodeAct.TheVariants.{Lost, Select, Value}
use Rattle.aft_model.specs.declared.node.NodeEntry.{NodeEntry}
use Rattle.aft_model.specs.declared.reply.Reply.{Reply}
use Rattle.aft_model.specs.Attempts.{AttemptState, IsRunning, IsOpening, attempt_after, attempt_state, is_gone, is_running, open_after, open_reads, same_attempt}
use Rattle.aft_model.specs.LegalNode.{may_serve}
use Rattle.aft_model.specs.NodeRules.{may_leave, may_start, pick, same_picked}
use Rattle.aft_model.specs.NodeState.{Service}
use Rattle.aft_model.proofs.Pins.{attempt_state-snoc, same_attempts}
use Rattle.law_attempts.proofs.Acts.{open-snoc}
use Rattle.law_attempts.proofs.Standing.{Standing, not_again}
use Rattle.law_attempts.proofs.States.{Doubts, Ends, Fixes, Goes, Leaves, Opens, Runs, Settles, Stays, Withdraws, goes, running_is}

-- a fetch of an attempt isn't over
abbrev pub Fetching : Attempt → List NodeEntry → Type 0
Fetching a part = IsTrue (nat_lt 0 (open_reads a part))

some_left : (n : ℕ) → IsTrue (nat_lt 0 (n - 1)) → IsTrue (nat_lt 0 n)
some_left n some = (let less : 0 < n - 1 = ltb-true 0 (n - 1) some in lt-ltb 0 n (omega arith))

none_open : (n : ℕ) → n ≡ 0 → IsTrue (nat_lt 0 n) → ⊥
none_open n none some = false≢true (sym (ap (nat_lt 0) none) ∙ some)

module _ (node capacity : ℕ) (s : Service) (a : Attempt) where
  -- a fetch that isn't over was so before, or the attempt runs and begins it
  still_open : (act : NodeAct) (answer : Option Reply) → IsTrue (may_serve node capacity act answer s) → IsTrue (nat_lt 0 (open_after a (open_reads a s.part) act))
      → Fetching a s.part ⊎ IsTrue (is_running (attempt_state a s.part))
  still_open (Select b key (picked.Fetch id)) answer rule some = cases (same_attempt a b) refl some
    where
      cases : (t : Bool) → same_attempt a b ≡ t → IsTrue (nat_lt 0 (if t then suc (open_reads a s.part) else (if false then open_reads a s.part - 1 else open_reads a s.part))) → Fetching a s.part ⊎ IsTrue (is_running (attempt_state a s.part))
      cases true same more =
          let parts = and_parts (is_running (attempt_state b s.part) && same_picked (pick capacity s b key) (picked.Fetch id)) _ rule in
          inr (subst (λ (x : Attempt). IsTrue (is_running (attempt_state x s.part))) (sym (same_attempts a b same)) (and_parts (is_running (attempt_state b s.part)) (same_picked (pick capacity s b key) (picked.Fetch id)) parts.0).0)
      cases false other more = inl more
  still_open (Value b key id place kept) answer rule some = inl (cases (same_attempt a b) some)
    where
      cases : (t : Bool) → IsTrue (nat_lt 0 (if t then open_reads a s.part - 1 else open_reads a s.part)) → Fetching a s.part
      cases true some = some_left (open_reads a s.part) some
      cases false some = some
  still_open (Lost b key id) answer rule some = inl (cases (same_attempt a b) some)
    where
      cases : (t : Bool) → IsTrue (nat_lt 0 (if t then open_reads a s.part - 1 else open_reads a s.part)) → Fetching a s.part
      cases true some = some_left (open_reads a s.part) some
      cases false some = some
  still_open act answer rule some = inl some

start_closed : (s : Service) (a : Attempt) (now : ℕ) (c : Commit) → IsTrue (may_start s a now c) → open_reads a s.part ≡ 0
start_closed s a now c rule =
    eqb-true (open_reads a s.part) 0 (and_parts _ (eqb (open_reads a s.part) 0) (and_parts _ _ (and_parts _ _ (and_parts _ _ (and_parts _ _ rule).0).0).0).0).1

leave_closed : (s : Service) (a : Attempt) → IsTrue (may_leave s a) → open_reads a s.part ≡ 0
leave_closed s a rule = eqb-true (open_reads a s.part) 0 (and_parts (is_running (attempt_state a s.part)) (eqb (open_reads a s.part) 0) rule).1

pub fetching_extended : (node capacity : ℕ) (s : Service) (entry : NodeEntry) → IsTrue (may_serve node capacity entry.act entry.answer s) → Standing node s
    → ((a : Attempt) → Fetching a s.part → attempt_state a s.part ≡ IsRunning)
    → (a : Attempt) → Fetching a (s.part ++ entry ∷ []) → attempt_state a (s.part ++ entry ∷ []) ≡ IsRunning
fetching_extended node capacity s entry rule stands runs a some =
    attempt_state-snoc a s.part entry ∙ cases (goes node capacity s a entry.act entry.answer rule)
  where
    later : AttemptState
    later = attempt_after a (attempt_state a s.part) entry.act

    open_then : IsTrue (nat_lt 0 (open_after a (open_reads a s.part) entry.act))
    open_then = subst (λ (n : ℕ). IsTrue (nat_lt 0 n)) (open-snoc a s.part entry) some

    was : attempt_state a s.part ≡ IsRunning
    was = elim (still_open node capacity s a entry.act entry.answer rule open_then) [ inl before ↦ runs a before | inr now ↦ running_is (attempt_state a s.part) now ]

    cases : Goes a entry.act (attempt_state a s.part) (attempt_after a (attempt_state a s.part) entry.act) → attempt_after a (attempt_state a s.part) entry.act ≡ IsRunning
    cases (Stays is counts) = is ∙ was
    cases (Opens new is counts) = absurd (not_again node capacity s entry rule stands a (stands.listed a (ap is_gone was)) new)
    cases (Runs before is counts) = is
    cases (Withdraws before is counts) = absurd (let no : IsOpening ≡ IsRunning = sym before ∙ was in cc)
    cases (Fixes now c by before is counts) =
        absurd (none_open (open_reads a s.part) (start_closed s a now c (and_parts (may_start s a now c) _ (subst (λ (x : NodeAct). IsTrue (may_serve node capacity x entry.answer s)) by rule)).0)
        (subst (λ (x : NodeAct). IsTrue (nat_lt 0 (open_after a (open_reads a s.part) x))) by open_then))
    cases (Settles c before is counts) = absurd (let no = sym before ∙ was in cc)
    cases (Leaves by before is counts) =
        absurd (none_open (open_reads a s.part) (leave_closed s a (and_parts (may_leave s a) _ (subst (λ (x : NodeAct). IsTrue (may_serve node capacity x entry.answer s)) by rule)).0)
        (subst (λ (x : NodeAct). IsTrue (nat_lt 0 (open_after a (open_reads a s.part) x))) by open_then))
    cases (Doubts c before is counts) = absurd (let no = sym before ∙ was in cc)
    cases (Ends idle is counts) = absurd (true≢false (sym (ap is_running was) ∙ idle))
