-- A pick of an attempt that runs, as the causes see it.
use Rattle.std.proofs.Common.{◌≡◌, ℕ, Bool, ◌&&◌, List, [], ◌∷◌, refl, sym, subst}
use Rattle.std.specs.Prelude.{IsTrue, Option, Some, option_map}
use Rattle.std.proofs.lemmas.Bool.{and_from}
use Rattle.aft_model.specs.declared.caller.Attempt.{Attempt}
use Rattle.aft_model.specs.declared.caller.Hold.{Hold}
use Rattle.aft_model.specs.declared.choice.Blocked.{Blocked}
use Rattle.aft_model.specs.declared.choice.Picked.{Picked}
use Rattle.aft_model.specs.declared.choice.Picked.TheVariants as picked
use Rattle.aft_model.specs.declared.node.NodeEntry.{NodeEntry}
use Rattle.aft_model.specs.Attempts.{attempt_state, is_running}
use Rattle.aft_model.specs.NodeRules.{pick, same_picked}
use Rattle.aft_model.specs.NodeState.{Service, service}
use Rattle.aft_model.specs.Replies.{same_blockers}
use Rattle.aft_model.proofs.Ids.{same_id-refl}
use Rattle.aft_model.proofs.Sights.{bytes_eq-refl}
use Rattle.aft_lines.specs.LineView.{is_served}
use Rattle.aft_read.specs.Made.{Picks}
use Rattle.aft_turns.proofs.Found.{found_doing}

blockers-refl : (blocked : List Blocked) → IsTrue (same_blockers blocked blocked)
blockers-refl [] = refl
blockers-refl (b ∷ blocked) = and_from _ _ (and_from _ _ (and_from _ _ (same_id-refl b.id) (bytes_eq-refl b.key)) (same_id-refl b.read)) (blockers-refl blocked)

picked-refl : (p : Picked) → IsTrue (same_picked p p)
picked-refl (picked.Own value) = bytes_eq-refl value
picked-refl (picked.Cached id value) = and_from _ _ (same_id-refl id) (bytes_eq-refl value)
picked-refl (picked.Fetch id) = same_id-refl id
picked-refl picked.Absent = refl
picked-refl (picked.NoneFits blocked) = blockers-refl blocked

-- whether an attempt runs and picks this in a service
abbrev its_pick : ℕ → List ℕ → Picked → Attempt → Service → Bool
its_pick capacity key what b serving = is_running (attempt_state b serving.part) && same_picked (pick capacity serving b key) what

-- an attempt's pick, in the service that the line found
pub picked_so : (capacity : ℕ) (hold : Hold) (key : List ℕ) (a : Attempt) (what : Picked) (before : List NodeEntry) → Picks capacity hold key a what before → IsTrue (is_served (λ b serving. is_running (attempt_state b serving.part) && same_picked (pick capacity serving b key) what) hold.attempt (service before))
picked_so capacity hold key a what before picks =
    subst (λ (o : Option Attempt). IsTrue (is_served (its_pick capacity key what) o (service before))) (sym picks.held)
    (found_doing (its_pick capacity key what) is_running a before picks.running (λ s of runs. and_from _ _ runs (subst (λ (p : Picked). IsTrue (same_picked p what)) (sym (some_is (pick capacity s a key) what (subst (λ (o : Option Service). option_map (λ t. pick capacity t a key) o ≡ Some what) of picks.pick))) (picked-refl what))))
  where
    some_is : (p q : Picked) → Some p ≡ Some q → p ≡ q
    some_is p q e = cc
