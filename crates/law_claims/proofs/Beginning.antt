-- What the first moment keeps.
use Rattle.std.proofs.Common.{◌≡◌, ℕ, List, [], refl, sym, ap, subst, ◌∙◌}
use Rattle.std.specs.Prelude.{IsTrue, None, Some}
use Rattle.std.proofs.lemmas.Bool.{true≢false}
use Rattle.aft_model.specs.declared.caller.Attempt.{Attempt}
use Rattle.aft_model.specs.declared.caller.By.{By}
use Rattle.aft_model.specs.declared.door.DoorEntry.{DoorEntry}
use Rattle.aft_model.specs.declared.node.NodeEntry.{NodeEntry}
use Rattle.aft_model.specs.Attempts.{IsGone, is_gone}
use Rattle.aft_model.specs.NodeState.{node_state}
use Rattle.aft_model.specs.Stages.{put_under_claim, stage}
use Rattle.law_claims.specs.Doing.{attempt_at, is_the, rests}
use Rattle.law_claims.specs.Scenes.{IsAtRest, IsFree, Keeps, Scene, doing, doing_in}

pub begins : (scene : Scene) → scene.door ≡ [] → ((node : ℕ) → scene.node node ≡ []) → ((by : By) → attempt_at (scene.at by) ≡ None) → Keeps scene
begins scene door nodes none = record {
  movers = λ by a is. absurd (let no : None ≡ Some a = sym (none by) ∙ is in cc);
  attempts = λ a of. IsAtRest (λ by. ap (is_the a) (none by)) (λ there. absurd (true≢false (sym (ap is_gone (gone a)) ∙ there)));
  uuids = λ who uuid of. IsFree (subst (λ (h : List DoorEntry). IsTrue (rests IsGone (stage who uuid h) (put_under_claim who uuid h))) (sym door) refl);
}
  where
    gone : (a : Attempt) → doing scene a ≡ IsGone
    gone a = ap (λ (h : List NodeEntry). doing_in a (node_state h)) (nodes a.node)
