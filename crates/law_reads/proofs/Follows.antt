-- What a service knows, keeps and has to announce, behind each entry.
use Rattle.std.proofs.Common.{◌≡◌, ℕ, List, [], ◌∷◌, ◌++◌, sym, ap, ◌∙◌}
use Rattle.std.specs.Prelude.{IsTrue}
use Rattle.std.proofs.lemmas.List.Sums.{fold-append}
use Rattle.aft_records.specs.Kept.{Kept}
use Rattle.aft_records.specs.declared.stored.Commit.{Commit}
use Rattle.aft_model.specs.declared.node.NodeEntry.{NodeEntry}
use Rattle.aft_model.specs.Cache.{cache, cache_after}
use Rattle.aft_model.specs.Known.{known, known_after, unannounced, unannounced_after}
use Rattle.aft_model.specs.LegalNode.{LegalNode}
use Rattle.aft_model.specs.NodeState.{extended, node_state, part, serves}
use Rattle.aft_model.proofs.Incarnations.{known-at}
use Rattle.aft_model.proofs.Knowledge.{known_in-extended}
use Rattle.law_attempts.proofs.Attempts.{in_part, part_more}

module _ (node capacity inc : ℕ) (history : List NodeEntry) (entry : NodeEntry) (legal : LegalNode node capacity (history ++ entry ∷ []))
    (serve : IsTrue (serves inc (node_state history))) (still : IsTrue (serves inc (node_state (history ++ entry ∷ [])))) where
  pub known_more : known (history ++ entry ∷ []) ≡ known_after (known history) entry.act
  known_more =
      let at = in_part node capacity inc history entry legal serve still in
      known-at (history ++ entry ∷ []) (extended at.0 entry) at.5
      ∙ (known_in-extended at.0 entry ∙ ap (λ (commits : List Commit). known_after commits entry.act) (sym (known-at history at.0 at.2)))

  pub cache_more : (values : ℕ) → cache values (part (history ++ entry ∷ [])) ≡ cache_after values (cache values (part history)) entry.act entry.answer
  cache_more values =
      ap (cache values) (part_more node capacity inc history entry legal serve still)
      ∙ fold-append (λ (before : List Kept) (e : NodeEntry). cache_after values before e.act e.answer) [] (part history) (entry ∷ [])

  pub unannounced_more : unannounced (part (history ++ entry ∷ [])) ≡ unannounced_after (unannounced (part history)) entry.act
  unannounced_more =
      ap unannounced (part_more node capacity inc history entry legal serve still)
      ∙ fold-append (λ (before : List Commit) (e : NodeEntry). unannounced_after before e.act) [] (part history) (entry ∷ [])
