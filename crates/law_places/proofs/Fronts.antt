-- Fronts never fall.
use Rattle.std.proofs.Common.{◌≡◌, ℕ, ◌&&◌, List, [], ◌∷◌, ◌++◌, refl, subst, leb, inl}
use Rattle.std.specs.Prelude.{IsTrue}
use Rattle.std.specs.List.{list_all}
use Rattle.std.proofs.lemmas.Bool.{and_parts, and_from}
use Rattle.std.proofs.lemmas.List.Sums.{fold-append}
use Rattle.aft_model.specs.declared.node.NodeEntry.{NodeEntry}
use Rattle.aft_model.specs.declared.office.OfficeEntry.{OfficeEntry}
use Rattle.aft_model.specs.History.{each_after}
use Rattle.aft_model.specs.LegalNode.{LegalNode, front, may_follow_at}
use Rattle.aft_model.specs.Office.{is_legal_alone, may_be_next}
use Rattle.aft_model.proofs.Histories.{all_at, in_back}
use Rattle.law_places.specs.Fronts.{never_fall, node_fronts, office_fronts}

-- a number in front of others, that isn't above the first of them
in_front : (n : ℕ) (numbers : List ℕ) → ((m : ℕ) (rest : List ℕ) → numbers ≡ m ∷ rest → IsTrue (leb n m)) → IsTrue (never_fall numbers) → IsTrue (never_fall (n ∷ numbers))
in_front n [] least up = refl
in_front n (m ∷ numbers) least up = and_from _ _ (least m numbers refl) up

head_is : (m n : ℕ) (xs ys : List ℕ) → m ∷ xs ≡ n ∷ ys → m ≡ n
head_is m n xs ys e = cc

module _ (node capacity : ℕ) where
  -- the front of a history is that of its last entry
  front_is : (before : List NodeEntry) (entry : NodeEntry) → front (before ++ entry ∷ []) ≡ entry.front
  front_is before entry = fold-append (λ (n : ℕ) (e : NodeEntry). e.front) 0 before (entry ∷ [])

  from_here : (before : List NodeEntry) (entries : List NodeEntry) → IsTrue (each_after (may_follow_at node capacity) before entries) → IsTrue (never_fall (node_fronts entries))
  from_here before [] legal = refl
  from_here before (entry ∷ entries) legal =
      let parts = and_parts (may_follow_at node capacity before entry) (each_after (may_follow_at node capacity) (before ++ entry ∷ []) entries) legal in
      in_front entry.front (node_fronts entries) (λ m rest is. next entries parts.1 m rest is) (from_here (before ++ entry ∷ []) entries parts.1)
    where
      next : (others : List NodeEntry) → IsTrue (each_after (may_follow_at node capacity) (before ++ entry ∷ []) others) → (m : ℕ) (rest : List ℕ) → node_fronts others ≡ m ∷ rest → IsTrue (leb entry.front m)
      next [] each m rest is = absurd (cc)
      next (other ∷ others) each m rest is =
          let parts = and_parts (may_follow_at node capacity (before ++ entry ∷ []) other) _ each in
          let first = and_parts (leb (front (before ++ entry ∷ [])) other.front && _) _ parts.0 in
          let le = (and_parts (leb (front (before ++ entry ∷ [])) other.front) _ first.0).0 in
          subst (λ n. IsTrue (leb entry.front n)) (head_is other.front m _ rest is) (subst (λ n. IsTrue (leb n other.front)) (front_is before entry) le)

  pub node_fronts_rise : (history : List NodeEntry) → LegalNode node capacity history → IsTrue (never_fall (node_fronts history))
  node_fronts_rise history legal = from_here [] history legal

office_from : (before : List OfficeEntry) (entries : List OfficeEntry) → IsTrue (each_after may_be_next before entries) → IsTrue (never_fall (office_fronts entries))
office_from before [] legal = refl
office_from before (entry ∷ entries) legal =
    let parts = and_parts (may_be_next before entry) (each_after may_be_next (before ++ entry ∷ []) entries) legal in
    in_front entry.front (office_fronts entries) (λ m rest is. next entries parts.1 m rest is) (office_from (before ++ entry ∷ []) entries parts.1)
  where
    next : (others : List OfficeEntry) → IsTrue (each_after may_be_next (before ++ entry ∷ []) others) → (m : ℕ) (rest : List ℕ) → office_fronts others ≡ m ∷ rest → IsTrue (leb entry.front m)
    next [] each m rest is = absurd (cc)
    next (other ∷ others) each m rest is =
        let parts = and_parts (may_be_next (before ++ entry ∷ []) other) _ each in
        let all = (and_parts (list_all (λ (earlier : OfficeEntry). leb earlier.front other.front) (before ++ entry ∷ [])) _ parts.0).0 in
        subst (λ n. IsTrue (leb entry.front n)) (head_is other.front m _ rest is)
        (all_at (λ (earlier : OfficeEntry). leb earlier.front other.front) entry (before ++ entry ∷ []) (in_back entry before (entry ∷ []) (inl refl)) all)

pub office_fronts_rise : (office : List OfficeEntry) → IsTrue (is_legal_alone office) → IsTrue (never_fall (office_fronts office))
office_fronts_rise office legal = office_from [] office legal
