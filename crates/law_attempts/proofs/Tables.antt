-- What rows tell of attempts: who has read an id, which row is an attempt's, and whether a UUID has one.
use Rattle.std.proofs.Common.{◌≡◌, ℕ, Bool, true, false, ◌||◌, not, List, [], ◌∷◌, length, refl, sym, ap, subst, ◌∙◌, inl, inr, eqb, arith}
use Rattle.std.specs.Prelude.{IsTrue, IsFalse, Some, None, if◌then◌else◌, filter, find, is_none, map, suc}
use Rattle.std.specs.List.{list_any}
use Rattle.std.specs.Str.{bytes_eq}
use Rattle.std.proofs.lemmas.Bool.{cases_Bool, eq-eqb, eqb-true, false_from_ne_true, not-true, true≢false}
use Rattle.aft_id.specs.TxnId.{same_id}
use Rattle.aft_id.specs.declared.txn_id.TxnId.{TxnId}
use Rattle.aft_model.specs.declared.caller.Attempt.{Attempt}
use Rattle.aft_model.specs.declared.node.NodeEntry.{NodeEntry}
use Rattle.aft_model.specs.declared.read_set.ReadPair.{ReadPair}
use Rattle.aft_model.specs.Attempts.{Row, attempt_state, attempts, is_gone, is_of, is_pinned, present, present_of, row_of, rows, uuid_of}
use Rattle.aft_model.specs.LegalNode.{LegalNode}
use Rattle.aft_model.specs.NodeState.{IsServing, Service, node_state, part, serves}
use Rattle.aft_model.proofs.Histories.{In}
use Rattle.aft_model.proofs.Incarnations.{part-at}
use Rattle.aft_model.proofs.Lists.{in_filter, in_map}
use Rattle.aft_model.proofs.Pins.{There}
use Rattle.aft_model.proofs.Services.{serving}
use Rattle.aft_model.proofs.Sights.{same_bytes, bytes_eq-refl}
use Rattle.law_attempts.specs.Rows.{row_at}
use Rattle.law_attempts.proofs.Lives.{lives}
use Rattle.law_attempts.proofs.Standing.{Standing, first_within}

-- ---- pins

any_of_map : {A B : Type 0} (test : B → Bool) (f : A → B) (xs : List A) → list_any (λ x. test (f x)) xs ≡ list_any test (map f xs)
any_of_map test f [] = refl
any_of_map test f (x ∷ xs) = ap (λ t. test (f x) || t) (any_of_map test f xs)

pub pinned_in_rows : (id : TxnId) (part : List NodeEntry) → is_pinned id part ≡ list_any (λ row. list_any (λ pair. same_id id pair.id) row.pairs) (rows part)
pinned_in_rows id part = any_of_map (λ (row : Row). list_any (λ (pair : ReadPair). same_id id pair.id) row.pairs) (row_of part) (present part)

-- ---- the row of a number

module _ (part : List NodeEntry) (a : Attempt) where
  abbrev rows_in : List Attempt → List Row
  rows_in xs = map (row_of part) (filter (λ (x : Attempt). not (is_gone (attempt_state x part))) xs)

  -- whoever has its number is it
  abbrev Only : List Attempt → Type 0
  Only xs = (x : Attempt) → In x xs → x.number ≡ a.number → x ≡ a

  row_found : (xs : List Attempt) → Only xs → In a xs → There (attempt_state a part) → row_at a.number (rows_in xs) ≡ Some (row_of part a)
  row_found [] only among there = absurd among
  row_found (x ∷ xs) only among there = cases (λ later. row_found xs (λ y in_xs. only y (inr in_xs)) later there) (eqb a.number x.number) refl
    where
      here : IsTrue (eqb a.number x.number) → x ≡ a
      here same = only x (inl refl) (sym (eqb-true a.number x.number same))

      with_it : (t : Bool) → (In a xs → row_at a.number (rows_in xs) ≡ Some (row_of part a)) → In a xs → IsFalse (eqb a.number x.number)
          → row_at a.number (map (row_of part) (if t then x ∷ filter (λ (y : Attempt). not (is_gone (attempt_state y part))) xs else filter (λ (y : Attempt). not (is_gone (attempt_state y part))) xs)) ≡ Some (row_of part a)
      with_it true rest later other = ap (λ e. if e then Some (row_of part x) else row_at a.number (rows_in xs)) other ∙ rest later
      with_it false rest later other = rest later

      cases : (In a xs → row_at a.number (rows_in xs) ≡ Some (row_of part a)) → (e : Bool) → eqb a.number x.number ≡ e → row_at a.number (rows_in (x ∷ xs)) ≡ Some (row_of part a)
      cases rest true same =
          ap (λ t. row_at a.number (map (row_of part) (if not t then x ∷ filter (λ (y : Attempt). not (is_gone (attempt_state y part))) xs else filter (λ (y : Attempt). not (is_gone (attempt_state y part))) xs)))
          (subst (λ (y : Attempt). There (attempt_state y part)) (sym (here same)) there)
          ∙ (ap (λ e. if e then Some (row_of part x) else row_at a.number (rows_in xs)) same ∙ ap (λ (y : Attempt). Some (row_of part y)) (here same))
      cases rest false other =
          with_it (not (is_gone (attempt_state x part))) rest
          (elim among [ inl is ↦ absurd (true≢false (sym (eq-eqb a.number x.number (ap (λ (y : Attempt). y.number) is)) ∙ other)) | inr later ↦ later ]) other

  row_missed : (xs : List Attempt) → Only xs → IsTrue (is_gone (attempt_state a part)) → row_at a.number (rows_in xs) ≡ None
  row_missed [] only gone = refl
  row_missed (x ∷ xs) only gone = cases (not (is_gone (attempt_state x part))) refl (row_missed xs (λ y among. only y (inr among)) gone)
    where
      cases : (t : Bool) → not (is_gone (attempt_state x part)) ≡ t → row_at a.number (rows_in xs) ≡ None
          → row_at a.number (map (row_of part) (if t then x ∷ filter (λ (y : Attempt). not (is_gone (attempt_state y part))) xs else filter (λ (y : Attempt). not (is_gone (attempt_state y part))) xs)) ≡ None
      cases true there rest =
          ap (λ e. if e then Some (row_of part x) else row_at a.number (rows_in xs)) (false_from_ne_true (eqb a.number x.number) (λ same.
          let is : x ≡ a = only x (inl refl) (sym (eqb-true a.number x.number same)) in
          true≢false (sym (subst (λ (y : Attempt). IsTrue (is_gone (attempt_state y part))) (sym is) gone) ∙ not-true (is_gone (attempt_state x part)) there)))
          ∙ rest
      cases false out rest = rest

-- ---- the row of a UUID

is_of-uuid : (node : ℕ) (s : Service) (uuid : List ℕ) (a : Attempt) → Standing node s → In a (attempts s.part) → is_of uuid s.part a ≡ bytes_eq uuid (uuid_of a s.part)
is_of-uuid node s uuid a stands among =
    elim (cases_Bool (is_of uuid s.part a)) [
      | inl is ↦ is ∙ sym (subst (λ (u : List ℕ). IsTrue (bytes_eq uuid u)) (sym (stands.named a uuid is)) (bytes_eq-refl uuid))
      | inr other ↦ other ∙ sym (false_from_ne_true (bytes_eq uuid (uuid_of a s.part)) (λ same.
          true≢false (sym (subst (λ (u : List ℕ). IsTrue (is_of u s.part a)) (sym (same_bytes uuid (uuid_of a s.part) same)) (stands.has_name a among)) ∙ other)))
    ]

none_found : {A B : Type 0} (test : A → Bool) (f : A → B) (of : B → Bool) (xs : List A) → ((x : A) → In x xs → test x ≡ of (f x)) → eqb (length (filter test xs)) 0 ≡ is_none (find of (map f xs))
none_found test f of [] agrees = refl
none_found {A} {B} test f of (x ∷ xs) agrees = cases (test x) (of (f x)) (agrees x (inl refl)) (none_found test f of xs (λ y among. agrees y (inr among)))
  where
    cases : (t u : Bool) → t ≡ u → eqb (length (filter test xs)) 0 ≡ is_none (find of (map f xs)) → eqb (length (if t then x ∷ filter test xs else filter test xs)) 0 ≡ is_none (if u then Some (f x) else find of (map f xs))
    cases true true same rest = false_from_ne_true (eqb (suc (length (filter test xs))) 0) (λ none. let is : suc (length (filter test xs)) ≡ 0 = eqb-true (suc (length (filter test xs))) 0 none in absurd (omega arith))
    cases true false same rest = absurd (true≢false same)
    cases false true same rest = absurd (true≢false (sym same))
    cases false false same rest = rest

find_in : {A : Type 0} (test : A → Bool) (xs : List A) (x : A) → find test xs ≡ Some x → In x xs × IsTrue (test x)
find_in test [] x is = absurd (let no : None ≡ Some x = is in cc)
find_in {A} test (y ∷ xs) x is = cases (test y) refl is (find_in test xs x)
  where
    cases : (t : Bool) → test y ≡ t → (if t then Some y else find test xs) ≡ Some x → (find test xs ≡ Some x → In x xs × IsTrue (test x)) → In x (y ∷ xs) × IsTrue (test x)
    cases true passed is rest = (let same : y ≡ x = cc in (inl (sym same), subst (λ (z : A). IsTrue (test z)) same passed))
    cases false failed is rest = (let found = rest is in (inr found.0, found.1))

module _ (node capacity inc : ℕ) (history : List NodeEntry) (legal : LegalNode node capacity history) (serve : IsTrue (serves inc (node_state history))) where
  its : (s : Service) × (node_state history ≡ IsServing s) × (s.inc ≡ inc)
  its = serving inc (node_state history) serve

  at_part : its.0.part ≡ part history
  at_part = sym (part-at history its.0 its.1)

  stands : Standing node its.0
  stands = (lives node capacity history its.0 legal its.1).stands

  only_one : (a : Attempt) → a.node ≡ node → a.inc ≡ inc → Only its.0.part a (attempts its.0.part)
  only_one a of_node of_inc x among same =
      let within = first_within node its.0.inc (length (attempts its.0.part)) x (subst (In x) stands.numbered among) in
      let attempt : ℕ → ℕ → ℕ → Attempt = λ n i k. record { node = n; inc = i; number = k } in
      ap (λ n. attempt n x.inc x.number) (within.0 ∙ sym of_node) ∙ (ap (λ i. attempt a.node i x.number) (within.1 ∙ (its.2 ∙ sym of_inc)) ∙ ap (λ k. attempt a.node a.inc k) same)

  pub row_of_number : (a : Attempt) → a.node ≡ node → a.inc ≡ inc → row_at a.number (rows (part history)) ≡ (if is_gone (attempt_state a (part history)) then None else Some (row_of (part history) a))
  row_of_number a of_node of_inc =
      subst (λ (p : List NodeEntry). row_at a.number (rows p) ≡ (if is_gone (attempt_state a p) then None else Some (row_of p a))) at_part
      (elim (cases_Bool (is_gone (attempt_state a its.0.part))) [
        | inl gone ↦ row_missed its.0.part a (attempts its.0.part) (only_one a of_node of_inc) gone ∙ sym (ap (λ t. if t then None else Some (row_of its.0.part a)) gone)
        | inr there ↦ row_found its.0.part a (attempts its.0.part) (only_one a of_node of_inc) (stands.listed a there) there ∙ sym (ap (λ t. if t then None else Some (row_of its.0.part a)) there)
      ])

  pub none_of_uuid : (uuid : List ℕ) → eqb (length (present_of uuid (part history))) 0 ≡ is_none (find (λ row. bytes_eq uuid row.uuid) (rows (part history)))
  none_of_uuid uuid =
      subst (λ (p : List NodeEntry). eqb (length (present_of uuid p)) 0 ≡ is_none (find (λ row. bytes_eq uuid row.uuid) (rows p))) at_part
      (none_found (is_of uuid its.0.part) (row_of its.0.part) (λ (row : Row). bytes_eq uuid row.uuid) (present its.0.part)
      (λ x among. is_of-uuid node its.0 uuid x stands (in_filter (λ (y : Attempt). not (is_gone (attempt_state y its.0.part))) x (attempts its.0.part) among).0))

  -- a row that is found is that of an attempt that is there
  found_row : (uuid : List ℕ) (row : Row) → find (λ (r : Row). bytes_eq uuid r.uuid) (rows its.0.part) ≡ Some row
      → (row ≡ row_of its.0.part (record { node = node; inc = inc; number = row.number })) × IsFalse (is_gone row.state) × (row.uuid ≡ uuid)
  found_row uuid row is =
      let found = find_in (λ (r : Row). bytes_eq uuid r.uuid) (rows its.0.part) row is in
      let of = in_map (row_of its.0.part) row (present its.0.part) found.0 in
      let there = in_filter (λ (y : Attempt). not (is_gone (attempt_state y its.0.part))) of.0 (attempts its.0.part) of.1 in
      let within = first_within node its.0.inc (length (attempts its.0.part)) of.0 (subst (In of.0) stands.numbered there.0) in
      let attempt : ℕ → ℕ → ℕ → Attempt = λ n i k. record { node = n; inc = i; number = k } in
      let its_attempt : of.0 ≡ attempt node inc row.number =
      ap (λ n. attempt n of.0.inc of.0.number) within.0 ∙ (ap (λ i. attempt node i of.0.number) (within.1 ∙ its.2) ∙ ap (λ k. attempt node inc k) (sym (ap (λ (r : Row). r.number) of.2))) in
      (of.2 ∙ ap (row_of its.0.part) its_attempt, ap (λ (r : Row). is_gone r.state) of.2 ∙ not-true (is_gone (attempt_state of.0 its.0.part)) there.1, sym (same_bytes uuid row.uuid found.1))

  pub row_of_uuid : (uuid : List ℕ) (row : Row) → find (λ (r : Row). bytes_eq uuid r.uuid) (rows (part history)) ≡ Some row
      → (row ≡ row_of (part history) (record { node = node; inc = inc; number = row.number })) × IsFalse (is_gone row.state) × (row.uuid ≡ uuid)
  row_of_uuid uuid row =
      subst (λ (p : List NodeEntry). find (λ (r : Row). bytes_eq uuid r.uuid) (rows p) ≡ Some row → (row ≡ row_of p (record { node = node; inc = inc; number = row.number })) × IsFalse (is_gone row.state) × (row.uuid ≡ uuid)) at_part
      (found_row uuid row)
