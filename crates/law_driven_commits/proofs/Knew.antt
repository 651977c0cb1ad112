-- What an attempt's incarnation knew of its UUID when the attempt began is known behind each later entry of its node.
use Rattle.std.proofs.Common.{◌≡◌, ◌≤◌, ℕ, suc, zero, Bool, true, false, ◌&&◌, List, [], ◌∷◌, ◌++◌, take, length, refl, sym, ap, subst, ◌∙◌, inl, inr, append-nil, append_assoc, arith}
use Rattle.std.specs.Prelude.{IsTrue, if◌then◌else◌, nat_le}
use Rattle.std.proofs.lemmas.Bool.{and_from, and_parts, cases_Bool, false≢true, leb-true, or_cases, or_left, or_right}
use Rattle.std.proofs.lemmas.List.Sums.{fold-append}
use Rattle.aft_model.specs.declared.caller.Attempt.{Attempt}
use Rattle.aft_model.specs.declared.caller.By.{By}
use Rattle.aft_model.specs.declared.door.DoorEntry.{DoorEntry}
use Rattle.aft_model.specs.declared.node.NodeAct.{NodeAct}
use Rattle.aft_model.specs.declared.node.NodeAct.TheVariants as acts
use Rattle.aft_model.specs.declared.node.NodeEntry.{NodeEntry}
use Rattle.aft_model.specs.Attempts.{uuid_after, uuid_of}
use Rattle.aft_model.specs.DoorKnowledge.{claims, finds_absent, knows_unused}
use Rattle.aft_model.specs.History.{each_after, followed}
use Rattle.aft_model.specs.LegalNode.{LegalNode, front, may_be_done, may_follow_at, may_serve}
use Rattle.aft_model.specs.Membership.{Incarnation, incarnation}
use Rattle.aft_model.specs.NodeSights.{has_seen, is_seen_node, may_come_at, own_entries}
use Rattle.aft_model.specs.NodeState.{IsBooting, IsDown, IsServing, NodeState, Service, extended, newest, node_state, part, part_in, service_in}
use Rattle.aft_model.specs.Readings.{marker_name, record_name}
use Rattle.aft_model.specs.ScanRun.{same_line}
use Rattle.aft_model.proofs.Growth.{unused_grows}
use Rattle.aft_model.proofs.Histories.{each_after_snoc, each_after_split}
use Rattle.aft_model.proofs.Incarnations.{part-at}
use Rattle.aft_model.proofs.Pins.{same_attempts}
use Rattle.aft_model.proofs.Services.{Begins, Boots, GoesDown, Moved, Serves, Waits, moved_by}
use Rattle.law_attempts.specs.Acts.{begins, times_begun}
use Rattle.law_attempts.proofs.Acts.{begun-snoc, uuid-snoc}
use Rattle.law_attempts.proofs.Lives.{lives}
use Rattle.law_attempts.proofs.Standing.{Standing, not_again, uuid_kept}

-- ---- what a line's own entries show, all show

module _ (by : By) where
  own_followed : (first : DoorEntry → Bool) (rest : List DoorEntry → Bool) → ((xs : List DoorEntry) → IsTrue (rest (own_entries by xs)) → IsTrue (rest xs)) → (xs : List DoorEntry) → IsTrue (followed first rest (own_entries by xs)) → IsTrue (followed first rest xs)
  own_followed first rest more [] is = absurd (false≢true is)
  own_followed first rest more (e ∷ xs) is = by_line (same_line by e.by) (own_followed first rest more xs) is
    where
      by_line : (own : Bool) → (IsTrue (followed first rest (own_entries by xs)) → IsTrue (followed first rest xs)) → IsTrue (followed first rest (if own then e ∷ own_entries by xs else own_entries by xs)) → IsTrue (followed first rest (e ∷ xs))
      by_line true later so = elim (or_cases (first e && rest (own_entries by xs)) (followed first rest (own_entries by xs)) so) [
        | inl here ↦ (let parts = and_parts (first e) (rest (own_entries by xs)) here in or_left (first e && rest xs) (followed first rest xs) (and_from (first e) (rest xs) parts.0 (more xs parts.1)))
        | inr behind ↦ or_right (first e && rest xs) (followed first rest xs) (later behind)
      ]
      by_line false later so = or_right (first e && rest xs) (followed first rest xs) (later so)

  own_unused : (who : Incarnation) (uuid : List ℕ) (xs : List DoorEntry) → IsTrue (knows_unused who uuid (own_entries by xs)) → IsTrue (knows_unused who uuid xs)
  own_unused who uuid =
      own_followed (λ e. claims who uuid e.act) (followed (λ e. finds_absent who (record_name uuid) e.act) (followed (λ e. finds_absent who (marker_name uuid) e.act) (λ rest. true)))
      (own_followed (λ e. finds_absent who (record_name uuid) e.act) (followed (λ e. finds_absent who (marker_name uuid) e.act) (λ rest. true))
      (own_followed (λ e. finds_absent who (marker_name uuid) e.act) (λ rest. true) (λ xs is. refl)))

-- what was known from fewer of the door's entries is known from more
take_more : (n m : ℕ) (door : List DoorEntry) → n ≤ m → (more : List DoorEntry) × (take m door ≡ take n door ++ more)
take_more zero m door le = (take m door, refl)
take_more (suc n) zero door le = absurd (let no : suc n ≤ zero = le in omega arith)
take_more (suc n) (suc m) [] le = ([], refl)
take_more (suc n) (suc m) (e ∷ door) le = (let rest = take_more n m door (omega arith) in (rest.0, ap (λ (l : List DoorEntry). e ∷ l) rest.1))

-- ---- along a node's history

module _ (node capacity : ℕ) (door : List DoorEntry) where
  abbrev Unused : Attempt → List NodeEntry → ℕ → Type 0
  Unused a h seen = IsTrue (knows_unused (incarnation node a.inc) (uuid_of a h) (take seen door))

  -- of each attempt that has begun there
  abbrev pub Knew : List NodeEntry → Type 0
  Knew h = (a : Attempt) → (times_begun a (part h) ≡ 0 → ⊥) → Unused a (part h) (front h)

  module _ (h : List NodeEntry) (e : NodeEntry) (legal : LegalNode node capacity (h ++ e ∷ [])) (saw : IsTrue (has_seen node (take e.front door) e.by h e.act e.answer)) (knew : Knew h) where
    split : LegalNode node capacity h × IsTrue (may_follow_at node capacity h e)
    split = each_after_snoc (may_follow_at node capacity) [] h e legal

    rises : front h ≤ e.front
    rises =
        leb-true (front h) e.front
        (and_parts (nat_le (front h) e.front) (may_be_done node capacity h e.act e.answer) (and_parts (nat_le (front h) e.front && may_be_done node capacity h e.act e.answer) _ split.1).0).0

    -- an attempt that the entry begins
    begun_seen : (a : Attempt) (act : NodeAct) → IsTrue (begins a act) → IsTrue (has_seen node (take e.front door) e.by h act e.answer) → Unused a (part h) e.front × ((u : List ℕ) → uuid_after a u act ≡ u)
    begun_seen a (acts.Begin b) same seen =
        (own_unused e.by (incarnation node a.inc) (uuid_of a (part h)) (take e.front door) (subst (λ (x : Attempt). IsTrue (knows_unused (incarnation node x.inc) (uuid_of x (part h)) (own_entries e.by (take e.front door)))) (sym (same_attempts a b same)) seen), λ u. refl)
    begun_seen a act is seen = absurd (false≢true is)

    module _ (a : Attempt) (s : Service) (now : node_state h ≡ IsServing s) (may : IsTrue (may_serve node capacity e.act e.answer s)) where
      part_is : part h ≡ s.part
      part_is = part-at h s now

      stands : Standing node s
      stands = (lives node capacity h s split.0 now).stands

      -- one that has begun before
      kept_on : (times_begun a s.part ≡ 0 → ⊥) → Unused a (s.part ++ e ∷ []) e.front
      kept_on begun =
          let before = knew a (subst (λ (p : List NodeEntry). times_begun a p ≡ 0 → ⊥) (sym part_is) begun) in
          let more = take_more (front h) e.front door rises in
          let grown = unused_grows (incarnation node a.inc) (uuid_of a (part h)) (take (front h) door) more.0 before in
          let same : uuid_of a (s.part ++ e ∷ []) ≡ uuid_of a s.part =
          uuid-snoc a s.part e ∙ uuid_kept a (uuid_of a s.part) e.act (λ new. begun ((stands.fresh a (λ listed. not_again node capacity s e may stands a listed new)).unbegun)) in
          subst (λ (u : List ℕ). IsTrue (knows_unused (incarnation node a.inc) u (take e.front door))) (ap (uuid_of a) part_is ∙ sym same)
          (subst (λ (d : List DoorEntry). IsTrue (knows_unused (incarnation node a.inc) (uuid_of a (part h)) d)) (sym more.1) grown)

      begun_on : IsTrue (begins a e.act) → Unused a (s.part ++ e ∷ []) e.front
      begun_on is =
          let seen = begun_seen a e.act is saw in
          subst (λ (u : List ℕ). IsTrue (knows_unused (incarnation node a.inc) u (take e.front door))) (ap (uuid_of a) part_is ∙ sym (uuid-snoc a s.part e ∙ seen.1 (uuid_of a s.part))) seen.0

      served_on : (times_begun a (s.part ++ e ∷ []) ≡ 0 → ⊥) → Unused a (s.part ++ e ∷ []) e.front
      served_on begun = elim (cases_Bool (begins a e.act)) [
        | inl is ↦ begun_on is
        | inr other ↦ kept_on (λ none. begun (begun-snoc a s.part e ∙ (ap (λ (b : Bool). if b then suc (times_begun a s.part) else times_begun a s.part) other ∙ none)))
      ]

    -- none has begun where nothing is done
    nothing_begun : (a : Attempt) (state : NodeState) → part_in (service_in state) ≡ [] → node_state (h ++ e ∷ []) ≡ state → times_begun a (part (h ++ e ∷ [])) ≡ 0
    nothing_begun a state none is = ap (λ (t : NodeState). times_begun a (part_in (service_in t))) is ∙ ap (times_begun a) none

    knew_more : Knew (h ++ e ∷ [])
    knew_more a begun = by_how (moved_by node capacity h e split.1)
      where
        by_how : Moved node capacity (newest h) (node_state h) e e.act e.answer (node_state (h ++ e ∷ [])) → Unused a (part (h ++ e ∷ [])) (front (h ++ e ∷ []))
        by_how (Serves s was may is) =
            let now : part (h ++ e ∷ []) ≡ s.part ++ e ∷ [] = part-at (h ++ e ∷ []) (extended s e) is in
            subst (λ (n : ℕ). Unused a (part (h ++ e ∷ [])) n) (sym (fold-append (λ (before : ℕ) (x : NodeEntry). x.front) 0 h (e ∷ [])))
            (subst (λ (p : List NodeEntry). Unused a p e.front) (sym now) (served_on a s was may (subst (λ (p : List NodeEntry). times_begun a p ≡ 0 → ⊥) now begun)))
        by_how (GoesDown is) = absurd (begun (nothing_begun a IsDown refl is))
        by_how (Begins i by may is) = absurd (begun (nothing_begun a (IsBooting i true) refl is))
        by_how (Waits i running still was is) = absurd (begun (nothing_begun a (IsBooting i still) refl is))
        by_how (Boots i commits boot is) = absurd (begun (nothing_begun a (IsServing (record { inc = i; booted = commits; part = [] })) refl is))

  knew_from : (h more : List NodeEntry) → LegalNode node capacity (h ++ more) → IsTrue (each_after (may_come_at node door) h more) → Knew h → Knew (h ++ more)
  knew_from h [] legal saw knew = subst Knew (sym (append-nil h)) knew
  knew_from h (e ∷ more) legal saw knew =
      let here = and_parts (may_come_at node door h e) (each_after (may_come_at node door) (h ++ e ∷ []) more) saw in
      let whole = subst (λ (x : List NodeEntry). LegalNode node capacity x) (sym (append_assoc h (e ∷ []) more)) legal in
      let first = (each_after_split (may_follow_at node capacity) [] (h ++ e ∷ []) more whole).0 in
      let seen = (and_parts (nat_le e.front (length door)) (has_seen node (take e.front door) e.by h e.act e.answer) here.0).1 in
      subst Knew (append_assoc h (e ∷ []) more) (knew_from (h ++ e ∷ []) more whole here.1 (knew_more h e first seen knew))

  pub all_knew : (h : List NodeEntry) → LegalNode node capacity h → IsTrue (is_seen_node node door h) → Knew h
  all_knew h legal saw = knew_from [] h legal saw (λ a begun. absurd (begun refl))
