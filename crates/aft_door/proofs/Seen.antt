-- What the tests know of the door's history, by what they did.
use Rattle.std.proofs.Common.{◌≡◌, ℕ, Bool, true, ◌&&◌, List, [], ◌∷◌, ◌++◌, refl, sym, ap, subst, ◌∙◌, inl, inr, ◌+◌, length, drop, suc, arith, append_assoc, append-nil}
use Rattle.std.specs.Prelude.{IsTrue}
use Rattle.std.specs.List.{list_any}
use Rattle.std.specs.Str.{bytes_eq}
use Rattle.std.proofs.lemmas.Bool.{and_from, and_parts, false≢true, or_cases, or_left, or_right}
use Rattle.std.proofs.Math.Seq.{drop-append-add}
use Rattle.aft_id.specs.TxnId.{same_id}
use Rattle.aft_id.specs.declared.txn_id.TxnId.{TxnId}
use Rattle.aft_keeper.specs.declared.keeper.KeeperAnswer.TheVariants.{Absent, Done}
use Rattle.aft_keeper.specs.declared.keeper.KeeperCall.TheVariants.{Get, Put}
use Rattle.aft_records.specs.declared.stored.Commit.{Commit}
use Rattle.aft_records.specs.declared.stored.Version.{Version}
use Rattle.aft_records.specs.Reading.{version_of}
use Rattle.aft_records.specs.Rows.{version_row}
use Rattle.aft_records.specs.Stored.{IsVersion}
use Rattle.aft_records.proofs.Written.{timely_is, version_written}
use Rattle.aft_model.specs.declared.caller.Caller.{Caller}
use Rattle.aft_model.specs.declared.door.DoorEntry.{DoorEntry}
use Rattle.aft_model.specs.DoorKnowledge.{claims, finds_absent, finds_other, has_stored, knows_orphan, knows_stored, knows_unused, stores_version}
use Rattle.aft_model.specs.History.{followed}
use Rattle.aft_model.specs.Membership.{Incarnation, the_office}
use Rattle.aft_model.specs.Readings.{marker_name, record_name, version_name, versions_in}
use Rattle.aft_model.proofs.Growth.{Grows}
use Rattle.aft_model.proofs.Histories.{any_from, in_back}
use Rattle.aft_model.proofs.Ids.{same_id-refl}
use Rattle.aft_model.proofs.OneCommit.{same_itself}
use Rattle.aft_model.proofs.Sights.{bytes_eq-refl}
use Rattle.aft_door.specs.Entries.{called, claimed, who_calls}
use Rattle.aft_door.proofs.Puts.{read_own}

pub last_any : {A : Type 0} (test : A → Bool) (xs : List A) (x : A) → IsTrue (test x) → IsTrue (list_any test (xs ++ x ∷ []))
last_any test xs x passed = any_from test x (xs ++ x ∷ []) (in_back x xs (x ∷ []) (inl refl)) passed

-- an element that passes a test, and behind it what passes another whatever stands before it
pub then_follows : {A : Type 0} (first : A → Bool) (rest : List A → Bool) (xs ys : List A) → IsTrue (list_any first xs) → ((zs : List A) → IsTrue (rest (zs ++ ys))) → IsTrue (followed first rest (xs ++ ys))
then_follows first rest [] ys among holds = absurd (false≢true among)
then_follows first rest (x ∷ xs) ys among holds = elim (or_cases (first x) (list_any first xs) among) [
  | inl here ↦ or_left _ _ (and_from _ _ here (holds xs))
  | inr later ↦ or_right _ _ (then_follows first rest xs ys later holds)
]

-- the same where the last passes
pub last_follows : {A : Type 0} (first : A → Bool) (xs : List A) (x : A) → IsTrue (first x) → IsTrue (followed first (λ rest. true) (xs ++ x ∷ []))
last_follows first xs x passed = subst (λ l. IsTrue (followed first (λ rest. true) l)) (append-nil (xs ++ x ∷ [])) (then_follows first (λ rest. true) (xs ++ x ∷ []) [] (last_any first xs x passed) (λ zs. refl))

-- what passes behind an element, with more behind it
followed_on : {A : Type 0} (first : A → Bool) (p q : List A → Bool) (ys : List A) → ((zs : List A) → IsTrue (p zs) → IsTrue (q (zs ++ ys))) → (xs : List A) → IsTrue (followed first p xs) → IsTrue (followed first q (xs ++ ys))
followed_on first p q ys more [] passed = absurd (false≢true passed)
followed_on first p q ys more (x ∷ xs) passed = elim (or_cases (first x && p xs) (followed first p xs) passed) [
  | inl here ↦ (let parts = and_parts (first x) (p xs) here in or_left _ _ (and_from _ _ parts.0 (more xs parts.1)))
  | inr later ↦ or_right _ _ (followed_on first p q ys more xs later)
]

absent_is : (who : Caller) (name : List ℕ) → IsTrue (finds_absent (who_calls who) name (called who (Get name) Absent).act)
absent_is who name = and_from _ _ (same_itself (who_calls who)) (bytes_eq-refl name)

-- who claimed a UUID, and found neither a record nor a marker of it
pub looked : (who : Caller) (uuid : List ℕ) (h : List DoorEntry)
    → IsTrue (knows_unused (who_calls who) uuid (h ++ claimed who uuid ∷ [] ++ called who (Get (record_name uuid)) Absent ∷ [] ++ called who (Get (marker_name uuid)) Absent ∷ []))
looked who uuid h =
    let w = who_calls who in
    let first : DoorEntry → Bool = λ x. claims w uuid x.act in
    let second : DoorEntry → Bool = λ x. finds_absent w (record_name uuid) x.act in
    let third : DoorEntry → Bool = λ x. finds_absent w (marker_name uuid) x.act in
    let a = claimed who uuid in
    let b = called who (Get (record_name uuid)) Absent in
    let c = called who (Get (marker_name uuid)) Absent in
    let last : List DoorEntry → Bool = followed third (λ rest. true) in
    let behind : List DoorEntry → Bool = followed second last in
    subst (λ l. IsTrue (followed first behind l)) (sym (append_assoc (h ++ a ∷ []) (b ∷ []) (c ∷ [])))
    (then_follows first behind (h ++ a ∷ []) (b ∷ c ∷ []) (last_any first h a (and_from _ _ (same_itself w) (bytes_eq-refl uuid)))
    (λ zs. subst (λ l. IsTrue (behind l)) (append_assoc zs (b ∷ []) (c ∷ []))
    (then_follows second last (zs ++ b ∷ []) (c ∷ []) (last_any second zs b (absent_is who (record_name uuid))) (λ ws. last_follows third ws c (absent_is who (marker_name uuid))))))

-- a version that was put is there
version_read : (v : Version) → IsVersion v → versions_in (record { name = version_name v.key v.id; bytes = version_row v }) ≡ v ∷ []
version_read v is = read_own (version_name v.key v.id) (λ w. version_name w.key w.id) (version_of (version_row v)) v (version_written v is.0 ∙ timely_is v.id.time v is.1) refl

-- who stored the one version of a commit
pub stored : (who : Caller) (v : Version) (h : List DoorEntry) → IsVersion v → IsTrue (knows_unused (who_calls who) v.id.uuid h)
    → IsTrue (knows_stored (who_calls who) (record { id = v.id; keys = v.key ∷ [] }) (h ++ called who (Put (version_name v.key v.id) (version_row v)) Done ∷ []))
stored who v h is unused =
    let w = who_calls who in
    let e = called who (Put (version_name v.key v.id) (version_row v)) Done in
    let c : Commit = record { id = v.id; keys = v.key ∷ [] } in
    followed_on _ _ _ (e ∷ []) (λ zs. followed_on _ _ _ (e ∷ []) (λ ys. followed_on _ (λ rest. true) (has_stored w c) (e ∷ []) (λ xs passed. all xs) ys) zs) h unused
  where
    one : IsTrue (stores_version (who_calls who) v.key v.id (called who (Put (version_name v.key v.id) (version_row v)) Done).act)
    one = and_from _ _ (same_itself (who_calls who)) (subst (λ vs. IsTrue (list_any (λ (x : Version). bytes_eq v.key x.key && same_id v.id x.id) vs)) (sym (version_read v is)) (or_left _ _ (and_from _ _ (bytes_eq-refl v.key) (same_id-refl v.id))))

    all : (xs : List DoorEntry) → IsTrue (has_stored (who_calls who) (record { id = v.id; keys = v.key ∷ [] }) (xs ++ called who (Put (version_name v.key v.id) (version_row v)) Done ∷ []))
    all xs = and_from _ _ (last_any (λ (x : DoorEntry). stores_version (who_calls who) v.key v.id x.act) xs (called who (Put (version_name v.key v.id) (version_row v)) Done) one) refl

-- ---- orphans

-- the office found neither a record nor a marker behind its claim
pub orphan_found : (who : Caller) (id : TxnId) (h : List DoorEntry) → who_calls who ≡ the_office
    → IsTrue (knows_orphan id (length h) (h ++ claimed who id.uuid ∷ [] ++ called who (Get (record_name id.uuid)) Absent ∷ [] ++ called who (Get (marker_name id.uuid)) Absent ∷ []))
orphan_found who id h office =
    let a = claimed who id.uuid in
    let b = called who (Get (record_name id.uuid)) Absent in
    let c = called who (Get (marker_name id.uuid)) Absent in
    let first : DoorEntry → Bool = λ x. finds_other id (record_name id.uuid) x.act in
    let second : DoorEntry → Bool = λ x. finds_other id (marker_name id.uuid) x.act in
    let at : suc (length h) ≡ length h + 1 = omega arith in
    let behind : drop (suc (length h)) (h ++ a ∷ [] ++ b ∷ [] ++ c ∷ []) ≡ b ∷ c ∷ [] =
    ap (λ n. drop n (h ++ a ∷ [] ++ b ∷ [] ++ c ∷ [])) at
    ∙ ap (drop (length h + 1)) (append_assoc (h ++ a ∷ []) (b ∷ []) (c ∷ []) ∙ append_assoc h (a ∷ []) (b ∷ c ∷ [])) ∙ drop-append-add h (a ∷ b ∷ c ∷ []) 1 in
    subst (λ l. IsTrue (followed first (list_any second) l)) (sym behind)
    (or_left _ _ (and_from _ _ (or_left _ _ (absent (record_name id.uuid))) (or_left _ _ (or_left _ _ (absent (marker_name id.uuid))))))
  where
    absent : (name : List ℕ) → IsTrue (finds_absent the_office name (called who (Get name) Absent).act)
    absent name = subst (λ (w : Incarnation). IsTrue (finds_absent w name (called who (Get name) Absent).act)) office (absent_is who name)

-- ---- what grew

-- what stays known as a history grows is known of what grew from it
pub grown : (p : List DoorEntry → Bool) → Grows p → (h more now : List DoorEntry) → now ≡ h ++ more → IsTrue (p h) → IsTrue (p now)
grown p grows h more now is holds = subst (λ l. IsTrue (p l)) (sym is) (grows h more holds)
