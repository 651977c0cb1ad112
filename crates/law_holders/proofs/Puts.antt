-- What the puts of a commit make of the stage of its UUID.
use Rattle.std.proofs.Common.{◌≡◌, ℕ, Bool, true, false, ◌&&◌, ◌||◌, List, [], ◌∷◌, refl, sym, ap, subst, ◌∙◌, inl, inr}
use Rattle.std.specs.Prelude.{IsTrue, Result, Ok, Err, filter, if◌then◌else◌}
use Rattle.std.specs.List.{fold, list_all, list_any}
use Rattle.std.specs.Str.{bytes_eq}
use Rattle.std.proofs.lemmas.Bool.{and_from, and_parts, or_cases, or_left, or_right}
use Rattle.aft_id.specs.declared.txn_id.TxnId.{TxnId}
use Rattle.aft_id.specs.TxnId.{same_id}
use Rattle.aft_keeper.specs.declared.keeper.KeeperAnswer.{KeeperAnswer}
use Rattle.aft_keeper.specs.declared.keeper.Pair.{Pair}
use Rattle.aft_records.specs.declared.fault.RecordFault.{RecordFault}
use Rattle.aft_records.specs.declared.stored.Commit.{Commit}
use Rattle.aft_records.specs.declared.stored.Record.{Record}
use Rattle.aft_records.specs.declared.stored.Version.{Version}
use Rattle.aft_records.specs.Commits.{same_commit}
use Rattle.aft_records.specs.Reading.{commit_of, version_of}
use Rattle.aft_model.specs.Attempts.{Write}
use Rattle.aft_model.specs.Readings.{read_under, record_name, records_in, same_record, version_name, versions_in, written_in}
use Rattle.aft_model.specs.Stages.{HasPut, IsClear, Stage, commits_of, has_put_pair, has_put_record, has_stored_version, versions_of}
use Rattle.aft_model.proofs.Formats.{written_is}
use Rattle.aft_model.proofs.Histories.{In, any_found}
use Rattle.aft_model.proofs.Ids.{same_ids}
use Rattle.aft_model.proofs.Sights.{bytes_eq-refl, same_bytes}
use Rattle.aft_lines.specs.CommitCourse.{is_version_of, is_written_as}
use Rattle.law_holders.specs.Rows.{are_put_but, has_put, writes_key}

-- ---- what reads under a name

-- what reads there is one thing, and stands under its name
one_read : {A : Type 0} (name : List ℕ) (its_name : A → List ℕ) (read : Result A RecordFault) (x : A) → In x (read_under name its_name read) → (read_under name its_name read ≡ x ∷ []) × IsTrue (bytes_eq name (its_name x))
one_read name its_name (Err e) x among = absurd among
one_read {A} name its_name (Ok y) x among = cases (bytes_eq name (its_name y)) refl among
  where
    cases : (same : Bool) → bytes_eq name (its_name y) ≡ same → In x (if same then y ∷ [] else []) → ((if same then y ∷ [] else []) ≡ x ∷ []) × IsTrue (bytes_eq name (its_name x))
    cases true same (inl is) = (ap (λ (z : A). z ∷ []) (sym is), subst (λ (z : A). IsTrue (bytes_eq name (its_name z))) (sym is) same)
    cases true same (inr nowhere) = absurd nowhere
    cases false same nowhere = absurd nowhere

-- under the name of a version there is no record, and under that of a record no version
no_record : (key : List ℕ) (id : TxnId) (read : Result Commit RecordFault) → read_under (version_name key id) (λ (c : Commit). record_name c.id.uuid) read ≡ []
no_record key id (Err e) = refl
no_record key id (Ok c) = refl

no_version : (uuid : List ℕ) (read : Result Version RecordFault) → read_under (record_name uuid) (λ (v : Version). version_name v.key v.id) read ≡ []
no_version uuid (Err e) = refl
no_version uuid (Ok v) = refl

-- ---- a version

module _ (c : Commit) (write : Write) (pair : Pair) (is : IsTrue (is_version_of c write pair)) where
  abbrev found : (v : Version) × In v (versions_in pair) × IsTrue (bytes_eq write.key v.key && same_id c.id v.id && bytes_eq write.value v.value)
  found = any_found (λ v. bytes_eq write.key v.key && same_id c.id v.id && bytes_eq write.value v.value) (versions_in pair) is

  its_id : c.id ≡ found.0.id
  its_id = same_ids c.id found.0.id (and_parts (bytes_eq write.key found.0.key) (same_id c.id found.0.id) (and_parts (bytes_eq write.key found.0.key && same_id c.id found.0.id) (bytes_eq write.value found.0.value) found.2).0).1

  its_key : write.key ≡ found.0.key
  its_key = same_bytes write.key found.0.key (and_parts (bytes_eq write.key found.0.key) (same_id c.id found.0.id) (and_parts (bytes_eq write.key found.0.key && same_id c.id found.0.id) (bytes_eq write.value found.0.value) found.2).0).0

  pub its_name : pair.name ≡ version_name write.key c.id
  its_name =
      same_bytes pair.name (version_name found.0.key found.0.id) (one_read pair.name (λ (v : Version). version_name v.key v.id) (version_of pair.bytes) found.0 found.1).1
      ∙ ap (λ (key : List ℕ). version_name key found.0.id) (sym its_key) ∙ ap (λ (id : TxnId). version_name write.key id) (sym its_id)

  -- its put stores one version, and no record
  pub version_put : (answer : KeeperAnswer) (names : List (List ℕ)) → has_put_pair c.id.uuid pair answer (IsClear names) ≡ has_stored_version pair.name answer (IsClear names)
  version_put answer names =
      ap (λ (cs : List Commit). fold (λ stage d. has_put_record d stage) (fold (λ stage v. has_stored_version pair.name answer stage) (IsClear names) (versions_of c.id.uuid pair)) (filter (λ d. bytes_eq c.id.uuid d.id.uuid) cs)) none
      ∙ ap (λ (vs : List Version). fold (λ stage v. has_stored_version pair.name answer stage) (IsClear names) (filter (λ v. bytes_eq c.id.uuid v.id.uuid) vs)) (one_read pair.name (λ (v : Version). version_name v.key v.id) (version_of pair.bytes) found.0 found.1).0
      ∙ ap (λ (b : Bool). fold (λ stage v. has_stored_version pair.name answer stage) (IsClear names) (if b then found.0 ∷ [] else [])) own
    where
      none : records_in pair ≡ []
      none = ap (λ (name : List ℕ). read_under name (λ (d : Commit). record_name d.id.uuid) (commit_of pair.bytes)) its_name ∙ no_record write.key c.id (commit_of pair.bytes)

      own : bytes_eq c.id.uuid found.0.id.uuid ≡ true
      own = ap (λ (id : TxnId). bytes_eq c.id.uuid id.uuid) (sym its_id) ∙ bytes_eq-refl c.id.uuid

  -- each key of the commit is then still to be put, or was put
  pub still_put : (left : List Write) (names : List (List ℕ)) → IsTrue (are_put_but (write ∷ left) c names) → IsTrue (are_put_but left c (pair.name ∷ names))
  still_put left names so = each c.keys so
    where
      one : (key : List ℕ) → IsTrue (writes_key key (write ∷ left) || list_any (bytes_eq (version_name key c.id)) names) → IsTrue (writes_key key left || list_any (bytes_eq (version_name key c.id)) (pair.name ∷ names))
      one key is_so = elim (or_cases (writes_key key (write ∷ left)) (list_any (bytes_eq (version_name key c.id)) names) is_so) [
        | inl writes ↦ elim (or_cases (bytes_eq write.key key) (writes_key key left) writes) [
          | inl its ↦
              let same : key ≡ write.key = sym (same_bytes write.key key its) in
              or_right (writes_key key left) _ (or_left (bytes_eq (version_name key c.id) pair.name) _ (ap (λ (k : List ℕ). bytes_eq (version_name k c.id) pair.name) same ∙ ap (λ (n : List ℕ). bytes_eq n pair.name) (sym its_name) ∙ bytes_eq-refl pair.name))
          | inr later ↦ or_left _ _ later
        ]
        | inr put ↦ or_right (writes_key key left) _ (or_right (bytes_eq (version_name key c.id) pair.name) _ put)
      ]

      each : (keys : List (List ℕ)) → IsTrue (list_all (λ key. writes_key key (write ∷ left) || list_any (bytes_eq (version_name key c.id)) names) keys) → IsTrue (list_all (λ key. writes_key key left || list_any (bytes_eq (version_name key c.id)) (pair.name ∷ names)) keys)
      each [] all = refl
      each (key ∷ keys) all = (let parts = and_parts (writes_key key (write ∷ left) || list_any (bytes_eq (version_name key c.id)) names) _ all in and_from _ _ (one key parts.0) (each keys parts.1))

  -- and it leaves other UUIDs alone
  pub version_leaves : (uuid : List ℕ) → bytes_eq uuid c.id.uuid ≡ false → (answer : KeeperAnswer) (before : Stage) → has_put_pair uuid pair answer before ≡ before
  version_leaves uuid other answer before =
      ap (λ (cs : List Commit). fold (λ stage d. has_put_record d stage) (fold (λ stage v. has_stored_version pair.name answer stage) before (versions_of uuid pair)) (filter (λ d. bytes_eq uuid d.id.uuid) cs)) none
      ∙ ap (λ (vs : List Version). fold (λ stage v. has_stored_version pair.name answer stage) before (filter (λ v. bytes_eq uuid v.id.uuid) vs)) (one_read pair.name (λ (v : Version). version_name v.key v.id) (version_of pair.bytes) found.0 found.1).0
      ∙ ap (λ (b : Bool). fold (λ stage v. has_stored_version pair.name answer stage) before (if b then found.0 ∷ [] else [])) (ap (λ (id : TxnId). bytes_eq uuid id.uuid) (sym its_id) ∙ other)
    where
      none : records_in pair ≡ []
      none = ap (λ (name : List ℕ). read_under name (λ (d : Commit). record_name d.id.uuid) (commit_of pair.bytes)) its_name ∙ no_record write.key c.id (commit_of pair.bytes)

  pub version_commits : (uuid : List ℕ) → commits_of uuid pair ≡ []
  version_commits uuid = ap (λ (cs : List Commit). filter (λ d. bytes_eq uuid d.id.uuid) cs) (ap (λ (name : List ℕ). read_under name (λ (d : Commit). record_name d.id.uuid) (commit_of pair.bytes)) its_name ∙ no_record write.key c.id (commit_of pair.bytes))

-- ---- a record

module _ (r : Record) (pair : Pair) (is : IsTrue (is_written_as r pair)) where
  abbrev written : (q : Record) × In q (written_in pair) × IsTrue (same_record r q)
  written = any_found (same_record r) (written_in pair) is

  commit_same : IsTrue (same_commit r.commit written.0.commit)
  commit_same = first (same_commit r.commit written.0.commit) _ _ _ written.2
    where
      first : (a b c d : Bool) → IsTrue (a && b && c && d) → IsTrue a
      first true b c d so = refl
      first false b c d so = absurd (cc)

  commit_read : (records_in pair ≡ written.0.commit ∷ []) × IsTrue (bytes_eq pair.name (record_name written.0.commit.id.uuid))
  commit_read = one_read pair.name (λ (c : Commit). record_name c.id.uuid) (commit_of pair.bytes) written.0.commit (written_is pair written.0 written.1)

  -- its put stores the record, and no version
  pub record_put : (answer : KeeperAnswer) (names : List (List ℕ)) → IsTrue (has_put r.commit (has_put_pair r.commit.id.uuid pair answer (IsClear names)))
  record_put answer names = subst (λ (s : Stage). IsTrue (has_put r.commit s)) (sym together) commit_same
    where
      its_name : pair.name ≡ record_name written.0.commit.id.uuid
      its_name = same_bytes pair.name (record_name written.0.commit.id.uuid) commit_read.1

      none : versions_in pair ≡ []
      none = ap (λ (name : List ℕ). read_under name (λ (v : Version). version_name v.key v.id) (version_of pair.bytes)) its_name ∙ no_version written.0.commit.id.uuid (version_of pair.bytes)

      own : bytes_eq r.commit.id.uuid written.0.commit.id.uuid ≡ true
      own = ap (λ (id : TxnId). bytes_eq r.commit.id.uuid id.uuid) (sym (same_ids r.commit.id written.0.commit.id (and_parts (same_id r.commit.id written.0.commit.id) _ commit_same).0)) ∙ bytes_eq-refl r.commit.id.uuid

      together : has_put_pair r.commit.id.uuid pair answer (IsClear names) ≡ HasPut written.0.commit
      together =
          ap (λ (vs : List Version). fold (λ stage d. has_put_record d stage) (fold (λ stage v. has_stored_version pair.name answer stage) (IsClear names) (filter (λ v. bytes_eq r.commit.id.uuid v.id.uuid) vs)) (commits_of r.commit.id.uuid pair)) none
          ∙ ap (λ (cs : List Commit). fold (λ stage d. has_put_record d stage) (IsClear names) (filter (λ d. bytes_eq r.commit.id.uuid d.id.uuid) cs)) commit_read.0
          ∙ ap (λ (b : Bool). fold (λ stage d. has_put_record d stage) (IsClear names) (if b then written.0.commit ∷ [] else [])) own

  -- and it leaves other UUIDs alone
  pub record_leaves : (uuid : List ℕ) → bytes_eq uuid r.commit.id.uuid ≡ false → (answer : KeeperAnswer) (before : Stage) → has_put_pair uuid pair answer before ≡ before
  record_leaves uuid other answer before =
      ap (λ (vs : List Version). fold (λ stage d. has_put_record d stage) (fold (λ stage v. has_stored_version pair.name answer stage) before (filter (λ v. bytes_eq uuid v.id.uuid) vs)) (commits_of uuid pair)) none
      ∙ ap (λ (cs : List Commit). fold (λ stage d. has_put_record d stage) before (filter (λ d. bytes_eq uuid d.id.uuid) cs)) commit_read.0
      ∙ ap (λ (b : Bool). fold (λ stage d. has_put_record d stage) before (if b then written.0.commit ∷ [] else []))
      (ap (λ (id : TxnId). bytes_eq uuid id.uuid) (sym (same_ids r.commit.id written.0.commit.id (and_parts (same_id r.commit.id written.0.commit.id) _ commit_same).0)) ∙ other)
    where
      none : versions_in pair ≡ []
      none = ap (λ (name : List ℕ). read_under name (λ (v : Version). version_name v.key v.id) (version_of pair.bytes)) (same_bytes pair.name (record_name written.0.commit.id.uuid) commit_read.1) ∙ no_version written.0.commit.id.uuid (version_of pair.bytes)

  -- it puts that commit's record alone
  pub record_commit : IsTrue (list_all (λ d. list_any (λ c. same_commit c d) (r.commit ∷ [])) (commits_of r.commit.id.uuid pair))
  record_commit = subst (λ (cs : List Commit). IsTrue (list_all (λ d. list_any (λ c. same_commit c d) (r.commit ∷ [])) (filter (λ d. bytes_eq r.commit.id.uuid d.id.uuid) cs))) (sym commit_read.0) (cases (bytes_eq r.commit.id.uuid written.0.commit.id.uuid))
    where
      cases : (its : Bool) → IsTrue (list_all (λ d. list_any (λ c. same_commit c d) (r.commit ∷ [])) (if its then written.0.commit ∷ [] else []))
      cases true = and_from _ _ (or_left _ _ commit_same) refl
      cases false = refl
