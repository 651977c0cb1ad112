-- What a commit is answered: by the attempt that its client holds, and where it fixed or settles a commit, by the turns that stored that, or the call at which they stopped.
use Rattle.std.proofs.Common.{◌≡◌, ◌≤◌, ◌++◌, ℕ, Bool, true, false, ◌&&◌, ◌||◌, not, List, [], ◌∷◌, length, map, filter, refl, sym, ap, subst, ◌∙◌, inl, inr, ◌⊎◌, arith, append-nil}
use Rattle.std.specs.Prelude.{IsTrue, Some, Result, Ok, Err, if◌then◌else◌}
use Rattle.std.specs.List.{flat_map, list_any}
use Rattle.std.specs.Str.{bytes_eq}
use Rattle.std.proofs.lemmas.Bool.{false≢true}
use Rattle.aft_id.specs.declared.txn_id.TxnId.{TxnId}
use Rattle.aft_keeper.specs.declared.keeper.KeeperAnswer.{KeeperAnswer}
use Rattle.aft_keeper.specs.declared.keeper.KeeperAnswer.TheVariants as answers
use Rattle.aft_keeper.specs.declared.keeper.KeeperCall.TheVariants as calls
use Rattle.aft_keeper.specs.declared.keeper.Pair.{Pair}
use Rattle.aft_records.specs.declared.fault.RecordFault.{RecordFault}
use Rattle.aft_records.specs.declared.stored.Commit.{Commit}
use Rattle.aft_records.specs.declared.stored.Version.{Version}
use Rattle.aft_records.specs.Commits.{is_among, same_commit}
use Rattle.aft_records.specs.Reading.{commit_of}
use Rattle.aft_model.specs.declared.caller.By.{By}
use Rattle.aft_model.specs.declared.door.DoorAct.TheVariants.{Call, Release}
use Rattle.aft_model.specs.declared.door.DoorEntry.{DoorEntry}
use Rattle.aft_model.specs.declared.reply.Reply.{Reply}
use Rattle.aft_model.specs.declared.reply.Reply.TheVariants as replies
use Rattle.aft_model.specs.Committed.{committed_by}
use Rattle.aft_model.specs.NodeSights.{is_stored_by}
use Rattle.aft_model.specs.Readings.{has_reading, is_record_of, read_under, record_name, records_in, version_name}
use Rattle.aft_model.specs.Stages.{is_acknowledged}
use Rattle.aft_model.proofs.Sights.{same_bytes}
use Rattle.aft_lines.specs.CausesCommits.{fails_both, fails_put}
use Rattle.aft_lines.specs.CausesScans.{damage_in, is_damage, is_of_another, listed_in}
use Rattle.law_answers.proofs.Aborts.{unread_records}
use Rattle.law_answers.proofs.Gets.{read_few}

-- ---- what an act shows

-- an entry that stores no record, fails at none, and shows nothing
pub record Idle (entry : DoorEntry) : Type 0 where
  pub stores : (c : Commit) → is_among c (committed_by entry) ≡ false
  pub puts : (name : List ℕ) (c : Commit) → name ≡ record_name c.id.uuid → fails_put name entry.act ≡ false
  pub damage : (c : Commit) → damage_in (Some c) entry ≡ []
  pub listed : (prefix : List ℕ) → listed_in prefix entry.act ≡ []

abbrev pub names_of : Commit → List DoorEntry → List (List ℕ)
names_of c done = flat_map (damage_in (Some c)) done

-- what entries show of a commit that was stored by them
pub record Storedly (c : Commit) (done : List DoorEntry) : Type 0 where
  pub undoubted : fails_both c done ≡ false
  pub undamaged : names_of c done ≡ []
  pub few : (prefix : List ℕ) → flat_map (λ (entry : DoorEntry). listed_in prefix entry.act) done ≡ []

-- what they show of one that wasn't
pub record Unstored (c : Commit) (done : List DoorEntry) : Type 0 where
  pub unstored : is_stored_by c done ≡ false
  pub clean : IsTrue (fails_both c done) → names_of c done ≡ []
  pub few : (prefix : List ℕ) → flat_map (λ (entry : DoorEntry). listed_in prefix entry.act) done ≡ []

-- what a line's entries show of its commit, where its answer is this
abbrev pub Facts : Commit → List DoorEntry → Reply → Type 0
Facts c done reply = ((id : TxnId) × (reply ≡ replies.Committed id) × Storedly c done) ⊎ Unstored c done

either_false : (x y z : Bool) → x ≡ false → (x && y) || z ≡ z
either_false false y z none = refl
either_false true y z none = absurd (false≢true (sym none))

or_none : (x y : Bool) → x ≡ false → x || y ≡ y
or_none false y none = refl
or_none true y none = absurd (false≢true (sym none))

module _ (c : Commit) (entry : DoorEntry) (done : List DoorEntry) (idle : Idle entry) where
  same_both : fails_both c (entry ∷ done) ≡ fails_both c done
  same_both = either_false (fails_put (record_name c.id.uuid) entry.act) _ _ (idle.puts (record_name c.id.uuid) c refl)

  same_names : names_of c (entry ∷ done) ≡ names_of c done
  same_names = ap (λ (ns : List (List ℕ)). ns ++ names_of c done) (idle.damage c)

  pub facts_behind : (reply : Reply) → Facts c done reply → Facts c (entry ∷ done) reply
  facts_behind reply facts = elim facts [
    | inl stored ↦ inl (stored.0, stored.1, record { undoubted = same_both ∙ stored.2.undoubted; undamaged = same_names ∙ stored.2.undamaged; few = λ prefix. ap (λ (ps : List Pair). ps ++ flat_map (λ (e : DoorEntry). listed_in prefix e.act) done) (idle.listed prefix) ∙ stored.2.few prefix })
    | inr un ↦ inr (record { unstored = or_none (is_among c (committed_by entry)) (is_stored_by c done) (idle.stores c) ∙ un.unstored; clean = λ is. same_names ∙ un.clean (subst (λ (b : Bool). IsTrue b) same_both is); few = λ prefix. ap (λ (ps : List Pair). ps ++ flat_map (λ (e : DoorEntry). listed_in prefix e.act) done) (idle.listed prefix) ∙ un.few prefix })
  ]

-- nothing, or a release
pub nothing_unstored : (c : Commit) → Unstored c []
nothing_unstored c = record { unstored = refl; clean = λ is. refl; few = λ prefix. refl }

-- under the name of a version no record is read
no_record : (key : List ℕ) (id : TxnId) (result : Result Commit RecordFault) → read_under (version_name key id) (λ (c : Commit). record_name c.id.uuid) result ≡ []
no_record key id (Ok c) = refl
no_record key id (Err e) = refl

pub version_named : (name : List ℕ) (result : Result Version RecordFault) (test : Version → Bool) → IsTrue (list_any test (read_under name (λ v. version_name v.key v.id) result)) → (v : Version) × (name ≡ version_name v.key v.id)
version_named name (Ok v) test is = cases (bytes_eq name (version_name v.key v.id)) refl is
  where
    cases : (b : Bool) → bytes_eq name (version_name v.key v.id) ≡ b → IsTrue (list_any test (if b then v ∷ [] else [])) → (w : Version) × (name ≡ version_name w.key w.id)
    cases true e there = (v, same_bytes name (version_name v.key v.id) e)
    cases false e there = absurd (false≢true there)
version_named name (Err e) test is = absurd (false≢true is)

version_not_record : (key : List ℕ) (id : TxnId) (uuid : List ℕ) → bytes_eq (record_name uuid) (version_name key id) ≡ false
version_not_record key id uuid = refl

-- a put of a version is idle
pub version_idle : (by : By) (node inc : ℕ) (name bytes : List ℕ) (answer : KeeperAnswer) (v : Version) → name ≡ version_name v.key v.id → Idle (record { by = by; act = Call node inc (calls.Put name bytes) answer })
version_idle by node inc name bytes answer v named = record {
  stores = λ c. stores c answer;
  puts = λ its c e. puts its c e answer;
  damage = λ c. refl;
  listed = λ prefix. refl;
}
  where
    none : records_in (record { name = name; bytes = bytes }) ≡ []
    none = subst (λ (n : List ℕ). read_under n (λ (c : Commit). record_name c.id.uuid) (commit_of bytes) ≡ []) (sym named) (no_record v.key v.id (commit_of bytes))

    stores : (c : Commit) (answer : KeeperAnswer) → is_among c (committed_by (record { by = by; act = Call node inc (calls.Put name bytes) answer })) ≡ false
    stores c answers.Done = ap (λ (cs : List Commit). is_among c (cs ++ [])) none
    stores c answer = refl

    puts : (its : List ℕ) (c : Commit) → its ≡ record_name c.id.uuid → (answer : KeeperAnswer) → fails_put its (Call node inc (calls.Put name bytes) answer) ≡ false
    puts its c e answers.Failed = ap (λ (n : List ℕ). bytes_eq n name) e ∙ ap (λ (n : List ℕ). bytes_eq (record_name c.id.uuid) n) named ∙ version_not_record v.key v.id c.id.uuid
    puts its c e answer = refl

-- a get that found nothing is idle
pub absent_idle : (by : By) (node inc : ℕ) (name : List ℕ) → Idle (record { by = by; act = Call node inc (calls.Get name) answers.Absent })
absent_idle by node inc name = record { stores = λ c. refl; puts = λ its c e. refl; damage = λ c. refl; listed = λ prefix. refl }

pub released_idle : (by : By) (uuid : List ℕ) (node inc : ℕ) → Idle (record { by = by; act = Release uuid node inc })
released_idle by uuid node inc = record { stores = λ c. refl; puts = λ its c e. refl; damage = λ c. refl; listed = λ prefix. refl }

-- ---- the put of the record, and its get

few_records : (pair : Pair) → length (records_in pair) ≤ 1
few_records pair = read_few pair.name (λ (c : Commit). record_name c.id.uuid) (commit_of pair.bytes)

only_one : (c : Commit) (commits : List Commit) → length commits ≤ 1 → IsTrue (list_any (same_commit c) commits) → list_any (λ d. not (same_commit c d)) commits ≡ false
only_one c [] few is = refl
only_one c (d ∷ []) few is = cases (same_commit c d) is
  where
    cases : (same : Bool) → IsTrue (same || false) → (not same || false) ≡ false
    cases true there = refl
    cases false there = absurd (false≢true there)
only_one c (d ∷ e ∷ commits) few is = absurd (omega arith)

some_there : (c : Commit) (pair : Pair) → IsTrue (is_record_of c pair) → has_reading pair ≡ false → ⊥
some_there c pair is unread = some (records_in pair) is (ap length (unread_records pair unread))
  where
    some : (commits : List Commit) → IsTrue (list_any (same_commit c) commits) → length commits ≡ 0 → ⊥
    some [] there none = false≢true there
    some (d ∷ commits) there none = omega arith

good_pair : (c : Commit) (pair : Pair) → IsTrue (is_record_of c pair) → map (λ (p : Pair). p.name) (filter (is_damage (Some c)) (pair ∷ [])) ≡ []
good_pair c pair is = cases (has_reading pair) refl (is_of_another (Some c) pair) (only_one c (records_in pair) (few_records pair) is)
  where
    cases : (has : Bool) → has_reading pair ≡ has → (other : Bool) → other ≡ false → map (λ (p : Pair). p.name) (if not has || other then pair ∷ [] else []) ≡ []
    cases true e false o = refl
    cases true e true o = absurd (false≢true (sym o))
    cases false e other o = absurd (some_there c pair is e)

-- the entries of a line behind its calls: none, or a release
abbrev Behind : By → List DoorEntry → Type 0
Behind by done = (done ≡ []) ⊎ ((uuid : List ℕ) × (node : ℕ) × (inc : ℕ) × (done ≡ record { by = by; act = Release uuid node inc } ∷ []))

by_behind : (P : List DoorEntry → Type 0) (by : By) (done : List DoorEntry) → P [] → ((uuid : List ℕ) (node inc : ℕ) → P (record { by = by; act = Release uuid node inc } ∷ [])) → Behind by done → P done
by_behind P by done none released behind = elim behind [
  | inl e ↦ subst P (sym e) none
  | inr one ↦ subst P (sym one.3) (released one.0 one.1 one.2)
]

no_both : (x : Bool) → (x && false) || false ≡ false
no_both true = refl
no_both false = refl

module _ (c : Commit) (by : By) (node inc : ℕ) (name bytes : List ℕ) where
  abbrev put_of : KeeperAnswer → DoorEntry
  put_of answer = record { by = by; act = Call node inc (calls.Put name bytes) answer }

  -- the put of the record was acknowledged
  pub put_stored : (answer : KeeperAnswer) (done : List DoorEntry) → is_acknowledged answer ≡ true → Behind by done → Storedly c (put_of answer ∷ done)
  put_stored answers.Done done e behind = by_behind (λ es. Storedly c (put_of answers.Done ∷ es)) by done (record { undoubted = refl; undamaged = refl; few = λ prefix. refl }) (λ u n i. record { undoubted = refl; undamaged = refl; few = λ prefix. refl }) behind
  put_stored answer done e behind = absurd (false≢true e)

  bad_put : (answer : KeeperAnswer) → is_acknowledged answer ≡ false → is_among c (committed_by (put_of answer)) ≡ false
  bad_put answers.Done e = absurd (false≢true (sym e))
  bad_put answer e = refl

  module _ (put : KeeperAnswer) (bad : is_acknowledged put ≡ false) (at_node at_inc : ℕ) (got : List ℕ) where
    abbrev get_of : KeeperAnswer → DoorEntry
    get_of answer = record { by = by; act = Call at_node at_inc (calls.Get got) answer }

    -- it failed, and a get found this commit
    pub found_stored : (found : List ℕ) (done : List DoorEntry) → IsTrue (is_record_of c (record { name = got; bytes = found })) → Behind by done → Storedly c (put_of put ∷ get_of (answers.Found found) ∷ done)
    found_stored found done is behind = by_behind (λ es. Storedly c (put_of put ∷ get_of (answers.Found found) ∷ es)) by done (record { undoubted = no_both _; undamaged = ap (λ (ns : List (List ℕ)). ns ++ []) (good_pair c (record { name = got; bytes = found }) is); few = λ prefix. refl })
        (λ u n i. record { undoubted = no_both _; undamaged = ap (λ (ns : List (List ℕ)). ns ++ []) (good_pair c (record { name = got; bytes = found }) is); few = λ prefix. refl }) behind

    -- or it didn't
    pub unfound_unstored : (answer : KeeperAnswer) → ((found : List ℕ) → answer ≡ answers.Found found → is_record_of c (record { name = got; bytes = found }) ≡ false) → Unstored c (put_of put ∷ get_of answer ∷ [])
    unfound_unstored (answers.Found found) none = record {
      unstored = or_none (is_among c (committed_by (put_of put))) _ (bad_put put bad) ∙ ap (λ (b : Bool). b || false) (ap (λ (cs : List Commit). is_among c cs) (append-nil (records_in (record { name = got; bytes = found }))) ∙ none found refl);
      clean = λ is. absurd (false≢true (sym (no_both _) ∙ is));
      few = λ prefix. refl;
    }
    unfound_unstored answer none = record { unstored = or_none (is_among c (committed_by (put_of put))) _ (bad_put put bad); clean = λ is. refl; few = λ prefix. refl }

-- a get of the record before any put of it
module _ (c : Commit) (by : By) (node inc : ℕ) (got : List ℕ) where
  abbrev first_get : KeeperAnswer → DoorEntry
  first_get answer = record { by = by; act = Call node inc (calls.Get got) answer }

  pub get_stored : (found : List ℕ) (done : List DoorEntry) → IsTrue (is_record_of c (record { name = got; bytes = found })) → Behind by done → Storedly c (first_get (answers.Found found) ∷ done)
  get_stored found done is behind = by_behind (λ es. Storedly c (first_get (answers.Found found) ∷ es)) by done (record { undoubted = refl; undamaged = ap (λ (ns : List (List ℕ)). ns ++ []) (good_pair c (record { name = got; bytes = found }) is); few = λ prefix. refl })
      (λ u n i. record { undoubted = refl; undamaged = ap (λ (ns : List (List ℕ)). ns ++ []) (good_pair c (record { name = got; bytes = found }) is); few = λ prefix. refl }) behind

  pub get_unstored : (answer : KeeperAnswer) → ((found : List ℕ) → answer ≡ answers.Found found → is_record_of c (record { name = got; bytes = found }) ≡ false) → Unstored c (first_get answer ∷ [])
  get_unstored (answers.Found found) none = record {
    unstored = ap (λ (b : Bool). b || false) (ap (λ (cs : List Commit). is_among c cs) (append-nil (records_in (record { name = got; bytes = found }))) ∙ none found refl);
    clean = λ is. absurd (false≢true is);
    few = λ prefix. refl;
  }
  get_unstored answer none = record { unstored = refl; clean = λ is. refl; few = λ prefix. refl }
