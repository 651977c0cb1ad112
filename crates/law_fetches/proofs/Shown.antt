-- What the door shows of a version that a line fetches: the version, with the value that it has by the history.
use Rattle.std.proofs.Common.{◌≡◌, ◌≤◌, ℕ, zero, suc, Bool, ◌&&◌, List, [], ◌∷◌, ◌++◌, refl, sym, ap, subst, ◌∙◌, length, take}
use Rattle.std.specs.Prelude.{IsTrue, None, Option, Some, if◌then◌else◌}
use Rattle.std.specs.List.{list_any}
use Rattle.std.specs.Option.{option_eq}
use Rattle.std.specs.Str.{bytes_eq}
use Rattle.std.proofs.lemmas.Bool.{and_parts, false≢true}
use Rattle.aft_id.specs.TxnId.{IsUuid, same_id}
use Rattle.aft_id.specs.declared.txn_id.TxnId.{TxnId}
use Rattle.aft_keeper.specs.declared.keeper.KeeperAnswer.TheVariants.{Found}
use Rattle.aft_keeper.specs.declared.keeper.KeeperCall.TheVariants.{Get}
use Rattle.aft_records.specs.Reading.{version_of}
use Rattle.aft_records.specs.declared.stored.Version.{Version}
use Rattle.aft_model.specs.declared.door.DoorAct.{DoorAct}
use Rattle.aft_model.specs.declared.door.DoorAct.TheVariants.{Call}
use Rattle.aft_model.specs.declared.door.DoorEntry.{DoorEntry}
use Rattle.aft_model.specs.declared.reply.Reply.TheVariants as replies
use Rattle.aft_model.specs.DoorKnowledge.{is_open, opens}
use Rattle.aft_model.specs.History.{at_place}
use Rattle.aft_model.specs.Membership.{Incarnation, incarnation, same_incarnation}
use Rattle.aft_model.specs.NodeSights.{finds_version}
use Rattle.aft_model.specs.Readings.{version_name, versions_in}
use Rattle.aft_model.proofs.Histories.{In, any_found}
use Rattle.aft_model.proofs.Growth.{any_grows}
use Rattle.aft_model.proofs.Ids.{same_ids}
use Rattle.aft_model.proofs.OneCommit.{same_who}
use Rattle.aft_model.proofs.Sights.{bytes_eq-refl, read-name, read-one, same_bytes}
use Rattle.aft_lines.specs.Headline.{is_true_value, value_of}
use Rattle.law_effects.specs.Effects.{Shows, effect_of, sight_effect}
use Rattle.law_kept.specs.Kept.{Lawful}
use Rattle.law_kept.proofs.Always.{lawful_begins}
use Rattle.law_places.proofs.Seen.{grows}
use Rattle.law_whole.specs.Values.{VersionIs}
use Rattle.law_whole.proofs.Throughout.{its_uuid}
use Rattle.law_whole.proofs.Values.{value_stays}
use Rattle.law_boots.proofs.Known.{seen_later}
use Rattle.law_boots.proofs.Real.{taken}
use Rattle.law_fetches.specs.Values.{TrueValue}

-- ---- a place of a history

-- what stands at a place has so many elements before it
pub at_split : {A : Type 0} (place : ℕ) (xs : List A) (x : A) → at_place place xs ≡ Some x → (before : List A) × (after : List A) × (xs ≡ before ++ x ∷ after) × (length before ≡ place)
at_split zero [] x is = absurd (let no : None ≡ Some x = is in cc)
at_split zero (y ∷ ys) x is = (let found : Some y ≡ Some x = is in let same : y ≡ x = cc in ([], ys, ap (λ z. z ∷ ys) same, refl))
at_split (suc place) [] x is = absurd (let no : None ≡ Some x = is in cc)
at_split {A} (suc place) (y ∷ ys) x is = (let rest = at_split place ys x is in (y ∷ rest.0, rest.1, ap (λ (l : List A). y ∷ l) rest.2, ap (λ (n : ℕ). suc n) rest.3))

-- ---- a get that found a version

pub record Finds (who : Incarnation) (key : List ℕ) (id : TxnId) (value : List ℕ) (act : DoorAct) : Type 0 where
  pub bytes : List ℕ
  pub is : act ≡ Call who.node who.inc (Get (version_name key id)) (Found bytes)
  pub version : Version
  pub reads : In version (versions_in (record { name = version_name key id; bytes = bytes }))
  pub its_value : value ≡ version.value

pub finds : (who : Incarnation) (key : List ℕ) (id : TxnId) (value : List ℕ) (act : DoorAct) → IsTrue (finds_version who key id value act) → Finds who key id value act
finds who key id value (Call node inc (Get name) (Found bytes)) is =
    let parts = and_parts (same_incarnation who (incarnation node inc)) (list_any (λ (v : Version). bytes_eq key v.key && same_id id v.id && bytes_eq value v.value) (versions_in (record { name = name; bytes = bytes }))) is in
    let v = any_found (λ (v : Version). bytes_eq key v.key && same_id id v.id && bytes_eq value v.value) (versions_in (record { name = name; bytes = bytes })) parts.1 in
    let both = and_parts (bytes_eq key v.0.key && same_id id v.0.id) (bytes_eq value v.0.value) v.2 in
    let its = and_parts (bytes_eq key v.0.key) (same_id id v.0.id) both.0 in
    let named : name ≡ version_name key id =
    read-name name (λ (w : Version). version_name w.key w.id) (version_of bytes) v.0 v.1
    ∙ (ap (λ (k : List ℕ). version_name k v.0.id) (sym (same_bytes key v.0.key its.0)) ∙ ap (λ (i : TxnId). version_name key i) (sym (same_ids id v.0.id its.1))) in
    record {
      bytes = bytes;
      is = ap (λ (w : Incarnation). Call w.node w.inc (Get name) (Found bytes)) (sym (same_who who (incarnation node inc) parts.0)) ∙ ap (λ (n : List ℕ). Call who.node who.inc (Get n) (Found bytes)) named;
      version = v.0;
      reads = subst (λ (n : List ℕ). In v.0 (versions_in (record { name = n; bytes = bytes }))) named v.1;
      its_value = same_bytes value v.0.value both.1;
    }
finds who key id value act is = absurd (false≢true is)

-- a get of a name shows what it found
pub get_shows : (name : List ℕ) (node inc : ℕ) (bytes : List ℕ) → effect_of name (Call node inc (Get name) (Found bytes)) ≡ Shows (Some bytes)
get_shows name node inc bytes = ap (λ (t : Bool). sight_effect (if t then Some (Some bytes) else None)) (bytes_eq-refl name)

-- a name holds one version
pub one_version : (key : List ℕ) (id : TxnId) (value : List ℕ) (seen : List DoorEntry) (is : VersionIs key id value seen) (bytes : List ℕ) (v : Version) → Some bytes ≡ Some is.bytes → In v (versions_in (record { name = version_name key id; bytes = bytes })) → v.value ≡ value
one_version key id value seen is bytes v same reads =
    let its : bytes ≡ is.bytes = cc in
    ap (λ (w : Version). w.value) (read-one (version_name key id) (λ (w : Version). version_name w.key w.id) (version_of is.bytes) v is.version (subst (λ (b : List ℕ). In v (versions_in (record { name = version_name key id; bytes = b }))) its reads) is.reads) ∙ is.its_value

-- ---- values stay

module _ (door : List DoorEntry) (lawful : Lawful door) (key : List ℕ) (id : TxnId) (value : List ℕ) where
  -- a value that was true stays so
  pub stays_true : (n m : ℕ) → n ≤ m → TrueValue key id value (take n door) → TrueValue key id value (take m door)
  stays_true n m le is =
      let more = grows n m door le in
      let r = taken m door in
      let lawful_m : Lawful (take n door ++ more.0) = subst Lawful more.1 (lawful_begins (take m door) r.0 (subst Lawful r.1 lawful)) in
      let its : IsUuid is.commit.id.uuid = its_uuid (take n door) (lawful_begins (take n door) more.0 lawful_m) is.commit is.is_committed in
      let same = value_stays is.commit.id.uuid its is.commit key is.wrote_it (take n door) more.0 is.opened lawful_m (is.is_committed, refl) in
      record {
        commit = is.commit;
        is_committed = seen_later is.commit door n m le is.is_committed;
        its_id = is.its_id;
        wrote_it = is.wrote_it;
        opened = subst (λ (h : List DoorEntry). IsTrue (is_open h)) (sym more.1) (any_grows (λ (e : DoorEntry). opens e.act) (take n door) more.0 is.opened);
        told = ap (value_of key id) more.1 ∙ (subst (λ (i : TxnId). value_of key i (take n door ++ more.0) ≡ value_of key i (take n door)) is.its_id same ∙ is.told);
      }

-- a version has one value
pub one_value : (key : List ℕ) (id : TxnId) (v w : List ℕ) (seen : List DoorEntry) → TrueValue key id v seen → TrueValue key id w seen → v ≡ w
one_value key id v w seen one other = same (sym one.told ∙ other.told)
  where
    same : Some v ≡ Some w → v ≡ w
    same is = cc

-- so it is the answer that a get may give
pub answers_true : (key : List ℕ) (id : TxnId) (value : List ℕ) (seen : List DoorEntry) → TrueValue key id value seen → IsTrue (is_true_value key seen (Some (replies.Value id value)))
answers_true key id value seen is = subst (λ (o : Option (List ℕ)). IsTrue (option_eq bytes_eq o (Some value))) (sym is.told) (bytes_eq-refl value)
