-- What an entry does to what the name of a record may hold, and which commits it proves.
use Rattle.std.proofs.Common.{◌≡◌, ℕ, Bool, true, false, not, List, [], ◌∷◌, ◌++◌, refl, sym, ap, subst, ◌∙◌, ◌⊎◌, inl, inr}
use Rattle.std.specs.Prelude.{IsTrue, Option, Some, None, Result, Ok, Err, if◌then◌else◌}
use Rattle.std.specs.Cmp.Lexicographic.{slice_cmp, bytes_decides}
use Rattle.std.specs.List.{flat_map}
use Rattle.std.specs.Ordering.{nat_cmp, is_lt}
use Rattle.std.specs.declared.cmp.Ordering.{Ordering}
use Rattle.std.specs.declared.cmp.Ordering.TheVariants.{Less, Equal, Greater}
use Rattle.std.specs.Str.{bytes_eq}
use Rattle.std.proofs.lemmas.Bool.{and_parts, true≢false, false≢true, false_from_ne_true}
use Rattle.std.proofs.lemmas.Cmp.{nat_list_cmp_total, tied_itself}
use Rattle.aft_keeper.specs.Contents.{name_lt, bytes_at}
use Rattle.aft_keeper.specs.declared.keeper.Pair.{Pair}
use Rattle.aft_keeper.specs.declared.keeper.KeeperCall.TheVariants.{Get, Put, Delete, Scan}
use Rattle.aft_keeper.specs.declared.keeper.KeeperAnswer.{KeeperAnswer}
use Rattle.aft_keeper.specs.declared.keeper.KeeperAnswer.TheVariants.{Failed, Absent, Found, Done, Page}
use Rattle.aft_records.specs.declared.fault.RecordFault.{RecordFault}
use Rattle.aft_records.specs.declared.stored.Commit.{Commit}
use Rattle.aft_records.specs.declared.stored.Version.{Version}
use Rattle.aft_records.specs.declared.stored.Marker.{Marker}
use Rattle.aft_records.specs.Reading.{commit_of}
use Rattle.aft_model.specs.declared.door.DoorAct.{DoorAct}
use Rattle.aft_model.specs.declared.door.DoorAct.TheVariants.{Call}
use Rattle.aft_model.specs.Evidence.{covers, shown_on_page, shown_in, pairs_in, stored_in}
use Rattle.aft_model.specs.MayHold.{MayHold, OneOf, or_else, seen, after_act}
use Rattle.aft_model.specs.LegalDoor.{ascends, is_answered}
use Rattle.aft_model.specs.DoorKnowledge.{is_delete}
use Rattle.aft_model.specs.Readings.{record_name, marker_name, version_name, id_of_marker, read_under, records_in}
use Rattle.aft_model.proofs.Histories.{In, in_append, in_flat_map}

pub same_bytes : (a b : List ℕ) → IsTrue (bytes_eq a b) → a ≡ b
same_bytes a b = (bytes_decides a b).0

pub bytes_eq-refl : (a : List ℕ) → bytes_eq a a ≡ true
bytes_eq-refl a = (bytes_decides a a).1 refl

-- ---- readings under a name

-- what was read stands under its name
pub read-name : {A : Type 0} (name : List ℕ) (its_name : A → List ℕ) (r : Result A RecordFault) (x : A) → In x (read_under name its_name r) → name ≡ its_name x
read-name name its_name (Err e) x among = absurd among
read-name {A} name its_name (Ok y) x among = cases (bytes_eq name (its_name y)) refl among
  where
    cases : (t : Bool) → bytes_eq name (its_name y) ≡ t → In x (if t then y ∷ [] else []) → name ≡ its_name x
    cases true same (inl is) = same_bytes name (its_name y) same ∙ ap its_name (sym is)
    cases true same (inr nowhere) = absurd nowhere
    cases false same nowhere = absurd nowhere

-- one thing is read
pub read-one : {A : Type 0} (name : List ℕ) (its_name : A → List ℕ) (r : Result A RecordFault) (x y : A)
    → In x (read_under name its_name r) → In y (read_under name its_name r) → x ≡ y
read-one name its_name (Err e) x y a b = absurd a
read-one {A} name its_name (Ok z) x y a b = cases (bytes_eq name (its_name z)) a b
  where
    cases : (t : Bool) → In x (if t then z ∷ [] else []) → In y (if t then z ∷ [] else []) → x ≡ y
    cases true (inl a) (inl b) = a ∙ sym b
    cases true (inl a) (inr nowhere) = absurd nowhere
    cases true (inr nowhere) b = absurd nowhere
    cases false nowhere b = absurd nowhere

-- no version and no marker stands under the name of a record
pub no_version : (uuid : List ℕ) (r : Result Version RecordFault) → read_under (record_name uuid) (λ (v : Version). version_name v.key v.id) r ≡ []
no_version uuid (Ok v) = refl
no_version uuid (Err e) = refl

pub no_marker : (uuid : List ℕ) (r : Result Marker RecordFault) → read_under (record_name uuid) (λ (m : Marker). marker_name (id_of_marker m).uuid) r ≡ []
no_marker uuid (Ok m) = refl
no_marker uuid (Err e) = refl

-- ---- pages

less : (o : Ordering) → IsTrue (is_lt o) → o ≡ Less
less Less lt = refl
less Equal lt = absurd (false≢true lt)
less Greater lt = absurd (false≢true lt)

name_lt-trans : (a b c : List ℕ) → IsTrue (name_lt a b) → IsTrue (name_lt b c) → IsTrue (name_lt a c)
name_lt-trans a b c ab bc =
    let below : slice_cmp nat_cmp a c ≡ Less = nat_list_cmp_total.trans a b c (less _ ab) (less _ bc) in
    subst (λ o. IsTrue (is_lt o)) (sym below) refl

name_lt-other : (a b : List ℕ) → IsTrue (name_lt a b) → bytes_eq b a ≡ false
name_lt-other a b ab = false_from_ne_true (bytes_eq b a) (λ same.
    let e : b ≡ a = same_bytes b a same in
    let tied : slice_cmp nat_cmp a a ≡ Equal = tied_itself nat_list_cmp_total a in
    let below : slice_cmp nat_cmp a a ≡ Less = subst (λ n. slice_cmp nat_cmp a n ≡ Less) e (less _ ab) in
    let no : Less ≡ Equal = sym below ∙ tied in cc)

head_below : (p q : Pair) (pairs : List Pair) → IsTrue (ascends (p ∷ pairs)) → In q pairs → IsTrue (name_lt p.name q.name)
head_below p q [] up among = absurd among
head_below p q (r ∷ pairs) up (inl here) =
    subst (λ z. IsTrue (name_lt p.name z.name)) (sym here) (and_parts (name_lt p.name r.name) (ascends (r ∷ pairs)) up).0
head_below p q (r ∷ pairs) up (inr later) =
    let parts = and_parts (name_lt p.name r.name) (ascends (r ∷ pairs)) up in
    name_lt-trans p.name r.name q.name parts.0 (head_below r q pairs parts.1 later)

ascends-tail : (p : Pair) (pairs : List Pair) → IsTrue (ascends (p ∷ pairs)) → IsTrue (ascends pairs)
ascends-tail p [] up = refl
ascends-tail p (q ∷ pairs) up = (and_parts (name_lt p.name q.name) (ascends (q ∷ pairs)) up).1

-- a page lists a name once
pub listed_once : (q : Pair) (pairs : List Pair) → IsTrue (ascends pairs) → In q pairs → bytes_at q.name pairs ≡ Some q.bytes
listed_once q [] up among = absurd among
listed_once q (p ∷ pairs) up (inl here) =
    let same : bytes_eq q.name p.name ≡ true = subst (λ z. bytes_eq q.name z.name ≡ true) here (bytes_eq-refl q.name) in
    ap (λ t. if t then Some p.bytes else bytes_at q.name pairs) same ∙ ap (λ z. Some z.bytes) (sym here)
listed_once q (p ∷ pairs) up (inr later) =
    ap (λ t. if t then Some p.bytes else bytes_at q.name pairs) (name_lt-other p.name q.name (head_below p q pairs up later))
    ∙ listed_once q pairs (ascends-tail p pairs up) later

-- ---- effects on the name of the record of a UUID

-- the commits that an act proves
abbrev pub given : DoorAct → List Commit
given act = flat_map records_in (stored_in act ++ pairs_in act)

module _ (uuid : List ℕ) where
  -- the commit whose record an outcome is, under the name
  abbrev pub commits_at : Option (List ℕ) → List Commit
  commits_at None = []
  commits_at (Some bytes) = records_in (record { name = record_name uuid; bytes = bytes })

  -- what is proved of this UUID is in an outcome
  abbrev pub GivenBy : DoorAct → Option (List ℕ) → Type 0
  GivenBy act outcome = (c : Commit) → In c (given act) → c.id.uuid ≡ uuid → In c (commits_at outcome)

  -- an act leaves the name alone
  pub record Quiet (before : MayHold) (act : DoorAct) : Type 0 where
    pub same : after_act (record_name uuid) before act ≡ before
    pub nothing : (c : Commit) → In c (given act) → c.id.uuid ≡ uuid → ⊥

  -- an act shows the name
  pub record Seen (before : MayHold) (act : DoorAct) : Type 0 where
    pub outcome : Option (List ℕ)
    pub sight : shown_in (record_name uuid) act ≡ Some outcome
    pub after : after_act (record_name uuid) before act ≡ OneOf (outcome ∷ [])
    pub from_it : GivenBy act outcome

  -- an act puts bytes under the name
  pub record Wrote (before : MayHold) (act : DoorAct) : Type 0 where
    pub node : ℕ
    pub inc : ℕ
    pub bytes : List ℕ
    pub answer : KeeperAnswer
    pub is : act ≡ Call node inc (Put (record_name uuid) bytes) answer
    pub from_it : GivenBy act (Some bytes)
    pub after : (after_act (record_name uuid) before act ≡ OneOf (Some bytes ∷ [])) ⊎ ((after_act (record_name uuid) before act ≡ or_else before (Some bytes)) × (given act ≡ []))

  abbrev pub Effect : MayHold → DoorAct → Type 0
  Effect before act = Quiet before act ⊎ (Seen before act ⊎ Wrote before act)

  -- a pair under another name gives no commit of this UUID
  other_name : (name bytes : List ℕ) → bytes_eq (record_name uuid) name ≡ false
      → (c : Commit) → In c (records_in (record { name = name; bytes = bytes })) → c.id.uuid ≡ uuid → ⊥
  other_name name bytes other c among of =
      let named : name ≡ record_name c.id.uuid = read-name name (λ (d : Commit). record_name d.id.uuid) (commit_of bytes) c among in
      let same : record_name uuid ≡ name = ap record_name (sym of) ∙ sym named in
      true≢false (sym (bytes_eq-refl (record_name uuid)) ∙ ap (bytes_eq (record_name uuid)) same ∙ other)

  this_name : (name bytes : List ℕ) → bytes_eq (record_name uuid) name ≡ true
      → (c : Commit) → In c (records_in (record { name = name; bytes = bytes })) → In c (commits_at (Some bytes))
  this_name name bytes same c among =
      subst (λ n. In c (records_in (record { name = n; bytes = bytes }))) (sym (same_bytes (record_name uuid) name same)) among

  single : (name bytes : List ℕ) (c : Commit) → In c (flat_map records_in (record { name = name; bytes = bytes } ∷ [])) → In c (records_in (record { name = name; bytes = bytes }))
  single name bytes c among = elim (in_append c (records_in (record { name = name; bytes = bytes })) [] among) [ inl here ↦ here | inr nowhere ↦ absurd nowhere ]

  get_absent : (before : MayHold) (node inc : ℕ) (got : List ℕ) (t : Bool) → bytes_eq (record_name uuid) got ≡ t → Effect before (Call node inc (Get got) Absent)
  get_absent before node inc got true is = inr (inl (record {
    outcome = None;
    sight = ap (λ b. if b then Some None else None) is;
    after = ap (λ b. seen (if b then Some None else None) before) is;
    from_it = λ c among of. absurd among;
  }))
  get_absent before node inc got false is = inl (record {
    same = ap (λ b. seen (if b then Some None else None) before) is;
    nothing = λ c among of. among;
  })

  get_found : (before : MayHold) (node inc : ℕ) (got bytes : List ℕ) (t : Bool) → bytes_eq (record_name uuid) got ≡ t → Effect before (Call node inc (Get got) (Found bytes))
  get_found before node inc got bytes true is = inr (inl (record {
    outcome = Some bytes;
    sight = ap (λ b. if b then Some (Some bytes) else None) is;
    after = ap (λ b. seen (if b then Some (Some bytes) else None) before) is;
    from_it = λ c among of. this_name got bytes is c (single got bytes c among);
  }))
  get_found before node inc got bytes false is = inl (record {
    same = ap (λ b. seen (if b then Some (Some bytes) else None) before) is;
    nothing = λ c among of. other_name got bytes is c (single got bytes c among) of;
  })

  put_done : (before : MayHold) (node inc : ℕ) (put bytes : List ℕ) (t : Bool) → bytes_eq (record_name uuid) put ≡ t → Effect before (Call node inc (Put put bytes) Done)
  put_done before node inc put bytes true is = inr (inr (record {
    node = node;
    inc = inc;
    bytes = bytes;
    answer = Done;
    is = ap (λ n. Call node inc (Put n bytes) Done) (sym (same_bytes (record_name uuid) put is));
    from_it = λ c among of. this_name put bytes is c (single put bytes c among);
    after = inl (ap (λ b. if b then OneOf (Some bytes ∷ []) else before) is);
  }))
  put_done before node inc put bytes false is = inl (record {
    same = ap (λ b. if b then OneOf (Some bytes ∷ []) else before) is;
    nothing = λ c among of. other_name put bytes is c (single put bytes c among) of;
  })

  put_failed : (before : MayHold) (node inc : ℕ) (put bytes : List ℕ) (t : Bool) → bytes_eq (record_name uuid) put ≡ t → Effect before (Call node inc (Put put bytes) Failed)
  put_failed before node inc put bytes true is = inr (inr (record {
    node = node;
    inc = inc;
    bytes = bytes;
    answer = Failed;
    is = ap (λ n. Call node inc (Put n bytes) Failed) (sym (same_bytes (record_name uuid) put is));
    from_it = λ c among of. absurd among;
    after = inr (ap (λ b. if b then or_else before (Some bytes) else before) is, refl);
  }))
  put_failed before node inc put bytes false is = inl (record {
    same = ap (λ b. if b then or_else before (Some bytes) else before) is;
    nothing = λ c among of. among;
  })

  -- what a page gives of this UUID it lists under the name
  on_page : (pairs : List Pair) → IsTrue (ascends pairs) → (c : Commit) → In c (flat_map records_in pairs) → c.id.uuid ≡ uuid
      → (q : Pair) × (bytes_at (record_name uuid) pairs ≡ Some q.bytes) × In c (commits_at (Some q.bytes))
  on_page pairs up c among of =
      let found = in_flat_map records_in c pairs among in
      let q = found.0 in
      let named : q.name ≡ record_name uuid = read-name q.name (λ (d : Commit). record_name d.id.uuid) (commit_of q.bytes) c found.2 ∙ ap record_name of in (
        q,
        subst (λ n. bytes_at n pairs ≡ Some q.bytes) named (listed_once q pairs up found.1),
        subst (λ n. In c (records_in (record { name = n; bytes = q.bytes }))) named found.2,
      )

  page_listed : (before : MayHold) (node inc : ℕ) (prefix after : List ℕ) (limit : ℕ) (pairs : List Pair) → IsTrue (ascends pairs)
      → (o : Option (List ℕ)) (t : Bool) → bytes_at (record_name uuid) pairs ≡ o → covers prefix after limit pairs (record_name uuid) ≡ t
      → Effect before (Call node inc (Scan prefix after limit) (Page pairs))
  page_listed before node inc prefix after limit pairs up (Some bytes) t is covered = inr (inl (record {
    outcome = Some bytes;
    sight = ap (λ o. shown_on_page o (covers prefix after limit pairs (record_name uuid))) is;
    after = ap (λ o. seen (shown_on_page o (covers prefix after limit pairs (record_name uuid))) before) is;
    from_it = λ c among of. (let found = on_page pairs up c among of in
        let same : found.0.bytes ≡ bytes = let e : Some found.0.bytes ≡ Some bytes = sym found.1 ∙ is in cc in
        subst (λ b. In c (commits_at (Some b))) same found.2);
  }))
  page_listed before node inc prefix after limit pairs up None true is covered = inr (inl (record {
    outcome = None;
    sight = ap (λ o. shown_on_page o (covers prefix after limit pairs (record_name uuid))) is ∙ ap (shown_on_page None) covered;
    after = ap (λ o. seen (shown_on_page o (covers prefix after limit pairs (record_name uuid))) before) is ∙ ap (λ t. seen (shown_on_page None t) before) covered;
    from_it = λ c among of. (let found = on_page pairs up c among of in
        let no : Some found.0.bytes ≡ None = sym found.1 ∙ is in cc);
  }))
  page_listed before node inc prefix after limit pairs up None false is covered = inl (record {
    same = ap (λ o. seen (shown_on_page o (covers prefix after limit pairs (record_name uuid))) before) is ∙ ap (λ t. seen (shown_on_page None t) before) covered;
    nothing = λ c among of. (let found = on_page pairs up c among of in
        let no : Some found.0.bytes ≡ None = sym found.1 ∙ is in cc);
  })

  -- an answered act that deletes nothing leaves the name alone, shows it, or puts it
  pub effect : (before : MayHold) (act : DoorAct) → IsTrue (is_answered act) → IsTrue (not (is_delete act)) → Effect before act
  effect before (Call node inc (Get got) Failed) answered kept = inl (record { same = refl; nothing = λ c among of. among })
  effect before (Call node inc (Get got) Absent) answered kept = get_absent before node inc got _ refl
  effect before (Call node inc (Get got) (Found bytes)) answered kept = get_found before node inc got bytes _ refl
  effect before (Call node inc (Put put bytes) Failed) answered kept = put_failed before node inc put bytes _ refl
  effect before (Call node inc (Put put bytes) Done) answered kept = put_done before node inc put bytes _ refl
  effect before (Call node inc (Delete deleted) answer) answered kept = absurd (false≢true kept)
  effect before (Call node inc (Scan prefix after limit) Failed) answered kept = inl (record { same = refl; nothing = λ c among of. among })
  effect before (Call node inc (Scan prefix after limit) (Page pairs)) answered kept =
      let page = and_parts _ _ answered in
      page_listed before node inc prefix after limit pairs (and_parts _ _ page.0).1 _ _ refl refl
  effect before (Call node inc asked answer) answered kept = absurd (false≢true answered)
  effect before act answered kept = inl (record { same = refl; nothing = λ c among of. among })
