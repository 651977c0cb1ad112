-- A text that is read as a name is its spelling.
use Rattle.std.proofs.Common.{◌≡◌, ℕ, ◌<◌, Bool, true, false, cond, eqb, nat_eq, List, [], ◌∷◌, ◌++◌, codes, Option, Some, None, Result, Ok, Err, refl, sym, ap, subst, ◌∙◌, inl, inr, ◌⊎◌}
use Rattle.std.specs.Prelude.{IfOk, ◌||◌}
use Rattle.std.specs.List.{list_any}
use Rattle.std.specs.Int.{w64, to_be_bytes, from_be_bytes}
use Rattle.std.specs.Cmp.Lexicographic.{pointwise, same_text}
use Rattle.std.proofs.lemmas.Bool.{eqb-true, or_parts}
use Rattle.std.proofs.lemmas.List.Elements.{All-from_get_or}
use Rattle.std.proofs.lemmas.List.Folds.{list_any-append}
use Rattle.std.proofs.lemmas.Nat.{be_bytes_8}
use Rattle.hex.specs.Hex.{encode_lower, decode_of, decode_sized}
use Rattle.hex.specs.declared.error.FromHexError.{FromHexError}
use Rattle.aft_id.specs.declared.txn_id.TxnId.{TxnId}
use Rattle.aft_id.specs.TxnId.{IsUuid}
use Rattle.aft_records.specs.declared.fault.NameFault.{NameFault}
use Rattle.aft_records.specs.declared.fault.NameFault.TheVariants.{BadName, Memory}
use Rattle.aft_records.specs.declared.name.Name.{Name}
use Rattle.aft_records.specs.declared.name.Name.TheVariants.{VersionOf, CommitOf, RetiredOf}
use Rattle.aft_records.specs.Limits.{is_time, IsTime, is_key, IsKey}
use Rattle.aft_records.specs.Names.{id_digits, name_text}
use Rattle.aft_records.specs.NameReading.{◌>>=◌, GivesName, is_upper, split_once, decoded, key_of, time_of, uuid_of, id_of, version_name, commit_name, retired_name, kind_name, name_of}
use Rattle.aft_records.specs.Stored.{IsWritableId, IsName}
use Rattle.aft_records.proofs.LimitTests.{time_below, key_limits}
use Rattle.aft_records.proofs.Splits.{some_of}
use Rattle.aft_records.proofs.Digits.{decoded_spells, sized_spells}

abbrev found : {A : Type 0} → A → Option A
found x = Some x

some_is : {A : Type 0} (x y : A) → found x ≡ found y → x ≡ y
some_is x y e = cc

test_some : {A : Type 0} (b : Bool) (x : Option A) (y : A) → cond b x None ≡ Some y → (b ≡ true) × (x ≡ Some y)
test_some true x y e = (refl, e)
test_some false x y e = absurd cc

-- a text is the two parts with the separator between them
split_is : (c : ℕ) (text : List ℕ) (p : List ℕ × List ℕ) → split_once c text ≡ Some p → text ≡ p.0 ++ (c ∷ p.1)
unfolding split_once
split_is c [] p e = absurd cc
split_is c (b ∷ bytes) p e =
    elim (way (eqb b c) (Some ([], bytes)) (split_once c bytes >>= λ parts. Some (b ∷ parts.0, parts.1)) (Some p) e) [
      | inl here ↦
          let same = eqb-true b c here.0 in
          subst (λ (q : List ℕ × List ℕ). b ∷ bytes ≡ q.0 ++ (c ∷ q.1)) (some_is ([], bytes) p here.1) (ap (λ (x : ℕ). x ∷ bytes) same)
      | inr later ↦
          let a = some_of (split_once c bytes) (λ parts. Some (b ∷ parts.0, parts.1)) p later.1 in
          let others = split_is c bytes a.0 a.1 in
          let made : List ℕ × List ℕ = (b ∷ a.0.0, a.0.1) in
          subst (λ (q : List ℕ × List ℕ). b ∷ bytes ≡ q.0 ++ (c ∷ q.1)) (some_is made p a.2) (ap (λ (x : List ℕ). b ∷ x) others)
    ] where
      way : {A : Type 0} (b : Bool) (x y z : Option A) → cond b x y ≡ z → ((b ≡ true) × (x ≡ z)) ⊎ ((b ≡ false) × (y ≡ z))
      way true x y z e = inl (refl, e)
      way false x y z e = inr (refl, e)

-- both parts of a text with no upper case letter have none
abbrev pub IsLow : List ℕ → Type 0
IsLow text = list_any is_upper text ≡ false

low_parts : (a : List ℕ) (c : ℕ) (b : List ℕ) → IsLow (a ++ (c ∷ b)) → IsLow a × IsLow b
low_parts a c b low =
    let p = or_parts (list_any is_upper a) (is_upper c || list_any is_upper b) (sym (list_any-append is_upper a (c ∷ b)) ∙ low) in
    (p.0, (or_parts (is_upper c) (list_any is_upper b) p.1).1)

decoded_is : (r : Result (List ℕ) FromHexError) (bytes : List ℕ) → decoded r ≡ Some bytes → r ≡ Ok bytes
decoded_is (Ok x) bytes e = ap Ok (some_is x bytes e)
decoded_is (Err f) bytes e = absurd cc

uuid_found : (text uuid : List ℕ) → IsLow text → uuid_of text ≡ Some uuid → (encode_lower uuid ≡ text) × IsUuid uuid
uuid_found text uuid low e =
    let s = sized_spells 16 text uuid (decoded_is (decode_sized text 16) uuid e) low in
    (s.0.spelled, (s.1, All-from_get_or (λ b. b < 256) uuid 0 (λ i lt. s.0.fits i)))

time_found : (text : List ℕ) (time : ℕ) → IsLow text → time_of text ≡ Some time → (encode_lower (to_be_bytes w64 time) ≡ text) × IsTime time
unfolding time_of
time_found text time low e =
    let a = some_of (decoded (decode_sized text 8)) (λ bytes. cond (is_time (from_be_bytes w64 bytes)) (Some (from_be_bytes w64 bytes)) None) time e in
    let g = test_some (is_time (from_be_bytes w64 a.0)) (Some (from_be_bytes w64 a.0)) time a.2 in
    let s = sized_spells 8 text a.0 (decoded_is (decode_sized text 8) a.0 a.1) low in
    let same = some_is (from_be_bytes w64 a.0) time g.1 in
    let back : to_be_bytes w64 time ≡ a.0 = be_bytes_8 a.0 time s.1 s.0.fits (sym same) in
    (ap encode_lower back ∙ s.0.spelled, subst IsTime same g.0)

key_found : (text key : List ℕ) → IsLow text → key_of text ≡ Some key → (encode_lower key ≡ text) × IsKey key
unfolding key_of
key_found text key low e =
    let a = some_of (decoded (decode_of text)) (λ key. cond (is_key key) (Some key) None) key e in
    let g = test_some (is_key a.0) (Some a.0) key a.2 in
    let s = decoded_spells text a.0 (decoded_is (decode_of text) a.0 a.1) low in
    subst (λ (k : List ℕ). (encode_lower k ≡ text) × IsKey k) (some_is a.0 key g.1) (s.spelled, key_limits a.0 g.0)

-- an id that was read
pub record IdIs (text : List ℕ) (id : TxnId) : Type 0 where
  pub spelled : text ≡ id_digits id
  pub writable : IsWritableId id
  pub timely : IsTime id.time

pub id_found : (text : List ℕ) (id : TxnId) → IsLow text → id_of text ≡ Some id → IdIs text id
unfolding id_of
id_found text id low e =
    let a = some_of (split_once 45 text) (λ parts. time_of parts.0 >>= λ time. uuid_of parts.1 >>= λ uuid. Some (record { time = time; uuid = uuid })) id e in
    let b = some_of (time_of a.0.0) (λ time. uuid_of a.0.1 >>= λ uuid. Some (record { time = time; uuid = uuid })) id a.2 in
    let c = some_of (uuid_of a.0.1) (λ uuid. Some (record { time = b.0; uuid = uuid })) id b.2 in
    let parts = split_is 45 text a.0 a.1 in
    let lows = low_parts a.0.0 45 a.0.1 (subst IsLow parts low) in
    let t = time_found a.0.0 b.0 lows.0 b.1 in
    let u = uuid_found a.0.1 c.0 lows.1 c.1 in
    let made : TxnId = record { time = b.0; uuid = c.0 } in
    let front : a.0.0 ++ (45 ∷ a.0.1) ≡ id_digits made = ap (λ (x : List ℕ). x ++ (45 ∷ a.0.1)) (sym t.0) ∙ ap (λ (x : List ℕ). encode_lower (to_be_bytes w64 b.0) ++ (45 ∷ x)) (sym u.0) in
    subst (λ (i : TxnId). IdIs text i) (some_is made id c.2) (record {
      spelled = parts ∙ front;
      writable = record { time = time_below b.0 t.1; uuid = u.1 };
      timely = t.1;
    })

version_found : (text : List ℕ) (name : Name) → IsLow text → version_name text ≡ Some name → IsName name × (codes "v/" ++ text ≡ name_text name)
unfolding version_name
version_found text name low e =
    let a = some_of (split_once 47 text) (λ parts. key_of parts.0 >>= λ key. id_of parts.1 >>= λ id. Some (VersionOf key id)) name e in
    let b = some_of (key_of a.0.0) (λ key. id_of a.0.1 >>= λ id. Some (VersionOf key id)) name a.2 in
    let c = some_of (id_of a.0.1) (λ id. Some (VersionOf b.0 id)) name b.2 in
    let parts = split_is 47 text a.0 a.1 in
    let lows = low_parts a.0.0 47 a.0.1 (subst IsLow parts low) in
    let k = key_found a.0.0 b.0 lows.0 b.1 in
    let i = id_found a.0.1 c.0 lows.1 c.1 in
    let front : text ≡ encode_lower b.0 ++ (47 ∷ id_digits c.0) = parts ∙ ap (λ (x : List ℕ). x ++ (47 ∷ a.0.1)) (sym k.0) ∙ ap (λ (x : List ℕ). encode_lower b.0 ++ (47 ∷ x)) i.spelled in
    subst (λ (n : Name). IsName n × (codes "v/" ++ text ≡ name_text n)) (some_is (VersionOf b.0 c.0) name c.2)
    (((k.1, i.writable), i.timely), ap (λ (x : List ℕ). codes "v/" ++ x) front)

commit_found : (text : List ℕ) (name : Name) → IsLow text → commit_name text ≡ Some name → IsName name × (codes "c/" ++ text ≡ name_text name)
unfolding commit_name
commit_found text name low e =
    let a = some_of (uuid_of text) (λ uuid. Some (CommitOf uuid)) name e in
    let u = uuid_found text a.0 low a.1 in
    subst (λ (n : Name). IsName n × (codes "c/" ++ text ≡ name_text n)) (some_is (CommitOf a.0) name a.2) ((u.1, tt), ap (λ (x : List ℕ). codes "c/" ++ x) (sym u.0))

retired_found : (text : List ℕ) (name : Name) → IsLow text → retired_name text ≡ Some name → IsName name × (codes "r/" ++ text ≡ name_text name)
unfolding retired_name
retired_found text name low e =
    let a = some_of (uuid_of text) (λ uuid. Some (RetiredOf uuid)) name e in
    let u = uuid_found text a.0 low a.1 in
    subst (λ (n : Name). IsName n × (codes "r/" ++ text ≡ name_text n)) (some_is (RetiredOf a.0) name a.2) ((u.1, tt), ap (λ (x : List ℕ). codes "r/" ++ x) (sym u.0))

-- how the test of one of three kinds went
kind_found : (kind rest : List ℕ) (name : Name) → IsLow rest → kind_name kind rest ≡ Some name → IsName name × (kind ++ (47 ∷ rest) ≡ name_text name)
unfolding kind_name
kind_found kind rest name low e =
    elim (way (pointwise nat_eq kind (codes "v")) (version_name rest) (cond (pointwise nat_eq kind (codes "c")) (commit_name rest) (cond (pointwise nat_eq kind (codes "r")) (retired_name rest) None)) name e) [
      | inl v ↦ rw (same_text kind (codes "v") (sym v.0)) (version_found rest name low v.1)
      | inr other ↦
          elim (way (pointwise nat_eq kind (codes "c")) (commit_name rest) (cond (pointwise nat_eq kind (codes "r")) (retired_name rest) None) name other) [
            | inl c ↦ rw (same_text kind (codes "c") (sym c.0)) (commit_found rest name low c.1)
            | inr last ↦
                let g = test_some (pointwise nat_eq kind (codes "r")) (retired_name rest) name last in
                rw (same_text kind (codes "r") (sym g.0)) (retired_found rest name low g.1)
          ]
    ] where
      way : (b : Bool) (x y : Option Name) (z : Name) → cond b x y ≡ Some z → ((b ≡ true) × (x ≡ Some z)) ⊎ (y ≡ Some z)
      way true x y z e = inl (refl, e)
      way false x y z e = inr e

name_found : (text : List ℕ) (name : Name) → name_of text ≡ Some name → IsName name × (text ≡ name_text name)
unfolding name_of
name_found text name e =
    let a = some_of (cond (list_any is_upper text) None (split_once 47 text)) (λ parts. kind_name parts.0 parts.1) name e in
    let g = low_some (list_any is_upper text) (split_once 47 text) a.0 a.1 in
    let parts = split_is 47 text a.0 g.1 in
    let lows = low_parts a.0.0 47 a.0.1 (subst IsLow parts g.0) in
    let k = kind_found a.0.0 a.0.1 name lows.1 a.2 in
    (k.0, parts ∙ k.1) where
      low_some : {A : Type 0} (b : Bool) (x : Option A) (y : A) → cond b None x ≡ Some y → (b ≡ false) × (x ≡ Some y)
      low_some true x y e = absurd cc
      low_some false x y e = (refl, e)

-- what a call gave is the name that the text spells
pub is_found : (text : List ℕ) (r : Result Name NameFault) → GivesName (λ n. n) r (name_of text) → IfOk r (λ name. IsName name × (text ≡ name_text name))
is_found text (Ok name) given = name_found text name given
is_found text (Err BadName) given = tt
is_found text (Err Memory) given = tt
