-- An id commits once, over the history of the door: what holds of one UUID after each entry.
use Rattle.std.proofs.Common.{◌≡◌, ℕ, Bool, true, false, ◌||◌, not, List, [], ◌∷◌, ◌++◌, refl, sym, ap, subst, ◌∙◌, ◌⊎◌, inl, inr, eqb}
use Rattle.std.specs.Prelude.{IsTrue, IsFalse, Option, Some, None, if◌then◌else◌}
use Rattle.std.specs.List.{list_any, list_all}
use Rattle.std.specs.Option.{option_eq}
use Rattle.std.specs.Str.{bytes_eq}
use Rattle.std.proofs.lemmas.Bool.{and_parts, and_from, or_parts, eqb-true, eq-eqb, false≢true, both_ways}
use Rattle.std.proofs.lemmas.List.Sums.{fold-append}
use Rattle.aft_keeper.specs.declared.keeper.KeeperCall.TheVariants.{Get, Put}
use Rattle.aft_keeper.specs.declared.keeper.KeeperAnswer.{KeeperAnswer}
use Rattle.aft_keeper.specs.declared.keeper.KeeperAnswer.TheVariants.{Absent}
use Rattle.aft_records.specs.declared.stored.Commit.{Commit}
use Rattle.aft_records.specs.Reading.{commit_of}
use Rattle.aft_model.specs.declared.door.DoorAct.{DoorAct}
use Rattle.aft_model.specs.declared.door.DoorAct.TheVariants.{Call, Claim, Release}
use Rattle.aft_model.specs.declared.door.DoorEntry.{DoorEntry}
use Rattle.aft_model.specs.Claims.{is_held_by, claimant_after, claimant}
use Rattle.aft_records.specs.Commits.{has_uuid}
use Rattle.aft_model.specs.Committed.{committed_by, committed}
use Rattle.aft_model.specs.Course.{puts_record}
use Rattle.aft_model.specs.DoorKnowledge.{finds_absent, is_delete}
use Rattle.aft_model.specs.Evidence.{shown, shown_in}
use Rattle.aft_model.specs.History.{followed}
use Rattle.aft_model.specs.Honest.{may_be, agrees}
use Rattle.aft_model.specs.LegalDoor.{is_answered}
use Rattle.aft_model.specs.MayHold.{MayHold, Unknown, OneOf, or_else, seen, after_act, may_hold}
use Rattle.aft_model.specs.Membership.{Incarnation, incarnation, same_incarnation, the_office}
use Rattle.aft_model.specs.Readings.{record_name}
use Rattle.aft_model.proofs.Histories.{In, in_append, in_flat_map_snoc, any_found, any_from, followed_snoc}
use Rattle.aft_model.proofs.Sights.{Effect, same_bytes, bytes_eq-refl, read-one, given, commits_at, Wrote, effect}

-- ---- what a name may hold

-- whatever the name may hold has this, and it is known
abbrev pub Surely : (Option (List ℕ) → Type 0) → MayHold → Type 0
Surely P Unknown = ⊥
Surely P (OneOf outcomes) = (o : Option (List ℕ)) → In o outcomes → P o

Surely-one : (P : Option (List ℕ) → Type 0) (o : Option (List ℕ)) → P o → Surely P (OneOf (o ∷ []))
Surely-one P o holds p (inl here) = subst P (sym here) holds
Surely-one P o holds p (inr nowhere) = absurd nowhere

Surely-or_else : (P : Option (List ℕ) → Type 0) (may : MayHold) (o : Option (List ℕ)) → Surely P may → P o → Surely P (or_else may o)
Surely-or_else P Unknown o all holds = all
Surely-or_else P (OneOf os) o all holds = λ p among.
    elim (in_append p os (o ∷ []) among) [ inl before ↦ all p before | inr last ↦ Surely-one P o holds p last ]

same_outcome : (a b : Option (List ℕ)) → IsTrue (option_eq bytes_eq a b) → a ≡ b
same_outcome None None same = refl
same_outcome None (Some y) same = absurd (false≢true same)
same_outcome (Some x) None same = absurd (false≢true same)
same_outcome (Some x) (Some y) same = ap (λ z. Some z) (same_bytes x y same)

-- what a store shows that keeps what it acknowledged has what the name may hold surely has
shown_has : (P : Option (List ℕ) → Type 0) (may : MayHold) (o : Option (List ℕ)) → IsTrue (may_be may o) → Surely P may → P o
shown_has P Unknown o may all = absurd all
shown_has P (OneOf os) o may all =
    let found = any_found (option_eq bytes_eq o) os may in
    subst P (sym (same_outcome o found.0 found.2)) (all found.0 found.1)

pub may_hold-snoc : (name : List ℕ) (history : List DoorEntry) (entry : DoorEntry) → may_hold name (history ++ entry ∷ []) ≡ after_act name (may_hold name history) entry.act
may_hold-snoc name history entry = fold-append (λ (before : MayHold) (e : DoorEntry). after_act name before e.act) Unknown history (entry ∷ [])

pub claimant-snoc : (uuid : List ℕ) (history : List DoorEntry) (entry : DoorEntry) → claimant uuid (history ++ entry ∷ []) ≡ claimant_after uuid (claimant uuid history) entry.act
claimant-snoc uuid history entry = fold-append (λ (before : Option Incarnation) (e : DoorEntry). claimant_after uuid before e.act) None history (entry ∷ [])

-- ---- incarnations

pub same_who : (a b : Incarnation) → IsTrue (same_incarnation a b) → a ≡ b
same_who a b same =
    let parts = and_parts (eqb a.node b.node) (eqb a.inc b.inc) same in
    let who : ℕ → ℕ → Incarnation = λ n i. record { node = n; inc = i } in
    ap (λ n. who n a.inc) (eqb-true a.node b.node parts.0) ∙ ap (λ i. who b.node i) (eqb-true a.inc b.inc parts.1)

pub same_itself : (a : Incarnation) → IsTrue (same_incarnation a a)
same_itself a = and_from _ _ (eq-eqb a.node a.node refl) (eq-eqb a.inc a.inc refl)

pub held_same : (a b : Incarnation) (h : Option Incarnation) → IsTrue (is_held_by a h) → IsTrue (is_held_by b h) → a ≡ b
held_same a b None of_a of_b = absurd (false≢true of_a)
held_same a b (Some c) of_a of_b = same_who a c of_a ∙ sym (same_who b c of_b)

-- ---- one UUID

module _ (uuid : List ℕ) where
  -- whether an act is a claim of the UUID
  abbrev pub claimed_in : DoorAct → Bool
  claimed_in (Claim claimed node inc) = bytes_eq uuid claimed
  claimed_in act = false

  -- whether an act may change what an incarnation has found of the UUID
  abbrev pub disturbs : Incarnation → DoorEntry → Bool
  disturbs who entry = claimed_in entry.act || puts_record who uuid entry.act

  -- whether an incarnation has found no record, and since then nobody has claimed the UUID, and it has put no record
  abbrev pub is_clear : Incarnation → List DoorEntry → Bool
  is_clear who history = followed (λ entry. finds_absent who (record_name uuid) entry.act) (list_all (λ entry. not (disturbs who entry))) history

  -- an outcome is there, and no record of the UUID but that of this commit
  abbrev Only : Commit → Option (List ℕ) → Type 0
  Only c None = ⊥
  Only c (Some bytes) = (d : Commit) → In d (commits_at uuid (Some bytes)) → d.id.uuid ≡ uuid → d ≡ c

  -- an outcome is no record of the UUID
  abbrev Free : Option (List ℕ) → Type 0
  Free o = (d : Commit) → In d (commits_at uuid o) → d.id.uuid ≡ uuid → ⊥

  abbrev Unrecorded : List DoorEntry → Type 0
  Unrecorded history = (c : Commit) → In c (committed history) → c.id.uuid ≡ uuid → ⊥

  -- what holds after each entry
  pub record Once (history : List DoorEntry) : Type 0 where
    pub one : (c d : Commit) → In c (committed history) → In d (committed history) → c.id.uuid ≡ uuid → d.id.uuid ≡ uuid → c ≡ d
    pub kept : (c : Commit) → In c (committed history) → c.id.uuid ≡ uuid → Surely (Only c) (may_hold (record_name uuid) history)
    pub free : (who : Incarnation) → IsTrue (is_clear who history) → IsTrue (is_held_by who (claimant uuid history))
        → Unrecorded history × Surely Free (may_hold (record_name uuid) history)

  pub once_at_first : Once []
  once_at_first = record { one = λ c d a b of_c of_d. absurd a; kept = λ c a of. absurd a; free = λ who clear held. absurd (false≢true clear) }

  -- an outcome is the record of one commit
  one_at : (o : Option (List ℕ)) (c d : Commit) → In c (commits_at uuid o) → In d (commits_at uuid o) → c ≡ d
  one_at None c d a b = absurd a
  one_at (Some bytes) c d a b = read-one (record_name uuid) (λ (e : Commit). record_name e.id.uuid) (commit_of bytes) c d a b

  only_at : (o : Option (List ℕ)) (c : Commit) → In c (commits_at uuid o) → Only c o
  only_at None c among = among
  only_at (Some bytes) c among = λ d a of. one_at (Some bytes) d c a among

  only_gives : (o : Option (List ℕ)) (c d : Commit) → Only c o → In d (commits_at uuid o) → d.id.uuid ≡ uuid → d ≡ c
  only_gives None c d only a of = absurd a
  only_gives (Some bytes) c d only a of = only d a of

  -- a claim that stands with no new claim stood before
  held_before : (who : Incarnation) (before : Option Incarnation) (act : DoorAct) → IsFalse (claimed_in act) → IsTrue (is_held_by who (claimant_after uuid before act)) → IsTrue (is_held_by who before)
  held_before who before (Claim claimed node inc) unclaimed held =
      subst (λ t. IsTrue (is_held_by who (if t then Some (record { node = node; inc = inc }) else before))) unclaimed held
  held_before who before (Release released node inc) unclaimed held = cases _ held
    where
      cases : (t : Bool) → IsTrue (is_held_by who (if t then None else before)) → IsTrue (is_held_by who before)
      cases true held = absurd (false≢true held)
      cases false held = held
  held_before who before act unclaimed held = held

  -- a get that found the record's name absent
  record Found_absent (before : MayHold) (act : DoorAct) : Type 0 where
    sight : shown_in (record_name uuid) act ≡ Some None
    after : after_act (record_name uuid) before act ≡ OneOf (None ∷ [])
    nothing : given act ≡ []

  found_absent : (who : Incarnation) (before : MayHold) (act : DoorAct) → IsTrue (finds_absent who (record_name uuid) act) → Found_absent before act
  found_absent who before (Call node inc (Get got) Absent) found =
      let same = (and_parts _ (bytes_eq (record_name uuid) got) found).1 in
      record {
        sight = ap (λ b. if b then Some None else None) same;
        after = ap (λ b. seen (if b then Some None else None) before) same;
        nothing = refl;
      }
  found_absent who before act found = absurd (false≢true found)

  -- an incarnation holds the UUID, and has found no record of it and put none since
  abbrev pub MayPut : Incarnation → List DoorEntry → Type 0
  MayPut who history = IsTrue (is_clear who history) × IsTrue (is_held_by who (claimant uuid history))

  -- the office puts the record of a commit again
  abbrev pub PutsAgain : Incarnation → List DoorEntry → Commit → Type 0
  PutsAgain who history d = IsTrue (same_incarnation the_office who) × In d (committed history)

  -- a record of the UUID is put by who may, or put again
  abbrev pub PutsWhenClear : List DoorEntry → DoorAct → Type 0
  PutsWhenClear history act = (node inc : ℕ) (bytes : List ℕ) (answer : KeeperAnswer) → act ≡ Call node inc (Put (record_name uuid) bytes) answer
      → (d : Commit) → In d (commits_at uuid (Some bytes)) → d.id.uuid ≡ uuid
      → MayPut (incarnation node inc) history ⊎ PutsAgain (incarnation node inc) history d

  module _ (history : List DoorEntry) (entry : DoorEntry) (before : Once history)
      (honest : IsTrue (agrees (may_hold (record_name uuid) history) (shown (record_name uuid) entry))) (due : PutsWhenClear history entry.act) where
    abbrev may : MayHold
    may = may_hold (record_name uuid) history

    abbrev After : MayHold → Type 0
    After m = after_act (record_name uuid) may entry.act ≡ m

    seen_has : (P : Option (List ℕ) → Type 0) (o : Option (List ℕ)) → shown_in (record_name uuid) entry.act ≡ Some o → Surely P may → P o
    seen_has P o sight all = shown_has P may o (subst (λ s. IsTrue (agrees may s)) sight honest) all

    -- a put of the UUID's record finds it unrecorded, or is of the commit that was committed
    wrote_one : (w : Wrote uuid may entry.act) (c d : Commit) → In c (committed history) → c.id.uuid ≡ uuid → In d (commits_at uuid (Some w.bytes)) → d.id.uuid ≡ uuid → c ≡ d
    wrote_one w c d in_c of_c a of_d =
        elim (due w.node w.inc w.bytes w.answer w.is d a of_d) [
          | inl turn ↦ absurd ((before.free (incarnation w.node w.inc) turn.0 turn.1).0 c in_c of_c)
          | inr again ↦ before.one c d in_c again.1 of_c of_d
        ]

    -- what an entry proves beside a commit that was proved before it
    beside : (c d : Commit) → Effect uuid may entry.act
        → In c (committed history) → In d (given entry.act) → c.id.uuid ≡ uuid → d.id.uuid ≡ uuid → c ≡ d
    beside c d (inl quiet) in_c in_d of_c of_d = absurd (quiet.nothing d in_d of_d)
    beside c d (inr (inl s)) in_c in_d of_c of_d =
        sym (only_gives s.outcome c d (seen_has (Only c) s.outcome s.sight (before.kept c in_c of_c)) (s.from_it d in_d of_d) of_d)
    beside c d (inr (inr w)) in_c in_d of_c of_d = wrote_one w c d in_c of_c (w.from_it d in_d of_d) of_d

    together : (c d : Commit) → Effect uuid may entry.act
        → In c (given entry.act) → In d (given entry.act) → c.id.uuid ≡ uuid → d.id.uuid ≡ uuid → c ≡ d
    together c d (inl quiet) in_c in_d of_c of_d = absurd (quiet.nothing d in_d of_d)
    together c d (inr (inl s)) in_c in_d of_c of_d = one_at s.outcome c d (s.from_it c in_c of_c) (s.from_it d in_d of_d)
    together c d (inr (inr w)) in_c in_d of_c of_d = one_at (Some w.bytes) c d (w.from_it c in_c of_c) (w.from_it d in_d of_d)

    Surely-wrote : (P : Option (List ℕ) → Type 0) (w : Wrote uuid may entry.act) → Surely P may → P (Some w.bytes) → Surely P (after_act (record_name uuid) may entry.act)
    Surely-wrote P w all holds = cases w.after
      where
        cases : (After (OneOf (Some w.bytes ∷ []))) ⊎ ((After (or_else may (Some w.bytes))) × (given entry.act ≡ [])) → Surely P (after_act (record_name uuid) may entry.act)
        cases (inl one) = subst (Surely P) (sym one) (Surely-one P (Some w.bytes) holds)
        cases (inr more) = subst (Surely P) (sym more.0) (Surely-or_else P may (Some w.bytes) all holds)

    kept_old : (c : Commit) → Effect uuid may entry.act
        → In c (committed history) → c.id.uuid ≡ uuid → Surely (Only c) (after_act (record_name uuid) may entry.act)
    kept_old c (inl quiet) in_c of = subst (Surely (Only c)) (sym quiet.same) (before.kept c in_c of)
    kept_old c (inr (inl s)) in_c of =
        subst (Surely (Only c)) (sym s.after) (Surely-one (Only c) s.outcome (seen_has (Only c) s.outcome s.sight (before.kept c in_c of)))
    kept_old c (inr (inr w)) in_c of =
        Surely-wrote (Only c) w (before.kept c in_c of) (λ d a of_d. sym (wrote_one w c d in_c of a of_d))

    kept_new : (c : Commit) → Effect uuid may entry.act
        → In c (given entry.act) → c.id.uuid ≡ uuid → Surely (Only c) (after_act (record_name uuid) may entry.act)
    kept_new c (inl quiet) in_c of = absurd (quiet.nothing c in_c of)
    kept_new c (inr (inl s)) in_c of = subst (Surely (Only c)) (sym s.after) (Surely-one (Only c) s.outcome (only_at s.outcome c (s.from_it c in_c of)))
    kept_new c (inr (inr w)) in_c of = cases w.after
      where
        cases : (After (OneOf (Some w.bytes ∷ []))) ⊎ ((After (or_else may (Some w.bytes))) × (given entry.act ≡ [])) → Surely (Only c) (after_act (record_name uuid) may entry.act)
        cases (inl one) = subst (Surely (Only c)) (sym one) (Surely-one (Only c) (Some w.bytes) (only_at (Some w.bytes) c (w.from_it c in_c of)))
        cases (inr more) = absurd (subst (In c) more.1 in_c)

    -- an incarnation that found no record before, and did nothing that changes it
    still_free : (who : Incarnation) → Effect uuid may entry.act
        → IsTrue (is_held_by who (claimant uuid history)) → IsFalse (puts_record who uuid entry.act) → Unrecorded history → Surely Free may
        → ((d : Commit) → In d (given entry.act) → d.id.uuid ≡ uuid → ⊥) × Surely Free (after_act (record_name uuid) may entry.act)
    still_free who (inl quiet) held put_none was all = (quiet.nothing, subst (Surely Free) (sym quiet.same) all)
    still_free who (inr (inl s)) held put_none was all =
        let free : Free s.outcome = seen_has Free s.outcome s.sight all in
        (λ d a of. free d (s.from_it d a of) of, subst (Surely Free) (sym s.after) (Surely-one Free s.outcome free))
    still_free who (inr (inr w)) held put_none was all =
        let mine : (d : Commit) → In d (commits_at uuid (Some w.bytes)) → d.id.uuid ≡ uuid → MayPut (incarnation w.node w.inc) history → ⊥ = λ d a of turn.
        let it : incarnation w.node w.inc ≡ who = held_same (incarnation w.node w.inc) who (claimant uuid history) turn.1 held in
        let there : IsTrue (list_any (has_uuid uuid) (commits_at uuid (Some w.bytes))) = any_from (has_uuid uuid) d (commits_at uuid (Some w.bytes)) a (subst (λ u. IsTrue (bytes_eq uuid u)) (sym of) (bytes_eq-refl uuid)) in
        let puts : IsTrue (puts_record who uuid entry.act) =
        subst (λ act. IsTrue (puts_record who uuid act)) (sym w.is) (and_from _ _ (subst (λ (i : Incarnation). IsTrue (same_incarnation who i)) (sym it) (same_itself who)) there) in
        both_ways (puts_record who uuid entry.act) put_none puts in
        let free : Free (Some w.bytes) = λ d a of. elim (due w.node w.inc w.bytes w.answer w.is d a of) [ inl turn ↦ mine d a of turn | inr again ↦ was d again.1 of ] in
        (λ d a of. free d (w.from_it d a of) of, Surely-wrote Free w all free)

    free_after : (who : Incarnation) → Effect uuid may entry.act
        → IsTrue (is_clear who (history ++ entry ∷ [])) → IsTrue (is_held_by who (claimant uuid (history ++ entry ∷ [])))
        → Unrecorded (history ++ entry ∷ []) × Surely Free (after_act (record_name uuid) may entry.act)
    free_after who what clear held =
        elim (followed_snoc (λ (e : DoorEntry). finds_absent who (record_name uuid) e.act) (disturbs who) history entry clear) [
          | inl still ↦ (let quiet = or_parts (claimed_in entry.act) (puts_record who uuid entry.act) still.1 in
              let held_then = held_before who (claimant uuid history) entry.act quiet.0 (subst (λ h. IsTrue (is_held_by who h)) (claimant-snoc uuid history entry) held) in
              let was = before.free who still.0 held_then in
              let now = still_free who what held_then quiet.1 was.0 was.1 in
              (λ c among of. elim (in_flat_map_snoc (λ (e : DoorEntry). committed_by e) c history entry among) [ inl old ↦ was.0 c old of | inr new ↦ now.0 c new of ], now.1))
          | inr finds ↦ (let found = found_absent who may entry.act finds in (
            λ c among of. elim (in_flat_map_snoc (λ (e : DoorEntry). committed_by e) c history entry among) [
              | inl old ↦ seen_has (Only c) None found.sight (before.kept c old of)
              | inr new ↦ subst (In c) found.nothing new
            ],
            subst (Surely Free) (sym found.after) (Surely-one Free None (λ d among of. among)),
          ))
        ]

    pub once_after : IsTrue (is_answered entry.act) → IsTrue (not (is_delete entry.act)) → Once (history ++ entry ∷ [])
    once_after answered kept =
        let what = effect uuid may entry.act answered kept in
        let both = λ (c : Commit) (among : In c (committed (history ++ entry ∷ []))). in_flat_map_snoc (λ (e : DoorEntry). committed_by e) c history entry among in
        let now : after_act (record_name uuid) may entry.act ≡ may_hold (record_name uuid) (history ++ entry ∷ []) = sym (may_hold-snoc (record_name uuid) history entry) in
        record {
          one = λ c d in_c in_d of_c of_d. elim (both c in_c) [
            | inl old_c ↦ elim (both d in_d) [ inl old_d ↦ before.one c d old_c old_d of_c of_d | inr new_d ↦ beside c d what old_c new_d of_c of_d ]
            | inr new_c ↦ elim (both d in_d) [ inl old_d ↦ sym (beside d c what old_d new_c of_d of_c) | inr new_d ↦ together c d what new_c new_d of_c of_d ]
          ];
          kept = λ c in_c of. subst (Surely (Only c)) now (elim (both c in_c) [ inl old ↦ kept_old c what old of | inr new ↦ kept_new c what new of ]);
          free = λ who clear held. (let result = free_after who what clear held in (result.0, subst (Surely Free) now result.1));
        }
