-- What a copy's gets ask for: versions of commits that its pages of the records showed, and that it takes.
use Rattle.std.proofs.Common.{◌≡◌, ◌<◌, ◌≤◌, ◌+◌, ◌-◌, ℕ, Bool, true, false, suc, ◌&&◌, List, [], ◌∷◌, ◌++◌, refl, sym, ap, subst, ◌∙◌, ◌⊎◌, inl, inr, arith, length, length-append, map, take, fold, eq-or-lt_of_le}
use Rattle.std.specs.Prelude.{IsTrue, if◌then◌else◌, nat_le}
use Rattle.std.specs.Str.{bytes_eq}
use Rattle.std.proofs.lemmas.Bool.{and_from, and_parts, false≢true}
use Rattle.std.proofs.Math.Seq.{take-append_seam}
use Rattle.aft_keeper.specs.declared.keeper.KeeperAnswer.{KeeperAnswer}
use Rattle.aft_keeper.specs.declared.keeper.KeeperCall.TheVariants.{Get}
use Rattle.aft_keeper.specs.Contents.{name_lt}
use Rattle.aft_records.specs.declared.stored.Commit.{Commit}
use Rattle.aft_model.specs.declared.caller.By.{By}
use Rattle.aft_model.specs.declared.door.DoorAct.{DoorAct}
use Rattle.aft_model.specs.declared.door.DoorAct.TheVariants.{Call, Fence}
use Rattle.aft_model.specs.declared.door.DoorEntry.{DoorEntry}
use Rattle.aft_model.specs.declared.office.OfficeEntry.{OfficeEntry}
use Rattle.aft_model.specs.Membership.{Incarnation, incarnation, same_incarnation}
use Rattle.aft_model.specs.Readings.{version_name}
use Rattle.aft_model.proofs.Histories.{In, in_back, in_flat_map}
use Rattle.aft_model.proofs.Lists.{in_map}
use Rattle.aft_model.proofs.OneCommit.{same_who}
use Rattle.aft_model.proofs.Sights.{same_bytes}
use Rattle.aft_lines.specs.BackupCourse.{Got, copies, fence_course, finds_copy, last_door_place, names_to_copy, tells_copy, with_uuid_order}
use Rattle.aft_lines.specs.CourseWords.{ends_at_office}
use Rattle.aft_lines.specs.OrphanCourse.{VersionAt}
use Rattle.aft_lines.specs.Partings.{turns_before}
use Rattle.aft_lines.specs.Turns.{AtDoor, AtNode, AtOffice, Turn, moment}
use Rattle.law_turns.specs.Order.{moments_ascend}
use Rattle.law_runs.proofs.Opening.{head_least, tail_ascends}
use Rattle.law_damage.proofs.AtDoor.{Placed}
use Rattle.law_copies.proofs.Between.{parted}

-- ---- the order of turns

pub comes_first : (first second : List Turn) → IsTrue (moments_ascend (first ++ second)) → (one other : Turn) → In one first → In other second → moment one ≤ moment other
comes_first [] second up one other among there = absurd among
comes_first (turn ∷ first) second up one other (inl is) there = subst (λ (t : Turn). moment t ≤ moment other) (sym is) (head_least turn (first ++ second) up other (in_back other first second there))
comes_first (turn ∷ first) second up one other (inr later) there = comes_first first second (tail_ascends turn (first ++ second) up) one other later there

pub second_ascends : (first second : List Turn) → IsTrue (moments_ascend (first ++ second)) → IsTrue (moments_ascend second)
second_ascends [] second up = up
second_ascends (turn ∷ first) second up = second_ascends first second (tail_ascends turn (first ++ second) up)

pub first_ascends : (first second : List Turn) → IsTrue (moments_ascend (first ++ second)) → IsTrue (moments_ascend first)
first_ascends [] second up = refl
first_ascends (turn ∷ []) second up = refl
first_ascends (turn ∷ next ∷ first) second up = (let parts = and_parts (nat_le (moment turn) (moment next)) (moments_ascend ((next ∷ first) ++ second)) up in and_from _ _ parts.0 (first_ascends (next ∷ first) second parts.1))

-- the last place of some turns isn't below that of any of them
last_least : (place : ℕ) (line : List Turn) → IsTrue (moments_ascend line) → ((turn : Turn) → In turn line → place + place + 1 ≤ moment turn) → place ≤ last_door_place place line
last_least place [] up least = omega arith
last_least place (AtDoor p act ∷ line) up least =
    let here : place + place + 1 ≤ p + p + 1 = least (AtDoor p act) (inl refl) in
    let more : p ≤ last_door_place p line = last_least p line (tail_ascends (AtDoor p act) line up) (λ turn among. head_least (AtDoor p act) line up turn among) in
    omega arith
last_least place (AtNode node before entry ∷ line) up least = last_least place line (tail_ascends (AtNode node before entry) line up) (λ turn among. least turn (inr among))
last_least place (AtOffice before entry ∷ line) up least = last_least place line (tail_ascends (AtOffice before entry) line up) (λ turn among. least turn (inr among))

pub last_behind : (place : ℕ) (line : List Turn) → IsTrue (moments_ascend line) → (p : ℕ) (act : DoorAct) → In (AtDoor p act) line → p ≤ last_door_place place line
last_behind place [] up p act among = absurd among
last_behind place (AtDoor p' act' ∷ line) up p act (inl is) =
    let same : p ≡ p' = cc in
    subst (λ (n : ℕ). n ≤ last_door_place p' line) (sym same) (last_least p' line (tail_ascends (AtDoor p' act') line up) (λ turn among. head_least (AtDoor p' act') line up turn among))
last_behind place (AtDoor p' act' ∷ line) up p act (inr later) = last_behind p' line (tail_ascends (AtDoor p' act') line up) p act later
last_behind place (AtNode node before entry ∷ line) up p act (inl is) = absurd (cc)
last_behind place (AtNode node before entry ∷ line) up p act (inr later) = last_behind place line (tail_ascends (AtNode node before entry) line up) p act later
last_behind place (AtOffice before entry ∷ line) up p act (inl is) = absurd (cc)
last_behind place (AtOffice before entry ∷ line) up p act (inr later) = last_behind place line (tail_ascends (AtOffice before entry) line up) p act later

-- what stands before a rest of a line
pub before_rest : (first rest : List Turn) → turns_before rest (first ++ rest) ≡ first
before_rest first rest =
    let sum : length (first ++ rest) ≡ length first + length rest = length-append first rest in
    ap (λ (n : ℕ). take n (first ++ rest)) (let d : length (first ++ rest) - length rest ≡ length first = omega arith in d) ∙ take-append_seam first rest

-- ---- two entries of a line at the door, the first not later

same_place : {A : Type 0} (before : List A) (x : A) (after before' : List A) (x' : A) (after' : List A) → before ++ x ∷ after ≡ before' ++ x' ∷ after' → length before ≡ length before' → x ≡ x'
same_place [] x after [] x' after' same e = cc
same_place [] x after (y ∷ before') x' after' same e = absurd (omega arith)
same_place (y ∷ before) x after [] x' after' same e = absurd (omega arith)
same_place {A} (y ∷ before) x after (y' ∷ before') x' after' same e =
    same_place before x after before' x' after' (let t : before ++ x ∷ after ≡ before' ++ x' ∷ after' = cc in t) (let l : suc (length before) ≡ suc (length before') = e in omega arith)

pub parted_at : (door : List DoorEntry) (by by' : By) (place place' : ℕ) (act act' : DoorAct) (one : Placed door by place act) (other : Placed door by' place' act') → (act ≡ act' → ⊥) → place + place + 1 ≤ place' + place' + 1
    → (more : List DoorEntry) × (other.before ≡ one.before ++ one.entry ∷ more)
parted_at door by by' place place' act act' one other differ le =
    let le' : place ≤ place' = omega arith in
    let whole = sym one.parts ∙ other.parts in
    elim (eq-or-lt_of_le le') [
      | inl same ↦ absurd (differ (one.does ∙ (ap (λ (e : DoorEntry). e.act) (same_place one.before one.entry one.after other.before other.entry other.after whole (one.is_at ∙ (same ∙ sym other.is_at))) ∙ sym other.does)))
      | inr less ↦ parted one.before one.entry one.after other.before other.entry other.after whole (subst (λ (n : ℕ). n < length other.before) (sym one.is_at) (subst (λ (n : ℕ). place < n) (sym other.is_at) less))
    ]

-- ---- what is taken

in_order : (c d : Commit) (commits : List Commit) → In c (with_uuid_order commits d) → In c commits ⊎ (c ≡ d)
in_order c d [] (inl is) = inr is
in_order c d [] (inr none) = absurd none
in_order c d (other ∷ commits) among = cases (name_lt d.id.uuid other.id.uuid) among (λ later. in_order c d commits later)
  where
    cases : (t : Bool) → In c (if t then d ∷ other ∷ commits else other ∷ with_uuid_order commits d) → (In c (with_uuid_order commits d) → In c commits ⊎ (c ≡ d)) → In c (other ∷ commits) ⊎ (c ≡ d)
    cases true (inl is) rest = inr is
    cases true (inr later) rest = inl later
    cases false (inl is) rest = inl (inl is)
    cases false (inr later) rest = elim (rest later) [ inl before ↦ inl (inr before) | inr is ↦ inr is ]

pub in_taken : (c : Commit) (commits more : List Commit) → In c (fold with_uuid_order commits more) → In c commits ⊎ In c more
in_taken c commits [] among = inl among
in_taken c commits (d ∷ more) among = elim (in_taken c (with_uuid_order commits d) more among) [
  | inl before ↦ elim (in_order c d commits before) [ inl was ↦ inl was | inr is ↦ inr (inl is) ]
  | inr later ↦ inr (inr later)
]

order_in : (c d : Commit) (commits : List Commit) → In c commits ⊎ (c ≡ d) → In c (with_uuid_order commits d)
order_in c d [] (inl none) = absurd none
order_in c d [] (inr is) = inl is
order_in c d (other ∷ commits) among = cases (name_lt d.id.uuid other.id.uuid) among (λ some. order_in c d commits some)
  where
    cases : (t : Bool) → In c (other ∷ commits) ⊎ (c ≡ d) → (In c commits ⊎ (c ≡ d) → In c (with_uuid_order commits d)) → In c (if t then d ∷ other ∷ commits else other ∷ with_uuid_order commits d)
    cases true (inl was) rest = inr was
    cases true (inr is) rest = inl is
    cases false (inl (inl is)) rest = inl is
    cases false (inl (inr later)) rest = inr (rest (inl later))
    cases false (inr is) rest = inr (rest (inr is))

pub taken_in : (c : Commit) (commits more : List Commit) → In c commits ⊎ In c more → In c (fold with_uuid_order commits more)
taken_in c commits [] (inl was) = was
taken_in c commits [] (inr none) = absurd none
taken_in c commits (d ∷ more) (inl was) = taken_in c (with_uuid_order commits d) more (inl (order_in c d commits (inl was)))
taken_in c commits (d ∷ more) (inr (inl is)) = taken_in c (with_uuid_order commits d) more (inl (order_in c d commits (inr is)))
taken_in c commits (d ∷ more) (inr (inr later)) = taken_in c (with_uuid_order commits d) more (inr later)

-- a version to copy is one of a commit that is taken
pub record IsOf (commits : List Commit) (one : VersionAt) : Type 0 where
  pub commit : Commit
  pub taken : In commit commits
  pub key : List ℕ
  pub among : In key commit.keys
  pub is : one ≡ record { key = key; id = commit.id }

pub of_taken : (commits : List Commit) (one : VersionAt) → In one (names_to_copy commits) → IsOf commits one
of_taken commits one there =
    let c = in_flat_map (λ (c : Commit). map (λ (key : List ℕ). record { key = key; id = c.id }) c.keys) one commits there in
    let k = in_map (λ (key : List ℕ). record { key = key; id = c.0.id }) one c.0.keys c.2 in
    record { commit = c.0; taken = c.1; key = k.0; among = k.1; is = k.2 }

-- ---- the gets

-- a turn that gets one of some versions
pub record GetsOne (who : Incarnation) (versions : List VersionAt) (turn : Turn) : Type 0 where
  pub place : ℕ
  pub node : ℕ
  pub inc : ℕ
  pub one : VersionAt
  pub answer : KeeperAnswer
  pub among : In one versions
  pub is : turn ≡ AtDoor place (Call node inc (Get (version_name one.key one.id)) answer)
  pub by : who ≡ incarnation node inc

pub record Gets (who : Incarnation) (versions : List VersionAt) (line : List Turn) (got : Got) : Type 0 where
  pub made : List Turn
  pub splits : line ≡ made ++ got.behind
  pub each : (turn : Turn) → In turn made → GetsOne who versions turn

module _ (who : Incarnation) where
  gets_none : (versions : List VersionAt) (whole : Bool) (line : List Turn) → Gets who versions line (record { is_whole = whole; behind = line })
  gets_none versions whole line = record { made = []; splits = refl; each = λ turn among. absurd among }

  one_more : (one : VersionAt) (versions : List VersionAt) (turn : Turn) → GetsOne who versions turn → GetsOne who (one ∷ versions) turn
  one_more one versions turn gets = record { place = gets.place; node = gets.node; inc = gets.inc; one = gets.one; answer = gets.answer; among = inr gets.among; is = gets.is; by = gets.by }

  by_get : (one : VersionAt) (more : List VersionAt) (place node inc : ℕ) (name : List ℕ) (answer : KeeperAnswer) (line : List Turn) (rest : Got) → Gets who more line rest
      → (own : Bool) → (same_incarnation who (incarnation node inc) && bytes_eq (version_name one.key one.id) name) ≡ own → (finds : Bool)
      → Gets who (one ∷ more) (AtDoor place (Call node inc (Get name) answer) ∷ line) (if own then (if finds then rest else record { is_whole = false; behind = line }) else record { is_whole = false; behind = AtDoor place (Call node inc (Get name) answer) ∷ line })
  by_get one more place node inc name answer line rest its false e finds = gets_none (one ∷ more) false (AtDoor place (Call node inc (Get name) answer) ∷ line)
  by_get one more place node inc name answer line rest its true e finds = by_find finds
    where
      here : GetsOne who (one ∷ more) (AtDoor place (Call node inc (Get name) answer))
      here =
          let parts = and_parts (same_incarnation who (incarnation node inc)) (bytes_eq (version_name one.key one.id) name) e in
          record {
            place = place;
            node = node;
            inc = inc;
            one = one;
            answer = answer;
            among = inl refl;
            is = ap (λ (n : List ℕ). AtDoor place (Call node inc (Get n) answer)) (sym (same_bytes (version_name one.key one.id) name parts.1));
            by = same_who who (incarnation node inc) parts.0;
          }

      by_find : (finds : Bool) → Gets who (one ∷ more) (AtDoor place (Call node inc (Get name) answer) ∷ line) (if finds then rest else record { is_whole = false; behind = line })
      by_find true = record {
        made = AtDoor place (Call node inc (Get name) answer) ∷ its.made;
        splits = ap (λ (l : List Turn). AtDoor place (Call node inc (Get name) answer) ∷ l) its.splits;
        each = λ turn among. elim among [ inl is ↦ subst (GetsOne who (one ∷ more)) (sym is) here | inr later ↦ one_more one more turn (its.each turn later) ];
      }
      by_find false = record {
        made = AtDoor place (Call node inc (Get name) answer) ∷ [];
        splits = refl;
        each = λ turn among. elim among [ inl is ↦ subst (GetsOne who (one ∷ more)) (sym is) here | inr none ↦ absurd none ];
      }

  pub gets_of : (versions : List VersionAt) (line : List Turn) → Gets who versions line (copies who versions line)
  gets_of [] line = gets_none [] true line
  gets_of (one ∷ more) (AtDoor place (Call node inc (Get name) answer) ∷ line) =
      by_get one more place node inc name answer line (copies who more line) (gets_of more line) (same_incarnation who (incarnation node inc) && bytes_eq (version_name one.key one.id) name) refl (finds_copy one answer)
  gets_of (one ∷ more) line = gets_none (one ∷ more) false line

-- ---- the end

pub record Fenced (who : Incarnation) (line : List Turn) : Type 0 where
  pub place : ℕ
  pub node : ℕ
  pub inc : ℕ
  pub before : List OfficeEntry
  pub entry : OfficeEntry
  pub is : line ≡ AtDoor place (Fence node inc) ∷ AtOffice before entry ∷ []
  pub by : who ≡ incarnation node inc

pub fenced_end : (who : Incarnation) (whole : Bool) (line : List Turn) → IsTrue (fence_course who whole line) → Fenced who line
fenced_end who whole (AtDoor place (Fence node inc) ∷ line) follows = at_end line parts.1
  where
    parts : IsTrue (same_incarnation who (incarnation node inc)) × IsTrue (ends_at_office (tells_copy whole) line)
    parts = and_parts (same_incarnation who (incarnation node inc)) (ends_at_office (tells_copy whole) line) follows

    at_end : (line : List Turn) → IsTrue (ends_at_office (tells_copy whole) line) → Fenced who (AtDoor place (Fence node inc) ∷ line)
    at_end (AtOffice before entry ∷ []) is = record { place = place; node = node; inc = inc; before = before; entry = entry; is = refl; by = same_who who (incarnation node inc) parts.0 }
    at_end line is = absurd (false≢true is)
fenced_end who whole line follows = absurd (false≢true follows)
