-- What is left of a round of orphans.
use Rattle.std.proofs.Common.{◌≡◌, ◌++◌, ℕ, Bool, true, false, ◌&&◌, ◌||◌, not, eqb, List, [], ◌∷◌, length, map, refl, sym, ap, ◌∙◌}
use Rattle.std.specs.Prelude.{Option, Some, None, filter, if◌then◌else◌}
use Rattle.std.specs.List.{flat_map, list_any}
use Rattle.std.specs.Str.{bytes_eq}
use Rattle.std.proofs.lemmas.List.Folds.{list_any-append}
use Rattle.std.proofs.Math.Dec.{eqb-suc-zero}
use Rattle.aft_keeper.specs.declared.keeper.KeeperAnswer.{KeeperAnswer}
use Rattle.aft_keeper.specs.declared.keeper.KeeperAnswer.TheVariants.{Done, Failed}
use Rattle.aft_keeper.specs.declared.keeper.KeeperCall.TheVariants as calls
use Rattle.aft_keeper.specs.declared.keeper.Pair.{Pair}
use Rattle.aft_records.specs.Commits.{is_listed}
use Rattle.aft_model.specs.declared.door.DoorAct.{DoorAct}
use Rattle.aft_model.specs.declared.door.DoorAct.TheVariants as doors
use Rattle.aft_model.specs.declared.node.NodeEntry.{NodeEntry}
use Rattle.aft_model.specs.declared.office.OfficeAct.{OfficeAct}
use Rattle.aft_model.specs.declared.office.OfficeEntry.{OfficeEntry}
use Rattle.aft_model.specs.declared.reply.Reply.{Reply}
use Rattle.aft_model.specs.declared.script.Command.TheVariants.{Orphans}
use Rattle.aft_model.specs.DoorKnowledge.{ids_in}
use Rattle.aft_model.specs.Membership.{incarnation, same_incarnation, the_office}
use Rattle.aft_model.specs.Readings.{has_reading, marker_name, record_name, version_name}
use Rattle.aft_model.proofs.Sights.{bytes_eq-refl, same_bytes}
use Rattle.aft_lines.specs.Advance.{HasEnded, advance, behind_desk_look, behind_orphan_page, claimed_at_desk, desk_behind, held_for, if_so, in_round, is_led_to_end, leads_to, moved_at_desk, stands_if, told_at_desk, told_by_office}
use Rattle.aft_lines.specs.CourseWords.{Ends, ends_at_office, found_pair, is_over, office_answers, tells_no_memory}
use Rattle.aft_lines.specs.OrphanCourse.{FoundEnd, IsDeleted, IsFaulty, IsHeldBack, IsKept, IsLast, VersionAt, Way, behind_look, claims_found, deleted_as, deletes_found, found_on, frees, is_last, is_way, looks, orphan_course, round_ways, tells_orphans, tells_round, versions_prefix, versions_scan, ways, ways_behind, with_end, works_on_found}
use Rattle.aft_lines.specs.Progress.{AtDesk, HasLeft, Holding, Holds, IsOver, LookedOnce, LookedTwice, MustFree, MustTell, OrphanScan, Progress, Standing}
use Rattle.aft_lines.specs.ScanCourse.{scanned_from, versions_limit}
use Rattle.aft_lines.specs.Turns.{AtDoor, AtNode, AtOffice, Turn}
use Rattle.law_courses.proofs.Ends.{led, led-if, led-none, led-over}
use Rattle.law_courses.proofs.Tests.{and_true, or_false}
use Rattle.law_rounds.specs.Left.{behind_versions_scan, left_of_standing, scan_at, some_way}
use Rattle.law_rounds.proofs.Scans.{IsScanning, scanning}

-- ---- tests of lists

-- the standings that a test of ways leaves
any_filter : {A : Type 0} (test : A → Bool) (xs : List A) → not (eqb (length (filter test xs)) 0) ≡ list_any test xs
any_filter test [] = refl
any_filter test (x ∷ xs) = cases (test x) (any_filter test xs)
  where
    cases : (passed : Bool) → not (eqb (length (filter test xs)) 0) ≡ list_any test xs → not (eqb (length (if passed then x ∷ filter test xs else filter test xs)) 0) ≡ (passed || list_any test xs)
    cases true e = ap (λ (b : Bool). not b) (eqb-suc-zero (length (filter test xs)))
    cases false e = e

any_map : {A B : Type 0} (f : A → B) (test : B → Bool) (other : A → Bool) → ((x : A) → test (f x) ≡ other x) → (xs : List A) → list_any test (map f xs) ≡ list_any other xs
any_map f test other same [] = refl
any_map f test other same (x ∷ xs) = ap (λ (b : Bool). b || list_any test (map f xs)) (same x) ∙ ap (λ (b : Bool). other x || b) (any_map f test other same xs)

any_flat : {A B : Type 0} (f : A → List B) (test : B → Bool) (xs : List A) → list_any test (flat_map f xs) ≡ list_any (λ x. list_any test (f x)) xs
any_flat f test [] = refl
any_flat f test (x ∷ xs) = list_any-append test (f x) (flat_map f xs) ∙ ap (λ (b : Bool). list_any test (f x) || b) (any_flat f test xs)

or_assoc : (a b c : Bool) → ((a || b) || c) ≡ (a || (b || c))
or_assoc true b c = refl
or_assoc false b c = refl

or_itself : (a : Bool) → (a || a) ≡ a
or_itself true = refl
or_itself false = refl

same_both_ways : (a b : List ℕ) → bytes_eq a b ≡ bytes_eq b a
same_both_ways a b = cases (bytes_eq a b) refl (bytes_eq b a) refl
  where
    cases : (one : Bool) → bytes_eq a b ≡ one → (other : Bool) → bytes_eq b a ≡ other → one ≡ other
    cases true e true f = refl
    cases false e false f = refl
    cases true e false f = (let same = same_bytes a b e in let own = bytes_eq-refl b in absurd (no (sym f ∙ ap (λ (l : List ℕ). bytes_eq b l) same ∙ own)))
      where
        no : false ≡ true → ⊥
        no x = (cc)
    cases false e true f = (let same = same_bytes b a f in let own = bytes_eq-refl a in absurd (no (sym e ∙ ap (λ (l : List ℕ). bytes_eq a l) same ∙ own)))
      where
        no : false ≡ true → ⊥
        no x = (cc)

-- an end at the office is its turn, and nothing behind it
end_parts : (test : OfficeAct → Option Reply → Bool) (turn : Turn) (line : List Turn) → ends_at_office test (turn ∷ line) ≡ (ends_at_office test (turn ∷ []) && is_over line)
end_parts test (AtDoor place act) line = refl
end_parts test (AtNode node before entry) line = refl
end_parts test (AtOffice before entry) [] = sym (and_true _)
end_parts test (AtOffice before entry) (next ∷ line) = sym (no (test entry.act entry.answer))
  where
    no : (b : Bool) → (b && false) ≡ false
    no true = refl
    no false = refl

-- ---- where a standing leads

-- whether turns lead from one way to stand to the end
abbrev leads_out : Standing → List Turn → Bool
leads_out standing [] = false
leads_out standing (turn ∷ line) = told_at_desk turn standing && is_over line || list_any (λ next. leads_out next line) (moved_at_desk turn standing)

-- the ways to stand at a turn, if a test is passed
out_if : (passed : Bool) (standing : Standing) (line : List Turn) → list_any (λ next. leads_out next line) (stands_if passed standing) ≡ (passed && leads_out standing line)
out_if true standing line = or_false _
out_if false standing line = refl

-- no standing answers or moves at a node, and none moves at the office
still_at_node : (node : ℕ) (before : List NodeEntry) (entry : NodeEntry) (standing : Standing) → moved_at_desk (AtNode node before entry) standing ≡ []
still_at_node node before entry (HasLeft left) = refl
still_at_node node before entry (Holds held) = refl
still_at_node node before entry (LookedOnce held) = refl
still_at_node node before entry (LookedTwice held) = refl
still_at_node node before entry (MustFree goes_on held) = refl
still_at_node node before entry MustTell = refl

still_at_office : (before : List OfficeEntry) (entry : OfficeEntry) (standing : Standing) → moved_at_desk (AtOffice before entry) standing ≡ []
still_at_office before entry (HasLeft left) = refl
still_at_office before entry (Holds held) = refl
still_at_office before entry (LookedOnce held) = refl
still_at_office before entry (LookedTwice held) = refl
still_at_office before entry (MustFree goes_on held) = refl
still_at_office before entry MustTell = refl

silent_at_door : (place : ℕ) (act : DoorAct) (standing : Standing) → told_at_desk (AtDoor place act) standing ≡ false
silent_at_door place act (HasLeft []) = refl
silent_at_door place act (HasLeft (one ∷ more)) = refl
silent_at_door place act (Holds held) = refl
silent_at_door place act (LookedOnce held) = refl
silent_at_door place act (LookedTwice held) = refl
silent_at_door place act (MustFree goes_on held) = refl
silent_at_door place act MustTell = refl

none_moved : (turn : Turn) → ((standing : Standing) → moved_at_desk turn standing ≡ []) → (standings : List Standing) → flat_map (moved_at_desk turn) standings ≡ []
none_moved turn still [] = refl
none_moved turn still (standing ∷ standings) = ap (λ (l : List Standing). l ++ flat_map (moved_at_desk turn) standings) (still standing) ∙ none_moved turn still standings

none_told : (turn : Turn) → ((standing : Standing) → told_at_desk turn standing ≡ false) → (standings : List Standing) → list_any (told_at_desk turn) standings ≡ false
none_told turn silent [] = refl
none_told turn silent (standing ∷ standings) = ap (λ (b : Bool). b || list_any (told_at_desk turn) standings) (silent standing) ∙ none_told turn silent standings

-- some standing leads out by its answer where one answers, and by a move
any_out : (turn : Turn) (line : List Turn) (standings : List Standing)
    → list_any (λ standing. leads_out standing (turn ∷ line)) standings ≡ (list_any (told_at_desk turn) standings && is_over line || list_any (λ next. leads_out next line) (flat_map (moved_at_desk turn) standings))
any_out turn line [] = refl
any_out turn line (standing ∷ standings) =
    ap (λ (b : Bool). leads_out standing (turn ∷ line) || b) (any_out turn line standings)
    ∙ spread (told_at_desk turn standing) (is_over line) (list_any (λ next. leads_out next line) (moved_at_desk turn standing)) (list_any (told_at_desk turn) standings) (list_any (λ next. leads_out next line) (flat_map (moved_at_desk turn) standings))
    ∙ ap (λ (b : Bool). (told_at_desk turn standing || list_any (told_at_desk turn) standings) && is_over line || b) (sym (list_any-append (λ next. leads_out next line) (moved_at_desk turn standing) (flat_map (moved_at_desk turn) standings)))
  where
    spread : (told over moved any_told any_moved : Bool) → ((told && over || moved) || (any_told && over || any_moved)) ≡ ((told || any_told) && over || (moved || any_moved))
    spread true true moved any_told any_moved = refl
    spread true false true any_told any_moved = refl
    spread true false false true any_moved = refl
    spread true false false false any_moved = refl
    spread false true true true any_moved = refl
    spread false false true true any_moved = refl
    spread false over true false any_moved = refl
    spread false over false any_told any_moved = refl

module _ (key nodes : List ℕ) (ends : Ends) where
  abbrev step : Progress → Turn → Option Progress
  step = advance (Orphans key) nodes ends

  abbrev at : Option Progress → List Turn → Bool
  at position line = led step (λ turn. refl) (λ a turn. refl) position line

  -- ---- a round leads to the end where one of its ways to stand does

  round_out : (line : List Turn) (desk : Option AtDesk) (standings : List Standing) → at (in_round desk standings) line ≡ list_any (λ standing. leads_out standing line) standings
  round_out [] desk [] = refl
  round_out [] desk (standing ∷ standings) = sym (nobody standings)
    where
      nobody : (all : List Standing) → list_any (λ one. leads_out one []) all ≡ false
      nobody [] = refl
      nobody (one ∷ all) = nobody all
  round_out (turn ∷ line) desk [] = led-none step (λ t. refl) (λ a t. refl) line
  round_out (turn ∷ line) desk (standing ∷ standings) =
      by_turn turn (standing ∷ standings) (round_out line) ∙ sym (any_out turn line (standing ∷ standings))
    where
      by_turn : (t : Turn) (all : List Standing) → ((d : Option AtDesk) (some : List Standing) → at (in_round d some) line ≡ list_any (λ one. leads_out one line) some)
          → at (if list_any (told_at_desk t) all then Some IsOver else in_round (desk_behind desk t) (flat_map (moved_at_desk t) all)) line
          ≡ (list_any (told_at_desk t) all && is_over line || list_any (λ next. leads_out next line) (flat_map (moved_at_desk t) all))
      by_turn (AtOffice before entry) all go_on =
          ap (λ (l : List Standing). at (if list_any (told_at_desk (AtOffice before entry)) all then Some IsOver else in_round desk l) line) (none_moved (AtOffice before entry) (still_at_office before entry) all)
          ∙ told (list_any (told_at_desk (AtOffice before entry)) all)
          ∙ ap (λ (l : List Standing). list_any (told_at_desk (AtOffice before entry)) all && is_over line || list_any (λ next. leads_out next line) l) (sym (none_moved (AtOffice before entry) (still_at_office before entry) all))
        where
          told : (b : Bool) → at (if b then Some IsOver else None) line ≡ (b && is_over line || false)
          told true = led-over step (λ t. refl) (λ a t. refl) line ∙ sym (or_false _)
          told false = led-none step (λ t. refl) (λ a t. refl) line
      by_turn (AtNode node before entry) all go_on =
          ap (λ (l : List Standing). at (if list_any (told_at_desk (AtNode node before entry)) all then Some IsOver else in_round desk l) line) (none_moved (AtNode node before entry) (still_at_node node before entry) all)
          ∙ told (list_any (told_at_desk (AtNode node before entry)) all)
          ∙ ap (λ (l : List Standing). list_any (told_at_desk (AtNode node before entry)) all && is_over line || list_any (λ next. leads_out next line) l) (sym (none_moved (AtNode node before entry) (still_at_node node before entry) all))
        where
          told : (b : Bool) → at (if b then Some IsOver else None) line ≡ (b && is_over line || false)
          told true = led-over step (λ t. refl) (λ a t. refl) line ∙ sym (or_false _)
          told false = led-none step (λ t. refl) (λ a t. refl) line
      by_turn (AtDoor place act) all go_on =
          ap (λ (b : Bool). at (if b then Some IsOver else in_round (desk_behind desk (AtDoor place act)) (flat_map (moved_at_desk (AtDoor place act)) all)) line) (none_told (AtDoor place act) (silent_at_door place act) all)
          ∙ go_on (desk_behind desk (AtDoor place act)) (flat_map (moved_at_desk (AtDoor place act)) all)
          ∙ ap (λ (b : Bool). b && is_over line || list_any (λ next. leads_out next line) (flat_map (moved_at_desk (AtDoor place act)) all)) (sym (none_told (AtDoor place act) (silent_at_door place act) all))

  -- ---- the ways of the course

  module _ (up : ends.is_shut_out the_office 0 ≡ false) where
    -- behind an end
    behind_end : (end : FoundEnd) (go_on : List Turn → List Way) (line : List Turn) → some_way (ways_behind end go_on line) ≡ (if is_last end then ends_at_office (tells_round false) line else some_way (go_on line))
    behind_end IsLast go_on line = or_false _
    behind_end IsDeleted go_on line = any_map (with_end IsDeleted) is_way is_way (λ way. refl) (go_on line)
    behind_end IsKept go_on line = any_map (with_end IsKept) is_way is_way (λ way. refl) (go_on line)
    behind_end IsHeldBack go_on line = any_map (with_end IsHeldBack) is_way is_way (λ way. refl) (go_on line)
    behind_end IsFaulty go_on line = any_map (with_end IsFaulty) is_way is_way (λ way. refl) (go_on line)

    telling : (line : List Turn) → leads_out MustTell line ≡ ends_at_office (tells_round false) line
    telling [] = refl
    telling (turn ∷ line) = or_false _ ∙ sym (end_parts (tells_round false) turn line)

    module _ (held : Holding) (go_on : List Turn → List Way) (leads : (line : List Turn) → some_way (go_on line) ≡ leads_out (HasLeft held.rest) line) where
      -- without its release a claim is let go nowhere
      not_freed : (end : FoundEnd) (line : List Turn) → some_way (if ends.is_shut_out the_office 0 then ways_behind end go_on line else []) ≡ false
      not_freed end line = ap (λ (b : Bool). some_way (if b then ways_behind end go_on line else [])) up

      freed : (end : FoundEnd) (line : List Turn) → some_way (frees ends held.one end go_on line) ≡ leads_out (MustFree (not (is_last end)) held) line
      freed end [] = not_freed end []
      freed end (AtDoor place (doors.Release uuid node inc) ∷ line) = cases (same_incarnation the_office (incarnation node inc) && bytes_eq held.one.id.uuid uuid) (is_last end) (behind_end end go_on line)
        where
          cases : (own last : Bool) → some_way (ways_behind end go_on line) ≡ (if last then ends_at_office (tells_round false) line else some_way (go_on line))
              → some_way (if own then ways_behind end go_on line else []) ≡ list_any (λ next. leads_out next line) (stands_if own (if not last then HasLeft held.rest else MustTell))
          cases true true e = e ∙ sym (telling line) ∙ sym (or_false _)
          cases true false e = e ∙ leads line ∙ sym (or_false _)
          cases false last e = refl
      freed end (turn ∷ line) = not_freed end (turn ∷ line)

      -- ---- the delete

      deleted_end : (answer : KeeperAnswer) → is_last (deleted_as answer) ≡ false
      deleted_end Done = refl
      deleted_end answer = refl

      deleted_otherwise : (line : List Turn) → some_way (frees ends held.one IsLast go_on line ++ (if ends.is_shut_out the_office 0 then frees ends held.one IsHeldBack go_on line else [])) ≡ leads_out (MustFree false held) line
      deleted_otherwise line =
          list_any-append is_way (frees ends held.one IsLast go_on line) (if ends.is_shut_out the_office 0 then frees ends held.one IsHeldBack go_on line else [])
          ∙ ap (λ (b : Bool). some_way (frees ends held.one IsLast go_on line) || some_way (if b then frees ends held.one IsHeldBack go_on line else [])) up
          ∙ or_false _ ∙ freed IsLast line

      deleted : (line : List Turn) → some_way (deletes_found ends held.one go_on line) ≡ leads_out (LookedTwice held) line
      deleted [] = deleted_otherwise []
      deleted (AtDoor place (doors.Call node inc (calls.Delete name) answer) ∷ line) = cases (same_incarnation the_office (incarnation node inc) && bytes_eq (version_name held.one.key held.one.id) name)
        where
          cases : (own : Bool) → some_way (if own then frees ends held.one (deleted_as answer) go_on line else []) ≡ list_any (λ next. leads_out next line) (stands_if own (MustFree true held))
          cases true = freed (deleted_as answer) line ∙ ap (λ (b : Bool). leads_out (MustFree (not b) held) line) (deleted_end answer) ∙ sym (or_false _)
          cases false = refl
      deleted (turn ∷ line) = deleted_otherwise (turn ∷ line)

      -- ---- a look

      module _ (name : List ℕ) (next : List Turn → List Way) (position : Standing) (next_leads : (line : List Turn) → (some_way (next line) || some_way (frees ends held.one IsLast go_on line)) ≡ leads_out position line) where
        behind : (answer : KeeperAnswer) (line : List Turn) → some_way (behind_look ends held.one name answer next go_on line) ≡ leads_out (behind_desk_look held name position answer) line
        behind Failed line = freed IsFaulty line
        behind answer line = found (list_any (λ pair. is_listed held.one.id (ids_in pair)) (found_pair name answer)) (list_any (λ pair. not (has_reading pair)) (found_pair name answer))
          where
            found : (listed damaged : Bool)
                → some_way (if listed then frees ends held.one IsKept go_on line else if damaged then frees ends held.one IsLast go_on line else next line ++ frees ends held.one IsLast go_on line)
                ≡ leads_out (if listed then MustFree true held else if damaged then MustFree false held else position) line
            found true damaged = freed IsKept line
            found false true = freed IsLast line
            found false false = list_any-append is_way (next line) (frees ends held.one IsLast go_on line) ∙ next_leads line

        looked_call : (place node inc : ℕ) (got : List ℕ) (answer : KeeperAnswer) (line : List Turn)
            → some_way (looks ends held.one name next go_on (AtDoor place (doors.Call node inc (calls.Get got) answer) ∷ line))
            ≡ list_any (λ standing. leads_out standing line) (stands_if (same_incarnation the_office (incarnation node inc) && bytes_eq name got) (behind_desk_look held name position answer))
        looked_call place node inc got answer line = cases (same_incarnation the_office (incarnation node inc) && bytes_eq name got)
          where
            cases : (own : Bool) → some_way (if own then behind_look ends held.one name answer next go_on line else []) ≡ list_any (λ standing. leads_out standing line) (stands_if own (behind_desk_look held name position answer))
            cases true = behind answer line ∙ sym (or_false _)
            cases false = refl

      -- behind the look at the marker, or the release for want of memory
      deleted_or_freed : (line : List Turn) → (some_way (deletes_found ends held.one go_on line) || some_way (frees ends held.one IsLast go_on line)) ≡ leads_out (LookedTwice held) line
      deleted_or_freed [] = ap (λ (b : Bool). some_way (deletes_found ends held.one go_on []) || b) (freed IsLast []) ∙ or_false _ ∙ deleted []
      deleted_or_freed (AtDoor place (doors.Call node inc (calls.Delete name) answer) ∷ line) =
          ap (λ (b : Bool). some_way (deletes_found ends held.one go_on (AtDoor place (doors.Call node inc (calls.Delete name) answer) ∷ line)) || b) (freed IsLast (AtDoor place (doors.Call node inc (calls.Delete name) answer) ∷ line))
          ∙ or_false _ ∙ deleted (AtDoor place (doors.Call node inc (calls.Delete name) answer) ∷ line)
      deleted_or_freed (turn ∷ line) =
          ap (λ (b : Bool). b || some_way (frees ends held.one IsLast go_on (turn ∷ line))) (deleted (turn ∷ line))
          ∙ ap (λ (b : Bool). leads_out (LookedTwice held) (turn ∷ line) || b) (freed IsLast (turn ∷ line)) ∙ or_itself _

      looked_once : (line : List Turn) → some_way (looks ends held.one (marker_name held.one.id.uuid) (deletes_found ends held.one go_on) go_on line) ≡ leads_out (LookedOnce held) line
      looked_once [] = freed IsLast []
      looked_once (AtDoor place (doors.Call node inc (calls.Get got) answer) ∷ line) = looked_call (marker_name held.one.id.uuid) (deletes_found ends held.one go_on) (LookedTwice held) deleted_or_freed place node inc got answer line
      looked_once (turn ∷ line) = freed IsLast (turn ∷ line)

      looked_or_freed : (line : List Turn) → (some_way (looks ends held.one (marker_name held.one.id.uuid) (deletes_found ends held.one go_on) go_on line) || some_way (frees ends held.one IsLast go_on line)) ≡ leads_out (LookedOnce held) line
      looked_or_freed [] = ap (λ (b : Bool). some_way (looks ends held.one (marker_name held.one.id.uuid) (deletes_found ends held.one go_on) go_on []) || b) (freed IsLast []) ∙ or_false _ ∙ looked_once []
      looked_or_freed (AtDoor place (doors.Call node inc (calls.Get got) answer) ∷ line) =
          ap (λ (b : Bool). some_way (looks ends held.one (marker_name held.one.id.uuid) (deletes_found ends held.one go_on) go_on (AtDoor place (doors.Call node inc (calls.Get got) answer) ∷ line)) || b) (freed IsLast (AtDoor place (doors.Call node inc (calls.Get got) answer) ∷ line))
          ∙ or_false _ ∙ looked_once (AtDoor place (doors.Call node inc (calls.Get got) answer) ∷ line)
      looked_or_freed (turn ∷ line) =
          ap (λ (b : Bool). b || some_way (frees ends held.one IsLast go_on (turn ∷ line))) (looked_once (turn ∷ line))
          ∙ ap (λ (b : Bool). leads_out (LookedOnce held) (turn ∷ line) || b) (freed IsLast (turn ∷ line)) ∙ or_itself _

      holding : (line : List Turn) → some_way (works_on_found ends held.one go_on line) ≡ leads_out (Holds held) line
      holding [] = freed IsLast []
      holding (AtDoor place (doors.Call node inc (calls.Get got) answer) ∷ line) =
          looked_call (record_name held.one.id.uuid) (looks ends held.one (marker_name held.one.id.uuid) (deletes_found ends held.one go_on) go_on) (LookedOnce held) looked_or_freed place node inc got answer line
      holding (turn ∷ line) = freed IsLast (turn ∷ line)

    -- ---- the versions that are left

    nobody_claimed : (turn : Turn) (line : List Turn) → list_any (λ next. leads_out next line) (claimed_at_desk [] turn) ≡ false
    nobody_claimed (AtDoor place (doors.Claim uuid node inc)) line = cases (same_incarnation the_office (incarnation node inc))
      where
        cases : (own : Bool) → list_any (λ next. leads_out next line) (if own then held_for uuid [] else []) ≡ false
        cases true = refl
        cases false = refl
    nobody_claimed turn line = refl

    -- a claim, by whether the office makes it, and whether it is of this version's UUID
    claim_parts : (own its : Bool) (one : VersionAt) (more : List VersionAt) (uuid : List ℕ) (line : List Turn)
        → ((own && its && leads_out (Holds (record { one = one; rest = more })) line || list_any (λ next. leads_out next line) (if own then held_for uuid more else [])) || false)
        ≡ list_any (λ next. leads_out next line) (if own then (if its then Holds (record { one = one; rest = more }) ∷ held_for uuid more else held_for uuid more) else [])
    claim_parts true true one more uuid line = or_false _
    claim_parts true false one more uuid line = or_false _
    claim_parts false its one more uuid line = refl

    -- the ways of a claim
    claim_way : (own its : Bool) (one : VersionAt) (more : List VersionAt) (line : List Turn) → some_way (works_on_found ends one (ways ends more) line) ≡ leads_out (Holds (record { one = one; rest = more })) line
        → some_way (if own && its then works_on_found ends one (ways ends more) line else []) ≡ (own && its && leads_out (Holds (record { one = one; rest = more })) line)
    claim_way true true one more line e = e
    claim_way true false one more line e = refl
    claim_way false its one more line e = refl

    -- an answer where some versions are left tells the counts or not
    answers : (whole : Bool) (more : List VersionAt) (before : List OfficeEntry) (entry : OfficeEntry) (line : List Turn)
        → ((told_at_desk (AtOffice before entry) (HasLeft more) && is_over line || false) || ends_at_office (tells_round false) (AtOffice before entry ∷ line)) ≡ (office_answers entry.act entry.answer && is_over line || false)
    answers whole [] before entry [] = counts (office_answers entry.act entry.answer) (tells_no_memory entry.answer) (tells_orphans entry.answer)
      where
        counts : (alone short counted : Bool) → ((alone && (short || counted) && true || false) || alone && (short || not counted)) ≡ (alone && true || false)
        counts true true counted = refl
        counts true false true = refl
        counts true false false = refl
        counts false short counted = refl
    answers whole (one ∷ more) before entry [] = some (office_answers entry.act entry.answer) (tells_no_memory entry.answer || not (tells_orphans entry.answer))
      where
        some : (alone rest : Bool) → ((alone && true || false) || alone && rest) ≡ (alone && true || false)
        some true rest = refl
        some false rest = refl
    answers whole more before entry (turn ∷ line) = none (told_at_desk (AtOffice before entry) (HasLeft more)) (office_answers entry.act entry.answer)
      where
        none : (told alone : Bool) → ((told && false || false) || false) ≡ (alone && false || false)
        none true true = refl
        none true false = refl
        none false true = refl
        none false false = refl

    silent_at_node : (node : ℕ) (before : List NodeEntry) (entry : NodeEntry) (left : List VersionAt) → told_at_desk (AtNode node before entry) (HasLeft left) ≡ false
    silent_at_node node before entry [] = refl
    silent_at_node node before entry (one ∷ more) = refl

    quiet : (told over : Bool) → told ≡ false → ((told && over || false) || false) ≡ false
    quiet true over e = absurd (no e)
      where
        no : true ≡ false → ⊥
        no x = (cc)
    quiet false over e = refl

    pub left_leads : (left : List VersionAt) (line : List Turn) → some_way (ways ends left line) ≡ leads_out (HasLeft left) line
    left_leads [] [] = refl
    left_leads [] (turn ∷ line) =
        or_false _ ∙ end_parts (tells_round true) turn line ∙ sym (or_false _)
        ∙ ap (λ (b : Bool). ends_at_office (tells_round true) (turn ∷ []) && is_over line || b) (sym (nobody_claimed turn line))
    left_leads (one ∷ more) line =
        list_any-append is_way (claims_found ends one (ways ends more) line ++ ways_behind IsHeldBack (ways ends more) line) (ways_behind IsLast (ways ends more) line)
        ∙ ap (λ (b : Bool). b || some_way (ways_behind IsLast (ways ends more) line)) (list_any-append is_way (claims_found ends one (ways ends more) line) (ways_behind IsHeldBack (ways ends more) line))
        ∙ ap (λ (b : Bool). (some_way (claims_found ends one (ways ends more) line) || b) || some_way (ways_behind IsLast (ways ends more) line)) (behind_end IsHeldBack (ways ends more) line ∙ left_leads more line)
        ∙ ap (λ (b : Bool). (some_way (claims_found ends one (ways ends more) line) || leads_out (HasLeft more) line) || b) (behind_end IsLast (ways ends more) line)
        ∙ by_turn line (holding (record { one = one; rest = more }) (ways ends more) (left_leads more))
      where
        by_turn : (l : List Turn) → ((rest : List Turn) → some_way (works_on_found ends one (ways ends more) rest) ≡ leads_out (Holds (record { one = one; rest = more })) rest)
            → ((some_way (claims_found ends one (ways ends more) l) || leads_out (HasLeft more) l) || ends_at_office (tells_round false) l) ≡ leads_out (HasLeft (one ∷ more)) l
        by_turn [] works = refl
        by_turn (AtDoor place (doors.Claim uuid node inc) ∷ rest) works =
            ap (λ (b : Bool). (some_way (claims_found ends one (ways ends more) (AtDoor place (doors.Claim uuid node inc) ∷ rest)) || (b && is_over rest || list_any (λ next. leads_out next rest) (if same_incarnation the_office (incarnation node inc) then held_for uuid more else []))) || false)
            (silent_at_door place (doors.Claim uuid node inc) (HasLeft more))
            ∙ ap (λ (b : Bool). (b || list_any (λ next. leads_out next rest) (if same_incarnation the_office (incarnation node inc) then held_for uuid more else [])) || false)
            (claim_way (same_incarnation the_office (incarnation node inc)) (bytes_eq one.id.uuid uuid) one more rest (works rest))
            ∙ claim_parts (same_incarnation the_office (incarnation node inc)) (bytes_eq one.id.uuid uuid) one more uuid rest
            ∙ ap (λ (b : Bool). list_any (λ next. leads_out next rest) (if same_incarnation the_office (incarnation node inc) then (if b then Holds (record { one = one; rest = more }) ∷ held_for uuid more else held_for uuid more) else []))
            (same_both_ways one.id.uuid uuid)
        by_turn (AtDoor place act ∷ rest) works = quiet (told_at_desk (AtDoor place act) (HasLeft more)) (is_over rest) (silent_at_door place act (HasLeft more))
        by_turn (AtNode node before entry ∷ rest) works = quiet (told_at_desk (AtNode node before entry) (HasLeft more)) (is_over rest) (silent_at_node node before entry more)
        by_turn (AtOffice before entry ∷ rest) works = answers true more before entry rest

    -- ---- each way to stand

    pub standing_leads : (standing : Standing) (line : List Turn) → left_of_standing ends standing line ≡ leads_out standing line
    standing_leads (HasLeft left) line = left_leads left line
    standing_leads (Holds held) line = holding held (ways ends held.rest) (left_leads held.rest) line
    standing_leads (LookedOnce held) line = looked_once held (ways ends held.rest) (left_leads held.rest) line
    standing_leads (LookedTwice held) line = deleted held (ways ends held.rest) (left_leads held.rest) line
    standing_leads (MustFree true held) line = freed held (ways ends held.rest) (left_leads held.rest) IsKept line
    standing_leads (MustFree false held) line = freed held (ways ends held.rest) (left_leads held.rest) IsLast line
    standing_leads MustTell line = sym (telling line)

    pub in_round_leads : (desk : Option AtDesk) (standings : List Standing) (line : List Turn) → at (in_round desk standings) line ≡ list_any (λ standing. left_of_standing ends standing line) standings
    in_round_leads desk standings line = round_out line desk standings ∙ each standings
      where
        each : (all : List Standing) → list_any (λ one. leads_out one line) all ≡ list_any (λ one. left_of_standing ends one line) all
        each [] = refl
        each (one ∷ all) = ap (λ (b : Bool). b || list_any (λ other. leads_out other line) all) (sym (standing_leads one line)) ∙ ap (λ (b : Bool). left_of_standing ends one line || b) (each all)

    -- ---- the scan, and the whole

    told_on : (test : OfficeAct → Option Reply → Bool) (turn : Turn) (line : List Turn) → at (told_by_office test turn) line ≡ ends_at_office test (turn ∷ line)
    told_on test turn [] = led-if step (λ t. refl) (λ a t. refl) (ends_at_office test (turn ∷ [])) IsOver [] ∙ and_true _
    told_on test turn (next ∷ line) = none (ends_at_office test (turn ∷ [])) ∙ sym (no_more turn)
      where
        none : (b : Bool) → at (if_so b IsOver) (next ∷ line) ≡ false
        none true = led-over step (λ t. refl) (λ a t. refl) (next ∷ line)
        none false = led-none step (λ t. refl) (λ a t. refl) (next ∷ line)

        no_more : (first : Turn) → ends_at_office test (first ∷ next ∷ line) ≡ false
        no_more (AtDoor place act) = refl
        no_more (AtNode node before entry) = refl
        no_more (AtOffice before entry) = refl

    is_scan : IsScanning step (λ turn. refl) (λ a turn. refl) versions_limit the_office (versions_prefix key) (λ place. behind_orphan_page) (told_by_office (tells_round false)) (λ place. behind_versions_scan ends)
    is_scan = record {
      pages = λ place after listed turn. refl;
      goes_on = λ place after listed. refl;
      ended = λ place after listed whole line. scan_end after listed whole line;
      no_turn = λ place listed. refl;
      other = λ place listed turn line. told_on (tells_round false) turn line;
    }
      where
        scan_end : (after : List ℕ) (listed : List Pair) (whole : Bool) (line : List Turn)
            → at (Some (behind_orphan_page (HasEnded whole (scan_at versions_limit the_office (versions_prefix key) after listed)))) line ≡ behind_versions_scan ends (record { listed = listed; is_whole = whole; behind = line })
        scan_end after listed true line = in_round_leads None (HasLeft (found_on listed) ∷ []) line ∙ or_false _
        scan_end after listed false line = in_round_leads None (MustTell ∷ []) line ∙ or_false _

    pub round_scan : (after : List ℕ) (listed : List Pair) (line : List Turn)
        → at (Some (OrphanScan (scan_at versions_limit the_office (versions_prefix key) after listed))) line ≡ behind_versions_scan ends (scanned_from versions_limit the_office (versions_prefix key) after listed line)
    round_scan after listed line =
        scanning step (λ turn. refl) (λ a turn. refl) versions_limit the_office (versions_prefix key) (λ place. behind_orphan_page) (told_by_office (tells_round false)) (λ place. behind_versions_scan ends) is_scan 0 after listed line

    whole_round : (line : List Turn) → behind_versions_scan ends (versions_scan key line) ≡ orphan_course key ends line
    whole_round line = cases (versions_scan key line).is_whole
      where
        cases : (whole : Bool) → (if whole then some_way (ways ends (found_on (versions_scan key line).listed) (versions_scan key line).behind) else ends_at_office (tells_round false) (versions_scan key line).behind)
            ≡ (if whole then not (eqb (length (round_ways key ends line)) 0) else ends_at_office (tells_round false) (versions_scan key line).behind)
        cases true = sym (any_filter is_way (ways ends (found_on (versions_scan key line).listed) (versions_scan key line).behind))
        cases false = refl

    pub orphans_led : (line : List Turn) → orphan_course key ends line ≡ is_led_to_end (leads_to (Orphans key) nodes ends line)
    orphans_led [] = refl
    orphans_led (turn ∷ line) = sym (round_scan [] [] (turn ∷ line) ∙ whole_round (turn ∷ line))
