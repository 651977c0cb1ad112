-- What a turn of a round of orphans makes of what it holds.
use Rattle.std.proofs.Common.{◌≡◌, ℕ, Bool, true, false, ◌&&◌, not, List, [], ◌∷◌, refl, sym, ap, subst, ◌∙◌, inl, inr}
use Rattle.std.specs.Prelude.{IsTrue, None, Option, Some, if◌then◌else◌}
use Rattle.std.specs.List.{flat_map, list_all, list_any}
use Rattle.std.specs.Str.{bytes_eq}
use Rattle.std.proofs.lemmas.Bool.{and_from, and_parts, false≢true}
use Rattle.aft_keeper.specs.declared.keeper.KeeperAnswer.{KeeperAnswer}
use Rattle.aft_keeper.specs.declared.keeper.KeeperAnswer.TheVariants.{Failed}
use Rattle.aft_keeper.specs.declared.keeper.KeeperCall.{KeeperCall}
use Rattle.aft_keeper.specs.declared.keeper.KeeperCall.TheVariants as calls
use Rattle.aft_keeper.specs.declared.keeper.Pair.{Pair}
use Rattle.aft_records.specs.Commits.{is_listed}
use Rattle.aft_model.specs.declared.door.DoorAct.TheVariants as doors
use Rattle.aft_model.specs.declared.office.OfficeAct.{OfficeAct}
use Rattle.aft_model.specs.declared.office.OfficeEntry.{OfficeEntry}
use Rattle.aft_model.specs.declared.reply.Reply.{Reply}
use Rattle.aft_model.specs.declared.script.Command.TheVariants as commands
use Rattle.aft_model.specs.DoorKnowledge.{ids_in}
use Rattle.aft_model.specs.Membership.{incarnation, same_incarnation, the_office}
use Rattle.aft_model.specs.Readings.{has_reading, marker_name, record_name, version_name}
use Rattle.aft_model.proofs.Histories.{In, all_at, any_found, in_flat_map}
use Rattle.aft_model.proofs.Lists.{all_from}
use Rattle.aft_model.proofs.Sights.{bytes_eq-refl, same_bytes}
use Rattle.aft_lines.specs.Advance.{Scan, GoesOn, HasEnded, advance, advance_orphans, behind_desk_look, behind_orphan_page, deleted_at_desk, desk_behind, freed_at_desk, held_for, in_round, looked_at_desk, moved_at_desk, paged_by, scan_of, scanned_by, stands_if, told_at_desk, told_by_office}
use Rattle.aft_lines.specs.CourseWords.{Ends, ends_at_office, found_pair, office_answers}
use Rattle.aft_lines.specs.Holding.{held_at}
use Rattle.aft_lines.specs.OrphanCourse.{VersionAt, tells_round, versions_prefix}
use Rattle.aft_lines.specs.Progress.{AtDesk, HasLeft, Holding, Holds, InRound, IsOver, LookedOnce, LookedTwice, MustFree, MustTell, NotBegun, OrphanScan, Progress, Scanning, Standing}
use Rattle.aft_lines.specs.ScanCourse.{versions_limit}
use Rattle.aft_lines.specs.Turns.{AtDoor, AtNode, AtOffice, Turn}
use Rattle.law_claims.specs.Desk.{is_at_desk, is_desk_row, stands_so}
use Rattle.law_claims.proofs.Parting.{either_way}

-- what a turn makes of a position's desk, if it leads somewhere
record Follows (position : Progress) (turn : Turn) (next : Progress) : Type 0 where
  pub row : IsTrue (is_desk_row next)
  pub desk : held_at next ≡ desk_behind (held_at position) turn
  pub turns : IsTrue (is_at_desk (held_at position) turn)

abbrev FollowsIf : Progress → Turn → Option Progress → Type 0
FollowsIf position turn None = Unit {0}
FollowsIf position turn (Some next) = Follows position turn next

-- ---- before the round

scan_follows : (position : Progress) → held_at position ≡ None → (place node inc : ℕ) (asked : KeeperCall) (answer : KeeperAnswer) (scans : List Scan) → FollowsIf position (AtDoor place (doors.Call node inc asked answer)) (paged_by behind_orphan_page scans None)
scan_follows position none place node inc asked answer [] = tt
scan_follows position none place node inc asked answer (GoesOn scan ∷ scans) = record { row = refl; desk = sym none; turns = refl }
scan_follows position none place node inc asked answer (HasEnded true scan ∷ scans) = record { row = refl; desk = sym none; turns = refl }
scan_follows position none place node inc asked answer (HasEnded false scan ∷ scans) = record { row = refl; desk = sym none; turns = refl }

office_follows : (position : Progress) → held_at position ≡ None → (test : OfficeAct → Option Reply → Bool) (before : List OfficeEntry) (entry : OfficeEntry) → FollowsIf position (AtOffice before entry) (told_by_office test (AtOffice before entry))
office_follows position none test before entry = either_way (FollowsIf position (AtOffice before entry)) (ends_at_office test (AtOffice before entry ∷ [])) (Some IsOver) None (λ so. record { row = refl; desk = sym none; turns = refl }) (λ unlike. tt)

page_follows : (position : Progress) → held_at position ≡ None → (scan : Scanning) (turn : Turn) → FollowsIf position turn (paged_by behind_orphan_page (scanned_by scan turn) (told_by_office (tells_round false) turn))
page_follows position none scan (AtDoor place (doors.Call node inc (calls.Scan prefix after limit) answer)) = scan_follows position none place node inc (calls.Scan prefix after limit) answer (scanned_by scan (AtDoor place (doors.Call node inc (calls.Scan prefix after limit) answer)))
page_follows position none scan (AtDoor place act) = tt
page_follows position none scan (AtNode node before entry) = tt
page_follows position none scan (AtOffice before entry) = office_follows position none (tells_round false) before entry

-- ---- in the round

-- what one way to stand becomes
abbrev Becomes : Option AtDesk → Turn → Standing → Type 0
Becomes desk turn standing = (x : Standing) → In x (moved_at_desk turn standing) → IsTrue (stands_so (desk_behind desk turn) x) × IsTrue (is_at_desk desk turn)

-- one that is taken if a test is passed
one_if : (passed : Bool) (standing x : Standing) → In x (stands_if passed standing) → IsTrue passed × (x ≡ standing)
one_if true standing x (inl is) = (refl, is)
one_if true standing x (inr none) = absurd none
one_if false standing x none = absurd none

held_stands : (uuid : List ℕ) (place : ℕ) (left : List VersionAt) (x : Standing) → In x (held_for uuid left) → IsTrue (stands_so (Some (record { uuid = uuid; place = place })) x)
held_stands uuid place [] x among = absurd among
held_stands uuid place (one ∷ rest) x among = cases (held_stands uuid place rest x) (bytes_eq uuid one.id.uuid) refl among
  where
    cases : (In x (held_for uuid rest) → IsTrue (stands_so (Some (record { uuid = uuid; place = place })) x)) → (t : Bool) → bytes_eq uuid one.id.uuid ≡ t → In x (if t then Holds (record { one = one; rest = rest }) ∷ held_for uuid rest else held_for uuid rest) → IsTrue (stands_so (Some (record { uuid = uuid; place = place })) x)
    cases on true same (inl is) =
        subst (λ (y : Standing). IsTrue (stands_so (Some (record { uuid = uuid; place = place })) y)) (sym is)
        (subst (λ (u : List ℕ). IsTrue (bytes_eq u uuid)) (same_bytes uuid one.id.uuid same) (bytes_eq-refl uuid))
    cases on true same (inr later) = on later
    cases on false other later = on later

left_becomes : (left : List VersionAt) (turn : Turn) → Becomes None turn (HasLeft left)
left_becomes left (AtDoor place (doors.Claim uuid node inc)) x among = cases (same_incarnation the_office (incarnation node inc)) among
  where
    cases : (t : Bool) → In x (if t then held_for uuid left else []) → IsTrue (stands_so (Some (record { uuid = uuid; place = place })) x) × IsTrue t
    cases true is = (held_stands uuid place left x is, refl)
    cases false none = absurd none
left_becomes left turn x among = absurd among

module _ (desk : AtDesk) (held : Holding) (same : IsTrue (bytes_eq held.one.id.uuid desk.uuid)) where
  freed_becomes : (goes_on : Bool) (turn : Turn) (x : Standing) → In x (freed_at_desk goes_on held turn) → IsTrue (stands_so (desk_behind (Some desk) turn) x) × IsTrue (is_at_desk (Some desk) turn)
  freed_becomes goes_on (AtDoor place (doors.Release uuid node inc)) x among =
      let one = one_if (same_incarnation the_office (incarnation node inc) && bytes_eq held.one.id.uuid uuid) (if goes_on then HasLeft held.rest else MustTell) x among in
      let parts = and_parts (same_incarnation the_office (incarnation node inc)) (bytes_eq held.one.id.uuid uuid) one.0 in
      (subst (λ (y : Standing). IsTrue (stands_so None y)) (sym one.1) (either goes_on), and_from _ _ (subst (λ (u : List ℕ). IsTrue (bytes_eq u uuid)) (same_bytes held.one.id.uuid desk.uuid same) parts.1) parts.0)
    where
      either : (on : Bool) → IsTrue (stands_so None (if on then HasLeft held.rest else MustTell))
      either true = refl
      either false = refl
  freed_becomes goes_on turn x among = absurd among

  behind_look : (name : List ℕ) (next : Standing) (answer : KeeperAnswer) → IsTrue (stands_so (Some desk) next) → IsTrue (stands_so (Some desk) (behind_desk_look held name next answer))
  behind_look name next Failed so = same
  behind_look name next answer so = cases (list_any (λ (pair : Pair). is_listed held.one.id (ids_in pair)) (found_pair name answer)) (list_any (λ (pair : Pair). not (has_reading pair)) (found_pair name answer))
    where
      cases : (one two : Bool) → IsTrue (stands_so (Some desk) (if one then MustFree true held else if two then MustFree false held else next))
      cases true two = same
      cases false true = same
      cases false false = so

  looked_becomes : (name : List ℕ) (next : Standing) → IsTrue (stands_so (Some desk) next) → (turn : Turn) (x : Standing) → In x (looked_at_desk held name next turn) → IsTrue (stands_so (desk_behind (Some desk) turn) x) × IsTrue (is_at_desk (Some desk) turn)
  looked_becomes name next so (AtDoor place (doors.Call node inc (calls.Get got) answer)) x among =
      let one = one_if (same_incarnation the_office (incarnation node inc) && bytes_eq name got) (behind_desk_look held name next answer) x among in
      (subst (λ (y : Standing). IsTrue (stands_so (Some desk) y)) (sym one.1) (behind_look name next answer so), refl)
  looked_becomes name next so turn x among = freed_becomes false turn x among

  deleted_becomes : (turn : Turn) (x : Standing) → In x (deleted_at_desk held turn) → IsTrue (stands_so (desk_behind (Some desk) turn) x) × IsTrue (is_at_desk (Some desk) turn)
  deleted_becomes (AtDoor place (doors.Call node inc (calls.Delete name) answer)) x among =
      let one = one_if (same_incarnation the_office (incarnation node inc) && bytes_eq (version_name held.one.key held.one.id) name) (MustFree true held) x among in
      (subst (λ (y : Standing). IsTrue (stands_so (Some desk) y)) (sym one.1) same, refl)
  deleted_becomes turn x among = freed_becomes false turn x among

becomes : (desk : Option AtDesk) (turn : Turn) (standing : Standing) → IsTrue (stands_so desk standing) → Becomes desk turn standing
becomes None turn (HasLeft left) so x among = left_becomes left turn x among
becomes None turn MustTell so x among = absurd among
becomes None turn standing so x among = absurd (false≢true so)
becomes (Some desk) turn (Holds held) so x among = looked_becomes desk held so (record_name held.one.id.uuid) (LookedOnce held) so turn x among
becomes (Some desk) turn (LookedOnce held) so x among = looked_becomes desk held so (marker_name held.one.id.uuid) (LookedTwice held) so turn x among
becomes (Some desk) turn (LookedTwice held) so x among = deleted_becomes desk held so turn x among
becomes (Some desk) turn (MustFree goes_on held) so x among = freed_becomes desk held so goes_on turn x among
becomes (Some desk) turn standing so x among = absurd (false≢true so)

-- an answer comes only where nothing is held
told_free : (desk : Option AtDesk) (turn : Turn) (standing : Standing) → IsTrue (stands_so desk standing) → IsTrue (told_at_desk turn standing) → desk ≡ None
told_free None turn standing so told = refl
told_free (Some desk) turn (HasLeft left) so told = absurd (false≢true so)
told_free (Some desk) turn MustTell so told = absurd (false≢true so)
told_free (Some desk) turn standing so told = absurd (false≢true told)

told_by : (test : OfficeAct → Option Reply → Bool) (turn : Turn) → IsTrue (ends_at_office test (turn ∷ [])) → (desk_behind None turn ≡ None) × IsTrue (is_at_desk None turn)
told_by test (AtOffice before entry) told = (refl, refl)
told_by test turn told = absurd (false≢true told)

told_turn : (turn : Turn) (standing : Standing) → IsTrue (told_at_desk turn standing) → (desk_behind None turn ≡ None) × IsTrue (is_at_desk None turn)
told_turn turn (HasLeft []) told = told_by (tells_round true) turn told
told_turn turn (HasLeft (one ∷ left)) told = told_by office_answers turn told
told_turn turn MustTell told = told_by (tells_round false) turn told
told_turn turn standing told = absurd (false≢true told)

round_follows : (desk : Option AtDesk) (standings : List Standing) (turn : Turn) → IsTrue (list_all (stands_so desk) standings) → FollowsIf (InRound desk standings) turn (if list_any (told_at_desk turn) standings then Some IsOver else in_round (desk_behind desk turn) (flat_map (moved_at_desk turn) standings))
round_follows desk standings turn row =
    either_way (FollowsIf (InRound desk standings) turn) (list_any (told_at_desk turn) standings) (Some IsOver) (in_round (desk_behind desk turn) (flat_map (moved_at_desk turn) standings)) over (λ unlike. goes (flat_map (moved_at_desk turn) standings) from)
  where
    over : IsTrue (list_any (told_at_desk turn) standings) → Follows (InRound desk standings) turn IsOver
    over told =
        let found = any_found (told_at_desk turn) standings told in
        let free = told_free desk turn found.0 (all_at (stands_so desk) found.0 standings found.1 row) found.2 in
        let ends = told_turn turn found.0 found.2 in
        record {
          row = refl;
          desk = sym (ap (λ (d : Option AtDesk). desk_behind d turn) free ∙ ends.0);
          turns = subst (λ (d : Option AtDesk). IsTrue (is_at_desk d turn)) (sym free) ends.1;
        }

    from : (x : Standing) → In x (flat_map (moved_at_desk turn) standings) → IsTrue (stands_so (desk_behind desk turn) x) × IsTrue (is_at_desk desk turn)
    from x among = (let found = in_flat_map (moved_at_desk turn) x standings among in becomes desk turn found.0 (all_at (stands_so desk) found.0 standings found.1 row) x found.2)

    goes : (xs : List Standing) → ((x : Standing) → In x xs → IsTrue (stands_so (desk_behind desk turn) x) × IsTrue (is_at_desk desk turn)) → FollowsIf (InRound desk standings) turn (in_round (desk_behind desk turn) xs)
    goes [] each = tt
    goes (x ∷ xs) each = record { row = all_from (stands_so (desk_behind desk turn)) (x ∷ xs) (λ y among. (each y among).0); desk = refl; turns = (each x (inl refl)).1 }

orphan_follows : (key : List ℕ) (position : Progress) (turn : Turn) → IsTrue (is_desk_row position) → FollowsIf position turn (advance_orphans key position turn)
orphan_follows key NotBegun turn row = page_follows NotBegun refl (scan_of versions_limit the_office (versions_prefix key)) turn
orphan_follows key (OrphanScan scan) turn row = page_follows (OrphanScan scan) refl scan turn
orphan_follows key (InRound desk standings) turn row = round_follows desk standings turn row
orphan_follows key position turn row = tt

line_follows : (key nodes : List ℕ) (ends : Ends) (position : Progress) (turn : Turn) → IsTrue (is_desk_row position) → FollowsIf position turn (advance (commands.Orphans key) nodes ends position turn)
line_follows key nodes ends NotBegun turn row = orphan_follows key NotBegun turn row
line_follows key nodes ends position turn row = orphan_follows key position turn row

pub desk_follows : (key nodes : List ℕ) (ends : Ends) (position next : Progress) (turn : Turn) → IsTrue (is_desk_row position) → advance (commands.Orphans key) nodes ends position turn ≡ Some next → IsTrue (is_desk_row next) × (held_at next ≡ desk_behind (held_at position) turn) × IsTrue (is_at_desk (held_at position) turn)
desk_follows key nodes ends position next turn row e = (let it = subst (FollowsIf position turn) e (line_follows key nodes ends position turn row) in (it.row, it.desk, it.turns))
