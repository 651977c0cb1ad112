-- Where the damage that starts, managers and collections are shown stands: on pages of the records or of the markers.
use Rattle.std.proofs.Common.{◌≡◌, ℕ, Bool, true, false, ◌&&◌, ◌||◌, List, [], ◌∷◌, ◌++◌, refl, sym, ap, subst, ◌∙◌, inl, inr, eqb}
use Rattle.std.specs.Prelude.{IsTrue, Option, Some, None, if◌then◌else◌}
use Rattle.std.specs.List.{flat_map}
use Rattle.std.specs.Str.{bytes_eq}
use Rattle.std.proofs.lemmas.Bool.{and_parts, false≢true}
use Rattle.std.proofs.lemmas.List.Concat.{flat_map-append}
use Rattle.aft_keeper.specs.declared.keeper.KeeperAnswer.TheVariants.{Page}
use Rattle.aft_keeper.specs.declared.keeper.KeeperCall.TheVariants.{Scan}
use Rattle.aft_model.specs.declared.caller.By.{By}
use Rattle.aft_model.specs.declared.door.DoorAct.{DoorAct}
use Rattle.aft_model.specs.declared.door.DoorAct.TheVariants.{Call, Up}
use Rattle.aft_model.specs.declared.door.DoorEntry.{DoorEntry}
use Rattle.aft_model.specs.declared.node.NodeAct.{NodeAct}
use Rattle.aft_model.specs.declared.node.NodeAct.TheVariants as node_acts
use Rattle.aft_model.specs.declared.office.OfficeAct.{OfficeAct}
use Rattle.aft_model.specs.declared.office.OfficeAct.TheVariants as office_acts
use Rattle.aft_model.specs.declared.reply.Reply.{Reply}
use Rattle.aft_model.specs.Membership.{Incarnation, incarnation, same_incarnation, the_office}
use Rattle.aft_model.specs.ScanRun.{next_after, page_limit}
use Rattle.aft_model.specs.Sound.{markers_prefix, records_prefix}
use Rattle.aft_keeper.specs.declared.keeper.Pair.{Pair}
use Rattle.aft_model.proofs.Histories.{In, in_append, in_back}
use Rattle.aft_model.proofs.Sights.{same_bytes}
use Rattle.aft_lines.specs.CausesScans.{damage_in}
use Rattle.aft_lines.specs.CollectCourse.{Collecting, Collection, collect_after, collect_course, collection, is_collected, is_scanned_whole, markers_scan, records_scan, was_cut, work_list, works_through}
use Rattle.aft_lines.specs.CourseWords.{Ends, closes, ends_at_office, is_over, office_answers}
use Rattle.aft_lines.specs.LineCourse.{ends_boot, ends_round, manager_course, round_after, round_course, scan_course, start_after, start_course, up_course}
use Rattle.aft_lines.specs.LineView.{door_entry_in}
use Rattle.aft_lines.specs.ScanCourse.{ScanLimit, behind_good_page, behind_page, names_limit, scanned, scanned_from, stopped_at, stops_at}
use Rattle.aft_lines.specs.Turns.{AtDoor, AtNode, AtOffice, Turn, end_front}
use Rattle.law_answers.proofs.Scans.{damaged, entries}
use Rattle.law_answers.proofs.Starts.{quiet}
use Rattle.law_answers.proofs.Works.{Does, works_go}

-- whether a prefix is that of the records or of the markers
abbrev pub is_ids_prefix : List ℕ → Bool
is_ids_prefix prefix = bytes_eq records_prefix prefix || bytes_eq markers_prefix prefix

-- whether an act is a page of the records or of the markers
abbrev pub is_ids_page : DoorAct → Bool
is_ids_page (Call node inc (Scan prefix after limit) (Page pairs)) = is_ids_prefix prefix
is_ids_page act = false

-- a page of the records or of the markers, among some turns of a line, that shows damage of this name
pub record OnPage (by : By) (line : List Turn) (name : List ℕ) : Type 0 where
  pub place : ℕ
  pub act : DoorAct
  pub among : In (AtDoor place act) line
  pub its : IsTrue (is_ids_page act)
  pub damage : In name (damage_in None (record { by = by; act = act }))

-- turns that show damage on such pages alone
abbrev pub AllOnPages : By → List Turn → Type 0
AllOnPages by line = (name : List ℕ) → In name (damaged by line) → OnPage by line name

second : (a b c d : Bool) → IsTrue (a && b && c && d) → IsTrue b
second true true c d is = refl
second true false c d is = absurd (false≢true is)
second false b c d is = absurd (false≢true is)

module _ (by : By) where
  later : (turn : Turn) (line : List Turn) (name : List ℕ) → OnPage by line name → OnPage by (turn ∷ line) name
  later turn line name on = record { place = on.place; act = on.act; among = inr on.among; its = on.its; damage = on.damage }

  page_first : (place : ℕ) (act : DoorAct) (line : List Turn) → IsTrue (is_ids_page act) → AllOnPages by line → AllOnPages by (AtDoor place act ∷ line)
  page_first place act line its rest name among = elim (in_append name (damage_in None (record { by = by; act = act })) (damaged by line) among) [
    | inl here ↦ record { place = place; act = act; among = inl refl; its = its; damage = here }
    | inr more ↦ later (AtDoor place act) line name (rest name more)
  ]

  -- turns that do nothing at the door
  none_done : (line : List Turn) → entries by line ≡ [] → AllOnPages by line
  none_done line none name among = absurd (subst (λ (es : List DoorEntry). In name (flat_map (damage_in None) es)) none among)

  -- a scan run of the records or of the markers
  module _ (most : ScanLimit) (who : Incarnation) (prefix : List ℕ) (its : IsTrue (is_ids_prefix prefix)) where
    scan_pages : (after : List ℕ) (listed : List Pair) (line : List Turn) → AllOnPages by (scanned_from most who prefix after listed line).behind → AllOnPages by line
    scan_pages after listed (AtDoor place (Call node inc (Scan scan begins limit) (Page pairs)) ∷ line) so =
        cases (same_incarnation who (incarnation node inc) && bytes_eq prefix scan && bytes_eq after begins && eqb limit page_limit)
        (λ own. subst (λ p. IsTrue (is_ids_prefix p)) (same_bytes prefix scan (second (same_incarnation who (incarnation node inc)) (bytes_eq prefix scan) (bytes_eq after begins) (eqb limit page_limit) own)) its)
        (λ next. scan_pages next (listed ++ pairs) line) so
      where
        goes : ((next : List ℕ) → AllOnPages by (scanned_from most who prefix next (listed ++ pairs) line).behind → AllOnPages by line) → (next : Option (List ℕ)) → AllOnPages by (behind_good_page (listed ++ pairs) next (λ n. scanned_from most who prefix n (listed ++ pairs) line) line).behind → AllOnPages by line
        goes rest None so' = so'
        goes rest (Some next) so' = rest next so'

        stops : ((next : List ℕ) → AllOnPages by (scanned_from most who prefix next (listed ++ pairs) line).behind → AllOnPages by line) → (stop : Bool) (next : Option (List ℕ)) → AllOnPages by (if stop then stopped_at (listed ++ pairs) line else behind_good_page (listed ++ pairs) next (λ n. scanned_from most who prefix n (listed ++ pairs) line) line).behind → AllOnPages by line
        stops rest true next so' = so'
        stops rest false next so' = goes rest next so'

        cases : (own : Bool) → (IsTrue own → IsTrue (is_ids_prefix scan)) → ((next : List ℕ) → AllOnPages by (scanned_from most who prefix next (listed ++ pairs) line).behind → AllOnPages by line)
            → AllOnPages by (if own then behind_page most listed pairs (next_after (record { after = after; listed = pairs })) (λ n. scanned_from most who prefix n (listed ++ pairs) line) line else stopped_at listed (AtDoor place (Call node inc (Scan scan begins limit) (Page pairs)) ∷ line)).behind
            → AllOnPages by (AtDoor place (Call node inc (Scan scan begins limit) (Page pairs)) ∷ line)
        cases true own rest so' = page_first place (Call node inc (Scan scan begins limit) (Page pairs)) line (own refl) (stops rest (stops_at most listed pairs) (next_after (record { after = after; listed = pairs })) so')
        cases false own rest so' = so'
    scan_pages after listed (AtDoor place (Call node inc (Scan scan begins limit) answer) ∷ line) so =
        cases (same_incarnation who (incarnation node inc) && bytes_eq prefix scan && bytes_eq after begins && eqb limit page_limit) so
      where
        cases : (own : Bool) → AllOnPages by (if own then stopped_at listed line else stopped_at listed (AtDoor place (Call node inc (Scan scan begins limit) answer) ∷ line)).behind → AllOnPages by (AtDoor place (Call node inc (Scan scan begins limit) answer) ∷ line)
        cases true so' name among = later (AtDoor place (Call node inc (Scan scan begins limit) answer)) line name (so' name among)
        cases false so' name among = so' name among
    scan_pages after listed line so = so

  -- ---- a start

  booted : (ends : Ends) (who : Incarnation) (line : List Turn) → IsTrue (scan_course ends who (scanned names_limit who records_prefix line)) → AllOnPages by line
  booted ends who line follows =
      let run = scanned names_limit who records_prefix line in
      scan_pages names_limit who records_prefix refl [] [] line (none_done run.behind (quiet by who.node (closes ends who.inc (ends_boot who.inc run.is_whole)) run.behind follows))

  came_up : (ends : Ends) (who : Incarnation) (line : List Turn) → IsTrue (up_course ends who line) → AllOnPages by line
  came_up ends who (AtDoor place (Up node inc) ∷ line) follows = λ name among. later (AtDoor place (Up node inc)) line name (booted ends who line (and_parts (same_incarnation who (incarnation node inc)) _ follows).1 name among)
  came_up ends who line follows = booted ends who line follows

  over : (line : List Turn) → IsTrue (is_over line) → AllOnPages by line
  over [] is = λ name among. absurd among
  over (turn ∷ line) is = absurd (false≢true is)

  pub start_pages : (ends : Ends) (line : List Turn) → IsTrue (start_course ends line) → AllOnPages by line
  start_pages ends (AtNode node before entry ∷ line) follows = at_first entry.act follows
    where
      at_first : (act : NodeAct) → IsTrue (start_after ends node act line) → AllOnPages by (AtNode node before entry ∷ line)
      at_first node_acts.Nothing is = λ name among. later (AtNode node before entry) line name (over line is name among)
      at_first (node_acts.Booting inc) is = λ name among. later (AtNode node before entry) line name (came_up ends (incarnation node inc) line is name among)
      at_first act is = absurd (false≢true is)
  start_pages ends line follows = absurd (false≢true follows)

  -- ---- a round of the manager

  office_quiet : (test : OfficeAct → Option Reply → Bool) (line : List Turn) → IsTrue (ends_at_office test line) → entries by line ≡ []
  office_quiet test (AtOffice before entry ∷ []) follows = refl
  office_quiet test (AtOffice before entry ∷ turn ∷ line) follows = absurd (false≢true follows)
  office_quiet test (AtDoor place act ∷ line) follows = absurd (false≢true follows)
  office_quiet test (AtNode node before entry ∷ line) follows = absurd (false≢true follows)
  office_quiet test [] follows = absurd (false≢true follows)

  round_quiet : (whole : Bool) (line : List Turn) → IsTrue (round_course whole line) → entries by line ≡ []
  round_quiet whole (AtOffice before entry ∷ line) follows = behind entry.act follows
    where
      over_quiet : (l : List Turn) → IsTrue (is_over l) → entries by l ≡ []
      over_quiet [] is = refl
      over_quiet (turn ∷ l) is = absurd (false≢true is)

      behind : (act : OfficeAct) → IsTrue (round_after whole act line) → entries by line ≡ []
      behind (office_acts.Round heard missed) is = office_quiet ends_round line (and_parts whole (ends_at_office ends_round line) is).1
      behind act is = over_quiet line (and_parts (is_over line) (office_answers act None) is).0
  round_quiet whole line follows = absurd (false≢true follows)

  pub manager_pages : (line : List Turn) → IsTrue (manager_course line) → AllOnPages by line
  manager_pages line follows = scan_pages names_limit the_office records_prefix refl [] [] line (none_done (records_scan line).behind (round_quiet (records_scan line).is_whole (records_scan line).behind follows))

  -- ---- a collection

  -- turns that show nothing, and those behind them
  worked_pages : (line behind : List Turn) → Does by line behind → AllOnPages by behind → AllOnPages by line
  worked_pages line behind does so = subst (λ (l : List Turn). AllOnPages by l) (sym does.splits) joined
    where
      apart : damaged by (does.made ++ behind) ≡ damaged by behind
      apart =
          ap (λ (es : List DoorEntry). flat_map (damage_in None) es) (flat_map-append (door_entry_in by) does.made behind) ∙ flat_map-append (damage_in None) (entries by does.made) (entries by behind)
          ∙ ap (λ (names : List (List ℕ)). names ++ damaged by behind) does.damage

      joined : AllOnPages by (does.made ++ behind)
      joined name among =
          let on = so name (subst (λ (names : List (List ℕ)). In name names) apart among) in
          record { place = on.place; act = on.act; among = in_back (AtDoor on.place on.act) does.made behind on.among; its = on.its; damage = on.damage }

  module _ (ends : Ends) (nodes : List ℕ) (line : List Turn) where
    abbrev way : Collecting
    way = record { ends = ends; front = end_front line }

    abbrev through : Bool → Collection
    through whole = if whole then works_through way nodes (work_list (records_scan line).listed (markers_scan line).listed) (markers_scan line).behind else record { ended = []; behind = (markers_scan line).behind }

    by_markers : (whole : Bool) → AllOnPages by (through whole).behind → AllOnPages by (markers_scan line).behind
    by_markers true is =
        let works = work_list (records_scan line).listed (markers_scan line).listed in
        worked_pages (markers_scan line).behind (works_through way nodes works (markers_scan line).behind).behind (works_go by way nodes works (markers_scan line).behind) is
    by_markers false is = is

    by_records : (whole : Bool) → AllOnPages by (if whole then through (markers_scan line).is_whole else record { ended = []; behind = (records_scan line).behind }).behind → AllOnPages by (records_scan line).behind
    by_records true is = scan_pages names_limit the_office markers_prefix refl [] [] (records_scan line).behind (by_markers (markers_scan line).is_whole is)
    by_records false is = is

    collected : AllOnPages by (collection ends nodes line).behind → AllOnPages by line
    collected so = scan_pages names_limit the_office records_prefix refl [] [] line (by_records (records_scan line).is_whole so)

  pub collect_pages : (nodes : List ℕ) (ends : Ends) (line : List Turn) → IsTrue (collect_course nodes ends line) → AllOnPages by line
  collect_pages nodes ends (AtOffice before entry ∷ line) follows = at_first entry.act follows
    where
      at_first : (act : OfficeAct) → IsTrue (collect_after ends nodes act entry.answer line) → AllOnPages by (AtOffice before entry ∷ line)
      at_first office_acts.Nothing is = λ name among. later (AtOffice before entry) line name (over line (and_parts (is_over line) _ is).0 name among)
      at_first office_acts.Collecting is =
          let left = (collection ends nodes line).behind in
          let none = office_quiet (is_collected (is_scanned_whole line) (was_cut (collection ends nodes line).ended)) left is in
          λ name among. later (AtOffice before entry) line name (collected ends nodes line (none_done left none) name among)
      at_first act is = absurd (false≢true is)
  collect_pages nodes ends line follows = absurd (false≢true follows)
