-- What the turns of a start did at the door, and what they show.
use Rattle.std.proofs.Common.{◌≡◌, ℕ, Bool, true, false, ◌&&◌, ◌||◌, not, List, [], ◌∷◌, ◌++◌, eqb, refl, sym, ap, ◌∙◌, append-nil, append_assoc}
use Rattle.std.specs.Prelude.{IsTrue, None, Option, Some, filter, if◌then◌else◌, is_some, map}
use Rattle.std.specs.List.{flat_map, list_all, list_any}
use Rattle.std.specs.Str.{bytes_eq}
use Rattle.std.proofs.lemmas.Bool.{and_from, and_parts, eq-eqb, false≢true, or_left, or_right}
use Rattle.std.proofs.lemmas.List.Concat.{flat_map-append}
use Rattle.std.proofs.lemmas.List.Folds.{list_all-append}
use Rattle.std.proofs.lemmas.List.Sums.{fold-append}
use Rattle.aft_keeper.specs.declared.keeper.KeeperAnswer.TheVariants.{Page}
use Rattle.aft_keeper.specs.declared.keeper.Pair.{Pair}
use Rattle.aft_model.specs.declared.caller.By.{By}
use Rattle.aft_model.specs.declared.door.DoorAct.TheVariants.{Up}
use Rattle.aft_model.specs.declared.door.DoorEntry.{DoorEntry}
use Rattle.aft_model.specs.declared.node.NodeEntry.{NodeEntry}
use Rattle.aft_model.specs.declared.reply.Reply.{Reply}
use Rattle.aft_model.specs.Membership.{incarnation}
use Rattle.aft_model.specs.Readings.{has_reading}
use Rattle.aft_model.specs.Replies.{is_silent}
use Rattle.aft_model.specs.ScanRun.{ScanPage, page_in, same_line, scan_pages}
use Rattle.aft_model.specs.Sound.{markers_prefix, records_prefix}
use Rattle.aft_model.proofs.OneCommit.{same_itself}
use Rattle.aft_lines.specs.CausesScans.{damage_in, is_damage, listed_in}
use Rattle.aft_lines.specs.LineCourse.{answers_last}
use Rattle.aft_lines.specs.LineView.{door_entry_in, node_turn_in}
use Rattle.aft_lines.specs.Turns.{AtDoor, AtNode, AtOffice, Turn, answer_in}
use Rattle.aft_boot.specs.Booted.{PageAt, begun_turns, listed_on, page_act, page_turn, scan_page, up_turns}
use Rattle.aft_boot.specs.Pages.{damage}
use Rattle.aft_turns.specs.Stands.{end_answer}

-- ---- turns at the door

abbrev pub is_door : Turn → Bool
is_door (AtDoor place act) = true
is_door turn = false

abbrev pub AreDoor : List Turn → Type 0
AreDoor turns = IsTrue (list_all is_door turns)

pub up_door : (node inc : ℕ) (up : Option ℕ) → AreDoor (up_turns node inc up)
up_door node inc None = refl
up_door node inc (Some place) = refl

pub pages_door : (node inc : ℕ) (pages : List PageAt) → AreDoor (map (page_turn node inc) pages)
pages_door node inc [] = refl
pages_door node inc (page ∷ pages) = and_from _ _ refl (pages_door node inc pages)

pub both_door : (a b : List Turn) → AreDoor a → AreDoor b → AreDoor (a ++ b)
both_door a b one other = list_all-append is_door a b ∙ and_from _ _ one other

-- they aren't at a node
pub no_nodes : (mid rest : List Turn) → AreDoor mid → flat_map node_turn_in (mid ++ rest) ≡ flat_map node_turn_in rest
no_nodes [] rest door = refl
no_nodes (AtDoor place act ∷ mid) rest door = no_nodes mid rest (and_parts true (list_all is_door mid) door).1
no_nodes (AtNode node before entry ∷ mid) rest door = absurd (false≢true door)
no_nodes (AtOffice before entry ∷ mid) rest door = absurd (false≢true door)

-- and answer nothing
pub are_silent : (mid : List Turn) → AreDoor mid → IsTrue (list_all (λ turn. is_silent (answer_in turn)) mid)
are_silent [] door = refl
are_silent (AtDoor place act ∷ mid) door = and_from _ _ refl (are_silent mid (and_parts true (list_all is_door mid) door).1)
are_silent (AtNode node before entry ∷ mid) door = absurd (false≢true door)
are_silent (AtOffice before entry ∷ mid) door = absurd (false≢true door)

-- the last turn alone answers
pub last_answers : (mid : List Turn) (first last : Turn) → AreDoor mid → is_some (answer_in first) ≡ false → IsTrue (is_some (answer_in last)) → IsTrue (answers_last (first ∷ mid ++ last ∷ []))
last_answers [] first last door silent told = and_from _ _ (ap not silent) told
last_answers (AtDoor place act ∷ mid) first last door silent told = and_from _ _ (ap not silent) (last_answers mid (AtDoor place act) last (and_parts true (list_all is_door mid) door).1 refl told)
last_answers (AtNode node before entry ∷ mid) first last door silent told = absurd (false≢true door)
last_answers (AtOffice before entry ∷ mid) first last door silent told = absurd (false≢true door)

pub ends_with : (turns : List Turn) (last : Turn) → end_answer (turns ++ last ∷ []) ≡ answer_in last
ends_with turns last = fold-append (λ (before : Option Reply) (turn : Turn). answer_in turn) None turns (last ∷ [])

-- ---- as entries

module _ (by : By) (node inc : ℕ) where
  abbrev pub up_entries : Option ℕ → List DoorEntry
  up_entries None = []
  up_entries (Some place) = record { by = by; act = Up node inc } ∷ []

  abbrev pub page_entry : PageAt → DoorEntry
  page_entry page = record { by = by; act = page_act node inc page.after (Page page.listed) }

  pub pages_entries : (pages : List PageAt) → flat_map (door_entry_in by) (map (page_turn node inc) pages) ≡ map page_entry pages
  pages_entries [] = refl
  pages_entries (page ∷ pages) = ap (λ (es : List DoorEntry). page_entry page ∷ es) (pages_entries pages)

  ups_entries : (up : Option ℕ) → flat_map (door_entry_in by) (up_turns node inc up) ≡ up_entries up
  ups_entries None = refl
  ups_entries (Some place) = refl

  -- what the turns of a start did at the door
  pub entries_of : (first_by : By) (before : List NodeEntry) (front : ℕ) (up : Option ℕ) (pages : List PageAt) (more : List Turn) → flat_map (door_entry_in by) (begun_turns first_by node inc before front up pages ++ more) ≡ up_entries up ++ (map page_entry pages ++ flat_map (door_entry_in by) more)
  entries_of first_by before front up pages more =
      flat_map-append (door_entry_in by) (begun_turns first_by node inc before front up pages) more
      ∙ (ap (λ (es : List DoorEntry). es ++ flat_map (door_entry_in by) more) (flat_map-append (door_entry_in by) (up_turns node inc up) (map (page_turn node inc) pages))
      ∙ (ap (λ (es : List DoorEntry). (es ++ flat_map (door_entry_in by) (map (page_turn node inc) pages)) ++ flat_map (door_entry_in by) more) (ups_entries up)
      ∙ (ap (λ (es : List DoorEntry). (up_entries up ++ es) ++ flat_map (door_entry_in by) more) (pages_entries pages)
      ∙ append_assoc (up_entries up) (map page_entry pages) (flat_map (door_entry_in by) more))))

  -- what they give, entry by entry
  given_pages : {B : Type 0} (f : DoorEntry → List B) (g : PageAt → List B) → ((page : PageAt) → f (page_entry page) ≡ g page) → (pages : List PageAt) (rest : List DoorEntry) → flat_map f (map page_entry pages ++ rest) ≡ flat_map g pages ++ flat_map f rest
  given_pages f g is [] rest = refl
  given_pages {B} f g is (page ∷ pages) rest =
      ap (λ (xs : List B). xs ++ flat_map f (map page_entry pages ++ rest)) (is page)
      ∙ (ap (λ (xs : List B). g page ++ xs) (given_pages f g is pages rest) ∙ sym (append_assoc (g page) (flat_map g pages) (flat_map f rest)))

  given_up : {B : Type 0} (f : DoorEntry → List B) → f (record { by = by; act = Up node inc }) ≡ [] → (up : Option ℕ) (rest : List DoorEntry) → flat_map f (up_entries up ++ rest) ≡ flat_map f rest
  given_up f none None rest = refl
  given_up {B} f none (Some place) rest = ap (λ (xs : List B). xs ++ flat_map f rest) none

  abbrev none_listed : PageAt → List Pair
  none_listed page = []

  nothing : (pages : List PageAt) → flat_map none_listed pages ≡ []
  nothing [] = refl
  nothing (page ∷ pages) = nothing pages

  -- the names that they list of records, and of markers
  pub lists_records : (up : Option ℕ) (pages : List PageAt) (rest : List DoorEntry) → flat_map (λ (e : DoorEntry). listed_in records_prefix e.act) (up_entries up ++ (map page_entry pages ++ rest)) ≡ listed_on pages ++ flat_map (λ (e : DoorEntry). listed_in records_prefix e.act) rest
  lists_records up pages rest =
      given_up (λ (e : DoorEntry). listed_in records_prefix e.act) refl up (map page_entry pages ++ rest)
      ∙ given_pages (λ (e : DoorEntry). listed_in records_prefix e.act) (λ (page : PageAt). page.listed) (λ page. refl) pages rest

  pub lists_markers : (up : Option ℕ) (pages : List PageAt) (rest : List DoorEntry) → flat_map (λ (e : DoorEntry). listed_in markers_prefix e.act) (up_entries up ++ (map page_entry pages ++ rest)) ≡ flat_map (λ (e : DoorEntry). listed_in markers_prefix e.act) rest
  lists_markers up pages rest =
      given_up (λ (e : DoorEntry). listed_in markers_prefix e.act) refl up (map page_entry pages ++ rest)
      ∙ (given_pages (λ (e : DoorEntry). listed_in markers_prefix e.act) none_listed (λ page. refl) pages rest
      ∙ ap (λ (xs : List Pair). xs ++ flat_map (λ (e : DoorEntry). listed_in markers_prefix e.act) rest) (nothing pages))

  -- the damage that they show
  no_damage : (pairs : List Pair) → IsTrue (list_all has_reading pairs) → damage pairs ≡ []
  no_damage [] readable = refl
  no_damage (pair ∷ pairs) readable =
      let parts = and_parts (has_reading pair) (list_all has_reading pairs) readable in
      ap (λ (t : Bool). map (λ (x : Pair). x.name) (if not t || false then pair ∷ filter (is_damage None) pairs else filter (is_damage None) pairs)) parts.0 ∙ no_damage pairs parts.1

  pages_damage : (pages : List PageAt) → IsTrue (list_all has_reading (listed_on pages)) → flat_map (λ (page : PageAt). damage page.listed) pages ≡ []
  pages_damage [] readable = refl
  pages_damage (page ∷ pages) readable =
      let parts = and_parts (list_all has_reading page.listed) (list_all has_reading (listed_on pages)) (sym (list_all-append has_reading page.listed (listed_on pages)) ∙ readable) in
      ap (λ (xs : List (List ℕ)). xs ++ flat_map (λ (p : PageAt). damage p.listed) pages) (no_damage page.listed parts.0) ∙ pages_damage pages parts.1

  pub shows_damage : (up : Option ℕ) (pages : List PageAt) (rest : List DoorEntry) → IsTrue (list_all has_reading (listed_on pages)) → flat_map (damage_in None) (up_entries up ++ (map page_entry pages ++ rest)) ≡ flat_map (damage_in None) rest
  shows_damage up pages rest readable =
      given_up (damage_in None) refl up (map page_entry pages ++ rest)
      ∙ (given_pages (damage_in None) (λ (page : PageAt). damage page.listed) (λ page. refl) pages rest
      ∙ ap (λ (xs : List (List ℕ)). xs ++ flat_map (damage_in None) rest) (pages_damage pages readable))

  -- their scan run
  own_line : IsTrue (same_line by by)
  own_line = and_from _ _ (eq-eqb by.client by.client refl) (eq-eqb by.line by.line refl)

  abbrev scans : DoorEntry → List ScanPage
  scans entry = if same_line by entry.by then page_in (incarnation node inc) records_prefix entry.act else []

  scans_page : (page : PageAt) → scans (page_entry page) ≡ scan_page page ∷ []
  scans_page page =
      ap (λ (t : Bool). if t then page_in (incarnation node inc) records_prefix (page_act node inc page.after (Page page.listed)) else []) own_line
      ∙ ap (λ (t : Bool). if (t && bytes_eq records_prefix records_prefix) && eqb 64 64 then scan_page page ∷ [] else []) (same_itself (incarnation node inc))

  scans_up : scans (record { by = by; act = Up node inc }) ≡ []
  scans_up = ap (λ (t : Bool). if t then [] else []) own_line

  single : (pages : List PageAt) → flat_map (λ (page : PageAt). scan_page page ∷ []) pages ≡ map scan_page pages
  single [] = refl
  single (page ∷ pages) = ap (λ (xs : List ScanPage). scan_page page ∷ xs) (single pages)

  pub scans_so : (up : Option ℕ) (pages : List PageAt) → scan_pages (incarnation node inc) by records_prefix (up_entries up ++ (map page_entry pages ++ [])) ≡ map scan_page pages
  scans_so up pages =
      given_up scans scans_up up (map page_entry pages ++ [])
      ∙ (given_pages scans (λ (page : PageAt). scan_page page ∷ []) scans_page pages []
      ∙ (append-nil (flat_map (λ (page : PageAt). scan_page page ∷ []) pages) ∙ single pages))

  -- the same of the pages alone
  pub scans_alone : (pages : List PageAt) → scan_pages (incarnation node inc) by records_prefix (map page_entry pages ++ []) ≡ map scan_page pages
  scans_alone pages = scans_so None pages

  -- a call that failed is among them
  pub fails : (up : Option ℕ) (pages : List PageAt) (test : DoorEntry → Bool) (last : DoorEntry) → IsTrue (test last) → IsTrue (list_any test (up_entries up ++ (map page_entry pages ++ last ∷ [])))
  fails up pages test last is = any_behind (up_entries up) (map page_entry pages ++ last ∷ []) (any_behind (map page_entry pages) (last ∷ []) (or_left _ _ is))
    where
      any_behind : (xs ys : List DoorEntry) → IsTrue (list_any test ys) → IsTrue (list_any test (xs ++ ys))
      any_behind [] ys it = it
      any_behind (x ∷ xs) ys it = or_right _ _ (any_behind xs ys it)
