-- Pages that are read one behind the other.
use Rattle.std.proofs.Common.{◌≡◌, ◌+◌, ℕ, Bool, true, false, ◌&&◌, ◌||◌, ◌≤◌, not, List, [], ◌∷◌, ◌++◌, length, length-append, refl, sym, ap, subst, ◌∙◌, append-nil, append_assoc, arith}
use Rattle.std.specs.Prelude.{IsTrue, None, Option, Some, if◌then◌else◌, map, nat_le}
use Rattle.std.specs.List.{list_all}
use Rattle.std.specs.Str.{bytes_eq}
use Rattle.std.proofs.lemmas.Bool.{and_from, and_parts, le-leb}
use Rattle.std.proofs.lemmas.List.{map-append}
use Rattle.std.proofs.lemmas.List.Concat.{flat_map-append}
use Rattle.std.proofs.lemmas.List.Folds.{list_all-append}
use Rattle.aft_keeper.specs.declared.keeper.Pair.{Pair}
use Rattle.aft_records.specs.declared.stored.Commit.{Commit}
use Rattle.aft_model.specs.declared.caller.By.{By}
use Rattle.aft_model.specs.declared.node.NodeAct.TheVariants.{Booting}
use Rattle.aft_model.specs.declared.node.NodeEntry.{NodeEntry}
use Rattle.aft_model.specs.Readings.{has_reading, records_in}
use Rattle.aft_model.specs.ScanRun.{ScanPage, ends, goes_on, is_scan_run, next_after}
use Rattle.aft_model.specs.Sound.{recorded}
use Rattle.aft_model.proofs.Sights.{bytes_eq-refl}
use Rattle.aft_lines.specs.ScanCourse.{names_limit, stops_at}
use Rattle.aft_lines.specs.Turns.{Turn}
use Rattle.aft_boot.specs.Booted.{AreRead, PageAt, begun_turns, listed_on, page_turn, scan_page, up_turns}
use Rattle.aft_boot.specs.Crashed.{turn_at}
use Rattle.aft_boot.specs.Pages.{Reads}

-- a run goes on where its last page ends
goes_more : (from : Option (List ℕ)) (pages : List ScanPage) (page : ScanPage) → goes_on from pages ≡ Some page.after → goes_on from (pages ++ page ∷ []) ≡ next_after page
goes_more None [] page goes = absurd (cc)
goes_more (Some after) [] page goes = ap (λ (t : Bool). if t then next_after page else None) (let same : page.after ≡ after = cc in subst (λ (a : List ℕ). bytes_eq page.after a ≡ true) same (bytes_eq-refl page.after))
goes_more None (p ∷ pages) page goes = absurd (cc)
goes_more (Some after) (p ∷ pages) page goes = cases (bytes_eq p.after after) goes (goes_more (next_after p) pages page)
  where
    cases : (t : Bool) → (if t then goes_on (next_after p) pages else None) ≡ Some page.after → (goes_on (next_after p) pages ≡ Some page.after → goes_on (next_after p) (pages ++ page ∷ []) ≡ next_after page)
        → (if t then goes_on (next_after p) (pages ++ page ∷ []) else None) ≡ next_after page
    cases true goes' rest = rest goes'
    cases false goes' rest = absurd (cc)

-- and is whole where that is its end
ends_more : (from : Option (List ℕ)) (pages : List ScanPage) (page : ScanPage) → goes_on from pages ≡ Some page.after → next_after page ≡ None → IsTrue (ends from (pages ++ page ∷ []))
ends_more None [] page goes over = absurd (cc)
ends_more (Some after) [] page goes over =
    and_from _ _ (let same : page.after ≡ after = cc in subst (λ (a : List ℕ). bytes_eq page.after a ≡ true) same (bytes_eq-refl page.after))
    (subst (λ (o : Option (List ℕ)). IsTrue (ends o [])) (sym over) refl)
ends_more None (p ∷ pages) page goes over = absurd (cc)
ends_more (Some after) (p ∷ pages) page goes over = cases (bytes_eq p.after after) refl goes (λ goes'. ends_more (next_after p) pages page goes' over)
  where
    cases : (t : Bool) → bytes_eq p.after after ≡ t → (if t then goes_on (next_after p) pages else None) ≡ Some page.after → (goes_on (next_after p) pages ≡ Some page.after → IsTrue (ends (next_after p) (pages ++ page ∷ [])))
        → IsTrue (bytes_eq p.after after && ends (next_after p) (pages ++ page ∷ []))
    cases true is goes' rest = and_from _ _ is (rest goes')
    cases false is goes' rest = absurd (cc)

module _ (pages : List PageAt) (page : PageAt) where
  -- what they list
  listed_more : listed_on (pages ++ page ∷ []) ≡ listed_on pages ++ page.listed
  listed_more = flat_map-append (λ (p : PageAt). p.listed) pages (page ∷ []) ∙ ap (λ (ps : List Pair). listed_on pages ++ ps) (append-nil page.listed)

  pub count_more : length (listed_on (pages ++ page ∷ [])) ≡ length (listed_on pages) + length page.listed
  count_more = ap (λ (ps : List Pair). length ps) listed_more ∙ length-append (listed_on pages) page.listed

  pages_more : map scan_page (pages ++ page ∷ []) ≡ map scan_page pages ++ scan_page page ∷ []
  pages_more = map-append scan_page pages (page ∷ [])

  -- a run with one page more
  pub goes_behind : goes_on (Some []) (map scan_page pages) ≡ Some page.after → goes_on (Some []) (map scan_page (pages ++ page ∷ [])) ≡ next_after (scan_page page)
  goes_behind goes = ap (goes_on (Some [])) pages_more ∙ goes_more (Some []) (map scan_page pages) (scan_page page) goes

  pub whole_behind : goes_on (Some []) (map scan_page pages) ≡ Some page.after → next_after (scan_page page) ≡ None → IsTrue (is_scan_run (map scan_page (pages ++ page ∷ [])))
  whole_behind goes over = subst (λ (ps : List ScanPage). IsTrue (is_scan_run ps)) (sym pages_more) (ends_more (Some []) (map scan_page pages) (scan_page page) goes over)

  pub read_more : (listed : ℕ) (commits all : List Commit) → listed ≡ length (listed_on pages) → AreRead pages → Reads page.listed listed commits all → AreRead (pages ++ page ∷ [])
  read_more listed commits all count read reads = record {
    few = let c = count_more in let f = reads.few in omega arith;
    readable =
        subst (λ (ps : List Pair). IsTrue (list_all has_reading ps)) (sym listed_more)
        (list_all-append has_reading (listed_on pages) page.listed ∙ and_from _ _ read.readable reads.readable);
  }

  pub shown_more : (listed : ℕ) (commits all : List Commit) → commits ≡ recorded (listed_on pages) → Reads page.listed listed commits all → all ≡ recorded (listed_on (pages ++ page ∷ []))
  shown_more listed commits all shown reads =
      reads.shown ∙ ap (λ (cs : List Commit). cs ++ recorded page.listed) shown ∙ sym (ap recorded listed_more ∙ flat_map-append records_in (listed_on pages) page.listed)

  -- its turns
  pub turns_more : (by : By) (node inc : ℕ) (before : List NodeEntry) (front : ℕ) (up : Option ℕ) → begun_turns by node inc before front up (pages ++ page ∷ []) ≡ begun_turns by node inc before front up pages ++ page_turn node inc page ∷ []
  turns_more by node inc before front up =
      ap (λ (ts : List Turn). first ∷ up_turns node inc up ++ ts) (map-append (page_turn node inc) pages (page ∷ []))
      ∙ ap (λ (ts : List Turn). first ∷ ts) (sym (append_assoc (up_turns node inc up) (map (page_turn node inc) pages) (page_turn node inc page ∷ [])))
    where
      first : Turn
      first = turn_at by node before front (Booting inc) None

-- ---- pages that don't stop a scan

-- a page that shows few enough names, each with a reading, doesn't stop the scan
pub good : (listed pairs : List Pair) → length listed + length pairs ≤ 20000 → IsTrue (list_all has_reading pairs) → stops_at names_limit listed pairs ≡ false
good listed pairs few readable = ap not (and_from (nat_le (length listed + length pairs) 20000) (false || list_all has_reading pairs) (le-leb (length listed + length pairs) 20000 few) readable)

-- what was read from a name on, behind what was listed
abbrev pub Fine : List Pair → List PageAt → Type 0
Fine listed pages = (length listed + length (listed_on pages) ≤ 20000) × IsTrue (list_all has_reading (listed_on pages))

pub fine_first : (listed : List Pair) (page : PageAt) (pages : List PageAt) → Fine listed (page ∷ pages) → (length listed + length page.listed ≤ 20000) × IsTrue (list_all has_reading page.listed)
fine_first listed page pages (few, readable) = (
  let l = length-append page.listed (listed_on pages) in omega arith,
  (and_parts (list_all has_reading page.listed) (list_all has_reading (listed_on pages)) (sym (list_all-append has_reading page.listed (listed_on pages)) ∙ readable)).0,
)

pub fine_rest : (listed : List Pair) (page : PageAt) (pages : List PageAt) → Fine listed (page ∷ pages) → Fine (listed ++ page.listed) pages
fine_rest listed page pages (few, readable) = (
  let l = length-append page.listed (listed_on pages) in let m = length-append listed page.listed in omega arith,
  (and_parts (list_all has_reading page.listed) (list_all has_reading (listed_on pages)) (sym (list_all-append has_reading page.listed (listed_on pages)) ∙ readable)).1,
)

pub fine_all : (pages : List PageAt) → AreRead pages → Fine [] pages
fine_all pages read = (let few = read.few in omega arith, read.readable)
