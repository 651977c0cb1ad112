-- Scan runs: pages of 64 pairs of one caller, for one line, from the first name of a prefix to its last.
use Rattle.std.specs.Prelude.{Bool, List, None, Option, Some, [], false, if◌then◌else◌, length, nat_lt, true, ℕ, ◌&&◌, ◌==◌, ◌∷◌}
use Rattle.std.specs.List.{flat_map, last_or}
use Rattle.std.specs.Option.{option_map}
use Rattle.std.specs.Str.{bytes_eq}
use Rattle.aft_keeper.specs.declared.keeper.KeeperAnswer.TheVariants.{Page}
use Rattle.aft_keeper.specs.declared.keeper.KeeperCall.TheVariants.{Scan}
use Rattle.aft_keeper.specs.declared.keeper.Pair.{Pair}
use Rattle.aft_records.specs.declared.stored.Commit.{Commit}
use Rattle.aft_model.specs.declared.caller.By.{By}
use Rattle.aft_model.specs.declared.door.DoorAct.{DoorAct}
use Rattle.aft_model.specs.declared.door.DoorAct.TheVariants.{Call}
use Rattle.aft_model.specs.declared.door.DoorEntry.{DoorEntry}
use Rattle.aft_model.specs.Membership.{Incarnation, incarnation, same_incarnation}
use Rattle.aft_model.specs.Sound.{recorded}

-- the most pairs that a page of a run lists
abbrev pub page_limit : ℕ
page_limit = 64

-- an answered page of a scan: the name after which it begins, and what it lists
pub record ScanPage : Type 0 where
  pub after : List ℕ
  pub listed : List Pair

-- whether two lines are the same
abbrev pub same_line : By → By → Bool
same_line a b = a.client == b.client && a.line == b.line

-- the page that an act is, where it is one of this caller and this prefix
abbrev pub page_in : Incarnation → List ℕ → DoorAct → List ScanPage
page_in who prefix (Call node inc (Scan scanned after limit) (Page pairs)) =
    if same_incarnation who (incarnation node inc) && bytes_eq prefix scanned && limit == page_limit then record { after = after; listed = pairs } ∷ [] else []
page_in who prefix act = []

-- the pages of a prefix that a history shows this caller, for this line
abbrev pub scan_pages : Incarnation → By → List ℕ → List DoorEntry → List ScanPage
scan_pages who by prefix history = flat_map (λ entry. if same_line by entry.by then page_in who prefix entry.act else []) history

-- the name after which the next page begins: the last one listed, or none where the page isn't full
abbrev pub next_after : ScanPage → Option (List ℕ)
next_after page = if nat_lt (length page.listed) page_limit then None else option_map (λ pair. pair.name) (last_or None page.listed)

-- where pages that begin here go on, if they aren't at the end
abbrev pub goes_on : Option (List ℕ) → List ScanPage → Option (List ℕ)
goes_on from [] = from
goes_on None (page ∷ pages) = None
goes_on (Some after) (page ∷ pages) = if bytes_eq page.after after then goes_on (next_after page) pages else None

-- whether pages that begin here are a run to its end: each begins where the one before ended, and the last alone isn't full
abbrev pub ends : Option (List ℕ) → List ScanPage → Bool
ends None [] = true
ends None (page ∷ pages) = false
ends (Some after) [] = false
ends (Some after) (page ∷ pages) = bytes_eq page.after after && ends (next_after page) pages

-- whether pages are a whole scan run
abbrev pub is_scan_run : List ScanPage → Bool
is_scan_run pages = ends (Some []) pages

-- the commits whose records pages show, in the order in which they show them
abbrev pub commits_on : List ScanPage → List Commit
commits_on pages = recorded (flat_map (λ page. page.listed) pages)
