-- The steps of the audit: how far the reads of the opening have come.
use Rattle.std.specs.Prelude.{IsFalse, IsTrue, List, None, Option, Some, [], ℕ, ◌++◌, ◌-◌, ◌⊎◌, ◌∷◌, ◌≡◌}
use Rattle.std.specs.List.{flat_map}
use Rattle.std.specs.Str.{bytes_eq}
use Rattle.aft_keeper.specs.declared.keeper.KeeperAnswer.TheVariants.{Page}
use Rattle.aft_keeper.specs.declared.keeper.KeeperCall.TheVariants.{Scan}
use Rattle.aft_keeper.specs.declared.keeper.Pair.{Pair}
use Rattle.aft_model.specs.declared.door.DoorEntry.{DoorEntry}
use Rattle.aft_model.specs.Membership.{the_office}
use Rattle.aft_model.specs.Opening.{all_shown, opening, record_pages}
use Rattle.aft_model.specs.ScanRun.{ScanPage, goes_on, is_scan_run, next_after, scan_pages}
use Rattle.aft_model.specs.Sound.{markers_prefix, records_prefix}
use Rattle.aft_door.specs.Entries.{called}
use Rattle.aft_audit.specs.Audit.{IsReading, got_names, opener}

-- the pages of a prefix that the opening has shown so far
abbrev pub pages_of : List ℕ → List DoorEntry → List ScanPage
pages_of prefix history = scan_pages the_office opening prefix history

-- what pages list
abbrev pub listed_on : List ScanPage → List Pair
listed_on pages = flat_map (λ page. page.listed) pages

-- nothing has stopped the opening, and it was shown these pairs
pub record HasShown (pairs : List Pair) (history : List DoorEntry) : Type 0 where
  pub reading : IsReading history
  pub shown : all_shown history ≡ pairs

-- whether it is a prefix's turn to be scanned: that of the records, or that of the markers behind all records
abbrev pub IsTurnOf : List ℕ → List DoorEntry → Type 0
IsTurnOf prefix history = (prefix ≡ records_prefix) ⊎ ((prefix ≡ markers_prefix) × IsTrue (is_scan_run (record_pages history)))

-- the entry of a page
abbrev pub page_entry : List ℕ → List ℕ → List Pair → DoorEntry
page_entry prefix after pairs = called opener (Scan prefix after 64) (Page pairs)

-- one more page was read, which ends where the run goes on, or at the end of the run
pub record HasPage (prefix after : List ℕ) (next : Option (List ℕ)) (pairs pairs' : List Pair) (old new : List DoorEntry) : Type 0 where
  pub page : List Pair
  pub history : new ≡ old ++ page_entry prefix after page ∷ []
  pub added : pairs' ≡ pairs ++ page
  pub goes : next ≡ next_after (record { after = after; listed = page })

-- a run of a prefix on its way, or at its end: what it has added to a history and to what was shown
pub record IsScanning (prefix : List ℕ) (next : Option (List ℕ)) (pairs pairs' : List Pair) (old new : List DoorEntry) : Type 0 where
  pub shows : HasShown pairs' new
  pub goes : goes_on (Some []) (pages_of prefix new) ≡ next
  pub added : pairs' ≡ pairs ++ listed_on (pages_of prefix new)
  pub others : (other : List ℕ) → IsFalse (bytes_eq other prefix) → pages_of other new ≡ pages_of other old
  pub got : got_names new ≡ got_names old
  pub whole : next ≡ None → IsTrue (is_scan_run (pages_of prefix new))

-- how much a run may still list: nothing at its end
abbrev pub left_to_list : Option (List ℕ) → ℕ → ℕ
left_to_list None listed = 0
left_to_list (Some after) listed = 20001 - listed
