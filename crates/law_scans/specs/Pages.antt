-- Pages of a scan run, as a store answers them.
use Rattle.std.specs.Prelude.{Bool, List, ℕ}
use Rattle.std.specs.List.{flat_map, list_all, list_any}
use Rattle.aft_keeper.specs.declared.keeper.Pair.{Pair}
use Rattle.aft_model.specs.Evidence.{covers}
use Rattle.aft_model.specs.LegalDoor.{is_page}
use Rattle.aft_model.specs.ScanRun.{ScanPage, page_limit}

-- whether each page is one that a store may answer to a scan of this prefix
abbrev pub are_pages : List ℕ → List ScanPage → Bool
are_pages prefix pages = list_all (λ page. is_page prefix page.after page_limit page.listed) pages

-- whether one of the pages covers a name
abbrev pub is_covered : List ℕ → List ℕ → List ScanPage → Bool
is_covered prefix name pages = list_any (λ page. covers prefix page.after page_limit page.listed name) pages

-- what pages list, in their order
abbrev pub listed_on : List ScanPage → List Pair
listed_on pages = flat_map (λ page. page.listed) pages
