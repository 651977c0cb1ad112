-- The pages of a legal history are answers of a store.
use Rattle.std.proofs.Common.{◌≡◌, ℕ, Bool, true, false, ◌&&◌, List, [], ◌∷◌, ◌++◌, refl, sym, subst, eqb}
use Rattle.std.specs.Prelude.{IsTrue, if◌then◌else◌}
use Rattle.std.specs.Str.{bytes_eq}
use Rattle.std.proofs.lemmas.Bool.{and_parts, and_from, eqb-true}
use Rattle.aft_keeper.specs.declared.keeper.Pair.{Pair}
use Rattle.aft_keeper.specs.declared.keeper.KeeperAnswer.TheVariants.{Page}
use Rattle.aft_keeper.specs.declared.keeper.KeeperCall.TheVariants.{Scan}
use Rattle.aft_model.specs.declared.caller.By.{By}
use Rattle.aft_model.specs.declared.door.DoorAct.{DoorAct}
use Rattle.aft_model.specs.declared.door.DoorAct.TheVariants.{Call}
use Rattle.aft_model.specs.declared.door.DoorEntry.{DoorEntry}
use Rattle.aft_model.specs.History.{each_after}
use Rattle.aft_model.specs.LegalDoor.{Legal, is_answered, is_page, may_follow}
use Rattle.aft_model.specs.Membership.{Incarnation, incarnation, same_incarnation}
use Rattle.aft_model.specs.ScanRun.{ScanPage, page_in, page_limit, same_line, scan_pages}
use Rattle.aft_model.proofs.Sights.{same_bytes}
use Rattle.law_scans.specs.Pages.{are_pages}

-- the pages of two lists are those of both
pages_append : (prefix : List ℕ) (xs ys : List ScanPage) → IsTrue (are_pages prefix xs) → IsTrue (are_pages prefix ys) → IsTrue (are_pages prefix (xs ++ ys))
pages_append prefix [] ys all all' = all'
pages_append prefix (page ∷ xs) ys all all' =
    let parts = and_parts (is_page prefix page.after page_limit page.listed) (are_pages prefix xs) all in
    and_from _ _ parts.0 (pages_append prefix xs ys parts.1 all')

module _ (who : Incarnation) (by : By) (prefix : List ℕ) where
  -- a page of this caller and prefix is an answer, where it was answered as a store may
  one_page : (node inc limit : ℕ) (scanned after : List ℕ) (pairs : List Pair) (t : Bool) → (same_incarnation who (incarnation node inc) && bytes_eq prefix scanned && eqb limit page_limit) ≡ t
      → IsTrue (is_page scanned after limit pairs) → IsTrue (are_pages prefix (if t then record { after = after; listed = pairs } ∷ [] else []))
  one_page node inc limit scanned after pairs false other page = refl
  one_page node inc limit scanned after pairs true its page =
      let parts = and_parts (same_incarnation who (incarnation node inc) && bytes_eq prefix scanned) (eqb limit page_limit) its in
      let named = and_parts (same_incarnation who (incarnation node inc)) (bytes_eq prefix scanned) parts.0 in
      let long : limit ≡ page_limit = eqb-true limit page_limit parts.1 in
      and_from _ _ (subst (λ l. IsTrue (is_page prefix after l pairs)) long (subst (λ n. IsTrue (is_page n after limit pairs)) (sym (same_bytes prefix scanned named.1)) page)) refl

  of_act : (act : DoorAct) → IsTrue (is_answered act) → IsTrue (are_pages prefix (page_in who prefix act))
  of_act (Call node inc (Scan scanned after limit) (Page pairs)) answered = one_page node inc limit scanned after pairs _ refl answered
  of_act act answered = refl

  of_entry : (t : Bool) (act : DoorAct) → IsTrue (is_answered act) → IsTrue (are_pages prefix (if t then page_in who prefix act else []))
  of_entry true act answered = of_act act answered
  of_entry false act answered = refl

  pages_after : (before history : List DoorEntry) → IsTrue (each_after may_follow before history) → IsTrue (are_pages prefix (scan_pages who by prefix history))
  pages_after before [] legal = refl
  pages_after before (entry ∷ entries) legal =
      let parts = and_parts (may_follow before entry) (each_after may_follow (before ++ entry ∷ []) entries) legal in
      pages_append prefix (if same_line by entry.by then page_in who prefix entry.act else []) (scan_pages who by prefix entries)
      (of_entry (same_line by entry.by) entry.act (and_parts (is_answered entry.act) _ parts.0).0) (pages_after (before ++ entry ∷ []) entries parts.1)

  pub pages_answered : (history : List DoorEntry) → Legal history → IsTrue (are_pages prefix (scan_pages who by prefix history))
  pages_answered history legal = pages_after [] history legal
