-- One more call of the opening, and one more page of a scan run.
use Rattle.std.proofs.Common.{◌≡◌, ◌≤◌, ◌<◌, ◌+◌, ◌-◌, arith, length, length-append, ℕ, Bool, true, false, ◌&&◌, ◌||◌, List, [], ◌∷◌, ◌++◌, refl, sym, ap, subst, ◌∙◌, append_assoc, append-nil, inl, inr}
use Rattle.std.specs.Prelude.{IsFalse, IsTrue, None, Option, Some, if◌then◌else◌, nat_lt}
use Rattle.std.specs.List.{flat_map, last_or, slice_get}
use Rattle.std.specs.Option.{option_eq, option_map}
use Rattle.std.specs.Str.{bytes_eq}
use Rattle.std.proofs.lemmas.Bool.{and_from, le-ltb, lt-ltb, ltb-false, or_left, or_right}
use Rattle.std.proofs.lemmas.List.Concat.{flat_map-append}
use Rattle.aft_keeper.specs.declared.keeper.KeeperAnswer.{KeeperAnswer}
use Rattle.aft_keeper.specs.declared.keeper.KeeperAnswer.TheVariants.{Page}
use Rattle.aft_keeper.specs.declared.keeper.KeeperCall.{KeeperCall}
use Rattle.aft_keeper.specs.declared.keeper.KeeperCall.TheVariants.{Scan}
use Rattle.aft_keeper.specs.declared.keeper.Pair.{Pair}
use Rattle.aft_model.specs.declared.door.DoorEntry.{DoorEntry}
use Rattle.aft_model.specs.DoorKnowledge.{is_open, opens}
use Rattle.aft_model.specs.Evidence.{shown_pairs}
use Rattle.aft_model.specs.Membership.{the_office}
use Rattle.aft_model.specs.Opening.{all_shown, has_failed, is_failure, is_next_read, opening, record_pages}
use Rattle.aft_model.specs.ScanRun.{ScanPage, ends, goes_on, is_scan_run, next_after, page_in, same_line}
use Rattle.aft_model.specs.Sound.{markers_prefix, records_prefix}
use Rattle.aft_model.proofs.Sights.{bytes_eq-refl}
use Rattle.aft_door.specs.Entries.{called}
use Rattle.aft_door.proofs.Snocs.{any_act}
use Rattle.aft_audit.specs.Audit.{IsReading, are_too_many, got_in, got_names, names_ascend, opener, shows_too_many}
use Rattle.aft_audit.specs.Scans.{HasPage, HasShown, IsScanning, IsTurnOf, left_to_list, listed_on, page_entry, pages_of}

-- what a list and one more element give
pub flat_map_more : {A B : Type 0} (f : A → List B) (xs : List A) (x : A) → flat_map f (xs ++ x ∷ []) ≡ flat_map f xs ++ f x
flat_map_more f xs x = flat_map-append f xs (x ∷ []) ∙ ap (λ (ys : List _). flat_map f xs ++ ys) (append-nil (f x))

-- ---- a call of the office

pub still_closed : (history : List DoorEntry) (asked : KeeperCall) (answer : KeeperAnswer) → IsFalse (is_open history) → IsFalse (is_open (history ++ called opener asked answer ∷ []))
still_closed history asked answer closed = any_act opens history (called opener asked answer) ∙ ap (λ t. t || false) closed

pub still_works : (history : List DoorEntry) (asked : KeeperCall) (answer : KeeperAnswer) → IsFalse (has_failed history) → IsFalse (is_failure (called opener asked answer).act) → IsFalse (has_failed (history ++ called opener asked answer ∷ []))
still_works history asked answer works it = any_act is_failure history (called opener asked answer) ∙ (ap (λ t. t || is_failure (called opener asked answer).act) works ∙ it)

pub got_more : (history : List DoorEntry) (e : DoorEntry) → got_names (history ++ e ∷ []) ≡ got_names history ++ got_in e.act
got_more history e = flat_map_more (λ (x : DoorEntry). got_in x.act) history e

pub shown_more : (history : List DoorEntry) (e : DoorEntry) → all_shown (history ++ e ∷ []) ≡ all_shown history ++ shown_pairs e
shown_more history e = flat_map_more (λ (x : DoorEntry). shown_pairs x) history e

-- ---- a page

module _ (prefix after : List ℕ) (page : List Pair) (history : List DoorEntry) where
  abbrev Now : List DoorEntry
  Now = history ++ page_entry prefix after page ∷ []

  abbrev It : ScanPage
  It = record { after = after; listed = page }

  pub page_got : got_names Now ≡ got_names history
  page_got = got_more history (page_entry prefix after page) ∙ append-nil (got_names history)

  pub page_reading : IsReading history → IsReading Now
  page_reading reading = record {
    closed = still_closed history (Scan prefix after 64) (Page page) reading.closed;
    works = still_works history (Scan prefix after 64) (Page page) reading.works refl;
    in_order = subst (λ (names : List (List ℕ)). IsTrue (names_ascend names)) (sym page_got) reading.in_order;
  }

  pages_more : (other : List ℕ) → pages_of other Now ≡ pages_of other history ++ page_in the_office other (page_entry prefix after page).act
  pages_more other = flat_map_more (λ (x : DoorEntry). if same_line opening x.by then page_in the_office other x.act else []) history (page_entry prefix after page)

  own_page : pages_of prefix Now ≡ pages_of prefix history ++ It ∷ []
  own_page = pages_more prefix ∙ ap (λ (t : Bool). pages_of prefix history ++ (if t && true then It ∷ [] else [])) (bytes_eq-refl prefix)

  pub other_page : (other : List ℕ) → IsFalse (bytes_eq other prefix) → pages_of other Now ≡ pages_of other history
  other_page other apart = pages_more other ∙ (ap (λ (t : Bool). pages_of other history ++ (if t && true then It ∷ [] else [])) apart ∙ append-nil (pages_of other history))

-- ---- a run

-- a run that goes on with a page goes on where that ends, and is whole where that is its end
goes_more : (from : Option (List ℕ)) (pages : List ScanPage) (page : ScanPage) → goes_on from pages ≡ Some page.after → goes_on from (pages ++ page ∷ []) ≡ next_after page
goes_more None [] page goes = absurd (cc)
goes_more (Some after) [] page goes = ap (λ (t : Bool). if t then next_after page else None) (let same : page.after ≡ after = cc in subst (λ (a : List ℕ). bytes_eq page.after a ≡ true) same (bytes_eq-refl page.after))
goes_more None (p ∷ pages) page goes = absurd (cc)
goes_more (Some after) (p ∷ pages) page goes = cases (bytes_eq p.after after) goes (goes_more (next_after p) pages page)
  where
    cases : (t : Bool) → (if t then goes_on (next_after p) pages else None) ≡ Some page.after → (goes_on (next_after p) pages ≡ Some page.after → goes_on (next_after p) (pages ++ page ∷ []) ≡ next_after page)
        → (if t then goes_on (next_after p) (pages ++ page ∷ []) else None) ≡ next_after page
    cases true goes' rest = rest goes'
    cases false goes' rest = absurd (cc)

ends_more : (from : Option (List ℕ)) (pages : List ScanPage) (page : ScanPage) → goes_on from pages ≡ Some page.after → next_after page ≡ None → IsTrue (ends from (pages ++ page ∷ []))
ends_more None [] page goes over = absurd (cc)
ends_more (Some after) [] page goes over =
    and_from _ _ (let same : page.after ≡ after = cc in subst (λ (a : List ℕ). bytes_eq page.after a ≡ true) same (bytes_eq-refl page.after))
    (subst (λ (o : Option (List ℕ)). IsTrue (ends o [])) (sym over) refl)
ends_more None (p ∷ pages) page goes over = absurd (cc)
ends_more (Some after) (p ∷ pages) page goes over = cases (bytes_eq p.after after) refl goes (λ goes'. ends_more (next_after p) pages page goes' over)
  where
    cases : (t : Bool) → bytes_eq p.after after ≡ t → (if t then goes_on (next_after p) pages else None) ≡ Some page.after → (goes_on (next_after p) pages ≡ Some page.after → IsTrue (ends (next_after p) (pages ++ page ∷ [])))
        → IsTrue (bytes_eq p.after after && ends (next_after p) (pages ++ page ∷ []))
    cases true is goes' rest = and_from _ _ is (rest goes')
    cases false is goes' rest = absurd (cc)

-- a run begins where nothing of its prefix was shown
pub begins_scan : (prefix : List ℕ) (pairs : List Pair) (history : List DoorEntry) → HasShown pairs history → pages_of prefix history ≡ [] → IsScanning prefix (Some []) pairs pairs history history
begins_scan prefix pairs history shows none = record {
  shows = shows;
  goes = ap (λ (pages : List ScanPage). goes_on (Some []) pages) none;
  added = sym (ap (λ (pages : List ScanPage). pairs ++ listed_on pages) none ∙ append-nil pairs);
  others = λ other apart. refl;
  got = refl;
  whole = λ is. absurd (cc);
}

-- and goes on with a page
pub scans_on : (prefix after : List ℕ) (next : Option (List ℕ)) (pairs before now : List Pair) (old old' new : List DoorEntry)
    → IsScanning prefix (Some after) pairs before old old' → HasPage prefix after next before now old' new → IsScanning prefix next pairs now old new
scans_on prefix after next pairs before now old old' new runs p =
    subst (λ (h : List DoorEntry). IsScanning prefix next pairs now old h) (sym p.history) (record {
      shows = record {
        reading = page_reading prefix after p.page old' runs.shows.reading;
        shown = shown_more old' (page_entry prefix after p.page) ∙ (ap (λ (ps : List Pair). ps ++ p.page) runs.shows.shown ∙ sym p.added);
      };
      goes = ap (λ (pages : List ScanPage). goes_on (Some []) pages) own ∙ (goes_more (Some []) (pages_of prefix old') it runs.goes ∙ sym p.goes);
      added = p.added ∙ (ap (λ (ps : List Pair). ps ++ p.page) runs.added ∙ (append_assoc pairs (listed_on (pages_of prefix old')) p.page
          ∙ ap (λ (ps : List Pair). pairs ++ ps) (sym (ap listed_on own ∙ flat_map_more (λ (q : ScanPage). q.listed) (pages_of prefix old') it))));
      others = λ other apart. other_page prefix after p.page old' other apart ∙ runs.others other apart;
      got = page_got prefix after p.page old' ∙ runs.got;
      whole = λ over. subst (λ (pages : List ScanPage). IsTrue (is_scan_run pages)) (sym own) (ends_more (Some []) (pages_of prefix old') it runs.goes (sym p.goes ∙ over));
    })
  where
    it : ScanPage
    it = record { after = after; listed = p.page }

    own : pages_of prefix (old' ++ page_entry prefix after p.page ∷ []) ≡ pages_of prefix old' ++ record { after = after; listed = p.page } ∷ []
    own = own_page prefix after p.page old'

-- ---- whose turn it is

same_next : (o : Option (List ℕ)) (after : List ℕ) → o ≡ Some after → IsTrue (option_eq bytes_eq o (Some after))
same_next o after is = subst (λ (p : Option (List ℕ)). IsTrue (option_eq bytes_eq p (Some after))) (sym is) (bytes_eq-refl after)

records_next : (after : List ℕ) (history : List DoorEntry) → goes_on (Some []) (pages_of records_prefix history) ≡ Some after → IsTrue (is_next_read history (Scan records_prefix after 64))
records_next after history goes = or_left _ _ (same_next _ after goes)

markers_next : (after : List ℕ) (history : List DoorEntry) → IsTrue (is_scan_run (record_pages history)) → goes_on (Some []) (pages_of markers_prefix history) ≡ Some after → IsTrue (is_next_read history (Scan markers_prefix after 64))
markers_next after history whole goes = and_from _ _ whole (same_next _ after goes)

-- the next page of a prefix whose turn it is may be read
pub may_read_page : (prefix after : List ℕ) (history : List DoorEntry) → IsTurnOf prefix history → goes_on (Some []) (pages_of prefix history) ≡ Some after → IsTrue (is_next_read history (Scan prefix after 64))
may_read_page prefix after history (inl is) goes = subst (λ (p : List ℕ). IsTrue (is_next_read history (Scan p after 64))) (sym is) (records_next after history (subst (λ (p : List ℕ). goes_on (Some []) (pages_of p history) ≡ Some after) is goes))
may_read_page prefix after history (inr is) goes = subst (λ (p : List ℕ). IsTrue (is_next_read history (Scan p after 64))) (sym is.0) (markers_next after history is.1 (subst (λ (p : List ℕ). goes_on (Some []) (pages_of p history) ≡ Some after) is.0 goes))

-- a turn stays while its prefix is scanned
pub turn_stays : (prefix : List ℕ) (next : Option (List ℕ)) (pairs now : List Pair) (old new : List DoorEntry) → IsTurnOf prefix old → IsScanning prefix next pairs now old new → IsTurnOf prefix new
turn_stays prefix next pairs now old new (inl is) runs = inl is
turn_stays prefix next pairs now old new (inr is) runs =
    inr (is.0, subst (λ (pages : List ScanPage). IsTrue (is_scan_run pages)) (sym (runs.others records_prefix (subst (λ (p : List ℕ). IsFalse (bytes_eq records_prefix p)) (sym is.0) refl))) is.1)

-- too many names of a prefix are too many
pub too_many : (prefix : List ℕ) (history : List DoorEntry) → IsTurnOf prefix history → IsTrue (are_too_many (pages_of prefix history)) → IsTrue (shows_too_many history)
too_many prefix history (inl is) many = or_left _ _ (subst (λ (p : List ℕ). IsTrue (are_too_many (pages_of p history))) is many)
too_many prefix history (inr is) many = or_right _ _ (subst (λ (p : List ℕ). IsTrue (are_too_many (pages_of p history))) is.0 many)

-- a run that goes on has less left, where it isn't too long
pub fewer_left : (after : List ℕ) (next : Option (List ℕ)) (page : List Pair) (listed : ℕ) → next ≡ next_after (record { after = after; listed = page }) → listed ≤ 20000 → listed + length page ≤ 20000
    → left_to_list next (listed + length page) < left_to_list (Some after) listed
fewer_left after None page listed is few few' = omega arith
fewer_left after (Some name) page listed is few few' = full (nat_lt (length page) 64) refl is
  where
    full : (t : Bool) → nat_lt (length page) 64 ≡ t → Some name ≡ (if t then None else option_map (λ (p : Pair). p.name) (last_or None page)) → 20001 - (listed + length page) < 20001 - listed
    full true short is' = absurd (cc)
    full false long is' = let many : 64 ≤ length page = ltb-false (length page) 64 long in omega arith

-- how much a run has listed
pub many_listed : (pairs now : List Pair) (pages : List ScanPage) → now ≡ pairs ++ listed_on pages → 20000 < length now - length pairs → IsTrue (are_too_many pages)
many_listed pairs now pages is many =
    let long : length now ≡ length pairs + length (listed_on pages) = ap length is ∙ length-append pairs (listed_on pages) in
    let over : 20000 < length (listed_on pages) = omega arith in
    lt-ltb 20000 (length (listed_on pages)) over

pub few_listed : (pairs now : List Pair) (pages : List ScanPage) → now ≡ pairs ++ listed_on pages → length now - length pairs ≤ 20000 → IsFalse (are_too_many pages)
few_listed pairs now pages is few =
    let long : length now ≡ length pairs + length (listed_on pages) = ap length is ∙ length-append pairs (listed_on pages) in
    let under : length (listed_on pages) ≤ 20000 = omega arith in
    le-ltb 20000 (length (listed_on pages)) under

-- the last element is the one at the last place
slice_last : {A : Type 0} (xs : List A) → slice_get xs (length xs - 1) ≡ last_or None xs
slice_last [] = refl
slice_last (x ∷ xs) = (let e : length (x ∷ xs) - 1 ≡ length xs = omega arith in ap (slice_get (x ∷ xs)) e) ∙ sym (from x xs)
  where
    from : {A : Type 0} (x : A) (xs : List A) → last_or (Some x) xs ≡ slice_get (x ∷ xs) (length xs)
    from x [] = refl
    from x (y ∷ ys) = from y ys

-- behind a full page the run goes on behind its last name
pub next_full : (after : List ℕ) (page : List Pair) (p : Pair) → 64 ≤ length page → Some p ≡ slice_get page (length page - 1) → Some p.name ≡ next_after (record { after = after; listed = page })
next_full after page p long is =
    sym (ap (λ (t : Bool). if t then None else option_map (λ (q : Pair). q.name) (last_or None page)) (le-ltb (length page) 64 long)
    ∙ ap (λ (o : Option Pair). option_map (λ (q : Pair). q.name) o) (sym (is ∙ slice_last page)))
