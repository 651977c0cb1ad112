-- What a node knows is committed at the door, by what it has seen.
use Rattle.std.proofs.Common.{◌≡◌, ◌≤◌, ℕ, Bool, true, false, ◌&&◌, not, List, [], ◌∷◌, ◌++◌, refl, sym, ap, subst, ◌∙◌, ◌⊎◌, inl, inr, take, eqb}
use Rattle.std.specs.Prelude.{IsTrue, Option, filter, if◌then◌else◌}
use Rattle.std.specs.Cmp.Lexicographic.{pointwise}
use Rattle.std.specs.List.{flat_map, fold}
use Rattle.std.specs.Str.{bytes_eq}
use Rattle.std.proofs.lemmas.Bool.{and_parts, false≢true, or_cases}
use Rattle.aft_keeper.specs.declared.keeper.KeeperAnswer.TheVariants.{Page}
use Rattle.aft_keeper.specs.declared.keeper.KeeperCall.TheVariants.{Scan}
use Rattle.aft_keeper.specs.declared.keeper.Pair.{Pair}
use Rattle.aft_records.specs.Commits.{first_known, is_among, is_listed, same_commit, with_commit}
use Rattle.aft_records.specs.Superseded.{is_superseded}
use Rattle.aft_records.specs.declared.stored.Commit.{Commit}
use Rattle.aft_model.specs.declared.caller.By.{By}
use Rattle.aft_model.specs.declared.door.DoorAct.{DoorAct}
use Rattle.aft_model.specs.declared.door.DoorAct.TheVariants as door_acts
use Rattle.aft_model.specs.declared.door.DoorEntry.{DoorEntry}
use Rattle.aft_model.specs.declared.node.NodeAct.{NodeAct}
use Rattle.aft_model.specs.declared.node.NodeAct.TheVariants.{Boot, BootStopped, Booting, Down, Drop, Learn, Stored}
use Rattle.aft_model.specs.declared.node.NodeEntry.{NodeEntry}
use Rattle.aft_model.specs.declared.reply.Reply.{Reply}
use Rattle.aft_model.specs.Committed.{committed, committed_by, proven_pairs}
use Rattle.aft_model.specs.Evidence.{pairs_in, shown_pairs, stored_pairs}
use Rattle.aft_model.specs.History.{followed}
use Rattle.aft_model.specs.Known.{known, known_after, known_in, known_of}
use Rattle.aft_model.specs.LegalNode.{front}
use Rattle.aft_model.specs.Membership.{Incarnation, incarnation, same_incarnation}
use Rattle.aft_model.specs.NodeSights.{comes_up, has_seen, is_stored_by, own_entries, shows_commits}
use Rattle.aft_model.specs.NodeState.{IsBooting, IsDown, IsServing, NodeState, goes_on, node_state, service_in, state_after, stopped}
use Rattle.aft_model.specs.Readings.{records_in}
use Rattle.aft_model.specs.ScanRun.{ScanPage, commits_on, is_scan_run, page_in, page_limit, same_line, scan_pages}
use Rattle.aft_model.specs.Sound.{records_prefix}
use Rattle.aft_model.proofs.Growth.{committed_grows}
use Rattle.aft_model.proofs.Histories.{In, all_at, any_found, any_from, in_back, in_flat_map}
use Rattle.aft_model.proofs.Ids.{same_commits}
use Rattle.aft_model.proofs.Knowledge.{known_in-extended, placed_new, with_cases}
use Rattle.aft_model.proofs.Lists.{in_filter}
use Rattle.aft_model.proofs.Services.{node_state-snoc}
use Rattle.law_kept.proofs.Gives.{committed_among}
use Rattle.law_kept.proofs.Gone.{flat_map_in}
use Rattle.law_kept.proofs.PutMarker.{same_commit_itself}
use Rattle.law_places.proofs.Seen.{grows}
use Rattle.law_reads.specs.Brings.{brings}
use Rattle.law_boots.specs.Beside.{Beside}
use Rattle.law_boots.proofs.Nodes.{before, front-snoc, kept, looked, up}

-- ---- what joins the known ones

joined : (known : List Commit) (new : Commit) (c : Commit) → In c (with_commit known new) → In c known ⊎ (c ≡ new)
joined known new c = with_cases (λ (l : List Commit). In c l → In c known ⊎ (c ≡ new)) known new inl (λ fresh stands. placed_new c known new)

learned : (known commits : List Commit) (c : Commit) → In c (fold with_commit known commits) → In c known ⊎ In c commits
learned known [] c among = inl among
learned known (d ∷ commits) c among =
    elim (learned (with_commit known d) commits c among) [
      | inl first ↦ elim (joined known d c first) [ inl was ↦ inl was | inr is ↦ inr (inl is) ]
      | inr later ↦ inr (inr later)
    ]

at_boot : (commits : List Commit) (c : Commit) → In c (first_known commits) → In c commits
at_boot commits c among =
    elim (learned [] (filter (λ d. not (is_superseded d commits)) commits) c among) [
      | inl none ↦ absurd none
      | inr shown ↦ (in_filter (λ d. not (is_superseded d commits)) c commits shown).0
    ]

known_before : (known : List Commit) (act : NodeAct) (c : Commit) → In c (known_after known act) → In c known ⊎ In c (brings act)
known_before known (Learn commits) c among = learned known commits c among
known_before known (Stored a d) c among = elim (joined known d c among) [ inl was ↦ inl was | inr is ↦ inr (inl is) ]
known_before known (Drop ids) c among = inl (in_filter (λ d. not (is_listed d.id ids)) c known among).0
known_before known act c among = inl among

went_on : (state : NodeState) (entry : NodeEntry) (c : Commit) → In c (known_of (service_in (goes_on state entry))) → In c (known_of (service_in state)) ⊎ In c (brings entry.act)
went_on IsDown entry c among = inl among
went_on (IsBooting inc running) entry c among = inl among
went_on (IsServing s) entry c among = known_before (known_in s) entry.act c (subst (In c) (known_in-extended s entry) among)

was_stopped : (state : NodeState) (entry : NodeEntry) (c : Commit) → In c (known_of (service_in (stopped state entry))) → In c (known_of (service_in state)) ⊎ In c (brings entry.act)
was_stopped IsDown entry c among = inl among
was_stopped (IsBooting inc running) entry c among = inl among
was_stopped (IsServing s) entry c among = went_on (IsServing s) entry c among

-- what is known behind an entry was known before it, or the entry brings it
known_fate : (state : NodeState) (entry : NodeEntry) (act : NodeAct) → entry.act ≡ act → (c : Commit) → In c (known_of (service_in (state_after state entry act))) → In c (known_of (service_in state)) ⊎ In c (brings entry.act)
known_fate state entry (Booting inc) is c among = absurd among
known_fate state entry (Boot inc commits) is c among = inr (subst (λ act. In c (brings act)) (sym is) (at_boot commits c among))
known_fate state entry (BootStopped inc) is c among = was_stopped state entry c among
known_fate state entry (Down inc) is c among = absurd among
known_fate state entry act is c among = went_on state entry c among

-- ---- what an entry brings was shown

-- what a test is followed by
pub record Behind {A : Type 0} (first : A → Bool) (rest : List A → Bool) (xs : List A) : Type 0 where
  pub before : List A
  pub one : A
  pub since : List A
  pub parts : xs ≡ before ++ one ∷ since
  pub is_first : IsTrue (first one)
  pub is_rest : IsTrue (rest since)

pub behind : {A : Type 0} (first : A → Bool) (rest : List A → Bool) (xs : List A) → IsTrue (followed first rest xs) → Behind first rest xs
behind first rest [] passed = absurd (false≢true passed)
behind {A} first rest (x ∷ xs) passed =
    elim (or_cases (first x && rest xs) (followed first rest xs) passed) [
      | inl here ↦ (let parts = and_parts (first x) (rest xs) here in record { before = []; one = x; since = xs; parts = refl; is_first = parts.0; is_rest = parts.1 })
      | inr later ↦ (let found = behind first rest xs later in
          record { before = x ∷ found.before; one = found.one; since = found.since; parts = ap (λ (l : List A). x ∷ l) found.parts; is_first = found.is_first; is_rest = found.is_rest })
    ]

-- lists that agree element by element
pub other_of : (xs ys : List Commit) (y : Commit) → IsTrue (pointwise same_commit xs ys) → In y ys → In y xs
other_of [] [] y same among = absurd among
other_of [] (b ∷ ys) y same among = absurd (false≢true same)
other_of (a ∷ xs) [] y same among = absurd (false≢true same)
other_of (a ∷ xs) (b ∷ ys) y same (inl here) = (let parts = and_parts (same_commit a b) (pointwise same_commit xs ys) same in inl (here ∙ sym (same_commits a b parts.0)))
other_of (a ∷ xs) (b ∷ ys) y same (inr later) = (let parts = and_parts (same_commit a b) (pointwise same_commit xs ys) same in inr (other_of xs ys y parts.1 later))

-- what a page lists is shown
listed_shown : (who : Incarnation) (prefix : List ℕ) (act : DoorAct) (page : ScanPage) (pair : Pair) → In page (page_in who prefix act) → In pair page.listed → In pair (pairs_in act)
listed_shown who prefix (door_acts.Call node inc (Scan scanned after limit) (Page pairs)) page pair among listed =
    cases (same_incarnation who (incarnation node inc) && bytes_eq prefix scanned && eqb limit page_limit) among
  where
    cases : (t : Bool) → In page (if t then record { after = after; listed = pairs } ∷ [] else []) → In pair pairs
    cases true is = elim is [ inl here ↦ subst (λ (p : ScanPage). In pair p.listed) here listed | inr nowhere ↦ absurd nowhere ]
    cases false is = absurd is
listed_shown who prefix act page pair among listed = absurd among

-- a commit on the pages of a line is committed
page_committed : (who : Incarnation) (by : By) (prefix : List ℕ) (c : Commit) (history : List DoorEntry) → In c (commits_on (scan_pages who by prefix history)) → In c (committed history)
page_committed who by prefix c history among =
    let pair = in_flat_map records_in c (flat_map (λ (page : ScanPage). page.listed) (scan_pages who by prefix history)) among in
    let page = in_flat_map (λ (p : ScanPage). p.listed) pair.0 (scan_pages who by prefix history) pair.1 in
    let entry = in_flat_map (λ (e : DoorEntry). if same_line by e.by then page_in who prefix e.act else []) page.0 history page.1 in
    flat_map_in (λ (e : DoorEntry). committed_by e) c entry.0 history entry.1
    (flat_map_in records_in c pair.0 (proven_pairs entry.0)
    (in_back pair.0 (stored_pairs entry.0) (shown_pairs entry.0) (listed_shown who prefix entry.0.act page.0 pair.0 (own (same_line by entry.0.by) entry.0 page.0 entry.2) page.2)) pair.2)
  where
    own : (t : Bool) (e : DoorEntry) (page : ScanPage) → In page (if t then page_in who prefix e.act else []) → In page (page_in who prefix e.act)
    own true e page is = is
    own false e page is = absurd is

in_since : (c : Commit) (before since : List DoorEntry) (one : DoorEntry) → In c (committed since) → In c (committed (before ++ one ∷ since))
in_since c before since one among =
    let entry = in_flat_map (λ (e : DoorEntry). committed_by e) c since among in
    flat_map_in (λ (e : DoorEntry). committed_by e) c entry.0 (before ++ one ∷ since) (in_back entry.0 before (one ∷ since) (inr entry.1)) entry.2

stored_committed : (c : Commit) (by : By) (seen : List DoorEntry) → IsTrue (is_stored_by c (own_entries by seen)) → In c (committed seen)
stored_committed c by seen is =
    let entry = any_found (λ (e : DoorEntry). is_among c (committed_by e)) (own_entries by seen) is in
    let found = any_found (same_commit c) (committed_by entry.0) entry.2 in
    subst (λ (d : Commit). In d (committed seen)) (sym (same_commits c found.0 found.2))
    (flat_map_in (λ (e : DoorEntry). committed_by e) found.0 entry.0 seen (in_filter (λ (x : DoorEntry). same_line by x.by) entry.0 seen entry.1).0 found.1)

-- each commit that an act brings is committed in what it has seen
brought_seen : (node : ℕ) (seen : List DoorEntry) (by : By) (history : List NodeEntry) (act : NodeAct) (answer : Option Reply) → IsTrue (has_seen node seen by history act answer) → (c : Commit) → In c (brings act) → In c (committed seen)
brought_seen node seen by history (Boot inc commits) answer sight c among =
    let at = behind (λ (e : DoorEntry). comes_up (incarnation node inc) e.act) (λ since. shows_commits commits (scan_pages (incarnation node inc) by records_prefix since)) seen sight in
    let pages = scan_pages (incarnation node inc) by records_prefix at.since in
    let shown = and_parts (is_scan_run pages) (pointwise same_commit (commits_on pages) commits) at.is_rest in
    subst (λ (h : List DoorEntry). In c (committed h)) (sym at.parts)
    (in_since c at.before at.since at.one (page_committed (incarnation node inc) by records_prefix c at.since (other_of (commits_on pages) commits c shown.1 among)))
brought_seen node seen by history (Learn commits) answer sight c among = committed_among c seen (all_at (λ (d : Commit). is_among d (committed seen)) c commits among sight)
brought_seen node seen by history (Stored a d) answer sight c among = elim among [
  | inl is ↦ subst (λ (e : Commit). In e (committed seen)) (sym is) (stored_committed d by seen sight)
  | inr nowhere ↦ absurd nowhere
]
brought_seen node seen by history act answer sight c among = absurd among

-- ---- known is committed

pub seen_later : (c : Commit) (door : List DoorEntry) (n m : ℕ) → n ≤ m → In c (committed (take n door)) → In c (committed (take m door))
seen_later c door n m le among =
    let more = grows n m door le in
    committed_among c (take m door) (subst (λ (h : List DoorEntry). IsTrue (is_among c (committed h))) (sym more.1)
    (committed_grows c (take n door) more.0 (any_from (same_commit c) c (committed (take n door)) among (same_commit_itself c))))

module _ (node capacity : ℕ) (door : List DoorEntry) where
  module _ (history : List NodeEntry) (entry : NodeEntry) (beside : Beside node capacity door (history ++ entry ∷ [])) where
    -- what an entry brings is committed in what it has seen
    pub brought : (c : Commit) → In c (brings entry.act) → In c (committed (take entry.front door))
    brought = brought_seen node (take entry.front door) entry.by history entry.act entry.answer (looked node capacity door history entry beside)

    more_known : ((c : Commit) → In c (known history) → In c (committed (take (front history) door))) → (c : Commit) → In c (known (history ++ entry ∷ [])) → In c (committed (take (front (history ++ entry ∷ [])) door))
    more_known was c among =
        subst (λ (n : ℕ). In c (committed (take n door))) (sym (front-snoc history entry))
        (elim (known_fate (node_state history) entry entry.act refl c (subst (λ (s : NodeState). In c (known_of (service_in s))) (node_state-snoc history entry) among)) [
          | inl earlier ↦ seen_later c door (front history) entry.front (up node capacity door history entry beside) (was c earlier)
          | inr new ↦ brought c new
        ])

  pub known_seen : (history : List NodeEntry) → Beside node capacity door history → (c : Commit) → In c (known history) → In c (committed (take (front history) door))
  known_seen history beside = kept node capacity door (λ (h : List NodeEntry). (c : Commit) → In c (known h) → In c (committed (take (front h) door))) (λ c among. absurd among) more_known history beside

  -- what is known before an entry is committed in what that has seen
  pub known_at : (history : List NodeEntry) (entry : NodeEntry) → Beside node capacity door (history ++ entry ∷ []) → (c : Commit) → In c (known history) → In c (committed (take entry.front door))
  known_at history entry beside c among =
      seen_later c door (front history) entry.front (up node capacity door history entry beside) (known_seen history (before node capacity door history entry beside) c among)
