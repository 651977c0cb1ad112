-- Where the turns of a start lead.
use Rattle.std.proofs.Common.{◌≡◌, ◌+◌, ◌≤◌, ℕ, Bool, true, false, ◌&&◌, List, [], ◌∷◌, ◌++◌, eqb, length, refl, sym, ap, subst, ◌∙◌, ◌⊎◌, inl, inr, append-nil, append_assoc}
use Rattle.std.specs.Prelude.{IsTrue, None, Option, Some, if◌then◌else◌, map}
use Rattle.std.specs.List.{fold, list_all}
use Rattle.std.specs.Str.{bytes_eq}
use Rattle.std.proofs.lemmas.Bool.{and_from, and_parts, eq-eqb, false≢true}
use Rattle.std.proofs.lemmas.List.Sums.{fold-append}
use Rattle.aft_keeper.specs.declared.keeper.KeeperAnswer.{KeeperAnswer}
use Rattle.aft_keeper.specs.declared.keeper.KeeperAnswer.TheVariants as answers
use Rattle.aft_keeper.specs.declared.keeper.Pair.{Pair}
use Rattle.aft_model.specs.declared.caller.By.{By}
use Rattle.aft_model.specs.declared.node.NodeAct.{NodeAct}
use Rattle.aft_model.specs.declared.node.NodeAct.TheVariants as acts
use Rattle.aft_model.specs.declared.node.NodeEntry.{NodeEntry}
use Rattle.aft_model.specs.declared.reply.Reply.{Reply}
use Rattle.aft_model.specs.declared.script.Command.TheVariants as commands
use Rattle.aft_model.specs.Membership.{Incarnation, incarnation, same_incarnation}
use Rattle.aft_model.specs.NodeState.{node_state}
use Rattle.aft_model.specs.Readings.{has_reading}
use Rattle.aft_model.specs.ScanRun.{ends, goes_on, is_scan_run, next_after}
use Rattle.aft_model.specs.Sound.{records_prefix}
use Rattle.aft_model.proofs.OneCommit.{same_itself}
use Rattle.aft_model.proofs.Sights.{bytes_eq-refl, same_bytes}
use Rattle.aft_lines.specs.Advance.{HasEnded, advance, advanced, behind_answer, behind_boot_page, behind_name, booted_by, if_so, is_led_to_end, leads_to, paged_by, scan_of, scanned_by, with_page}
use Rattle.aft_lines.specs.CourseWords.{Ends, closes}
use Rattle.aft_lines.specs.LineCourse.{ends_boot}
use Rattle.aft_lines.specs.Progress.{BootScan, BootScanned, IsOver, MustComeUp, NotBegun, Progress, Scanning}
use Rattle.aft_lines.specs.ScanCourse.{names_limit, stops_at}
use Rattle.aft_lines.specs.Turns.{AtDoor, Turn}
use Rattle.aft_boot.specs.Booted.{AreRead, PageAt, begun_turns, listed_on, page_act, page_turn, scan_page, up_turns}
use Rattle.aft_boot.specs.Crashed.{turn_at}
use Rattle.aft_boot.proofs.PageRuns.{Fine, fine_all, fine_first, fine_rest, good}

-- a scan of the records by an incarnation of a node, on its way
abbrev pub scan_at : ℕ → ℕ → List ℕ → List Pair → Scanning
scan_at node inc after listed = record { limit = names_limit; who = incarnation node inc; prefix = records_prefix; after = after; listed = listed }

module _ (node inc : ℕ) (nodes : List ℕ) (ends_so : Ends) where
  -- one turn more
  abbrev pub step : Option Progress → Turn → Option Progress
  step position turn = advanced (advance (commands.Start node) nodes ends_so) position turn

  -- a start that is at this place of its scan: it scans, or is to come up and has come up
  abbrev pub IsAt : Scanning → Option Progress → Type 0
  IsAt scan position = (position ≡ Some (BootScan scan)) ⊎ ((scan ≡ scan_at node inc [] []) × (position ≡ Some (MustComeUp (incarnation node inc))))

  -- one of this incarnation that its boot may stop
  abbrev pub InBoot : Option Progress → Type 0
  InBoot position = ((scan : Scanning) × (scan.who ≡ incarnation node inc) × (position ≡ Some (BootScan scan))) ⊎ ((position ≡ Some (MustComeUp (incarnation node inc))) ⊎ ((whole : Bool) × (position ≡ Some (BootScanned (incarnation node inc) whole))))

  pub at_in_boot : (after : List ℕ) (listed : List Pair) (position : Option Progress) → IsAt (scan_at node inc after listed) position → InBoot position
  at_in_boot after listed position (inl is) = inl (scan_at node inc after listed, refl, is)
  at_in_boot after listed position (inr (first, is)) = inr (inl is)

  -- ---- a call for a page

  its_call : (after : List ℕ) → IsTrue (same_incarnation (incarnation node inc) (incarnation node inc) && bytes_eq records_prefix records_prefix && bytes_eq after after && eqb 64 64)
  its_call after = and_from _ _ (and_from _ _ (and_from _ _ (same_itself (incarnation node inc)) refl) (bytes_eq-refl after)) refl

  called : (place : ℕ) (after : List ℕ) (listed : List Pair) (answer : KeeperAnswer) (position : Option Progress) → IsAt (scan_at node inc after listed) position → step position (AtDoor place (page_act node inc after answer)) ≡ Some (behind_boot_page (behind_answer (scan_at node inc after listed) answer))
  called place after listed answer position (inl is) =
      ap (λ (p : Option Progress). step p (AtDoor place (page_act node inc after answer))) is
      ∙ ap (λ (t : Bool). paged_by behind_boot_page (if t then behind_answer (scan_at node inc after listed) answer ∷ [] else []) (booted_by ends_so (incarnation node inc) false (AtDoor place (page_act node inc after answer)))) (its_call after)
  called place after listed answer position (inr (first, is)) =
      ap (λ (p : Option Progress). step p (AtDoor place (page_act node inc after answer))) is
      ∙ (ap (λ (s : Scanning). paged_by behind_boot_page (scanned_by s (AtDoor place (page_act node inc after answer))) (booted_by ends_so (incarnation node inc) false (AtDoor place (page_act node inc after answer)))) (sym first)
      ∙ ap (λ (t : Bool). paged_by behind_boot_page (if t then behind_answer (scan_at node inc after listed) answer ∷ [] else []) (booted_by ends_so (incarnation node inc) false (AtDoor place (page_act node inc after answer)))) (its_call after))

  -- whatever was answered, its boot may be stopped behind it
  pub any_call : (place : ℕ) (after : List ℕ) (listed : List Pair) (answer : KeeperAnswer) (position : Option Progress) → IsAt (scan_at node inc after listed) position → InBoot (step position (AtDoor place (page_act node inc after answer)))
  any_call place after listed answer position at = subst InBoot (sym (called place after listed answer position at)) (by_answer answer)
    where
      by_stop : (t : Bool) (pairs : List Pair) (next : Option (List ℕ)) → InBoot (Some (behind_boot_page (if t then HasEnded false (with_page (scan_at node inc after listed) [] pairs) else behind_name (scan_at node inc after listed) pairs next)))
      by_stop true pairs next = inr (inr (false, refl))
      by_stop false pairs None = inr (inr (true, refl))
      by_stop false pairs (Some name) = inl (with_page (scan_at node inc after listed) name pairs, refl, refl)

      by_answer : (a : KeeperAnswer) → InBoot (Some (behind_boot_page (behind_answer (scan_at node inc after listed) a)))
      by_answer (answers.Page pairs) = by_stop (stops_at names_limit listed pairs) pairs (next_after (record { after = after; listed = pairs }))
      by_answer answers.Failed = inr (inr (false, refl))
      by_answer answers.Absent = inr (inr (false, refl))
      by_answer answers.Done = inr (inr (false, refl))
      by_answer (answers.Found bytes) = inr (inr (false, refl))

  paged : (place : ℕ) (after : List ℕ) (listed pairs : List Pair) (position : Option Progress) → IsAt (scan_at node inc after listed) position → length listed + length pairs ≤ 20000 → IsTrue (list_all has_reading pairs)
      → step position (AtDoor place (page_act node inc after (answers.Page pairs))) ≡ Some (behind_boot_page (behind_name (scan_at node inc after listed) pairs (next_after (record { after = after; listed = pairs }))))
  paged place after listed pairs position at few readable =
      called place after listed (answers.Page pairs) position at
      ∙ ap (λ (t : Bool). Some (behind_boot_page (if t then HasEnded false (with_page (scan_at node inc after listed) [] pairs) else behind_name (scan_at node inc after listed) pairs (next_after (record { after = after; listed = pairs }))))) (good listed pairs few readable)

  -- ---- all its pages

  abbrev pub behind_pages : Option Progress → List PageAt → Option Progress
  behind_pages position pages = fold step position (map (page_turn node inc) pages)

  none_some : (name : List ℕ) → None ≡ Some name → ⊥
  none_some name e = cc

  one_name : (a b : List ℕ) → Some a ≡ Some b → a ≡ b
  one_name a b e = cc

  nothing_behind : (pages : List PageAt) (name : List ℕ) → goes_on None (map scan_page pages) ≡ Some name → ⊥
  nothing_behind [] name e = none_some name e
  nothing_behind (p ∷ pages) name e = none_some name e

  -- pages that go on
  goes_along : (pages : List PageAt) (from after : List ℕ) (listed : List Pair) (position : Option Progress) → IsAt (scan_at node inc from listed) position → goes_on (Some from) (map scan_page pages) ≡ Some after → Fine listed pages → IsAt (scan_at node inc after (listed ++ listed_on pages)) (behind_pages position pages)
  goes_along [] from after listed position at goes fine = subst (λ (l : List Pair). IsAt (scan_at node inc after l) position) (sym (append-nil listed)) (subst (λ (n : List ℕ). IsAt (scan_at node inc n listed) position) (one_name from after goes) at)
  goes_along (page ∷ pages) from after listed position at goes fine =
      by_name (bytes_eq page.after from) refl goes (λ next moved more. goes_along pages next after (listed ++ page.listed) (step position (page_turn node inc page)) (inl moved) more (fine_rest listed page pages fine))
    where
      first : (length listed + length page.listed ≤ 20000) × IsTrue (list_all has_reading page.listed)
      first = fine_first listed page pages fine

      by_name : (t : Bool) → bytes_eq page.after from ≡ t → (if t then goes_on (next_after (scan_page page)) (map scan_page pages) else None) ≡ Some after
          → ((next : List ℕ) → step position (page_turn node inc page) ≡ Some (BootScan (scan_at node inc next (listed ++ page.listed))) → goes_on (Some next) (map scan_page pages) ≡ Some after → IsAt (scan_at node inc after ((listed ++ page.listed) ++ listed_on pages)) (behind_pages (step position (page_turn node inc page)) pages))
          → IsAt (scan_at node inc after (listed ++ listed_on (page ∷ pages))) (behind_pages (step position (page_turn node inc page)) pages)
      by_name false is goes rest = absurd (none_some after goes)
      by_name true is goes rest = by_next (next_after (scan_page page)) refl goes
        where
          here : IsAt (scan_at node inc page.after listed) position
          here = subst (λ (n : List ℕ). IsAt (scan_at node inc n listed) position) (sym (same_bytes page.after from is)) at

          by_next : (next : Option (List ℕ)) → next_after (scan_page page) ≡ next → goes_on next (map scan_page pages) ≡ Some after → IsAt (scan_at node inc after (listed ++ listed_on (page ∷ pages))) (behind_pages (step position (page_turn node inc page)) pages)
          by_next None its goes = absurd (nothing_behind pages after goes)
          by_next (Some next) its goes =
              subst (λ (l : List Pair). IsAt (scan_at node inc after l) (behind_pages (step position (page_turn node inc page)) pages)) (append_assoc listed page.listed (listed_on pages))
              (rest next (paged page.place page.after listed page.listed position here first.0 first.1 ∙ ap (λ (o : Option (List ℕ)). Some (behind_boot_page (behind_name (scan_at node inc page.after listed) page.listed o))) its) goes)

  -- pages that come to the end
  comes_to_end : (pages : List PageAt) (from : List ℕ) (listed : List Pair) (position : Option Progress) → IsAt (scan_at node inc from listed) position → IsTrue (ends (Some from) (map scan_page pages)) → Fine listed pages → behind_pages position pages ≡ Some (BootScanned (incarnation node inc) true)
  comes_to_end [] from listed position at whole fine = absurd (false≢true whole)
  comes_to_end (page ∷ pages) from listed position at whole fine =
      by_next pages (next_after (scan_page page)) refl parts.1 (λ next moved more. comes_to_end pages next (listed ++ page.listed) (step position (page_turn node inc page)) (inl moved) more (fine_rest listed page pages fine))
    where
      parts : IsTrue (bytes_eq page.after from) × IsTrue (ends (next_after (scan_page page)) (map scan_page pages))
      parts = and_parts (bytes_eq page.after from) (ends (next_after (scan_page page)) (map scan_page pages)) whole

      first : (length listed + length page.listed ≤ 20000) × IsTrue (list_all has_reading page.listed)
      first = fine_first listed page pages fine

      here : IsAt (scan_at node inc page.after listed) position
      here = subst (λ (n : List ℕ). IsAt (scan_at node inc n listed) position) (sym (same_bytes page.after from parts.0)) at

      moves : (o : Option (List ℕ)) → next_after (scan_page page) ≡ o → step position (page_turn node inc page) ≡ Some (behind_boot_page (behind_name (scan_at node inc page.after listed) page.listed o))
      moves o its = paged page.place page.after listed page.listed position here first.0 first.1 ∙ ap (λ (n : Option (List ℕ)). Some (behind_boot_page (behind_name (scan_at node inc page.after listed) page.listed n))) its

      by_next : (others : List PageAt) (next : Option (List ℕ)) → next_after (scan_page page) ≡ next → IsTrue (ends next (map scan_page others))
          → ((next : List ℕ) → step position (page_turn node inc page) ≡ Some (BootScan (scan_at node inc next (listed ++ page.listed))) → IsTrue (ends (Some next) (map scan_page others)) → behind_pages (step position (page_turn node inc page)) others ≡ Some (BootScanned (incarnation node inc) true))
          → behind_pages (step position (page_turn node inc page)) others ≡ Some (BootScanned (incarnation node inc) true)
      by_next [] None its more rest = moves None its
      by_next (q ∷ others) None its more rest = absurd (false≢true more)
      by_next others (Some next) its more rest = rest next (moves (Some next) its) more

  -- ---- from the first turn on

  module _ (by : By) (before : List NodeEntry) (front : ℕ) where
    abbrev first_turn : Turn
    first_turn = turn_at by node before front (acts.Booting inc) None

    -- it has come up
    up_at : (up : Option ℕ) → IsAt (scan_at node inc [] []) (fold step (Some (MustComeUp (incarnation node inc))) (up_turns node inc up))
    up_at None = inr (refl, refl)
    up_at (Some place) = inl (ap (λ (t : Bool). if_so t (BootScan (scan_of names_limit (incarnation node inc) records_prefix))) (same_itself (incarnation node inc)))

    -- its turns lead through the coming up and the pages
    pub through : (up : Option ℕ) (pages : List PageAt) (more : List Turn) → leads_to (commands.Start node) nodes ends_so (begun_turns by node inc before front up pages ++ more) ≡ fold step (behind_pages (fold step (Some (MustComeUp (incarnation node inc))) (up_turns node inc up)) pages) more
    through up pages more =
        fold-append step (Some NotBegun) (begun_turns by node inc before front up pages) more
        ∙ ap (λ (p : Option Progress). fold step p more) (fold-append step (Some (MustComeUp (incarnation node inc))) (up_turns node inc up) (map (page_turn node inc) pages))

    pub goes_so : (up : Option ℕ) (pages : List PageAt) (after : List ℕ) → goes_on (Some []) (map scan_page pages) ≡ Some after → AreRead pages → IsAt (scan_at node inc after (listed_on pages)) (behind_pages (fold step (Some (MustComeUp (incarnation node inc))) (up_turns node inc up)) pages)
    goes_so up pages after goes read = goes_along pages [] after [] (fold step (Some (MustComeUp (incarnation node inc))) (up_turns node inc up)) (up_at up) goes (fine_all pages read)

    pub whole_so : (up : Option ℕ) (pages : List PageAt) → IsTrue (is_scan_run (map scan_page pages)) → AreRead pages → behind_pages (fold step (Some (MustComeUp (incarnation node inc))) (up_turns node inc up)) pages ≡ Some (BootScanned (incarnation node inc) true)
    whole_so up pages whole read = comes_to_end pages [] [] (fold step (Some (MustComeUp (incarnation node inc))) (up_turns node inc up)) (up_at up) whole (fine_all pages read)

    -- ---- the last turn

    module _ (last_before : List NodeEntry) (last_front : ℕ) (act : NodeAct) (reply : Reply) where
      abbrev last_turn : Turn
      last_turn = turn_at by node last_before last_front act (Some reply)

      -- whether it closes the line of a boot whose scan was whole, or not
      abbrev pub Closes : Bool → Type 0
      Closes whole = IsTrue (closes ends_so inc (ends_boot inc whole) (node_state last_before) (record { front = last_front; by = by; act = act; answer = Some reply }))

      booted : (whole : Bool) → Closes whole → IsTrue (is_led_to_end (booted_by ends_so (incarnation node inc) whole last_turn))
      booted whole passes = by_test _ (and_from (eqb node node) _ (eq-eqb node node refl) passes)
        where
          by_test : (t : Bool) → IsTrue t → IsTrue (is_led_to_end (if_so t IsOver))
          by_test true is = refl
          by_test false is = absurd (false≢true is)

      pub ends_whole : (position : Option Progress) → position ≡ Some (BootScanned (incarnation node inc) true) → Closes true → IsTrue (is_led_to_end (step position last_turn))
      ends_whole position is passes = subst (λ (p : Option Progress). IsTrue (is_led_to_end (step p last_turn))) (sym is) (booted true passes)

      pub ends_any : (position : Option Progress) → InBoot position → ((whole : Bool) → Closes whole) → IsTrue (is_led_to_end (step position last_turn))
      ends_any position (inl (scan, its, is)) passes =
          subst (λ (p : Option Progress). IsTrue (is_led_to_end (step p last_turn))) (sym is)
          (subst (λ (who : Incarnation). IsTrue (is_led_to_end (booted_by ends_so who false last_turn))) (sym its) (booted false (passes false)))
      ends_any position (inr (inl is)) passes = subst (λ (p : Option Progress). IsTrue (is_led_to_end (step p last_turn))) (sym is) (booted false (passes false))
      ends_any position (inr (inr (whole, is))) passes = subst (λ (p : Option Progress). IsTrue (is_led_to_end (step p last_turn))) (sym is) (booted whole (passes whole))
