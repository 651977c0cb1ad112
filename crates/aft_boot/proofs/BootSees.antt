-- What a start has seen at the door when it serves.
use Rattle.std.proofs.Common.{◌≡◌, ℕ, Bool, true, false, ◌&&◌, ◌||◌, List, [], ◌∷◌, ◌++◌, length, refl, sym, ap, subst, ◌∙◌, append-nil, inl, inr}
use Rattle.std.specs.Prelude.{IsTrue, None, Option, Some, if◌then◌else◌, map}
use Rattle.std.specs.Cmp.Lexicographic.{pointwise}
use Rattle.std.specs.List.{flat_map, list_all, list_any}
use Rattle.std.specs.Str.{bytes_eq}
use Rattle.std.proofs.lemmas.Bool.{and_from, and_parts, false≢true, or_cases, or_left, or_right}
use Rattle.std.proofs.lemmas.List.Elements.{filter-append}
use Rattle.std.proofs.lemmas.List.Sums.{fold-append}
use Rattle.aft_keeper.specs.declared.keeper.Pair.{Pair}
use Rattle.aft_records.specs.Commits.{same_commit}
use Rattle.aft_records.specs.declared.stored.Commit.{Commit}
use Rattle.aft_model.specs.declared.caller.By.{By}
use Rattle.aft_model.specs.declared.door.DoorAct.TheVariants.{Up}
use Rattle.aft_model.specs.declared.door.DoorEntry.{DoorEntry}
use Rattle.aft_model.specs.declared.node.NodeAct.{NodeAct}
use Rattle.aft_model.specs.declared.node.NodeAct.TheVariants as acts
use Rattle.aft_model.specs.declared.reply.Reply.{Reply}
use Rattle.aft_model.specs.History.{followed}
use Rattle.aft_model.specs.Membership.{Incarnation, incarnation}
use Rattle.aft_model.specs.NodeSights.{comes_up, has_seen, is_boot_shown, own_entries, shows_commits}
use Rattle.aft_model.specs.ScanRun.{ScanPage, commits_on, is_scan_run, page_in, same_line, scan_pages}
use Rattle.aft_model.specs.Sound.{recorded, records_prefix}
use Rattle.aft_model.proofs.Ids.{same_id-refl}
use Rattle.aft_model.proofs.OneCommit.{same_itself}
use Rattle.aft_model.proofs.Sights.{bytes_eq-refl}
use Rattle.aft_lines.specs.LineView.{door_entry_in}
use Rattle.aft_lines.specs.Turns.{AtDoor, AtNode, AtOffice, Turn}
use Rattle.aft_node.specs.declared.goes.BootEnd.{BootEnd}
use Rattle.aft_node.specs.declared.goes.BootEnd.TheVariants.{Refused, Shown}
use Rattle.aft_turns.specs.Stands.{SeesOwn, last_sees, sees}
use Rattle.aft_turns.specs.Trail.{Trail}
use Rattle.aft_boot.specs.Booted.{BeginsWith, Closes, EndedLater, HasBegun, HasComeUp, HasRead, HasStopped, IsToEnd, PageAt, StopsAt, begun_turns, listed_on, made_at, page_turn, scan_page, up_turns}
use Rattle.aft_boot.specs.Crashed.{turn_at}
use Rattle.aft_boot.specs.declared.stage.Stage.{Stage}
use Rattle.aft_boot.specs.declared.stage.Stage.TheVariants.{Begins, ComesUp, Ended, Ends as ToEnd, Scans}
use Rattle.aft_boot.proofs.Entries.{AreDoor, both_door, entries_of, is_door, page_entry, pages_door, scans_alone, up_door, up_entries}

-- the commits that pages show
shown_on : (pages : List PageAt) → commits_on (map scan_page pages) ≡ recorded (listed_on pages)
shown_on pages = ap recorded (listed pages)
  where
    listed : (ps : List PageAt) → flat_map (λ (page : ScanPage). page.listed) (map scan_page ps) ≡ listed_on ps
    listed [] = refl
    listed (page ∷ ps) = ap (λ (more : List Pair). page.listed ++ more) (listed ps)

all_same : (commits : List Commit) → IsTrue (pointwise same_commit commits commits)
all_same [] = refl
all_same (c ∷ commits) = and_from _ _ (and_from _ _ (same_id-refl c.id) (all_keys c.keys)) (all_same commits)
  where
    all_keys : (keys : List (List ℕ)) → IsTrue (pointwise bytes_eq keys keys)
    all_keys [] = refl
    all_keys (key ∷ keys) = and_from _ _ (bytes_eq-refl key) (all_keys keys)

-- a scan run by what its line did
own_pages : (who : Incarnation) (by : By) (history : List DoorEntry) → scan_pages who by records_prefix history ≡ scan_pages who by records_prefix (own_entries by history)
own_pages who by [] = refl
own_pages who by (entry ∷ history) = by_line (same_line by entry.by) refl (own_pages who by history)
  where
    by_line : (t : Bool) → same_line by entry.by ≡ t → scan_pages who by records_prefix history ≡ scan_pages who by records_prefix (own_entries by history)
        → (if t then page_in who records_prefix entry.act else []) ++ scan_pages who by records_prefix history ≡ scan_pages who by records_prefix (if t then entry ∷ own_entries by history else own_entries by history)
    by_line true is rest =
        ap (λ (ps : List ScanPage). page_in who records_prefix entry.act ++ ps) rest
        ∙ ap (λ (t : Bool). (if t then page_in who records_prefix entry.act else []) ++ scan_pages who by records_prefix (own_entries by history)) (sym is)
    by_line false is rest = rest

own_both : (by : By) (xs ys : List DoorEntry) → own_entries by (xs ++ ys) ≡ own_entries by xs ++ own_entries by ys
own_both by xs ys = filter-append (λ (e : DoorEntry). same_line by e.by) xs ys

module _ (by : By) (node inc : ℕ) (commits : List Commit) (pages : List PageAt) (whole : IsTrue (is_scan_run (map scan_page pages))) (shown : commits ≡ recorded (listed_on pages)) where
  abbrev who : Incarnation
  who = incarnation node inc

  abbrev comes : DoorEntry → Bool
  comes entry = comes_up who entry.act

  abbrev shows : List DoorEntry → Bool
  shows since = shows_commits commits (scan_pages who by records_prefix since)

  -- what follows shows them, where the line did there just its pages
  pub shows_so : (since : List DoorEntry) → own_entries by since ≡ map (page_entry by node inc) pages ++ [] → IsTrue (shows since)
  shows_so since own =
      subst (λ (ps : List ScanPage). IsTrue (shows_commits commits ps)) (sym (own_pages who by since ∙ (ap (scan_pages who by records_prefix) own ∙ scans_alone by node inc pages)))
      (and_from _ _ whole (subst (λ (cs : List Commit). IsTrue (pointwise same_commit cs commits)) (shown ∙ sym (shown_on pages)) (all_same commits)))

  -- behind the line's own coming up
  own_up : (seen : List DoorEntry) → own_entries by seen ≡ record { by = by; act = Up node inc } ∷ map (page_entry by node inc) pages ++ [] → IsTrue (followed comes shows seen)
  own_up [] own = absurd (nothing own)
    where
      nothing : [] ≡ record { by = by; act = Up node inc } ∷ map (page_entry by node inc) pages ++ [] → ⊥
      nothing e = cc
  own_up (entry ∷ seen) own = by_line (same_line by entry.by) own (own_up seen)
    where
      one : (x y : DoorEntry) (xs ys : List DoorEntry) → x ∷ xs ≡ y ∷ ys → x ≡ y
      one x y xs ys e = cc

      others : (x y : DoorEntry) (xs ys : List DoorEntry) → x ∷ xs ≡ y ∷ ys → xs ≡ ys
      others x y xs ys e = cc

      by_line : (t : Bool) → (if t then entry ∷ own_entries by seen else own_entries by seen) ≡ record { by = by; act = Up node inc } ∷ map (page_entry by node inc) pages ++ []
          → (own_entries by seen ≡ record { by = by; act = Up node inc } ∷ map (page_entry by node inc) pages ++ [] → IsTrue (followed comes shows seen)) → IsTrue (comes entry && shows seen || followed comes shows seen)
      by_line true own rest =
          or_left _ _ (and_from _ _ (subst (λ (e : DoorEntry). IsTrue (comes e)) (sym (one entry (record { by = by; act = Up node inc }) (own_entries by seen) (map (page_entry by node inc) pages ++ []) own)) (same_itself who))
          (shows_so seen (others entry (record { by = by; act = Up node inc }) (own_entries by seen) (map (page_entry by node inc) pages ++ []) own)))
      by_line false own rest = or_right _ _ (rest own)

  -- behind a coming up that it looked at, before it did anything at the door
  looked_up : (look rest : List DoorEntry) → IsTrue (list_any comes look) → own_entries by look ≡ [] → own_entries by rest ≡ map (page_entry by node inc) pages ++ [] → IsTrue (followed comes shows (look ++ rest))
  looked_up [] rest came none own = absurd (false≢true came)
  looked_up (entry ∷ look) rest came none own = by_line (same_line by entry.by) none (λ later nothing. looked_up look rest later nothing own) came
    where
      never : (xs : List DoorEntry) → entry ∷ xs ≡ [] → ⊥
      never xs e = cc

      by_line : (t : Bool) → (if t then entry ∷ own_entries by look else own_entries by look) ≡ [] → (IsTrue (list_any comes look) → own_entries by look ≡ [] → IsTrue (followed comes shows (look ++ rest))) → IsTrue (comes entry || list_any comes look) → IsTrue (comes entry && shows (look ++ rest) || followed comes shows (look ++ rest))
      by_line true nothing on came = absurd (never (own_entries by look) nothing)
      by_line false nothing on came = elim (or_cases (comes entry) (list_any comes look) came) [
        | inl here ↦ or_left _ _ (and_from _ _ here (shows_so (look ++ rest) (own_both by look rest ∙ (ap (λ (es : List DoorEntry). es ++ own_entries by rest) nothing ∙ own))))
        | inr later ↦ or_right _ _ (on later nothing)
      ]

  pub boot_shown : (up : Option ℕ) (look rest seen : List DoorEntry) → seen ≡ look ++ rest → HasComeUp by node inc up look → own_entries by seen ≡ up_entries by node inc up ++ (map (page_entry by node inc) pages ++ []) → IsTrue (is_boot_shown who by commits seen)
  boot_shown (Some place) look rest seen is come own = own_up seen own
  boot_shown None look rest seen is come own =
      subst (λ (h : List DoorEntry). IsTrue (followed comes shows h)) (sym is)
      (looked_up look rest come.0 come.1 (sym (own_both by look rest ∙ ap (λ (es : List DoorEntry). es ++ own_entries by rest) come.1) ∙ (ap (own_entries by) (sym is) ∙ own)))

-- ---- the last of its turns

-- turns at the door ask nothing of what was seen
pub door_sees : (seen : List DoorEntry) (first : Turn) (mid : List Turn) → IsTrue (sees seen first) → AreDoor mid → IsTrue (last_sees seen (first ∷ mid))
door_sees seen first [] is door = is
door_sees seen first (AtDoor place act ∷ mid) is door = door_sees seen (AtDoor place act) mid refl (and_parts true (list_all is_door mid) door).1
door_sees seen first (AtNode node before entry ∷ mid) is door = absurd (false≢true door)
door_sees seen first (AtOffice before entry ∷ mid) is door = absurd (false≢true door)

pub sees_last : (seen : List DoorEntry) (turns : List Turn) (last : Turn) → last_sees seen (turns ++ last ∷ []) ≡ sees seen last
sees_last seen turns last = fold-append (λ (before : Bool) (turn : Turn). sees seen turn) true turns (last ∷ [])

-- ---- by how far it has come

none_sees : (seen : List DoorEntry) (turns : List Turn) → turns ≡ [] → IsTrue (last_sees seen turns)
none_sees seen turns is = subst (λ (ts : List Turn). IsTrue (last_sees seen ts)) (sym is) refl

begun_sees : (by : By) (node inc : ℕ) (up : Option ℕ) (pages : List PageAt) (more : List Turn) (trail : Trail) (seen : List DoorEntry) → HasBegun by node inc up pages more trail → AreDoor more → IsTrue (last_sees seen trail.turns)
begun_sees by node inc up pages more trail seen begun door =
    subst (λ (ts : List Turn). IsTrue (last_sees seen ts)) (sym begun.turns)
    (door_sees seen (turn_at by node begun.before begun.front (acts.Booting inc) None) ((up_turns node inc up ++ map (page_turn node inc) pages) ++ more) refl
    (both_door (up_turns node inc up ++ map (page_turn node inc) pages) more (both_door (up_turns node inc up) (map (page_turn node inc) pages) (up_door node inc up) (pages_door node inc pages)) door))

stopped_sees : (by : By) (node inc : ℕ) (reply : Reply) (trail : Trail) (seen : List DoorEntry) (has : HasStopped by node inc reply trail) → StopsAt node inc trail.look has.after (length (listed_on has.pages)) has.more reply → IsTrue (last_sees seen trail.turns)
stopped_sees by node inc reply trail seen has (inl (none, shut)) = begun_sees by node inc has.up has.pages has.more trail seen has.begun (subst AreDoor (sym none) refl)
stopped_sees by node inc reply trail seen has (inr (place, answer, one, stops)) = begun_sees by node inc has.up has.pages has.more trail seen has.begun (subst AreDoor (sym one) refl)

module _ (by : By) (node : ℕ) (trail : Trail) (seen : List DoorEntry) (own : SeesOwn by trail.turns seen) (begins : BeginsWith trail.look seen) where
  -- the last turn asks nothing, or serves what was shown
  last_one : (ended : EndedLater by node trail) (act : NodeAct) → ended.act ≡ act → IsTrue (has_seen node seen by ended.before act (Some ended.reply)) → IsTrue (last_sees seen trail.turns)
  last_one ended act is it =
      subst (λ (ts : List Turn). IsTrue (last_sees seen ts)) (sym ended.turns)
      (sees_last seen ended.since.turns (turn_at by node ended.before ended.front ended.act (Some ended.reply)) ∙ subst (λ (a : NodeAct). IsTrue (has_seen node seen by ended.before a (Some ended.reply))) (sym is) it)

  read_sees : (ended : EndedLater by node trail) (commits : List Commit) → HasRead by node ended.inc commits ended.since → Closes node ended.inc (Shown commits) ended.before ended.act ended.reply → IsTrue (last_sees seen trail.turns)
  read_sees ended commits has (inl (inr (act_is, reply_is))) = last_one ended (acts.BootStopped ended.inc) act_is refl
  read_sees ended commits has (inr (gone, act_is, reply_is)) = last_one ended acts.Nothing act_is refl
  read_sees ended commits has (inl (inl (act_is, reply_is))) =
      last_one ended (acts.Boot ended.inc commits) act_is
      (boot_shown by node ended.inc commits has.pages has.whole has.shown has.up ended.since.look begins.0 seen (begins.1 ∙ ap (λ (l : List DoorEntry). l ++ begins.0) ended.look) has.come
      (own.own ∙ (ap (λ (ts : List Turn). flat_map (door_entry_in by) ts) (ended.turns ∙ ap (λ (ts : List Turn). ts ++ turn_at by node ended.before ended.front ended.act (Some ended.reply) ∷ []) (has.begun.turns ∙ append-nil (begun_turns by node ended.inc has.begun.before has.begun.front has.up has.pages)))
      ∙ entries_of by node ended.inc by has.begun.before has.begun.front has.up has.pages (turn_at by node ended.before ended.front ended.act (Some ended.reply) ∷ []))))

  refused_sees : (ended : EndedLater by node trail) (why : Reply) → Closes node ended.inc (Refused why) ended.before ended.act ended.reply → IsTrue (last_sees seen trail.turns)
  refused_sees ended why (inl (act_is, reply_is)) = last_one ended (acts.BootStopped ended.inc) act_is refl
  refused_sees ended why (inr (gone, act_is, reply_is)) = last_one ended acts.Nothing act_is refl

  later_sees : (ended : EndedLater by node trail) (end : BootEnd) → IsToEnd by node ended.inc end ended.since → Closes node ended.inc end ended.before ended.act ended.reply → IsTrue (last_sees seen trail.turns)
  later_sees ended (Shown commits) has closes = read_sees ended commits has closes
  later_sees ended (Refused why) has closes = refused_sees ended why closes

  pub sees_so_far : (stage : Stage) → made_at by node stage trail → IsTrue (last_sees seen trail.turns)
  sees_so_far Begins none = none_sees seen trail.turns (ap (λ (t : Trail). t.turns) none)
  sees_so_far (ComesUp inc) begun = begun_sees by node inc None [] [] trail seen begun refl
  sees_so_far (Scans inc after listed commits) its = begun_sees by node inc its.up its.pages [] trail seen its.begun refl
  sees_so_far (ToEnd inc (Shown commits)) has = begun_sees by node inc has.up has.pages [] trail seen has.begun refl
  sees_so_far (ToEnd inc (Refused reply)) has = stopped_sees by node inc reply trail seen has has.stops
  sees_so_far Ended (inl once) = subst (λ (ts : List Turn). IsTrue (last_sees seen ts)) (sym once.turns) refl
  sees_so_far Ended (inr later) = later_sees later later.end later.is_to later.closes
