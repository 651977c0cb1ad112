-- What stands of a world that an opening made.
use Rattle.std.proofs.Common.{◌≡◌, ◌+◌, ◌≤◌, ℕ, zero, suc, Bool, false, ◌&&◌, ◌||◌, List, [], ◌∷◌, ◌++◌, eqb, length, length-append, refl, sym, ap, subst, ◌∙◌, append_assoc, arith}
use Rattle.std.specs.Prelude.{IsFalse, IsTrue, map, replicate, take}
use Rattle.std.specs.List.{flat_map, list_all, range_with_len}
use Rattle.std.proofs.lemmas.Bool.{and_from, and_parts, eq-eqb, le-leb, or_left, or_right}
use Rattle.std.proofs.lemmas.List.{length-map, length-replicate, take_at}
use Rattle.std.proofs.lemmas.List.Folds.{list_all-append, list_any-append}
use Rattle.std.proofs.lemmas.List.FromFn.{length-range_with_len}
use Rattle.aft_id.specs.declared.txn_id.TxnId.{TxnId}
use Rattle.aft_model.specs.declared.door.DoorAct.TheVariants.{Up}
use Rattle.aft_model.specs.declared.door.DoorEntry.{DoorEntry}
use Rattle.aft_model.specs.declared.mail.MailEntry.{MailEntry}
use Rattle.aft_model.specs.declared.node.NodeEntry.{NodeEntry}
use Rattle.aft_model.specs.declared.office.OfficeEntry.{OfficeEntry}
use Rattle.aft_model.specs.declared.trace.Trace.{Trace}
use Rattle.aft_model.specs.Bytes.{HasBytes}
use Rattle.aft_model.specs.DoorKnowledge.{is_open, opens}
use Rattle.aft_model.specs.History.{followed}
use Rattle.aft_model.specs.LegalDoor.{Legal, may_follow}
use Rattle.aft_model.specs.LegalNode.{is_legal_node}
use Rattle.aft_model.specs.Membership.{incarnation}
use Rattle.aft_model.specs.NodeSights.{comes_up, is_boot_shown, is_seen_node, own_entries, shows_commits}
use Rattle.aft_model.specs.Office.{heard}
use Rattle.aft_model.specs.Opening.{has_failed, is_failure, opening}
use Rattle.aft_model.specs.ScanRun.{same_line, scan_pages}
use Rattle.aft_model.specs.Sound.{records_prefix}
use Rattle.aft_model.proofs.Histories.{each_after_split}
use Rattle.aft_model.proofs.OneCommit.{same_itself}
use Rattle.aft_conf.specs.declared.conf.Conf.{Conf}
use Rattle.aft_conf.specs.Settings.{AreSettings}
use Rattle.aft_ledger.specs.View.{NodeView}
use Rattle.aft_lines.specs.Asked.{Asked, Settings, are_settings}
use Rattle.aft_lines.specs.LegalTrace.{are_legal_nodes, fits_settings, makers}
use Rattle.aft_lines.specs.Lines.{node_numbers}
use Rattle.aft_lines.specs.Opened.{Opened}
use Rattle.aft_lines.specs.OpeningCourse.{opening_course}
use Rattle.aft_lines.specs.Turns.{Turn, door_turns, turns}
use Rattle.aft_mail.specs.BoxState.{BoxState}
use Rattle.aft_mail.specs.Desk.{Desk}
use Rattle.aft_boot.specs.Booted.{PageAt}
use Rattle.aft_boot.specs.FirstBoots.{FirstBoot, FollowFrom, StandsSo, boot_entries, boot_turns, first_entry, last_entry, node_behind, shown_by}
use Rattle.aft_boot.specs.World.{IsMade, empty_box, fresh_office, histories, is_ready, posts, ran_over, settings_of}
use Rattle.aft_boot.proofs.Audited.{its_reads, opened_alone, ready_first, works}
use Rattle.aft_boot.proofs.BootSees.{shows_so}
use Rattle.aft_boot.proofs.Courses.{whole_course}
use Rattle.aft_boot.proofs.Entries.{page_entry}
use Rattle.aft_boot.proofs.Heard.{heard_so}
use Rattle.aft_boot.proofs.MadeTurns.{boot_length, opening_turns}
use Rattle.aft_boot.proofs.Served.{boot_at_door}

-- ---- what first boots did at the door

-- it is the opening's, and nothing failed
pages_own : (node : ℕ) (pages : List PageAt) → IsTrue (list_all (λ entry. same_line opening entry.by) (map (page_entry opening node 1) pages ++ []))
pages_own node [] = refl
pages_own node (page ∷ pages) = and_from _ _ refl (pages_own node pages)

pub pages_work : (node : ℕ) (pages : List PageAt) (rest : List DoorEntry) → has_failed (map (page_entry opening node 1) pages ++ rest) ≡ has_failed rest
pages_work node [] rest = refl
pages_work node (page ∷ pages) rest = pages_work node pages rest

pub boots_own : (boots : List FirstBoot) → IsTrue (list_all (λ entry. same_line opening entry.by) (flat_map boot_entries boots))
boots_own [] = refl
boots_own (boot ∷ boots) =
    list_all-append (λ (e : DoorEntry). same_line opening e.by) (boot_entries boot) (flat_map boot_entries boots)
    ∙ and_from _ _ (subst (λ (es : List DoorEntry). IsTrue (list_all (λ entry. same_line opening entry.by) es)) (sym (boot_at_door boot)) (and_from _ _ refl (pages_own boot.node boot.pages))) (boots_own boots)

pub boots_work : (boots : List FirstBoot) → has_failed (flat_map boot_entries boots) ≡ false
boots_work [] = refl
boots_work (boot ∷ boots) =
    list_any-append (λ (e : DoorEntry). is_failure e.act) (boot_entries boot) (flat_map boot_entries boots)
    ∙ ap (λ (t : Bool). t || has_failed (flat_map boot_entries boots)) (ap has_failed (boot_at_door boot) ∙ pages_work boot.node boot.pages [])
    ∙ boots_work boots

-- ---- what a boot has seen

later : {A : Type 0} (first : A → Bool) (rest : List A → Bool) (xs : List A) (y : A) (ys : List A) → IsTrue (first y) → IsTrue (rest ys) → IsTrue (followed first rest (xs ++ y ∷ ys))
later first rest [] y ys is holds = or_left _ _ (and_from _ _ is holds)
later first rest (x ∷ xs) y ys is holds = or_right _ _ (later first rest xs y ys is holds)

own_all : (node : ℕ) (pages : List PageAt) → own_entries opening (map (page_entry opening node 1) pages ++ []) ≡ map (page_entry opening node 1) pages ++ []
own_all node [] = refl
own_all node (page ∷ pages) = ap (λ (es : List DoorEntry). page_entry opening node 1 page ∷ es) (own_all node pages)

shown_behind : (boot : FirstBoot) (door : List DoorEntry) → StandsSo boot → IsTrue (is_boot_shown (incarnation boot.node 1) opening (shown_by boot) (door ++ boot_entries boot))
shown_behind boot door stands =
    subst (λ (es : List DoorEntry). IsTrue (is_boot_shown (incarnation boot.node 1) opening (shown_by boot) (door ++ es))) (sym (boot_at_door boot))
    (later (λ (entry : DoorEntry). comes_up (incarnation boot.node 1) entry.act) (λ (since : List DoorEntry). shows_commits (shown_by boot) (scan_pages (incarnation boot.node 1) opening records_prefix since)) door (record { by = opening; act = Up boot.node 1 }) (map (page_entry opening boot.node 1) boot.pages ++ [])
    (same_itself (incarnation boot.node 1))
    (shows_so opening boot.node 1 (shown_by boot) boot.pages stands.whole refl (map (page_entry opening boot.node 1) boot.pages ++ []) (own_all boot.node boot.pages)))

seen_so : (boot : FirstBoot) (before after door : List DoorEntry) → door ≡ (before ++ boot_entries boot) ++ after → boot.front ≡ length before → StandsSo boot → IsTrue (is_seen_node boot.node door (first_entry boot ∷ last_entry boot ∷ []))
seen_so boot before after door is begins stands =
    and_from _ _ (and_from _ _ (le-leb boot.front (length door) (let c = count in omega arith)) refl)
    (and_from _ _ (and_from _ _ (le-leb (suc (boot.front + length boot.pages)) (length door) (let c = count in omega arith))
    (subst (λ (es : List DoorEntry). IsTrue (is_boot_shown (incarnation boot.node 1) opening (shown_by boot) es)) (sym taken) (shown_behind boot before stands))) refl)
  where
    reach : length (before ++ boot_entries boot) ≡ suc (boot.front + length boot.pages)
    reach = length-append before (boot_entries boot) ∙ (let l = boot_length boot in omega arith)

    count : length door ≡ suc (boot.front + length boot.pages) + length after
    count = ap (λ (h : List DoorEntry). length h) is ∙ length-append (before ++ boot_entries boot) after ∙ ap (λ (n : ℕ). n + length after) reach

    taken : take (suc (boot.front + length boot.pages)) door ≡ before ++ boot_entries boot
    taken = ap (take (suc (boot.front + length boot.pages))) is ∙ take_at (before ++ boot_entries boot) after (suc (boot.front + length boot.pages)) reach

-- ---- the nodes

module _ (capacity lines : ℕ) (door : List DoorEntry) where
  abbrev nodes_of : List FirstBoot → List NodeView
  nodes_of boots = map (node_behind capacity lines) boots

  legal_nodes : (from count : ℕ) (before : List DoorEntry) (boots : List FirstBoot) → map (λ (boot : FirstBoot). boot.node) boots ≡ range_with_len from count → FollowFrom (length before) boots → door ≡ before ++ flat_map boot_entries boots → IsTrue (list_all (λ node. is_legal_node node.number capacity node.history) (nodes_of boots)) → IsTrue (are_legal_nodes from capacity door (histories (nodes_of boots)))
  legal_nodes from count before [] numbers follow is legal = refl
  legal_nodes from zero before (boot ∷ boots) numbers follow is legal = absurd (cc)
  legal_nodes from (suc count) before (boot ∷ boots) numbers (begins, stands, follow) is legal =
      and_from _ _
      (subst (λ (n : ℕ). IsTrue (is_legal_node n capacity (first_entry boot ∷ last_entry boot ∷ []) && is_seen_node n door (first_entry boot ∷ last_entry boot ∷ []))) here
      (and_from _ _ parts.0 (seen_so boot before (flat_map boot_entries boots) door (is ∙ sym (append_assoc before (boot_entries boot) (flat_map boot_entries boots))) begins stands)))
      (subst (λ (n : ℕ). IsTrue (are_legal_nodes n capacity door (histories (nodes_of boots)))) next
      (legal_nodes (from + 1) count (before ++ boot_entries boot) boots (cc) (subst (λ (p : ℕ). FollowFrom p boots) (sym (length-append before (boot_entries boot))) follow)
      (is ∙ sym (append_assoc before (boot_entries boot) (flat_map boot_entries boots))) parts.1))
    where
      here : boot.node ≡ from
      here = cc

      next : from + 1 ≡ suc from
      next = omega arith

      parts : IsTrue (is_legal_node boot.node capacity (first_entry boot ∷ last_entry boot ∷ [])) × IsTrue (list_all (λ node. is_legal_node node.number capacity node.history) (nodes_of boots))
      parts = and_parts (is_legal_node boot.node capacity (first_entry boot ∷ last_entry boot ∷ [])) (list_all (λ (node : NodeView). is_legal_node node.number capacity node.history) (nodes_of boots)) legal

  nodes_own : (boots : List FirstBoot) → IsTrue (list_all (list_all (same_line opening)) (map (map (λ (entry : NodeEntry). entry.by)) (histories (nodes_of boots))))
  nodes_own [] = refl
  nodes_own (boot ∷ boots) = and_from _ _ refl (nodes_own boots)

  -- each is ready
  all_ready : (settings : Settings) (reach place : ℕ) (boots : List FirstBoot) → settings.cache ≡ capacity → FollowFrom place boots → place + length (flat_map boot_entries boots) ≤ reach → IsTrue (list_all (is_ready settings lines reach) (nodes_of boots))
  all_ready settings reach place [] same follow within = refl
  all_ready settings reach place (boot ∷ boots) same (begins, stands, follow) within =
      and_from _ _
      (and_from _ _ (and_from _ _ (and_from _ _ (eq-eqb capacity settings.cache (sym same)) (eq-eqb lines lines refl)) (le-leb (suc (boot.front + length boot.pages)) reach (let l = boot_length boot in let b = both in omega arith))) refl)
      (all_ready settings reach (place + length (boot_entries boot)) boots same follow (let b = both in omega arith))
    where
      both : length (flat_map boot_entries (boot ∷ boots)) ≡ length (boot_entries boot) + length (flat_map boot_entries boots)
      both = length-append (boot_entries boot) (flat_map boot_entries boots)

  node_names : (boots : List FirstBoot) → map (λ (node : NodeView). node.number) (nodes_of boots) ≡ map (λ (boot : FirstBoot). boot.node) boots
  node_names [] = refl
  node_names (boot ∷ boots) = ap (λ (ns : List ℕ). boot.node ∷ ns) (node_names boots)

-- ---- the boxes

empty_posts : (n : ℕ) (box : BoxState) → box.history ≡ [] → IsTrue (list_all (λ entries. eqb (length entries) 0) (posts (replicate n box)))
empty_posts zero box is = refl
empty_posts (suc n) box is = and_from _ _ (ap (λ (h : List MailEntry). eqb (length h) 0) is) (empty_posts n box is)

posts_own : (n : ℕ) (box : BoxState) → box.history ≡ [] → IsTrue (list_all (list_all (same_line opening)) (map (map (λ (entry : MailEntry). entry.by)) (posts (replicate n box))))
posts_own zero box is = refl
posts_own (suc n) box is = and_from _ _ (ap (λ (h : List MailEntry). list_all (same_line opening) (map (λ (entry : MailEntry). entry.by) h)) is) (posts_own n box is)

pub door_own : (door : List DoorEntry) → IsTrue (list_all (λ entry. same_line opening entry.by) door) → IsTrue (list_all (same_line opening) (map (λ (entry : DoorEntry). entry.by) door))
door_own [] own = refl
door_own (entry ∷ door) own = let parts = and_parts (same_line opening entry.by) (list_all (λ (e : DoorEntry). same_line opening e.by) door) own in and_from _ _ parts.0 (door_own door parts.1)

-- ---- the world

abbrev trace_of : List DoorEntry → List NodeView → List OfficeEntry → Trace
trace_of door nodes office = record { door = door; nodes = histories nodes; office = office }

module _ (settings : Settings) (lines : ℕ) (door : List DoorEntry) (nodes : List NodeView) (boxes : List BoxState) (office : Desk) (made : IsMade settings lines door nodes boxes office) (legal : Legal door) where
  abbrev boots : List FirstBoot
  boots = made.served.boots

  abbrev its_nodes : List NodeView
  its_nodes = nodes_of settings.cache lines door boots

  audited_legal : Legal made.audited
  audited_legal = (each_after_split may_follow [] made.audited (flat_map boot_entries boots) (subst Legal made.served.door legal)).0

  nothing_done : office.history ≡ []
  nothing_done = ap (λ (desk : Desk). desk.history) made.office_is

  trace_is : trace_of door nodes office.history ≡ trace_of (made.audited ++ flat_map boot_entries boots) its_nodes []
  trace_is =
      ap (λ (h : List DoorEntry). trace_of h nodes office.history) made.served.door
      ∙ ap (λ (ns : List NodeView). trace_of (made.audited ++ flat_map boot_entries boots) ns office.history) made.served.nodes_are
      ∙ ap (trace_of (made.audited ++ flat_map boot_entries boots) its_nodes) nothing_done

  -- its course
  line_course : IsTrue (opening_course (node_numbers settings) (door_turns opening 0 made.audited ++ flat_map boot_turns boots))
  line_course =
      subst (λ (h : List DoorEntry). IsTrue (opening_course (node_numbers settings) (door_turns opening 0 h ++ flat_map boot_turns boots))) (sym made.opened.ends)
      (whole_course settings.nodes made.opened.before boots (its_reads made.commits made.audited made.opened audited_legal) made.served.numbers
      (subst (λ (h : List DoorEntry). FollowFrom (length h) boots) made.opened.ends made.served.follow))

  course : IsTrue (opening_course (node_numbers settings) (turns opening (trace_of door nodes office.history)))
  course =
      subst (λ (t : Trace). IsTrue (opening_course (node_numbers settings) (turns opening t))) (sym trace_is)
      (subst (λ (ts : List Turn). IsTrue (opening_course (node_numbers settings) ts)) (sym (opening_turns settings.cache lines settings.nodes made.audited boots made.served.numbers made.served.follow)) line_course)

  -- how many there are
  count_nodes : length (histories nodes) ≡ settings.nodes
  count_nodes =
      length-map nodes (λ (node : NodeView). node.history)
      ∙ ap (λ (ns : List NodeView). length ns) made.served.nodes_are
      ∙ length-map boots (node_behind settings.cache lines)
      ∙ sym (length-map boots (λ (boot : FirstBoot). boot.node))
      ∙ ap (λ (ns : List ℕ). length ns) made.served.numbers
      ∙ length-range_with_len 1 settings.nodes

  count_boxes : length (posts boxes) ≡ suc settings.nodes
  count_boxes =
      length-map boxes (λ (box : BoxState). box.history)
      ∙ ap (λ (bs : List BoxState). length bs) made.boxes_are
      ∙ length-replicate (settings.nodes + 1) (empty_box settings)
      ∙ (let it : settings.nodes + 1 ≡ suc settings.nodes = omega arith in it)

  -- who made its entries
  alone_at_door : IsTrue (list_all (λ entry. same_line opening entry.by) door)
  alone_at_door =
      subst (λ (h : List DoorEntry). IsTrue (list_all (λ entry. same_line opening entry.by) h)) (sym made.served.door)
      (list_all-append (λ (e : DoorEntry). same_line opening e.by) made.audited (flat_map boot_entries boots) ∙ and_from _ _ (opened_alone made.commits made.audited made.opened audited_legal) (boots_own boots))

  alone : IsTrue (list_all (list_all (same_line opening)) (makers (ran_over door nodes boxes office.history)))
  alone =
      and_from _ _ (door_own door alone_at_door)
      (and_from _ _ (subst (λ (h : List OfficeEntry). IsTrue (list_all (same_line opening) (map (λ (entry : OfficeEntry). entry.by) h))) (sym nothing_done) refl)
      (list_all-append (list_all (same_line opening)) (map (map (λ (entry : NodeEntry). entry.by)) (histories nodes)) (map (map (λ (entry : MailEntry). entry.by)) (posts boxes))
      ∙ and_from _ _
      (subst (λ (ns : List NodeView). IsTrue (list_all (list_all (same_line opening)) (map (map (λ (entry : NodeEntry). entry.by)) (histories ns)))) (sym made.served.nodes_are) (nodes_own settings.cache lines door boots))
      (subst (λ (bs : List BoxState). IsTrue (list_all (list_all (same_line opening)) (map (map (λ (entry : MailEntry). entry.by)) (posts bs)))) (sym made.boxes_are) (posts_own (settings.nodes + 1) (empty_box settings) refl))))

  legal_so : IsTrue (are_legal_nodes 1 settings.cache door (histories nodes))
  legal_so =
      subst (λ (ns : List NodeView). IsTrue (are_legal_nodes 1 settings.cache door (histories ns))) (sym made.served.nodes_are)
      (legal_nodes settings.cache lines door 1 settings.nodes made.audited boots made.served.numbers made.served.follow made.served.door
      (subst (λ (ns : List NodeView). IsTrue (list_all (λ node. is_legal_node node.number settings.cache node.history) ns)) made.served.nodes_are made.served.legal))

  -- what has come of a run over it
  pub opened_run : (asked : Asked) → asked.settings ≡ settings → IsTrue (are_settings settings) → HasBytes door → Opened asked (ran_over door nodes boxes office.history)
  opened_run asked same fits bytes = record {
    settings =
        subst (λ (s : Settings). IsTrue (fits_settings s (ran_over door nodes boxes office.history))) (sym same)
        (and_from _ _ (and_from _ _ fits (eq-eqb (length (histories nodes)) settings.nodes count_nodes)) (eq-eqb (length (posts boxes)) (suc settings.nodes) count_boxes));
    bytes = bytes;
    door = legal;
    opened =
        subst (λ (h : List DoorEntry). IsTrue (is_open h)) (sym made.served.door)
        (list_any-append (λ (e : DoorEntry). opens e.act) made.audited (flat_map boot_entries boots) ∙ or_left _ _ (ready_first made.commits made.audited made.opened audited_legal).opened);
    nodes = subst (λ (s : Settings). IsTrue (are_legal_nodes 1 s.cache door (histories nodes))) (sym same) legal_so;
    alone = alone;
    no_mail =
        subst (λ (bs : List BoxState). IsTrue (list_all (λ entries. eqb (length entries) 0) (posts bs))) (sym made.boxes_are) (empty_posts (settings.nodes + 1) (empty_box settings) refl);
    course = subst (λ (s : Settings). IsTrue (opening_course (node_numbers s) (turns opening (trace_of door nodes office.history)))) (sym same) course;
  }

  -- its office
  pub office_so : office ≡ fresh_office door lines
  office_so =
      made.office_is
      ∙ ap (λ (ids : List TxnId). desk ids) (sym (heard_so made.commits made.audited (flat_map boot_entries boots) made.opened audited_legal))
      ∙ ap (λ (h : List DoorEntry). desk (heard h [])) (sym made.served.door)
    where
      desk : List TxnId → Desk
      desk ids = record { heard = ids; history = []; front = 0; room = lines }

  -- its nodes
  pub numbered : map (λ (node : NodeView). node.number) nodes ≡ node_numbers settings
  numbered = ap (λ (ns : List NodeView). map (λ (node : NodeView). node.number) ns) made.served.nodes_are ∙ node_names settings.cache lines door boots ∙ made.served.numbers

  pub ready : IsTrue (list_all (is_ready settings lines (length door)) nodes)
  ready =
      subst (λ (ns : List NodeView). IsTrue (list_all (is_ready settings lines (length door)) ns)) (sym made.served.nodes_are)
      (all_ready settings.cache lines door settings (length door) (length made.audited) boots refl made.served.follow (at_most (length door) (length made.audited + length (flat_map boot_entries boots)) reach))
    where
      reach : length door ≡ length made.audited + length (flat_map boot_entries boots)
      reach = ap (λ (h : List DoorEntry). length h) made.served.door ∙ length-append made.audited (flat_map boot_entries boots)

      at_most : (m n : ℕ) → m ≡ n → n ≤ m
      at_most m n is = omega arith

  -- nothing failed
  pub all_works : IsFalse (has_failed door)
  all_works =
      ap has_failed made.served.door
      ∙ list_any-append (λ (e : DoorEntry). is_failure e.act) made.audited (flat_map boot_entries boots)
      ∙ ap (λ (t : Bool). t || has_failed (flat_map boot_entries boots)) (works made.commits made.audited made.opened audited_legal)
      ∙ boots_work boots

-- ---- settings

pub settings_fit : (conf : Conf) → AreSettings conf → IsTrue (are_settings (settings_of conf))
settings_fit conf are =
    and_from _ _
    (and_from _ _
    (and_from _ _
    (and_from _ _
    (and_from _ _ (and_from _ _ (le-leb 1 conf.nodes are.some_node) (le-leb conf.nodes 8 are.few_nodes)) (le-leb 1 conf.cache are.some_cache))
    (le-leb conf.cache 4096 are.small_cache)) (le-leb 1 conf.mailbox are.some_mailbox)) (le-leb conf.mailbox 4096 are.small_mailbox)) (le-leb conf.rounds 20 are.few_rounds)
