-- Behind its opening a run has an account in which each line waits.
use Rattle.std.proofs.Common.{◌≡◌, ◌≤◌, ℕ, zero, suc, Bool, true, false, ◌||◌, not, List, [], ◌∷◌, ◌++◌, drop, refl, sym, ap, subst, ◌∙◌, inl, inr, eqb, leb, arith, length}
use Rattle.std.specs.Prelude.{IsTrue, IsFalse, None, Option, Some, if◌then◌else◌, is_some, map}
use Rattle.std.specs.List.{fold, list_all}
use Rattle.std.proofs.lemmas.Bool.{and_from, and_parts, eqb-true, false_from_ne_true, false≢true, le-leb, not-true, or_left, or_right, true≢false}
use Rattle.aft_model.specs.declared.caller.By.{By}
use Rattle.aft_model.specs.declared.door.DoorAct.{DoorAct}
use Rattle.aft_model.specs.declared.door.DoorAct.TheVariants as door_acts
use Rattle.aft_model.specs.declared.door.DoorEntry.{DoorEntry}
use Rattle.aft_model.specs.declared.mail.MailEntry.{MailEntry}
use Rattle.aft_model.specs.declared.node.NodeAct.{NodeAct}
use Rattle.aft_model.specs.declared.node.NodeAct.TheVariants as node_acts
use Rattle.aft_model.specs.declared.node.NodeEntry.{NodeEntry}
use Rattle.aft_model.specs.declared.office.OfficeEntry.{OfficeEntry}
use Rattle.aft_model.specs.declared.script.Command.{Command}
use Rattle.aft_model.specs.declared.script.Line.{Line}
use Rattle.aft_model.specs.declared.script.Order.{Order}
use Rattle.aft_model.proofs.Histories.{In, all_append, all_at, in_append, in_front}
use Rattle.aft_model.proofs.Lists.{all_from, in_snoc, map_in}
use Rattle.aft_model.specs.Boxes.{is_legal_box}
use Rattle.aft_model.specs.History.{each_after}
use Rattle.aft_model.specs.Office.{is_legal_office}
use Rattle.aft_model.specs.Opening.{opening}
use Rattle.aft_model.specs.ScanRun.{same_line}
use Rattle.aft_lines.specs.Advance.{leads_to}
use Rattle.aft_lines.specs.Asked.{Asked, Ran}
use Rattle.aft_lines.specs.FinishedText.{line_of}
use Rattle.aft_lines.specs.LegalTrace.{act_at, are_asks, begin_behind_opening, clients_in_order, give_ups_backed, has_seen_earlier, has_seen_opening, is_after_own, is_backed_at, is_of_lines, makers, may_be_asked, named_node, opens_as_asked, opens_first, ran_as_ordered, ran_whole, rank, read_clock, session_client, stands_at, turn_of, turn_words}
use Rattle.aft_lines.specs.LineView.{LineView, ends_of}
use Rattle.aft_lines.specs.Lines.{background, background_lines, lines, node_numbers, numbered, whole_order}
use Rattle.aft_lines.specs.Makes.{makes}
use Rattle.aft_lines.specs.Opened.{Opened}
use Rattle.aft_lines.specs.RunsSoFar.{is_stopped_rightly}
use Rattle.aft_lines.specs.Turns.{AtDoor, AtNode, AtOffice, Turn, door_turns, node_turns, nodes_turns, office_turns, turns, with_turn}
use Rattle.aft_lines.specs.Views.{view_of}
use Rattle.law_claims.proofs.Scenes.{same_by}
use Rattle.law_held.proofs.Numbered.{numbered_differ}
use Rattle.law_held.specs.Desk.{is_script}
use Rattle.law_rounds.proofs.Openings.{whole_opening}
use Rattle.law_runs.proofs.Members.{in_turns}
use Rattle.law_runs.proofs.Opening.{opening_reads}
use Rattle.law_runs.proofs.Reading.{is_of_boot, reads_alone}
use Rattle.law_steps.specs.OneList.{entries_of}
use Rattle.law_accounts.proofs.Lists.{all_so}
use Rattle.law_accounts.specs.Account.{Account, GoesAlong, IsDone, Stand, Waits, has_made_nothing}

-- ---- lists

-- each element comes rightly, where all are such
each_such : {A : Type 0} (Such : A → Type 0) (rule : List A → A → Bool) → ((before : List A) (x : A) → ((y : A) → In y before → Such y) → Such x → IsTrue (rule before x))
    → (before xs : List A) → ((y : A) → In y before → Such y) → ((x : A) → In x xs → Such x) → IsTrue (each_after rule before xs)
each_such Such rule passes before [] old new = refl
each_such Such rule passes before (x ∷ xs) old new =
    and_from _ _ (passes before x old (new x (inl refl)))
    (each_such Such rule passes (before ++ x ∷ []) xs (λ y among. elim (in_snoc y before x among) [ inl was ↦ old y was | inr is ↦ subst Such (sym is) (new x (inl refl)) ]) (λ y among. new y (inr among)))

in_rest : {A : Type 0} (x : A) (n : ℕ) (xs : List A) → In x (drop n xs) → In x xs
in_rest x zero xs among = among
in_rest x (suc n) [] none = none
in_rest x (suc n) (y ∷ xs) among = inr (in_rest x n xs among)

-- ---- a line that has made nothing goes along

idle : (view : LineView) → view.turns ≡ [] → GoesAlong view
idle view none = record {
  leads = at_start (λ l. is_some (leads_to view.command (node_numbers view.settings) (ends_of view) l)) refl;
  stopped = at_start (λ l. is_stopped_rightly view.seen l (leads_to view.command (node_numbers view.settings) (ends_of view) l)) refl;
  makes = at_start (list_all (makes view.command)) refl;
  words = at_start (list_all (turn_words view.command)) refl;
  places = at_start (list_all (stands_at (named_node view.command view.hold))) refl;
  speaks = or_right _ _ (at_start (list_all (turn_of view.hold.attempt)) refl);
}
  where
    at_start : (test : List Turn → Bool) → IsTrue (test []) → IsTrue (test view.turns)
    at_start test is = subst (λ (l : List Turn). IsTrue (test l)) (sym none) is

-- ---- lines are not the opening

numbered_from : (number : ℕ) (commands : List Command) (line : Line) → In line (numbered number commands) → number ≤ line.number
numbered_from number [] line none = absurd none
numbered_from number (command ∷ commands) line (inl is) = subst (λ (l : Line). number ≤ l.number) (sym is) (omega arith)
numbered_from number (command ∷ commands) line (inr later) = (let le = numbered_from (suc number) commands line later in omega arith)

strange : (asked : Asked) → IsTrue (is_script asked.script.lines) → IsTrue (are_asks asked) → (line : Line) → In line (lines asked) → IsFalse (same_line opening (line_of line))
strange asked script asks line among = false_from_ne_true _ (λ same.
    let parts = and_parts (eqb 0 line.client) (eqb 0 line.number) same in
    let client = eqb-true 0 line.client parts.0 in
    let number = eqb-true 0 line.number parts.1 in
    elim (in_append line (asked.script.lines ++ asked.asks) (background_lines asked.order asked.settings) among) [
      | inl own ↦ elim (in_append line asked.script.lines asked.asks own) [
        | inl written ↦ true≢false (sym (ap (λ c. eqb c 0) (sym client)) ∙ not-true (eqb line.client 0) (all_at (λ (l : Line). not (eqb l.client 0)) line asked.script.lines written (and_parts (each_after _ [] asked.script.lines) (list_all (λ (l : Line). not (eqb l.client 0)) asked.script.lines) script).1))
        | inr put ↦ of_session (eqb-true line.client session_client (and_parts (eqb line.client session_client) _ (all_at may_be_asked line asked.asks put (asked_well asks))).0) client
      ]
      | inr behind ↦ of_background asked.order behind number
    ])
  where
    asked_well : IsTrue (are_asks asked) → IsTrue (list_all may_be_asked asked.asks)
    asked_well is = (and_parts (list_all may_be_asked asked.asks) _ (and_parts _ (is_some asked.order || eqb (length asked.asks) 0) is).0).0

    of_session : line.client ≡ session_client → 0 ≡ line.client → ⊥
    of_session its none = omega arith

    of_background : (order : Option Order) → In line (background_lines order asked.settings) → 0 ≡ line.number → ⊥
    of_background None there none = (let le = numbered_from 1 (background asked.settings) line there in omega arith)
    of_background (Some order) there none = there

-- ---- of histories whose entries are all the opening's, another line has none

module _ (by : By) (other : same_line by opening ≡ false) where
  none_taken : (maker : By) (turn : Turn) (rest : List Turn) → opening ≡ maker → rest ≡ [] → (if same_line by maker then turn ∷ [] else []) ++ rest ≡ []
  none_taken maker turn rest is none = ap (λ (t : Bool). (if t then turn ∷ [] else []) ++ rest) (subst (λ (m : By). same_line by m ≡ false) is other) ∙ none

  none_at_door : (place : ℕ) (door : List DoorEntry) → ((e : DoorEntry) → In e door → opening ≡ e.by) → door_turns by place door ≡ []
  none_at_door place [] its = refl
  none_at_door place (entry ∷ door) its = none_taken entry.by (AtDoor place entry.act) (door_turns by (suc place) door) (its entry (inl refl)) (none_at_door (suc place) door (λ e among. its e (inr among)))

  none_at_node : (node : ℕ) (before history : List NodeEntry) → ((e : NodeEntry) → In e history → opening ≡ e.by) → node_turns by node before history ≡ []
  none_at_node node before [] its = refl
  none_at_node node before (entry ∷ history) its =
      none_taken entry.by (AtNode node before entry) (node_turns by node (before ++ entry ∷ []) history) (its entry (inl refl)) (none_at_node node (before ++ entry ∷ []) history (λ e among. its e (inr among)))

  none_at_nodes : (first : ℕ) (nodes : List (List NodeEntry)) → ((h : List NodeEntry) (e : NodeEntry) → In h nodes → In e h → opening ≡ e.by) → nodes_turns by first nodes ≡ []
  none_at_nodes first [] its = refl
  none_at_nodes first (history ∷ nodes) its =
      ap (λ (l : List Turn). l ++ nodes_turns by (suc first) nodes) (none_at_node first [] history (λ e among. its history e (inl refl) among))
      ∙ none_at_nodes (suc first) nodes (λ h e there among. its h e (inr there) among)

  none_at_office : (before office : List OfficeEntry) → ((e : OfficeEntry) → In e office → opening ≡ e.by) → office_turns by before office ≡ []
  none_at_office before [] its = refl
  none_at_office before (entry ∷ office) its =
      none_taken entry.by (AtOffice before entry) (office_turns by (before ++ entry ∷ []) office) (its entry (inl refl)) (none_at_office (before ++ entry ∷ []) office (λ e among. its e (inr among)))

-- ---- the opening only reads and boots

taken : (turn : Turn) (maker : By) (rest : List Turn) → IsTrue (same_line opening maker) → IsTrue (list_all reads_alone ((if same_line opening maker then turn ∷ [] else []) ++ rest)) → IsTrue (reads_alone turn) × IsTrue (list_all reads_alone rest)
taken turn maker rest own reads = and_parts (reads_alone turn) (list_all reads_alone rest) (subst (λ (t : Bool). IsTrue (list_all reads_alone ((if t then turn ∷ [] else []) ++ rest))) own reads)

door_reads : (place : ℕ) (door : List DoorEntry) → ((e : DoorEntry) → In e door → IsTrue (same_line opening e.by)) → IsTrue (list_all reads_alone (door_turns opening place door)) → (e : DoorEntry) → In e door → IsTrue (reads_alone (AtDoor 0 e.act))
door_reads place [] its reads e among = absurd among
door_reads place (entry ∷ door) its reads e among =
    let parts = taken (AtDoor place entry.act) entry.by (door_turns opening (suc place) door) (its entry (inl refl)) reads in
    elim among [
      | inl is ↦ subst (λ (x : DoorEntry). IsTrue (reads_alone (AtDoor 0 x.act))) (sym is) (at_any entry.act parts.0)
      | inr later ↦ door_reads (suc place) door (λ x there. its x (inr there)) parts.1 e later
    ]
  where
    at_any : (act : DoorAct) → IsTrue (reads_alone (AtDoor place act)) → IsTrue (reads_alone (AtDoor 0 act))
    at_any act is = is

node_boots : (node : ℕ) (before history : List NodeEntry) → ((e : NodeEntry) → In e history → IsTrue (same_line opening e.by)) → IsTrue (list_all reads_alone (node_turns opening node before history)) → (e : NodeEntry) → In e history → IsTrue (is_of_boot e.act)
node_boots node before [] its reads e among = absurd among
node_boots node before (entry ∷ history) its reads e among =
    let parts = taken (AtNode node before entry) entry.by (node_turns opening node (before ++ entry ∷ []) history) (its entry (inl refl)) reads in
    elim among [
      | inl is ↦ subst (λ (x : NodeEntry). IsTrue (is_of_boot x.act)) (sym is) parts.0
      | inr later ↦ node_boots node (before ++ entry ∷ []) history (λ x there. its x (inr there)) parts.1 e later
    ]

nodes_boot : (first : ℕ) (nodes : List (List NodeEntry)) → ((h : List NodeEntry) (e : NodeEntry) → In h nodes → In e h → IsTrue (same_line opening e.by)) → IsTrue (list_all reads_alone (nodes_turns opening first nodes)) → (h : List NodeEntry) (e : NodeEntry) → In h nodes → In e h → IsTrue (is_of_boot e.act)
nodes_boot first [] its reads h e there among = absurd there
nodes_boot first (history ∷ nodes) its reads h e there among =
    let parts = all_append reads_alone (node_turns opening first [] history) (nodes_turns opening (suc first) nodes) reads in
    elim there [
      | inl is ↦ node_boots first [] history (λ x within. its history x (inl refl) within) parts.0 e (subst (λ (l : List NodeEntry). In e l) is among)
      | inr later ↦ nodes_boot (suc first) nodes (λ g x yonder within. its g x (inr yonder) within) parts.1 h e later among
    ]

no_office : (office : List OfficeEntry) → ((e : OfficeEntry) → In e office → IsTrue (same_line opening e.by)) → IsTrue (list_all reads_alone (office_turns opening [] office)) → office ≡ []
no_office [] its reads = refl
no_office (entry ∷ office) its reads = absurd (false≢true (taken (AtOffice [] entry) entry.by (office_turns opening (entry ∷ []) office) (its entry (inl refl)) reads).0)

boot_at : (clock : Option ℕ) (act : NodeAct) → IsTrue (is_of_boot act) → IsTrue (act_at clock act)
boot_at clock (node_acts.Booting inc) is = refl
boot_at clock (node_acts.Boot inc commits) is = refl
boot_at clock act is = absurd (false≢true is)

backed : (nodes : List (List NodeEntry)) (by : By) (place : ℕ) (act : DoorAct) → IsTrue (reads_alone (AtDoor 0 act)) → IsTrue (is_backed_at nodes by place act)
backed nodes by place (door_acts.GiveUp node inc id) reads = absurd (false≢true reads)
backed nodes by place act reads = refl

-- ---- the account

module _ (asked : Asked) (ran : Ran) (script : IsTrue (is_script asked.script.lines)) (asks : IsTrue (are_asks asked)) (opened : Opened asked ran) where
  -- each maker of an entry is the opening
  its : (bys : List By) → In bys (makers ran) → (by : By) → In by bys → IsTrue (same_line opening by)
  its bys there by among = all_at (same_line opening) by bys among (all_at (list_all (same_line opening)) bys (makers ran) there opened.alone)

  is_it : (bys : List By) → In bys (makers ran) → (by : By) → In by bys → opening ≡ by
  is_it bys there by among = same_by opening by (its bys there by among)

  door_its : (e : DoorEntry) → In e ran.trace.door → IsTrue (same_line opening e.by)
  door_its e among = its (map (λ (d : DoorEntry). d.by) ran.trace.door) (inl refl) e.by (map_in (λ (d : DoorEntry). d.by) e ran.trace.door among)

  office_its : (e : OfficeEntry) → In e ran.trace.office → IsTrue (same_line opening e.by)
  office_its e among = its (map (λ (d : OfficeEntry). d.by) ran.trace.office) (inr (inl refl)) e.by (map_in (λ (d : OfficeEntry). d.by) e ran.trace.office among)

  nodes_its : (h : List NodeEntry) (e : NodeEntry) → In h ran.trace.nodes → In e h → IsTrue (same_line opening e.by)
  nodes_its h e there among =
      its (map (λ (d : NodeEntry). d.by) h)
      (inr (inr (in_front (map (λ (d : NodeEntry). d.by) h) (map (map (λ (d : NodeEntry). d.by)) ran.trace.nodes) (map (map (λ (d : MailEntry). d.by)) ran.mail) (map_in (map (λ (d : NodeEntry). d.by)) h ran.trace.nodes there))))
      e.by (map_in (λ (d : NodeEntry). d.by) e h among)

  -- what its turns do
  reads : IsTrue (list_all reads_alone (entries_of opening ran.trace))
  reads = all_from reads_alone (entries_of opening ran.trace) (λ turn among.
      all_at reads_alone turn (turns opening ran.trace) (in_turns opening ran.trace turn among)
      (opening_reads (node_numbers asked.settings) ran.trace opened.door (whole_opening (node_numbers asked.settings) (turns opening ran.trace) opened.course)))

  lists_read : IsTrue (list_all reads_alone (nodes_turns opening 1 ran.trace.nodes ++ door_turns opening 0 ran.trace.door)) × IsTrue (list_all reads_alone (office_turns opening [] ran.trace.office))
  lists_read = all_append reads_alone (nodes_turns opening 1 ran.trace.nodes ++ door_turns opening 0 ran.trace.door) (office_turns opening [] ran.trace.office) reads

  both_read : IsTrue (list_all reads_alone (nodes_turns opening 1 ran.trace.nodes)) × IsTrue (list_all reads_alone (door_turns opening 0 ran.trace.door))
  both_read = all_append reads_alone (nodes_turns opening 1 ran.trace.nodes) (door_turns opening 0 ran.trace.door) lists_read.0

  none_in_office : ran.trace.office ≡ []
  none_in_office = no_office ran.trace.office office_its lists_read.1

  clock : IsTrue (read_clock asked ran)
  clock = all_from (list_all (λ (e : NodeEntry). act_at asked.clock e.act)) ran.trace.nodes (λ h there. all_from (λ (e : NodeEntry). act_at asked.clock e.act) h (λ e among.
      boot_at asked.clock e.act (nodes_boot 1 ran.trace.nodes nodes_its both_read.0 h e there among)))

  give_ups : IsTrue (give_ups_backed ran.trace)
  give_ups = each_such (λ (e : DoorEntry). IsTrue (reads_alone (AtDoor 0 e.act))) (λ (before : List DoorEntry) (e : DoorEntry). is_backed_at ran.trace.nodes e.by (length before) e.act)
      (λ before e old so. backed ran.trace.nodes e.by (length before) e.act so) [] ran.trace.door (λ e none. absurd none) (door_reads 0 ran.trace.door door_its both_read.1)

  -- a rule of who may come where, which the opening alone keeps
  alone_in_order : (rule : List By → By → Bool) → ((before : List By) (by : By) → ((x : By) → In x before → opening ≡ x) → opening ≡ by → IsTrue (rule before by)) → IsTrue (list_all (each_after rule []) (makers ran))
  alone_in_order rule passes = all_from (each_after rule []) (makers ran) (λ bys there. each_such (λ (by : By). opening ≡ by) rule passes [] bys (λ by none. absurd none) (is_it bys there))

  clients : IsTrue (clients_in_order ran)
  clients = alone_in_order is_after_own (λ before by old is. subst (λ (b : By). IsTrue (is_after_own before b)) is refl)

  first : IsTrue (list_all opens_first (makers ran))
  first = alone_in_order (λ before by. not (same_line opening by) || list_all (same_line opening) before) (λ before by old is.
      or_right _ _ (all_from (same_line opening) before (λ x among. subst (λ (b : By). IsTrue (same_line opening b)) (old x among) refl)))

  same_rank : (order : List Line) (a b : By) → opening ≡ a → opening ≡ b → IsTrue (leb (rank order a) (rank order b))
  same_rank order a b is it = subst (λ (x : By). IsTrue (leb (rank order x) (rank order b))) is (subst (λ (x : By). IsTrue (leb (rank order opening) (rank order x))) it (le-leb _ _ (omega arith)))

  seen_earlier : (order : List Line) (front : ℕ) (by : By) → opening ≡ by → IsTrue (has_seen_earlier order ran.trace.door front by)
  seen_earlier order front by is = all_from (λ (e : DoorEntry). leb (rank order by) (rank order e.by)) (drop front ran.trace.door) (λ e among.
      same_rank order by e.by is (same_by opening e.by (door_its e (in_rest e front ran.trace.door among))))

  whole : (order : List Line) → IsTrue (ran_whole ran order)
  whole order =
      and_from _ _
      (and_from _ _
      (alone_in_order (λ before by. list_all (λ other. leb (rank order other) (rank order by)) before) (λ before by old is. all_from (λ (other : By). leb (rank order other) (rank order by)) before (λ x among. same_rank order x by (old x among) is)))
      (all_from (list_all (λ (e : NodeEntry). has_seen_earlier order ran.trace.door e.front e.by)) ran.trace.nodes (λ h there.
      all_from (λ (e : NodeEntry). has_seen_earlier order ran.trace.door e.front e.by) h (λ e among. seen_earlier order e.front e.by (same_by opening e.by (nodes_its h e there among))))))
      (all_from (λ (e : OfficeEntry). has_seen_earlier order ran.trace.door e.front e.by) ran.trace.office (λ e among. seen_earlier order e.front e.by (same_by opening e.by (office_its e among))))

  as_ordered : (order : Option (List Line)) → IsTrue (ran_as_ordered ran order)
  as_ordered None = refl
  as_ordered (Some order) = whole order

  behind_opening : IsTrue (begin_behind_opening ran.trace)
  behind_opening =
      and_from _ _
      (all_from (list_all (λ (e : NodeEntry). has_seen_opening ran.trace e.front e.by)) ran.trace.nodes (λ h there. all_from (λ (e : NodeEntry). has_seen_opening ran.trace e.front e.by) h (λ e among. or_left _ _ (nodes_its h e there among))))
      (all_from (λ (e : OfficeEntry). has_seen_opening ran.trace e.front e.by) ran.trace.office (λ e among. or_left _ _ (office_its e among)))

  -- what holds of a box that has had nothing holds of each
  each_box : (test : List MailEntry → Bool) → IsTrue (test []) → IsTrue (list_all test ran.mail)
  each_box test empty = all_so (λ (box : List MailEntry). eqb (length box) 0) test by_box ran.mail opened.no_mail
    where
      by_box : (box : List MailEntry) → IsTrue (eqb (length box) 0) → IsTrue (test box)
      by_box [] is = empty
      by_box (entry ∷ box) is = absurd (let none = eqb-true (length (entry ∷ box)) 0 is in omega arith)

  opens : IsTrue (opens_as_asked asked ran)
  opens =
      and_from _ _
      (and_from _ _
      (and_from _ _
      (and_from _ _
      (all_from (list_all (is_of_lines (lines asked))) (makers ran) (λ bys there. all_from (is_of_lines (lines asked)) bys (λ by among. or_left _ _ (its bys there by among))))
      opened.course)
      first)
      behind_opening)
      (each_box (list_all (λ (e : MailEntry). not (same_line opening e.by))) refl)

  strangers : (line : Line) → In line (lines asked) → IsFalse (same_line opening (line_of line))
  strangers = strange asked script asks

  -- the other way round
  other : (line : Line) → In line (lines asked) → same_line (line_of line) opening ≡ false
  other line among = false_from_ne_true _ (λ same. true≢false (sym (subst (λ (b : By). IsTrue (same_line opening b)) (sym (same_by (line_of line) opening same)) refl) ∙ strangers line among))

  nothing_made : (line : Line) → In line (lines asked) → IsTrue (has_made_nothing line ran)
  nothing_made line among =
      all_from (list_all (λ (by : By). not (same_line (line_of line) by))) (makers ran) (λ bys there. all_from (λ (by : By). not (same_line (line_of line) by)) bys (λ by within.
      subst (λ (b : By). IsTrue (not (same_line (line_of line) b))) (is_it bys there by within) (ap not (other line among))))

  no_turns : (line : Line) → In line (lines asked) → turns (line_of line) ran.trace ≡ []
  no_turns line among =
      let o = other line among in
      ap (λ (l : List Turn). fold with_turn [] ((l ++ door_turns (line_of line) 0 ran.trace.door) ++ office_turns (line_of line) [] ran.trace.office))
      (none_at_nodes (line_of line) o 1 ran.trace.nodes (λ h e there within. same_by opening e.by (nodes_its h e there within)))
      ∙ ap (λ (l : List Turn). fold with_turn [] (l ++ office_turns (line_of line) [] ran.trace.office)) (none_at_door (line_of line) o 0 ran.trace.door (λ e within. same_by opening e.by (door_its e within)))
      ∙ ap (λ (l : List Turn). fold with_turn [] l) (none_at_office (line_of line) o [] ran.trace.office (λ e within. same_by opening e.by (office_its e within)))

  pub account_begins : Account asked ran (λ line. Waits)
  account_begins = record {
    settings = opened.settings;
    bytes = opened.bytes;
    door = opened.door;
    opened = opened.opened;
    nodes = opened.nodes;
    office = subst (λ (o : List OfficeEntry). IsTrue (is_legal_office ran.trace.door o)) (sym none_in_office) refl;
    boxes = each_box (is_legal_box asked.settings.mailbox) refl;
    opens = opens;
    clock = clock;
    clients = clients;
    whole_lines = as_ordered (whole_order asked);
    asks_last = and_from _ _ asks (whole asked.asks);
    give_ups = give_ups;
    differ = numbered_differ asked script asks;
    strangers = strangers;
    waiting = λ line among waits. nothing_made line among;
    going = λ line among. idle (view_of asked ran line) (no_turns line among);
    over = λ line among done. absurd (not_over done);
    in_turn = λ line other' among there same less. inl refl;
  }
    where
      is_over : Stand → Bool
      is_over IsDone = true
      is_over stand = false

      not_over : Waits ≡ IsDone → ⊥
      not_over same = false≢true (ap is_over same)
