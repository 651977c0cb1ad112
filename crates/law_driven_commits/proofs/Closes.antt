-- A commit or an abort that a driver runs, at its node: what it did there last opened what it closes, and stored what it is to tell committed.
use Rattle.std.proofs.Common.{◌≡◌, ℕ, Bool, true, false, ◌&&◌, List, [], ◌∷◌, ◌++◌, refl, sym, ap, subst, ◌∙◌, ◌⊎◌, inl, inr}
use Rattle.std.specs.Prelude.{IsTrue, None, Option, Some, if◌then◌else◌}
use Rattle.std.specs.List.{fold, list_any}
use Rattle.std.proofs.lemmas.Bool.{and_from, or_left, or_right}
use Rattle.aft_id.specs.declared.txn_id.TxnId.{TxnId}
use Rattle.aft_id.specs.TxnId.{same_id}
use Rattle.aft_records.specs.declared.stored.Commit.{Commit}
use Rattle.aft_model.specs.declared.caller.Attempt.{Attempt}
use Rattle.aft_model.specs.declared.caller.By.{By}
use Rattle.aft_model.specs.declared.caller.Hold.{Hold}
use Rattle.aft_model.specs.declared.door.DoorEntry.{DoorEntry}
use Rattle.aft_model.specs.declared.node.NodeAct.{NodeAct}
use Rattle.aft_model.specs.declared.node.NodeAct.TheVariants as acts
use Rattle.aft_model.specs.declared.node.NodeEntry.{NodeEntry}
use Rattle.aft_model.specs.declared.reply.Reply.{Reply}
use Rattle.aft_model.specs.declared.script.Command.{Command}
use Rattle.aft_model.specs.declared.script.Line.{Line}
use Rattle.aft_model.specs.Attempts.{AttemptState, IsCommitting, IsInDoubt, attempt_after, attempt_state, fixed_commit, same_attempt, tried_again}
use Rattle.aft_model.specs.NodeRules.{is_own_end, stores}
use Rattle.aft_model.specs.NodeState.{IsServing, NodeState, goes_on, node_state, part, part_in, service_in, state_after}
use Rattle.aft_model.specs.ScanRun.{same_line}
use Rattle.aft_model.proofs.Ids.{same_commits, same_id-refl}
use Rattle.aft_model.proofs.Pins.{attempt_state-snoc}
use Rattle.aft_model.proofs.Services.{node_state-snoc}
use Rattle.aft_ledger.specs.View.{NodeView}
use Rattle.aft_lines.specs.Advance.{leads_to}
use Rattle.aft_lines.specs.Asked.{Asked, Ran}
use Rattle.aft_lines.specs.CommitCourse.{Storing}
use Rattle.aft_lines.specs.FinishedText.{line_of}
use Rattle.aft_lines.specs.LineView.{ends_of, fixed_by}
use Rattle.aft_lines.specs.Lines.{node_numbers}
use Rattle.aft_lines.specs.Progress.{EndsAborted, EndsCommitted, EndsLeft, FoundAborted, HasFailed, IsNodeStored, IsRecorded, IsStoring, MustDoubt, MustEnd, Progress, Settling}
use Rattle.aft_lines.specs.Turns.{Turn}
use Rattle.aft_lines.specs.Views.{view_of}
use Rattle.aft_node.specs.Closing.{act_passes, last_own, opens_finish}
use Rattle.aft_commit.specs.Asks.{may_close_at}
use Rattle.aft_commit.specs.Made.{HasCome, LeadTo, Made, MayDoubt, command_of, ending_of, made_at, storing_with}
use Rattle.aft_commit.specs.Told.{HasBegun, ToldEnd}
use Rattle.aft_commit.specs.View.{FinishView, next_at, told_of}
use Rattle.aft_commit.specs.declared.outcome.Outcome.{Outcome}
use Rattle.aft_commit.specs.declared.outcome.Outcome.TheVariants.{Absent, Left, Stored}
use Rattle.aft_commit.specs.declared.stage.Stage.{Stage}
use Rattle.aft_commit.specs.declared.stage.Stage.TheVariants as stages
use Rattle.aft_turns.specs.Trail.{Trail}
use Rattle.aft_turns.specs.declared.turn.Where.TheVariants as places
use Rattle.law_attempts.proofs.Standing.{same_itself}
use Rattle.law_accounts.specs.Account.{Stand}
use Rattle.law_accounts.specs.Adding.{numbered_in}
use Rattle.law_driver.specs.Driven.{Driven, IsNode, last_act, node_of}
use Rattle.law_driven_commits.specs.Finishes.{IsFinishOf, MayCloseAtNode}
use Rattle.law_driven_commits.proofs.LastActs.{FixesAt, LastAt, Opened, Stores, line_last}

pub some_commit : (c d : Commit) → Some c ≡ Some d → c ≡ d
some_commit c d e = cc

-- ---- what a first turn fixes

-- any is fixed so
abbrev Any : Storing → Type 0
Any storing = Unit {0}

any_fixes : (before : List NodeEntry) (act : NodeAct) → FixesAt Any before act
any_fixes before (acts.Start a now c) = tt
any_fixes before (acts.Settle a) = λ c is. tt
any_fixes before act = tt

tried : (state : AttemptState) (c : Commit) → fixed_commit state ≡ Some c → fixed_commit (tried_again state) ≡ Some c
tried (IsInDoubt d) c is = is
tried state c is = is

-- this attempt fixes this commit
abbrev Only : Attempt → Commit → Storing → Type 0
Only a c storing = storing.attempt ≡ a → storing.written.commit ≡ c

module _ (a : Attempt) (its : Commit) (before : List NodeEntry) (entry : NodeEntry) (fixed : fixed_commit (attempt_state a (part (before ++ entry ∷ []))) ≡ Some its) where
  abbrev fixed_in : NodeState → Option Commit
  fixed_in state = fixed_commit (attempt_state a (part_in (service_in state)))

  behind : (act : NodeAct) → entry.act ≡ act → fixed_in (state_after (node_state before) entry act) ≡ Some its
  behind act is = subst (λ (x : NodeAct). fixed_in (state_after (node_state before) entry x) ≡ Some its) is (ap fixed_in (sym (node_state-snoc before entry)) ∙ fixed)

  start_at : (now : ℕ) (c : Commit) → entry.act ≡ acts.Start a now c → (state : NodeState) → fixed_in (goes_on state entry) ≡ Some its → c ≡ its
  start_at now c is (IsServing s) so = some_commit c its (sym (ap fixed_commit (attempt_state-snoc a s.part entry ∙ (ap (attempt_after a (attempt_state a s.part)) is ∙ ap (λ (t : Bool). if t then IsCommitting c else attempt_state a s.part) (same_itself a)))) ∙ so)
  start_at now c is state so = absurd (let e : None ≡ Some its = so in cc)

  settle_at : (c : Commit) → entry.act ≡ acts.Settle a → (state : NodeState) → fixed_in state ≡ Some c → fixed_in (goes_on state entry) ≡ Some its → c ≡ its
  settle_at c is (IsServing s) was so =
      some_commit c its (sym (tried (attempt_state a s.part) c was) ∙ (sym (ap fixed_commit (attempt_state-snoc a s.part entry ∙ (ap (attempt_after a (attempt_state a s.part)) is ∙ ap (λ (t : Bool). if t then tried_again (attempt_state a s.part) else attempt_state a s.part) (same_itself a)))) ∙ so))
  settle_at c is state was so = absurd (let e : None ≡ Some c = was in cc)

  its_fixes : (act : NodeAct) → entry.act ≡ act → FixesAt (Only a its) before act
  its_fixes (acts.Start b now c) is = λ same. start_at now c (is ∙ ap (λ (x : Attempt). acts.Start x now c) same) (node_state before) (behind (acts.Start b now c) is)
  its_fixes (acts.Settle b) is = λ c was same.
      settle_at c (is ∙ ap acts.Settle same) (node_state before) (subst (λ (x : Attempt). fixed_commit (attempt_state x (part before)) ≡ Some c) same was) (behind (acts.Settle b) is)
  its_fixes act is = tt

-- ---- what a line did last is among what it did

last_any : (by : By) (test : NodeAct → Bool) (history : List NodeEntry) (before : Option NodeAct) (act : NodeAct) → fold (λ before entry. if same_line by entry.by then Some entry.act else before) before history ≡ Some act → IsTrue (test act)
    → (before ≡ Some act) ⊎ IsTrue (list_any (λ entry. same_line by entry.by && test entry.act) history)
last_any by test [] before act is so = inl is
last_any by test (e ∷ history) before act is so = cases (last_any by test history (if same_line by e.by then Some e.act else before) act is so)
  where
    some_act : (x y : NodeAct) → Some x ≡ Some y → x ≡ y
    some_act x y e = cc

    by_line : (own : Bool) → same_line by e.by ≡ own → (if own then Some e.act else before) ≡ Some act → (before ≡ Some act) ⊎ IsTrue (list_any (λ entry. same_line by entry.by && test entry.act) (e ∷ history))
    by_line true own first = inr (or_left _ _ (and_from _ _ own (subst (λ (x : NodeAct). IsTrue (test x)) (sym (some_act e.act act first)) so)))
    by_line false own first = inl first

    cases : ((if same_line by e.by then Some e.act else before) ≡ Some act) ⊎ IsTrue (list_any (λ entry. same_line by entry.by && test entry.act) history) → (before ≡ Some act) ⊎ IsTrue (list_any (λ entry. same_line by entry.by && test entry.act) (e ∷ history))
    cases (inl first) = by_line (same_line by e.by) refl first
    cases (inr there) = inr (or_right _ _ there)

pub number_is : (one other : ℕ) → places.Node one ≡ places.Node other → one ≡ other
number_is one other is = cc

home : (aborts : Bool) (hold : Hold) → node_of (command_of aborts) hold ≡ hold.node
home true hold = refl
home false hold = refl

-- ---- a line

module _ (asked : Asked) (ran : Ran) (stand : Line → Stand) (line : Line) (hold : Hold) (trail : Trail) (finish : FinishView) (driven : Driven asked ran stand line hold trail) (of : IsFinishOf line hold finish) (node : NodeView) (is : IsNode asked ran node) where
  -- a position, behind a first turn that fixes what is fixed so
  last_at : (Fixed : Storing → Type 0) (begun : HasBegun finish.by trail.turns) → FixesAt Fixed begun.before begun.act → (position : Progress) → LeadTo finish.aborts trail.turns position → LastAt Fixed (last_act trail.turns) position
  last_at Fixed begun fixes position leads =
      subst (λ (ts : List Turn). LastAt Fixed (last_act ts) position) (sym begun.turns)
      (line_last Fixed finish.aborts (node_numbers asked.settings) (ends_of (view_of asked ran line)) begun.node begun.before (record { front = begun.front; by = finish.by; act = begun.act; answer = None }) begun.rest position fixes
      (ap (leads_to (command_of finish.aborts) (node_numbers asked.settings) (ends_of (view_of asked ran line))) (sym begun.turns) ∙ leads (node_numbers asked.settings) (ends_of (view_of asked ran line))))

  module _ (here : finish.hold.node ≡ node.number) where
    last_here : last_own finish.by node.history ≡ last_act trail.turns
    last_here =
        ap (last_own finish.by) is.history
        ∙ (ap (λ (by : By). last_own by (numbered_in node.number 1 ran.trace.nodes)) of.by
        ∙ (ap (λ (n : ℕ). last_own (line_of line) (numbered_in n 1 ran.trace.nodes)) (sym here ∙ (ap (λ (h : Hold). h.node) of.held ∙ sym (ap (λ (c : Command). node_of c hold) of.asks ∙ home finish.aborts hold)))
        ∙ driven.closing))

    opened_here : (a : Attempt) → Opened a (last_act trail.turns) → IsTrue (act_passes (opens_finish a) (last_own finish.by node.history))
    opened_here a so = subst (Opened a) (sym last_here) so

    stores_it : (a : Attempt) (id : TxnId) (its : Commit) → id ≡ its.id → Opened a (last_act trail.turns) → Stores (Only a its) a (last_act trail.turns) → IsTrue (list_any (λ entry. same_line finish.by entry.by && stores a id entry.act) node.history)
    stores_it a id its named opened stored = elim (last_any finish.by (stores a id) node.history None (acts.Stored stored.one stored.commit) (last_here ∙ stored.is) stores_so) [
      | inl none ↦ absurd (let e : None ≡ Some (acts.Stored stored.one stored.commit) = none in cc)
      | inr there ↦ there
    ]
      where
        same_ids : id ≡ stored.commit.id
        same_ids = named ∙ (ap (λ (c : Commit). c.id) (sym (stored.its stored.mine)) ∙ ap (λ (c : Commit). c.id) (same_commits stored.fixed.written.commit stored.commit stored.same))

        stores_so : IsTrue (stores a id (acts.Stored stored.one stored.commit))
        stores_so = and_from (same_attempt a stored.one) (same_id id stored.commit.id) (subst (Opened a) stored.is opened) (subst (λ (i : TxnId). IsTrue (same_id id i)) same_ids (same_id-refl id))

    -- ---- each stage

    doubts_so : (a : Attempt) (reply : Reply) (position : Progress) (act : Option NodeAct) (look : List DoorEntry) → MayDoubt a look reply position → LastAt Any act position → Opened a act
    doubts_so a reply (Settling aborts storing) act look may so = subst (λ (b : Attempt). Opened b act) may.0 so.0
    doubts_so a reply (IsStoring storing left) act look may so = subst (λ (b : Attempt). Opened b act) may.0 so.0
    doubts_so a reply (HasFailed storing) act look may so = subst (λ (b : Attempt). Opened b act) may.0 so.0
    doubts_so a reply (IsRecorded storing) act look may so = subst (λ (b : Attempt). Opened b act) may.0 so.0
    doubts_so a reply (IsNodeStored storing) act look may so = subst (λ (b : Attempt). Opened b act) may.0 so.0
    doubts_so a reply (FoundAborted storing) act look may so = subst (λ (b : Attempt). Opened b act) may.0 so.0
    doubts_so a reply (MustDoubt storing) act look may so = subst (λ (b : Attempt). Opened b act) may so.0
    doubts_so a reply position act look may so = absurd may

    ends_so : (clock : ℕ) (a : Attempt) (uuid : List ℕ) (outcome : Outcome) → HasCome clock finish.by finish.hold finish.aborts a (MustEnd a (ending_of outcome)) trail → ToldEnd finish.by finish.hold finish.aborts uuid outcome trail.turns → may_close_at finish.by (stages.Ends a uuid outcome) node.history
    ends_so clock a uuid (Stored id) come (c, named, store, shown) =
        let fixed = subst (λ (o : Option Attempt). fixed_by o (part (store.begun.before ++ record { front = store.begun.front; by = finish.by; act = store.begun.act; answer = None } ∷ [])) ≡ Some c) come.held store.fixed in
        let last = last_at (Only a c) store.begun (its_fixes a c store.begun.before (record { front = store.begun.front; by = finish.by; act = store.begun.act; answer = None }) fixed store.begun.act refl) (MustEnd a EndsCommitted) come.leads in
        (opened_here a last.0, stores_it a id c named last.0 last.1)
    ends_so clock a uuid Absent come (c, named, aborts, store, shown) =
        (opened_here a (last_at Any store.begun (any_fixes store.begun.before store.begun.act) (MustEnd a EndsAborted) come.leads), refl)
    ends_so clock a uuid (Left leaves) come (its, leave) = (opened_here a (last_at Any leave.begun (any_fixes leave.begun.before leave.begun.act) (MustEnd a (EndsLeft leaves)) come.leads), left leaves)
      where
        left : (b : Bool) → IsTrue (is_own_end node.history finish.by (acts.End a) (Some (told_of (Left b))))
        left true = refl
        left false = refl

  by_stage : (clock : ℕ) (stage : Stage) → made_at clock finish.by finish.hold finish.aborts stage trail → next_at finish.hold.node stage ≡ places.Node node.number → may_close_at finish.by stage node.history
  by_stage clock (stages.Recorded a r) ((writes, come), (store, shown)) next =
      opened_here (number_is finish.hold.node node.number next) a (last_at Any store.begun (any_fixes store.begun.before store.begun.act) (IsRecorded (storing_with a r writes)) come.leads).0
  by_stage clock (stages.Doubts a reply) ((position, may, come), (c, store, told)) next =
      opened_here (number_is finish.hold.node node.number next) a (doubts_so (number_is finish.hold.node node.number next) a reply position (last_act trail.turns) trail.look may (last_at Any store.begun (any_fixes store.begun.before store.begun.act) position come.leads))
  by_stage clock (stages.Ends a uuid outcome) (come, told) next = ends_so (number_is finish.hold.node node.number next) clock a uuid outcome come told
  by_stage clock stages.Begins made next = tt
  by_stage clock (stages.Settles a r values) made next = tt
  by_stage clock (stages.Stores a r values count) made next = tt
  by_stage clock (stages.Failed a r) made next = tt
  by_stage clock (stages.Releases a uuid outcome) made next = tt
  by_stage clock (stages.ShutOut a) made next = tt
  by_stage clock stages.Ended made next = tt

  pub closes : (clock : ℕ) → Made clock finish trail → MayCloseAtNode finish node
  closes clock made next = by_stage clock finish.stage made next
