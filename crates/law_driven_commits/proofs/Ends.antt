-- A commit or an abort that a driver runs may end at its node: its attempt still does what is to end, or the node has left its incarnation.
use Rattle.std.proofs.Common.{◌≡◌, ℕ, Bool, true, false, ◌||◌, not, List, [], ◌∷◌, ◌++◌, refl, sym, ap, subst, ◌∙◌, inl, inr, append_assoc}
use Rattle.std.specs.Prelude.{IsFalse, IsTrue, None, Option, Some}
use Rattle.std.specs.List.{list_all}
use Rattle.std.specs.Str.{bytes_eq}
use Rattle.std.proofs.lemmas.Bool.{and_from, and_parts, cases_Bool, eqb-true, false≢true, or_left, or_right}
use Rattle.aft_id.specs.declared.txn_id.TxnId.{TxnId}
use Rattle.aft_id.specs.TxnId.{same_id}
use Rattle.aft_records.specs.declared.stored.Commit.{Commit}
use Rattle.aft_model.specs.declared.caller.Attempt.{Attempt}
use Rattle.aft_model.specs.declared.caller.Hold.{Hold}
use Rattle.aft_model.specs.declared.node.NodeEntry.{NodeEntry}
use Rattle.aft_model.specs.declared.reply.Reply.{Reply}
use Rattle.aft_model.specs.declared.script.Line.{Line}
use Rattle.aft_model.specs.Attempts.{AttemptState, IsCommitting, attempt_state, fixed_commit, is_committing, is_gone, uuid_of}
use Rattle.aft_model.specs.LegalNode.{LegalNode}
use Rattle.aft_model.specs.NodeRules.{is_storing}
use Rattle.aft_model.specs.NodeState.{boots, node_state, part, serves}
use Rattle.aft_model.specs.Replies.{is_silent}
use Rattle.aft_model.proofs.Histories.{In}
use Rattle.aft_model.proofs.Ids.{same_id-refl}
use Rattle.aft_model.proofs.Sights.{bytes_eq-refl}
use Rattle.aft_ledger.specs.Turns.{is_doing as is_doing_there}
use Rattle.aft_ledger.specs.View.{NodeView}
use Rattle.aft_lines.specs.Asked.{Asked, Ran}
use Rattle.aft_lines.specs.FinishedText.{line_of}
use Rattle.aft_lines.specs.LegalTrace.{is_named, named_node}
use Rattle.aft_lines.specs.LineView.{fixed_by, has_left}
use Rattle.aft_lines.specs.Progress.{EndsAborted, EndsCommitted, EndsLeft, FoundAborted, HasFailed, IsNodeStored, IsRecorded, IsStoring, MustDoubt, MustEnd, Progress, Settling}
use Rattle.aft_lines.specs.RunsSoFar.{position_of}
use Rattle.aft_lines.specs.Turns.{AtNode, Turn, answer_in}
use Rattle.aft_lines.specs.Views.{view_of}
use Rattle.aft_commit.specs.Asks.{may_end_at, may_end_with}
use Rattle.aft_commit.specs.Made.{HasCome, Made, MayDoubt, command_of, ending_of, is_own, is_own_silent, made_at, storing_with, turn_reads}
use Rattle.aft_commit.specs.Told.{IsToStore, ToldEnd}
use Rattle.aft_commit.specs.View.{FinishView, next_at}
use Rattle.aft_commit.specs.declared.outcome.Outcome.{Outcome}
use Rattle.aft_commit.specs.declared.outcome.Outcome.TheVariants.{Absent, Left, Stored}
use Rattle.aft_commit.specs.declared.stage.Stage.{Stage}
use Rattle.aft_commit.specs.declared.stage.Stage.TheVariants as stages
use Rattle.aft_turns.specs.Stands.{is_right}
use Rattle.aft_turns.specs.Trail.{Trail}
use Rattle.aft_turns.specs.declared.turn.Where.TheVariants as places
use Rattle.law_claims.specs.Doing.{attempt_at, is_doing}
use Rattle.law_claims.proofs.Scenes.{doing_there, moves_it}
use Rattle.law_runs.proofs.Nodes.{nodes_rules}
use Rattle.law_steps.specs.Histories.{history_in}
use Rattle.law_held.specs.Standing.{part_of_node}
use Rattle.law_accounts.specs.Account.{Stand}
use Rattle.law_accounts.proofs.StopsSeen.{same_history}
use Rattle.law_driver.specs.Driven.{Driven, IsNode}
use Rattle.law_driven_commits.specs.Finishes.{IsFinishOf, MayEndAtNode}
use Rattle.law_driven_commits.proofs.Calls.{its_kind, stands_at}
use Rattle.law_driven_commits.proofs.Closes.{number_is, some_commit}
use Rattle.law_accounts.proofs.Served.{moved_while_served, unbooted_since}
use Rattle.law_driven_commits.proofs.Stays.{stays_fixed, turn_stands}

storing_commits : (c : Commit) (state : AttemptState) → IsTrue (is_storing c state) → IsTrue (is_committing state)
storing_commits c (IsCommitting d) so = refl
storing_commits c state so = absurd (false≢true so)

-- what commits what is fixed ends so
stored_ends : (uuid : List ℕ) (id : TxnId) (c : Commit) → id ≡ c.id → (state : AttemptState) → IsTrue (is_committing state) → fixed_commit state ≡ Some c → IsTrue (may_end_with uuid (Stored id) state)
stored_ends uuid id c named (IsCommitting d) commits fixed =
    subst (λ (i : TxnId). IsTrue (same_id d.id i)) (ap (λ (x : Commit). x.id) (some_commit d c fixed) ∙ sym named) (same_id-refl d.id)
stored_ends uuid id c named state commits fixed = absurd (false≢true commits)

absent_ends : (uuid : List ℕ) (c : Commit) → uuid ≡ c.id.uuid → (state : AttemptState) → IsTrue (is_committing state) → fixed_commit state ≡ Some c → IsTrue (may_end_with uuid Absent state)
absent_ends uuid c named (IsCommitting d) commits fixed =
    subst (λ (u : List ℕ). IsTrue (bytes_eq uuid u)) (named ∙ ap (λ (x : Commit). x.id.uuid) (sym (some_commit d c fixed))) (bytes_eq-refl uuid)
absent_ends uuid c named state commits fixed = absurd (false≢true commits)

-- a turn of a line at a node is at the node that its client is of
pub home_turn : (clock : ℕ) (hold : Hold) (aborts : Bool) (node : ℕ) (before : List NodeEntry) (entry : NodeEntry) (rest : List Turn) → IsTrue (list_all (is_own_silent clock hold aborts) (AtNode node before entry ∷ rest)) → hold.node ≡ node
home_turn clock hold aborts node before entry rest own =
    let first = and_parts (is_own_silent clock hold aborts this) (list_all (is_own_silent clock hold aborts) rest) own in
    let mine = and_parts (is_own clock hold aborts this) (is_silent (answer_in this)) first.0 in
    let right = and_parts (is_right (command_of aborts) hold this) (turn_reads clock this) mine.0 in
    let placed = and_parts _ _ right.0 in
    at aborts (and_parts _ (is_named (named_node (command_of aborts) hold) node) placed.0).1
  where
    this : Turn
    this = AtNode node before entry

    at : (aborts : Bool) → IsTrue (is_named (named_node (command_of aborts) hold) node) → hold.node ≡ node
    at true is = eqb-true hold.node node is
    at false is = eqb-true hold.node node is

module _ (asked : Asked) (ran : Ran) (stand : Line → Stand) (line : Line) (hold : Hold) (trail : Trail) (finish : FinishView) (driven : Driven asked ran stand line hold trail) (of : IsFinishOf line hold finish) (node : NodeView) (is : IsNode asked ran node) (here : finish.hold.node ≡ node.number) (clock : ℕ) where
  abbrev Comes : Attempt → Progress → Type 0
  Comes a position = HasCome clock finish.by finish.hold finish.aborts a position trail

  module _ (a : Attempt) (position : Progress) (come : Comes a position) (at : attempt_at position ≡ Some a) where
    history_is : history_in a.node 1 ran.trace.nodes ≡ node.history
    history_is = ap (λ (n : ℕ). history_in n 1 ran.trace.nodes) (come.place ∙ here) ∙ sym (is.history ∙ same_history node.number 1 ran.trace.nodes)

    stands : position_of (view_of asked ran line) ≡ Some position
    stands = stands_at asked ran stand line hold trail finish driven of position come.leads

    -- while the node serves it, it does what the position asks
    does_so : IsTrue (serves a.inc (node_state node.history)) → IsTrue (is_doing position (attempt_state a (part node.history)))
    does_so serve =
        subst (λ (h : List NodeEntry). IsTrue (is_doing position (attempt_state a (part h)))) history_is
        (moves_it position a (attempt_state a (part_of_node a.node ran)) (uuid_of a (part_of_node a.node ran))
        (moved_while_served asked ran stand driven.account line driven.may.among (its_kind asked ran stand line hold trail finish driven of) position a stands at
        (subst (λ (h : List NodeEntry). IsTrue (serves a.inc (node_state h))) (sym history_is) serve))).1

    left_so : IsFalse (serves a.inc (node_state node.history)) → IsTrue (has_left a.inc (node_state node.history))
    left_so unserved =
        ap (λ (b : Bool). not (b || boots a.inc (node_state node.history))) unserved
        ∙ ap not (subst (λ (h : List NodeEntry). IsFalse (boots a.inc (node_state h))) history_is (unbooted_since asked ran stand driven.account line driven.may.among (its_kind asked ran stand line hold trail finish driven of) position a stands at))

    ends_with : (test : AttemptState → Bool) → (IsTrue (is_doing position (attempt_state a (part node.history))) → IsTrue (test (attempt_state a (part node.history)))) → IsTrue (has_left a.inc (node_state node.history) || is_doing_there test a node.history)
    ends_with test passes = elim (cases_Bool (serves a.inc (node_state node.history))) [
      | inl serve ↦ or_right (has_left a.inc (node_state node.history)) (is_doing_there test a node.history) (and_from (serves a.inc (node_state node.history)) (test (attempt_state a (part node.history))) serve (passes (does_so serve)))
      | inr unserved ↦ or_left (has_left a.inc (node_state node.history)) (is_doing_there test a node.history) (left_so unserved)
    ]

    -- the commit that the first turn fixed is fixed still
    fixed_still : (c : Commit) → IsToStore finish.by finish.hold finish.aborts c trail.turns → IsTrue (is_doing position (attempt_state a (part node.history))) → fixed_commit (attempt_state a (part node.history)) ≡ Some c
    fixed_still c store does =
        let begun = store.begun in
        let first : NodeEntry = record { front = begun.front; by = finish.by; act = begun.act; answer = None } in
        let own = subst (λ (ts : List Turn). IsTrue (list_all (is_own_silent clock finish.hold finish.aborts) ts)) begun.turns come.own in
        let home : begun.node ≡ a.node = sym (come.place ∙ home_turn clock finish.hold finish.aborts begun.node begun.before first begun.rest own) in
        let among = subst (λ (ts : List Turn). In (AtNode begun.node begun.before first) ts) (sym (driven.own ∙ begun.turns)) (inl refl) in
        let on = turn_stands (line_of line) begun.node begun.before first ran.trace among in
        let whole : node.history ≡ (begun.before ++ first ∷ []) ++ on.0 = sym history_is ∙ (ap (λ (n : ℕ). history_in n 1 ran.trace.nodes) (sym home) ∙ (on.1 ∙ joined begun.before first on.0)) in
        let legal = subst (λ (h : List NodeEntry). LegalNode a.node asked.settings.cache h) (history_is ∙ whole) (nodes_rules a.node 1 asked.settings.cache ran.trace.door ran.trace.nodes driven.account.nodes).0 in
        let fixed = subst (λ (o : Option Attempt). fixed_by o (part (begun.before ++ first ∷ [])) ≡ Some c) come.held store.fixed in
        let still = subst (λ (h : List NodeEntry). IsFalse (is_gone (attempt_state a (part h)))) whole (doing_there position (attempt_state a (part node.history)) does) in
        subst (λ (h : List NodeEntry). fixed_commit (attempt_state a (part h)) ≡ Some c) (sym whole) (stays_fixed a.node asked.settings.cache a c (begun.before ++ first ∷ []) on.0 legal fixed still)
      where
        joined : (before : List NodeEntry) (first : NodeEntry) (more : List NodeEntry) → before ++ first ∷ more ≡ (before ++ first ∷ []) ++ more
        joined before first more = sym (append_assoc before (first ∷ []) more)

  -- ---- each stage

  doubts_so : (a : Attempt) (reply : Reply) (position : Progress) → MayDoubt a trail.look reply position → Comes a position → may_end_at (stages.Doubts a reply) node.history
  doubts_so a reply (Settling aborts storing) may come = ends_with a (Settling aborts storing) come (ap Some may.0) is_committing (storing_commits storing.written.commit _)
  doubts_so a reply (IsStoring storing left) may come = ends_with a (IsStoring storing left) come (ap Some may.0) is_committing (storing_commits storing.written.commit _)
  doubts_so a reply (HasFailed storing) may come = ends_with a (HasFailed storing) come (ap Some may.0) is_committing (storing_commits storing.written.commit _)
  doubts_so a reply (IsRecorded storing) may come = ends_with a (IsRecorded storing) come (ap Some may.0) is_committing (storing_commits storing.written.commit _)
  doubts_so a reply (IsNodeStored storing) may come = ends_with a (IsNodeStored storing) come (ap Some may.0) is_committing (storing_commits storing.written.commit _)
  doubts_so a reply (FoundAborted storing) may come = ends_with a (FoundAborted storing) come (ap Some may.0) is_committing (storing_commits storing.written.commit _)
  doubts_so a reply (MustDoubt storing) may come = ends_with a (MustDoubt storing) come (ap Some may) is_committing (storing_commits storing.written.commit _)
  doubts_so a reply position may come = absurd may

  ends_so : (a : Attempt) (uuid : List ℕ) (outcome : Outcome) → Comes a (MustEnd a (ending_of outcome)) → ToldEnd finish.by finish.hold finish.aborts uuid outcome trail.turns → may_end_at (stages.Ends a uuid outcome) node.history
  ends_so a uuid (Stored id) come (c, named, store, shown) =
      ends_with a (MustEnd a EndsCommitted) come refl (may_end_with uuid (Stored id)) (λ does. stored_ends uuid id c named (attempt_state a (part node.history)) does (fixed_still a (MustEnd a EndsCommitted) come refl c store does))
  ends_so a uuid Absent come (c, named, aborts, store, shown) =
      ends_with a (MustEnd a EndsAborted) come refl (may_end_with uuid Absent) (λ does. absent_ends uuid c named (attempt_state a (part node.history)) does (fixed_still a (MustEnd a EndsAborted) come refl c store does))
  ends_so a uuid (Left leaves) come told = ends_with a (MustEnd a (EndsLeft leaves)) come refl (may_end_with uuid (Left leaves)) (λ does. does)

  by_stage : (stage : Stage) → made_at clock finish.by finish.hold finish.aborts stage trail → may_end_at stage node.history
  by_stage (stages.Recorded a r) ((writes, come), told) = ends_with a (IsRecorded (storing_with a r writes)) come refl (is_storing r.commit) (λ does. does)
  by_stage (stages.Doubts a reply) ((position, may, come), told) = doubts_so a reply position may come
  by_stage (stages.Ends a uuid outcome) (come, told) = ends_so a uuid outcome come told
  by_stage stages.Begins made = tt
  by_stage (stages.Settles a r values) made = tt
  by_stage (stages.Stores a r values count) made = tt
  by_stage (stages.Failed a r) made = tt
  by_stage (stages.Releases a uuid outcome) made = tt
  by_stage (stages.ShutOut a) made = tt
  by_stage stages.Ended made = tt

pub ends : (asked : Asked) (ran : Ran) (stand : Line → Stand) (line : Line) (hold : Hold) (trail : Trail) (finish : FinishView) → Driven asked ran stand line hold trail → IsFinishOf line hold finish → (node : NodeView) → IsNode asked ran node → (clock : ℕ) → Made clock finish trail → MayEndAtNode finish node
ends asked ran stand line hold trail finish driven of node is clock made next =
    by_stage asked ran stand line hold trail finish driven of node is (home finish.stage next) clock finish.stage made
  where
    home : (stage : Stage) → next_at finish.hold.node stage ≡ places.Node node.number → finish.hold.node ≡ node.number
    home stages.Begins next = number_is finish.hold.node node.number next
    home (stages.Recorded a r) next = number_is finish.hold.node node.number next
    home (stages.Doubts a reply) next = number_is finish.hold.node node.number next
    home (stages.Ends a uuid outcome) next = number_is finish.hold.node node.number next
    home (stages.ShutOut a) next = number_is finish.hold.node node.number next
    home (stages.Settles a r values) next = cc
    home (stages.Stores a r values count) next = cc
    home (stages.Failed a r) next = cc
    home (stages.Releases a uuid outcome) next = cc
    home stages.Ended next = cc
