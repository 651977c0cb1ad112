-- Gets of one key with no own put between are answered of one version.
use Rattle.std.proofs.Common.{◌≡◌, ℕ, Bool, ◌&&◌, List, [], ◌∷◌, ◌++◌, suc, refl, sym, ap, subst, ◌∙◌, append-nil, append_assoc}
use Rattle.std.specs.Prelude.{IsTrue, IsFalse, Option, if◌then◌else◌}
use Rattle.std.specs.List.{fold, list_all}
use Rattle.std.specs.Str.{bytes_eq}
use Rattle.std.proofs.lemmas.Bool.{and_from, and_parts}
use Rattle.aft_model.specs.declared.caller.Attempt.{Attempt}
use Rattle.aft_model.specs.declared.door.DoorEntry.{DoorEntry}
use Rattle.aft_model.specs.declared.node.NodeAct.{NodeAct}
use Rattle.aft_model.specs.declared.node.NodeAct.TheVariants.{Put, Select, Value}
use Rattle.aft_model.specs.declared.node.NodeEntry.{NodeEntry}
use Rattle.aft_model.specs.declared.reply.Reply.{Reply}
use Rattle.aft_model.specs.Attempts.{reads}
use Rattle.aft_model.specs.Bytes.{HasBytes}
use Rattle.aft_model.specs.History.{each_after}
use Rattle.aft_model.specs.Known.{known_in}
use Rattle.aft_model.specs.LegalNode.{is_legal_node, may_be_done, may_serve}
use Rattle.aft_model.specs.NodeSights.{is_seen_node}
use Rattle.aft_model.specs.NodeState.{IsServing, NodeState, Service, extended, newest, node_state, part, state_after}
use Rattle.aft_model.proofs.Histories.{In, each_after_snoc, each_after_split}
use Rattle.aft_model.proofs.Incarnations.{part-at}
use Rattle.aft_model.proofs.Lists.{all_from}
use Rattle.aft_model.proofs.Services.{Begins, Boots, GoesDown, Moved, Serves, Waits, moved_by, node_state-snoc}
use Rattle.aft_lines.specs.Headline.{got_in, put_by, told, told_after, told_by, told_since}
use Rattle.aft_lines.specs.Holding.{ends_open_fetch}
use Rattle.aft_lines.specs.LegalTrace.{are_legal_nodes}
use Rattle.law_attempts.specs.Acts.{acts_on}
use Rattle.law_attempts.proofs.Newest.{acts_in_part, acts_of, acts_of_own, fold_of_acts}
use Rattle.law_attempts.proofs.Standing.{same_itself}
use Rattle.law_reads.proofs.Gets.{AreReal}
use Rattle.law_reads.proofs.Reading.{reading}
use Rattle.law_whole.proofs.Lists.{each_from}
use Rattle.law_boots.specs.Beside.{Beside}
use Rattle.law_boots.specs.Gets.{repeats_version, repeats_version_in, same_version}
use Rattle.law_boots.proofs.Nodes.{before, begins, done, kept, rule}
use Rattle.law_boots.proofs.Picks.{in_one}
use Rattle.law_boots.proofs.Real.{each_real}
use Rattle.law_boots.proofs.Told.{Tells, said_now, said_still, same_said, tells_next}

-- ---- what is told an attempt is told by its own acts

left_alone : (a : Attempt) (key : List ℕ) (act : NodeAct) (answer : Option Reply) → IsFalse (acts_on a act) → (put_by a key act ≡ []) × (told_by a key act answer ≡ [])
left_alone a key (Put b put value) answer other = (ap (λ t. if t && bytes_eq key put then value ∷ [] else []) other, refl)
left_alone a key (Select b got p) answer other = (refl, ap (λ t. if t && bytes_eq key got then got_in answer else []) other)
left_alone a key (Value b got id place kept_it) answer other = (refl, ap (λ t. if t && bytes_eq key got then got_in answer else []) other)
left_alone a key act answer other = (refl, refl)

told_left : (a : Attempt) (key : List ℕ) (earlier : List Reply) (entry : NodeEntry) → IsFalse (acts_on a entry.act) → told_after a key earlier entry ≡ earlier
told_left a key earlier entry other =
    let none = left_alone a key entry.act entry.answer other in
    ap (λ values. told_since values (earlier ++ told_by a key entry.act entry.answer)) none.0 ∙ (ap (λ (l : List Reply). earlier ++ l) none.1 ∙ append-nil earlier)

-- ---- over a history

-- whether an entry ends only a fetch that stood open
abbrev pub open_rule : List NodeEntry → NodeEntry → Bool
open_rule history entry = ends_open_fetch (part history) entry.by entry.act

abbrev pub Opens : List NodeEntry → Type 0
Opens history = IsTrue (each_after open_rule [] history)

abbrev pub TellsIn : NodeState → Type 0
TellsIn (IsServing s) = Tells s
TellsIn state = Unit {0}

module _ (node capacity : ℕ) (door : List DoorEntry) (made : HasBytes door) where
  real_known : (history : List NodeEntry) → Beside node capacity door history → (s : Service) → node_state history ≡ IsServing s → AreReal (known_in s)
  real_known history beside s is = (reading node capacity history s beside.legal (each_real node capacity door made history beside) is).real

  module _ (history : List NodeEntry) (entry : NodeEntry) (beside : Beside node capacity door (history ++ entry ∷ [])) where
    abbrev its : Beside node capacity door history
    its = before node capacity door history entry beside

    moves : Moved node capacity (newest history) (node_state history) entry entry.act entry.answer (node_state (history ++ entry ∷ [])) → IsTrue (open_rule history entry) → TellsIn (node_state history) → TellsIn (node_state (history ++ entry ∷ []))
    moves (Serves s was may is) open_now holds =
        subst TellsIn (sym is)
        (tells_next node capacity s (real_known history its s was) (subst TellsIn was holds) entry may (subst (λ (p : List NodeEntry). IsTrue (ends_open_fetch p entry.by entry.act)) (part-at history s was) open_now))
    moves (GoesDown is) open_now holds = subst TellsIn (sym is) tt
    moves (Begins inc by begun is) open_now holds = subst TellsIn (sym is) tt
    moves (Waits inc running still was is) open_now holds = subst TellsIn (sym is) tt
    moves (Boots inc commits boot is) open_now holds = subst TellsIn (sym is) (record { fetched = λ e among. absurd among; said = λ a key reply among. absurd among })

    next : (Opens history → TellsIn (node_state history)) → Opens (history ++ entry ∷ []) → TellsIn (node_state (history ++ entry ∷ []))
    next holds opens =
        let split = each_after_snoc open_rule [] history entry opens in
        moves (moved_by node capacity history entry (rule node capacity door history entry beside)) split.1 (holds split.0)

  pub tells : (history : List NodeEntry) → Beside node capacity door history → Opens history → TellsIn (node_state history)
  tells history beside = kept node capacity door (λ (h : List NodeEntry). Opens h → TellsIn (node_state h)) (λ opens. tt) next history beside

  module _ (history : List NodeEntry) (entry : NodeEntry) (beside : Beside node capacity door (history ++ entry ∷ [])) (opens : Opens (history ++ entry ∷ [])) where
    -- of an attempt that acts in a service
    of_attempt : (a : Attempt) (key : List ℕ) (s : Service) → IsTrue (acts_on a entry.act) → node_state history ≡ IsServing s → IsTrue (may_serve node capacity entry.act entry.answer s) → node_state (history ++ entry ∷ []) ≡ IsServing (extended s entry)
        → IsTrue (repeats_version a key history entry)
    of_attempt a key s acts was may is =
        let own : Beside node capacity door history = before node capacity door history entry beside in
        let split = each_after_snoc open_rule [] history entry opens in
        let it_tells : Tells s = subst TellsIn was (tells history own split.0) in
        let open_now = subst (λ (p : List NodeEntry). IsTrue (ends_open_fetch p entry.by entry.act)) (part-at history s was) split.1 in
        let serve = (acts_of_own node capacity a history entry beside.legal acts).1 in
        let by_acts : (entries : List NodeEntry) → told a key entries ≡ fold (told_after a key) [] (acts_of a entries) = fold_of_acts (told_after a key) a (λ earlier e other. told_left a key earlier e other) [] in
        let same : told a key history ≡ told a key s.part =
        by_acts history ∙ (ap (fold (told_after a key) []) (acts_in_part node capacity a.inc a history own.legal serve refl) ∙ (sym (by_acts (part history)) ∙ ap (told a key) (part-at history s was))) in
        let once = (reading node capacity (history ++ entry ∷ []) (extended s entry) beside.legal (each_real node capacity door made (history ++ entry ∷ []) beside) is).once a in
        all_from (λ (reply : Reply). list_all (same_version reply) (told a key history)) (told_by a key entry.act entry.answer) (λ reply now.
        all_from (same_version reply) (told a key history) (λ earlier among.
        same_said key (reads a (s.part ++ entry ∷ [])) reply earlier once
        (said_now node capacity s (real_known history own s was) it_tells entry may open_now a key reply now)
        (said_still node capacity s (real_known history own s was) it_tells entry may open_now a key earlier (subst (In earlier) same among))))

    by_act : (act : NodeAct) → entry.act ≡ act → IsTrue (repeats_version_in history entry act)
    by_act (Select a key p) is =
        let may = in_one (may_serve node capacity (Select a key p) entry.answer) (node_state history) (subst (λ act. IsTrue (may_be_done node capacity history act entry.answer)) is (done node capacity door history entry beside)) in
        of_attempt a key may.0 (subst (λ act. IsTrue (acts_on a act)) (sym is) (same_itself a)) may.1 (subst (λ act. IsTrue (may_serve node capacity act entry.answer may.0)) (sym is) may.2)
        (node_state-snoc history entry ∙ (ap (λ (st : NodeState). state_after st entry entry.act) may.1 ∙ ap (state_after (IsServing may.0) entry) is))
    by_act (Value a key id place kept_it) is =
        let may = in_one (may_serve node capacity (Value a key id place kept_it) entry.answer) (node_state history) (subst (λ act. IsTrue (may_be_done node capacity history act entry.answer)) is (done node capacity door history entry beside)) in
        of_attempt a key may.0 (subst (λ act. IsTrue (acts_on a act)) (sym is) (same_itself a)) may.1 (subst (λ act. IsTrue (may_serve node capacity act entry.answer may.0)) (sym is) may.2)
        (node_state-snoc history entry ∙ (ap (λ (st : NodeState). state_after st entry entry.act) may.1 ∙ ap (state_after (IsServing may.0) entry) is))
    by_act act is = refl

  pub again : (history : List NodeEntry) → Beside node capacity door history → Opens history → IsTrue (each_after (λ earlier entry. repeats_version_in earlier entry entry.act) [] history)
  again history beside opens =
      each_from (λ earlier entry. repeats_version_in earlier entry entry.act) [] history (λ earlier x back is.
      let here : history ≡ (earlier ++ x ∷ []) ++ back = is ∙ sym (append_assoc earlier (x ∷ []) back) in
      by_act earlier x (begins node capacity door (earlier ++ x ∷ []) back (subst (Beside node capacity door) here beside)) (each_after_split open_rule [] (earlier ++ x ∷ []) back (subst Opens here opens)).0 x.act refl)

pub again_each : (capacity : ℕ) (door : List DoorEntry) → HasBytes door → (node : ℕ) (histories : List (List NodeEntry)) → IsTrue (are_legal_nodes node capacity door histories) → IsTrue (list_all (each_after open_rule []) histories)
    → IsTrue (list_all (each_after (λ earlier entry. repeats_version_in earlier entry entry.act) []) histories)
again_each capacity door made node [] legal opens = refl
again_each capacity door made node (history ∷ histories) legal opens =
    let parts = and_parts (is_legal_node node capacity history && is_seen_node node door history) (are_legal_nodes (suc node) capacity door histories) legal in
    let its_own = and_parts (is_legal_node node capacity history) (is_seen_node node door history) parts.0 in
    let fetches = and_parts (each_after open_rule [] history) (list_all (each_after open_rule []) histories) opens in
    and_from _ _ (again node capacity door made history (record { legal = its_own.0; seen = its_own.1 }) fetches.0) (again_each capacity door made (suc node) histories parts.1 fetches.1)
