-- Each get of a node reads what was recorded before, answers the version's value, and repeats what its attempt was told.
use Rattle.std.proofs.Common.{◌≡◌, ℕ, Bool, List, [], ◌∷◌, ◌++◌, refl, sym, subst, ◌∙◌, append_assoc, take, eqb}
use Rattle.std.specs.Prelude.{IsTrue, IsFalse, Option, Some}
use Rattle.std.specs.List.{list_all}
use Rattle.std.specs.Str.{bytes_eq}
use Rattle.std.proofs.lemmas.Bool.{and_from, false≢true}
use Rattle.aft_id.specs.TxnId.{same_id}
use Rattle.aft_id.specs.declared.txn_id.TxnId.{TxnId}
use Rattle.aft_model.specs.declared.caller.Attempt.{Attempt}
use Rattle.aft_model.specs.declared.choice.Picked.{Picked}
use Rattle.aft_model.specs.declared.door.DoorEntry.{DoorEntry}
use Rattle.aft_model.specs.declared.node.NodeAct.{NodeAct}
use Rattle.aft_model.specs.declared.node.NodeAct.TheVariants.{Select, Value}
use Rattle.aft_model.specs.declared.node.NodeEntry.{NodeEntry}
use Rattle.aft_model.specs.declared.reply.Reply.{Reply}
use Rattle.aft_model.specs.declared.reply.Reply.TheVariants as replies
use Rattle.aft_model.specs.Attempts.{read_by}
use Rattle.aft_model.specs.History.{each_after}
use Rattle.aft_model.specs.LegalNode.{front, may_be_done}
use Rattle.aft_model.specs.Replies.{same_reply}
use Rattle.aft_model.proofs.Histories.{In, all_at, each_after_snoc, each_after_split}
use Rattle.aft_model.proofs.Ids.{same_ids}
use Rattle.aft_model.proofs.Lists.{all_from}
use Rattle.aft_model.proofs.Sights.{bytes_eq-refl}
use Rattle.aft_lines.specs.Headline.{is_own_put, is_recorded_id, is_true_value, last_put, reads_own_in, reads_recorded_in, repeats, told, told_by}
use Rattle.law_kept.specs.Kept.{Lawful}
use Rattle.law_whole.proofs.Lists.{each_from}
use Rattle.law_boots.specs.Beside.{Beside, backs_give_ups}
use Rattle.law_boots.specs.Gets.{answers_own_in, reads_recorded_ids_in, repeats_version, repeats_version_in, same_version}
use Rattle.law_boots.proofs.Again.{Opens, again, open_rule}
use Rattle.law_boots.proofs.Nodes.{before, begins, done, up}
use Rattle.law_boots.proofs.Own.{own}
use Rattle.law_boots.proofs.Picks.{recorded}
use Rattle.law_fetches.specs.Ends.{come_behind_picks, is_behind_picks}
use Rattle.law_fetches.specs.Values.{TrueValue}
use Rattle.law_fetches.proofs.Keeps.{ComeTrue, Keeps, its_answer, keeps, selected, told_true}
use Rattle.law_fetches.proofs.Shown.{answers_true, one_value, stays_true}
use Rattle.law_fetches.proofs.There.{came_true}

module _ (node capacity : ℕ) (of_node : IsFalse (eqb node 0)) (door : List DoorEntry) (lawful : Lawful door) (whole : List NodeEntry) (beside : Beside node capacity door whole)
    (backs : IsTrue (backs_give_ups node whole door)) (opens : Opens whole) (behind : IsTrue (come_behind_picks whole)) where
  abbrev behind_rule : List NodeEntry → NodeEntry → Bool
  behind_rule earlier e = is_behind_picks earlier e.by e.act

  come : ComeTrue node capacity door lawful whole
  come history more entry parts a key id place kept_it is answered value answers =
      came_true node capacity of_node door lawful history more entry (subst (Beside node capacity door) parts beside) (subst (λ (h : List NodeEntry). IsTrue (backs_give_ups node h door)) parts backs)
      (each_after_split open_rule [] (history ++ entry ∷ []) more (subst Opens parts opens)).0 a key id
      (each_after_snoc behind_rule [] history entry (each_after_split behind_rule [] (history ++ entry ∷ []) more (subst (λ (h : List NodeEntry). IsTrue (each_after behind_rule [] h)) parts behind)).0).1 place kept_it is answered value answers

  module _ (history more : List NodeEntry) (entry : NodeEntry) (parts : whole ≡ (history ++ entry ∷ []) ++ more) where
    abbrev seen : List DoorEntry
    seen = take entry.front door

    its : Beside node capacity door (history ++ entry ∷ [])
    its = begins node capacity door (history ++ entry ∷ []) more (subst (Beside node capacity door) parts beside)

    was : Keeps node capacity door lawful whole history
    was = keeps node capacity door lawful whole come history (before node capacity door history entry its) (entry ∷ more) (parts ∙ append_assoc history (entry ∷ []) more)

    -- ---- what was recorded before

    got_true : (a : Attempt) (key : List ℕ) (p : Picked) → entry.act ≡ Select a key p → (answer : Option Reply) → entry.answer ≡ answer → IsTrue (is_true_value key seen answer)
    got_true a key p is (Some (replies.Value id value)) answers =
        answers_true key id value seen (selected node capacity door lawful whole come history more entry parts its was a key p id value
        (subst (λ (answer : Option Reply). IsTrue (may_be_done node capacity history (Select a key p) answer)) answers (subst (λ (act : NodeAct). IsTrue (may_be_done node capacity history act entry.answer)) is (done node capacity door history entry its))))
    got_true a key p is answer answers = refl

    fetched_true : (a : Attempt) (key : List ℕ) (id : TxnId) (place : ℕ) (kept_it : Bool) → entry.act ≡ Value a key id place kept_it → (answer : Option Reply) → entry.answer ≡ answer → IsTrue (is_true_value key seen answer)
    fetched_true a key id place kept_it is (Some (replies.Value answered value)) answers =
        subst (λ (i : TxnId). IsTrue (is_true_value key seen (Some (replies.Value i value)))) (its_answer node capacity door lawful whole come history more entry parts its was a key id answered place kept_it value is answers)
        (answers_true key id value seen (come history more entry parts a key id place kept_it is answered value answers))
    fetched_true a key id place kept_it is answer answers = refl

    pub read_before : IsTrue (reads_recorded_in seen entry.act entry.answer)
    read_before = by_act entry.act refl
      where
        by_act : (act : NodeAct) → entry.act ≡ act → IsTrue (reads_recorded_in seen act entry.answer)
        by_act (Select a key p) is =
            and_from (list_all (is_recorded_id seen) (read_by p)) (is_true_value key seen entry.answer)
            (subst (λ (act : NodeAct). IsTrue (reads_recorded_ids_in seen act)) is (recorded node capacity door history entry its)) (got_true a key p is entry.answer refl)
        by_act (Value a key id place kept_it) is = fetched_true a key id place kept_it is entry.answer refl
        by_act act is = refl

    -- ---- repeats

    same_answers : (a : Attempt) (key : List ℕ) (reply earlier : Reply) → In reply (told_by a key entry.act entry.answer) → In earlier (told a key history) → IsTrue (same_version reply earlier) → IsTrue (same_reply reply earlier)
    same_answers a key (replies.Value id v) (replies.Value i w) now told_before same =
        let true_before = subst (λ (x : TxnId). TrueValue key x w seen) (sym (same_ids id i same)) (stays_true door lawful key i w (front history) entry.front (up node capacity door history entry its) (was.said a key i w told_before)) in
        let value = one_value key id v w seen (told_true node capacity door lawful whole come history more entry parts its was a key id v now) true_before in
        and_from (same_id id i) (bytes_eq v w) same (subst (λ (x : List ℕ). IsTrue (bytes_eq v x)) value (bytes_eq-refl v))
    same_answers a key replies.Absent replies.Absent now told_before same = refl
    same_answers a key (replies.Value id v) other now told_before same = absurd (false≢true same)
    same_answers a key replies.Absent other now told_before same = absurd (false≢true same)
    same_answers a key reply earlier now told_before same = absurd (false≢true same)

    repeats_all : (a : Attempt) (key : List ℕ) → IsTrue (repeats_version a key history entry) → IsTrue (repeats a key history entry)
    repeats_all a key versions =
        all_from (λ (reply : Reply). list_all (same_reply reply) (told a key history)) (told_by a key entry.act entry.answer) (λ reply now.
        all_from (same_reply reply) (told a key history) (λ earlier told_before.
        same_answers a key reply earlier now told_before
        (all_at (same_version reply) earlier (told a key history) told_before (all_at (λ (r : Reply). list_all (same_version r) (told a key history)) reply (told_by a key entry.act entry.answer) now versions))))

    pub repeated : IsTrue (repeats_version_in history entry entry.act) → IsTrue (reads_own_in history entry entry.act)
    repeated versions = by_act entry.act refl versions
      where
        by_act : (act : NodeAct) → entry.act ≡ act → IsTrue (repeats_version_in history entry act) → IsTrue (reads_own_in history entry act)
        by_act (Select a key p) is so =
            and_from (is_own_put (last_put a key history) entry.answer) (repeats a key history entry)
            (subst (λ (act : NodeAct). IsTrue (answers_own_in history act entry.answer)) is (own node capacity door history entry its)) (repeats_all a key so)
        by_act (Value a key id place kept_it) is so = repeats_all a key so
        by_act act is so = refl

  pub all_recorded : IsTrue (each_after (λ earlier entry. reads_recorded_in (take entry.front door) entry.act entry.answer) [] whole)
  all_recorded = each_from (λ earlier entry. reads_recorded_in (take entry.front door) entry.act entry.answer) [] whole (λ first entry back is. read_before first back entry (is ∙ sym (append_assoc first (entry ∷ []) back)))

  pub all_repeat : IsTrue (each_after (λ earlier entry. reads_own_in earlier entry entry.act) [] whole)
  all_repeat =
      each_from (λ earlier entry. reads_own_in earlier entry entry.act) [] whole (λ first entry back is.
      let parts : whole ≡ (first ++ entry ∷ []) ++ back = is ∙ sym (append_assoc first (entry ∷ []) back) in
      repeated first back entry parts (each_after_snoc version_rule [] first entry (each_after_split version_rule [] (first ++ entry ∷ []) back (subst (λ (h : List NodeEntry). IsTrue (each_after version_rule [] h)) parts (again node capacity door lawful.made whole beside opens))).0).1)
    where
      version_rule : List NodeEntry → NodeEntry → Bool
      version_rule = λ earlier entry. repeats_version_in earlier entry entry.act
