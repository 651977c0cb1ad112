-- A get that follows an own put answers it.
use Rattle.std.proofs.Common.{◌≡◌, ℕ, Bool, true, false, ◌&&◌, List, [], ◌∷◌, ◌++◌, refl, sym, ap, subst, ◌∙◌}
use Rattle.std.specs.Prelude.{IsTrue, Option, Some, None, if◌then◌else◌}
use Rattle.std.specs.List.{flat_map, fold, last_or}
use Rattle.std.specs.Str.{bytes_eq}
use Rattle.std.proofs.lemmas.Bool.{false≢true}
use Rattle.aft_model.specs.declared.caller.Attempt.{Attempt}
use Rattle.aft_model.specs.declared.choice.Picked.{Picked}
use Rattle.aft_model.specs.declared.choice.Picked.TheVariants as picked
use Rattle.aft_model.specs.declared.door.DoorEntry.{DoorEntry}
use Rattle.aft_model.specs.declared.node.NodeAct.{NodeAct}
use Rattle.aft_model.specs.declared.node.NodeAct.TheVariants.{Put, Select}
use Rattle.aft_model.specs.declared.node.NodeEntry.{NodeEntry}
use Rattle.aft_model.specs.declared.reply.Reply.{Reply}
use Rattle.aft_model.specs.declared.reply.Reply.TheVariants as replies
use Rattle.aft_model.specs.Attempts.{buffer, buffered, reads, same_attempt}
use Rattle.aft_model.specs.Cache.{cache}
use Rattle.aft_model.specs.Choice.{choice}
use Rattle.aft_model.specs.Known.{known_in}
use Rattle.aft_model.specs.LegalNode.{may_be_done}
use Rattle.aft_model.specs.NodeRules.{answers_pick, own_or, picked_by, same_picked}
use Rattle.aft_model.specs.NodeState.{node_state, part, serves}
use Rattle.aft_model.specs.Replies.{is_answer}
use Rattle.aft_model.proofs.Incarnations.{part-at}
use Rattle.aft_model.proofs.Sights.{same_bytes}
use Rattle.aft_lines.specs.Headline.{is_own_put, last_put, put_by}
use Rattle.law_attempts.specs.Acts.{acts_on, value_after}
use Rattle.law_attempts.proofs.Buffers.{buffered_last}
use Rattle.law_attempts.proofs.Newest.{acts_of_own, last_in_part}
use Rattle.law_attempts.proofs.Standing.{same_itself}
use Rattle.law_boots.specs.Beside.{Beside}
use Rattle.law_boots.specs.Gets.{answers_own_in}
use Rattle.law_boots.proofs.Nodes.{before, done}
use Rattle.law_boots.proofs.Picks.{Picking, picking}

-- the last put, by either word
put_next : (a : Attempt) (key : List ℕ) (o : Option (List ℕ)) (act : NodeAct) (rest : List (List ℕ)) → last_or o (put_by a key act ++ rest) ≡ last_or (value_after a key o act) rest
put_next a key o (Put b put value) rest = cases (same_attempt a b && bytes_eq key put)
  where
    cases : (t : Bool) → last_or o ((if t then value ∷ [] else []) ++ rest) ≡ last_or (if t then Some value else o) rest
    cases true = refl
    cases false = refl
put_next a key o act rest = refl

put_is : (a : Attempt) (key : List ℕ) (o : Option (List ℕ)) (history : List NodeEntry) → last_or o (flat_map (λ entry. put_by a key entry.act) history) ≡ fold (λ before entry. value_after a key before entry.act) o history
put_is a key o [] = refl
put_is a key o (entry ∷ history) = put_next a key o entry.act (flat_map (λ e. put_by a key e.act) history) ∙ put_is a key (value_after a key o entry.act) history

-- what is buffered is picked, and answered
own_answered : (o : Option (List ℕ)) (otherwise p : Picked) (answer : Option Reply) → IsTrue (same_picked (own_or o otherwise) p) → IsTrue (answers_pick p answer) → IsTrue (is_own_put o answer)
own_answered None otherwise p answer picks answers = refl
own_answered (Some value) otherwise (picked.Own other) answer picks answers = subst (λ (v : List ℕ). IsTrue (is_answer (replies.Own v) answer)) (sym (same_bytes value other picks)) answers
own_answered (Some value) otherwise p answer picks answers = absurd (false≢true picks)

module _ (node capacity : ℕ) (door : List DoorEntry) (history : List NodeEntry) (entry : NodeEntry) (beside : Beside node capacity door (history ++ entry ∷ [])) where
  of_select : (a : Attempt) (key : List ℕ) (p : Picked) (answer : Option Reply) → IsTrue (serves a.inc (node_state history)) → Picking capacity history a key p answer → IsTrue (is_own_put (last_put a key history) answer)
  of_select a key p answer serve at =
      let its = before node capacity door history entry beside in
      let same : last_put a key history ≡ buffered key (buffer a at.s.part) =
      put_is a key None history ∙ (last_in_part node capacity a.inc a key history its.legal serve refl ∙ (sym (buffered_last a key (part history)) ∙ ap (λ (l : List NodeEntry). buffered key (buffer a l)) (part-at history at.s at.is))) in
      subst (λ (o : Option (List ℕ)). IsTrue (is_own_put o answer)) (sym same)
      (own_answered (buffered key (buffer a at.s.part)) (picked_by key (cache capacity at.s.part) (choice key (reads a at.s.part) (known_in at.s))) p answer at.picks at.answers)

  own_by : (act : NodeAct) (answer : Option Reply) → entry.act ≡ act → IsTrue (may_be_done node capacity history act answer) → IsTrue (answers_own_in history act answer)
  own_by (Select a key p) answer is may =
      of_select a key p answer (acts_of_own node capacity a history entry beside.legal (subst (λ (act : NodeAct). IsTrue (acts_on a act)) (sym is) (same_itself a))).1
      (picking node capacity history a key p answer may)
  own_by act answer is may = refl

  pub own : IsTrue (answers_own_in history entry.act entry.answer)
  own = own_by entry.act entry.answer refl (done node capacity door history entry beside)
