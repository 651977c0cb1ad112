-- Till the door is open the office reads alone; and what a name holds where nothing is written is what was shown of it.
use Rattle.std.proofs.Common.{◌≡◌, ℕ, false, List, [], ◌∷◌, ◌++◌, refl, sym, ap, subst, ◌∙◌, ◌⊎◌, inl, inr, append_assoc, append-nil}
use Rattle.std.specs.Prelude.{IsTrue, IsFalse, Option, if◌then◌else◌}
use Rattle.std.proofs.lemmas.Bool.{and_parts, or_parts, false≢true, true≢false}
use Rattle.std.proofs.lemmas.List.Folds.{list_any-append}
use Rattle.aft_keeper.specs.declared.keeper.KeeperCall.TheVariants.{Get, Scan}
use Rattle.aft_model.specs.declared.door.DoorAct.{DoorAct}
use Rattle.aft_model.specs.declared.door.DoorAct.TheVariants.{Call, Opened}
use Rattle.aft_model.specs.declared.door.DoorEntry.{DoorEntry}
use Rattle.aft_model.specs.DoorKnowledge.{is_open, opens}
use Rattle.aft_model.specs.Honest.{Honest}
use Rattle.aft_model.specs.LegalDoor.{may_come, may_follow}
use Rattle.aft_model.specs.MayHold.{OneOf, Unknown, may_hold}
use Rattle.aft_model.specs.History.{each_after}
use Rattle.aft_model.specs.Opening.{may_open, may_read}
use Rattle.aft_model.proofs.Histories.{In, in_append, in_back, in_front}
use Rattle.law_effects.specs.Effects.{Leaves, Shows, after_effect, effect_of}
use Rattle.law_effects.proofs.Follows.{follows, honest_sight}
use Rattle.law_kept.specs.Kept.{is_sight, is_write}
use Rattle.law_kept.specs.Outcomes.{outcomes}
use Rattle.law_kept.proofs.After.{Doing, ItLeaves, ItShows, ItTries, ItWrites, doing}
use Rattle.law_kept.proofs.Always.{honest_begins}
use Rattle.law_kept.proofs.Fates.{possible}
use Rattle.law_kept.proofs.Quiet.{nothing_new}

-- ---- what the opening does

-- till the door is open each entry is a get or a scan
read_act : (history : List DoorEntry) (act : DoorAct) → IsTrue (may_read history act) → opens act ≡ false → IsTrue (is_sight act)
read_act history (Call node inc (Get name) answer) may shut = refl
read_act history (Call node inc (Scan prefix after limit) answer) may shut = refl
read_act history (Call node inc asked answer) may shut = absurd (false≢true (and_parts _ _ may).1)
read_act history Opened may shut = absurd (true≢false shut)
read_act history act may shut = absurd (false≢true may)

pub reads_alone : (before entries : List DoorEntry) → IsTrue (each_after may_follow before entries) → IsFalse (is_open (before ++ entries)) → (e : DoorEntry) → In e entries → IsTrue (is_sight e.act)
reads_alone before [] legal shut e among = absurd among
reads_alone before (entry ∷ entries) legal shut e among =
    let parts = and_parts (may_follow before entry) (each_after may_follow (before ++ entry ∷ []) entries) legal in
    let split = or_parts (is_open before) (is_open (entry ∷ entries)) (sym (list_any-append (λ (x : DoorEntry). opens x.act) before (entry ∷ entries)) ∙ shut) in
    let last = or_parts (opens entry.act) (is_open entries) split.1 in
    let rule = subst (λ t. IsTrue (if t then may_come before entry.act else may_open before entry)) split.0 (and_parts _ _ parts.0).1 in
    elim among [
      | inl here ↦ subst (λ (x : DoorEntry). IsTrue (is_sight x.act)) (sym here) (read_act before entry.act (and_parts _ _ rule).1 last.0)
      | inr later ↦ reads_alone (before ++ entry ∷ []) entries parts.1 (ap is_open (append_assoc before (entry ∷ []) entries) ∙ shut) e later
    ]

-- ---- what is shown where nothing is written

module _ (name : List ℕ) where
  -- some entry shows this of the name
  pub record ShownIn (history : List DoorEntry) (o : Option (List ℕ)) : Type 0 where
    pub entry : DoorEntry
    pub among : In entry history
    pub shows : effect_of name entry.act ≡ Shows o

  -- nothing was shown of the name, or one thing, which is all that it may hold
  pub data Sight (history : List DoorEntry) : Type 0 where
    Unseen : may_hold name history ≡ Unknown → ((o : Option (List ℕ)) → ShownIn history o → ⊥) → Sight history
    Seen : (o : Option (List ℕ)) → may_hold name history ≡ OneOf (o ∷ []) → ShownIn history o → ((p : Option (List ℕ)) → ShownIn history p → p ≡ o) → Sight history

  shown_longer : (history : List DoorEntry) (entry : DoorEntry) (o : Option (List ℕ)) → ShownIn history o → ShownIn (history ++ entry ∷ []) o
  shown_longer history entry o was = record { entry = was.entry; among = in_front was.entry history (entry ∷ []) was.among; shows = was.shows }

  shown_now : (history : List DoorEntry) (entry : DoorEntry) (o : Option (List ℕ)) → effect_of name entry.act ≡ Shows o → ShownIn (history ++ entry ∷ []) o
  shown_now history entry o is = record { entry = entry; among = in_back entry history (entry ∷ []) (inl refl); shows = is }

  shown_fate : (history : List DoorEntry) (entry : DoorEntry) (o : Option (List ℕ)) → ShownIn (history ++ entry ∷ []) o → ShownIn history o ⊎ (effect_of name entry.act ≡ Shows o)
  shown_fate history entry o is =
      elim (in_append is.entry history (entry ∷ []) is.among) [
        | inl before ↦ inl (record { entry = is.entry; among = before; shows = is.shows })
        | inr last ↦ elim last [ inl here ↦ inr (subst (λ (e : DoorEntry). effect_of name e.act ≡ Shows o) here is.shows) | inr nowhere ↦ absurd nowhere ]
      ]

  shows_is : (o p : Option (List ℕ)) → Shows o ≡ Shows p → o ≡ p
  shows_is o p e = cc

  one_outcome : (o p : Option (List ℕ)) → In p (o ∷ []) → p ≡ o
  one_outcome o p (inl is) = is
  one_outcome o p (inr nowhere) = absurd nowhere

  sight_next : (history : List DoorEntry) (entry : DoorEntry) → Honest (history ++ entry ∷ []) → IsFalse (is_write entry.act) → Sight history → Sight (history ++ entry ∷ [])
  sight_next history entry honest quiet before = by_effect before (doing (effect_of name entry.act))
    where
      by_effect : Sight history → Doing (effect_of name entry.act) → Sight (history ++ entry ∷ [])
      by_effect (Unseen may none) (ItLeaves is) =
          Unseen (follows name history entry ∙ (ap (λ e. after_effect e (may_hold name history)) is ∙ may))
          (λ o shown. elim (shown_fate history entry o shown) [ inl was ↦ none o was | inr now ↦ (let no : Leaves ≡ Shows o = sym is ∙ now in absurd (cc)) ])
      by_effect (Seen o may shown all) (ItLeaves is) =
          Seen o (follows name history entry ∙ (ap (λ e. after_effect e (may_hold name history)) is ∙ may)) (shown_longer history entry o shown)
          (λ p it. elim (shown_fate history entry p it) [ inl was ↦ all p was | inr now ↦ (let no : Leaves ≡ Shows p = sym is ∙ now in absurd (cc)) ])
      by_effect (Unseen may none) (ItShows q is) =
          Seen q (follows name history entry ∙ ap (λ e. after_effect e (may_hold name history)) is) (shown_now history entry q is)
          (λ p it. elim (shown_fate history entry p it) [ inl was ↦ absurd (none p was) | inr now ↦ sym (shows_is q p (sym is ∙ now)) ])
      by_effect (Seen o may shown all) (ItShows q is) =
          let there : In o (outcomes (may_hold name history)) = subst (λ m. In o (outcomes m)) (sym may) (inl refl) in
          let seen : In q (outcomes (may_hold name history)) = possible (may_hold name history) (o, there) q (honest_sight name q history [] entry honest is) in
          let same : q ≡ o = one_outcome o q (subst (λ m. In q (outcomes m)) may seen) in
          Seen q (follows name history entry ∙ ap (λ e. after_effect e (may_hold name history)) is) (shown_now history entry q is)
          (λ p it. elim (shown_fate history entry p it) [ inl was ↦ all p was ∙ sym same | inr now ↦ sym (shows_is q p (sym is ∙ now)) ])
      by_effect before (ItWrites q is) = absurd (nothing_new name history entry quiet name q (inl is))
      by_effect before (ItTries q is) = absurd (nothing_new name history entry quiet name q (inr is))

  pub sights : (before entries : List DoorEntry) → Honest (before ++ entries) → ((e : DoorEntry) → In e entries → IsFalse (is_write e.act)) → Sight before → Sight (before ++ entries)
  sights before [] honest quiet sight = subst Sight (sym (append-nil before)) sight
  sights before (entry ∷ entries) honest quiet sight =
      let joined : before ++ entry ∷ entries ≡ (before ++ entry ∷ []) ++ entries = sym (append_assoc before (entry ∷ []) entries) in
      let whole = subst Honest joined honest in
      subst Sight (sym joined)
      (sights (before ++ entry ∷ []) entries whole (λ e among. quiet e (inr among)) (sight_next before entry (honest_begins (before ++ entry ∷ []) entries whole) (quiet entry (inl refl)) sight))

  pub sight_of : (history : List DoorEntry) → Honest history → ((e : DoorEntry) → In e history → IsFalse (is_write e.act)) → Sight history
  sight_of history honest quiet = sights [] history honest quiet (Unseen refl (λ o shown. shown.among))

  pub held_as_shown : (history : List DoorEntry) → Honest history → ((e : DoorEntry) → In e history → IsFalse (is_write e.act)) → (o : Option (List ℕ)) → ShownIn history o → may_hold name history ≡ OneOf (o ∷ [])
  held_as_shown history honest quiet o shown = by_sight (sight_of history honest quiet)
    where
      by_sight : Sight history → may_hold name history ≡ OneOf (o ∷ [])
      by_sight (Unseen may none) = absurd (none o shown)
      by_sight (Seen p may it all) = may ∙ ap (λ q. OneOf (q ∷ [])) (sym (all o shown))
