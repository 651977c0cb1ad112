-- A UUID is kept behind an entry that moves no claim, no stage and no finding of it; and behind claims, releases and who comes and goes.
use Rattle.std.proofs.Common.{◌≡◌, ℕ, true, false, ◌&&◌, not, List, [], ◌∷◌, ◌++◌, refl, sym, ap, subst, ◌∙◌, ◌⊎◌, inl, inr}
use Rattle.std.specs.Prelude.{IsTrue, IsFalse, Option, Some, None, if◌then◌else◌, is_some}
use Rattle.std.specs.List.{list_any}
use Rattle.std.specs.Str.{bytes_eq}
use Rattle.std.proofs.lemmas.Bool.{and_parts, and_from, and_right, not-true, cases_Bool, false≢true}
use Rattle.aft_id.specs.declared.txn_id.TxnId.{TxnId}
use Rattle.aft_records.specs.declared.stored.Commit.{Commit}
use Rattle.aft_records.specs.Commits.{has_id}
use Rattle.aft_model.specs.declared.door.DoorAct.{DoorAct}
use Rattle.aft_model.specs.declared.door.DoorAct.TheVariants.{Claim, Fence, GiveUp, Release, Up}
use Rattle.aft_model.specs.declared.door.DoorEntry.{DoorEntry}
use Rattle.aft_model.specs.Claims.{claimant, claimant_after, forgotten, holder, holds, is_held_by}
use Rattle.aft_model.specs.DoorRules.{may_claim}
use Rattle.aft_model.specs.LegalDoor.{may_come}
use Rattle.aft_model.specs.Looks.{IsClaimed, IsUnclaimed, Look, look, look_after}
use Rattle.aft_model.specs.Membership.{Incarnation, incarnation, is_up, same_incarnation, the_office, up_after, ups}
use Rattle.aft_model.specs.Readings.{marker_name, record_name}
use Rattle.aft_model.specs.Stages.{HasClaimed, IsIdle, Stage, is_own, put_after, put_under_claim, stage, stage_after}
use Rattle.aft_model.proofs.OneCommit.{claimant-snoc, same_itself, same_who}
use Rattle.aft_model.proofs.Sights.{same_bytes}
use Rattle.aft_model.proofs.Turns.{held_up}
use Rattle.law_kept.specs.Kept.{Comes, Holding, Kept, Looking, is_claiming, is_membership, is_write}
use Rattle.law_kept.proofs.After.{News, kept_after}
use Rattle.law_kept.proofs.Calm.{holding_stays, looking_stays}
use Rattle.law_kept.proofs.Fates.{NewAt}
use Rattle.law_kept.proofs.Members.{Fenced, known_after, look-snoc, put-snoc, stage-snoc, ups-snoc, was_up}
use Rattle.law_kept.proofs.Quiet.{nothing_new, quiet_news, quiet_unforgotten}
use Rattle.law_kept.proofs.Steps.{come}

-- an act that moves no claim, no stage and no finding of a UUID
pub record Unmoving (uuid : List ℕ) (act : DoorAct) : Type 0 where
  pub claim : (held : Option Incarnation) → claimant_after uuid held act ≡ held
  pub stage_is : (who : Incarnation) (s : Stage) → stage_after who uuid s act ≡ s
  pub finding : (id : TxnId) → id.uuid ≡ uuid → (held : Option Incarnation) (l : Look) → look_after id held l act ≡ l

module _ (uuid : List ℕ) (history : List DoorEntry) (entry : DoorEntry) (comes : Comes history entry) (before : Kept uuid history) (news : News uuid history entry)
    (no_record : (bytes : List ℕ) → NewAt (record_name uuid) entry.act (Some bytes) → ⊥) where
  abbrev longer : List DoorEntry
  longer = history ++ entry ∷ []

  -- what the stages say stays so for who held it and was up
  abbrev pub Moves : (Incarnation → Stage) → Type 0
  Moves after = (who : Incarnation) → IsTrue (is_held_by who (claimant uuid history)) → IsTrue (is_up who history) → Holding uuid who history (stage who uuid history) → Holding uuid who longer (after who)

  pub kept_held : ((held : Option Incarnation) → claimant_after uuid held entry.act ≡ held) → Moves (λ who. stage_after who uuid (stage who uuid history) entry.act)
      → ((id : TxnId) → id.uuid ≡ uuid → (held : Option Incarnation) (l : Look) → look_after id held l entry.act ≡ l) → Kept uuid longer
  kept_held claim moves finding = kept_after uuid history entry comes before news claimed_of holding_of looking_of
    where
      held_before : (who : Incarnation) → IsTrue (is_held_by who (claimant uuid longer)) → IsTrue (is_held_by who (claimant uuid history))
      held_before who held = subst (λ h. IsTrue (is_held_by who h)) (claimant-snoc uuid history entry ∙ claim (claimant uuid history)) held

      claimed_of : (who : Incarnation) → IsTrue (is_held_by who (claimant uuid longer)) → IsTrue (is_up who longer) ⊎ Fenced who longer
      claimed_of who held = known_after who history (before.claimed who (held_before who held)) entry (come history entry comes)

      holding_of : (who : Incarnation) → IsTrue (is_held_by who (claimant uuid longer)) → IsTrue (is_up who longer) → Holding uuid who longer (stage who uuid longer)
      holding_of who held up =
          let held_it = held_before who held in
          let up_it = was_up who history (before.claimed who held_it) entry (come history entry comes) up in
          subst (Holding uuid who longer) (sym (stage-snoc who uuid history entry)) (moves who held_it up_it (before.holding who held_it up_it))

      looking_of : (id : TxnId) → id.uuid ≡ uuid → IsTrue (is_held_by the_office (claimant uuid longer)) → Looking id longer (look id longer)
      looking_of id of held =
          let after = look-snoc id history entry in
          subst (Looking id longer) (sym (after.1 ∙ finding id of after.0 (look id history)))
          (looking_stays uuid history entry comes before news no_record id of (look id history) (before.looking id of (held_before the_office held)))

  pub kept_unmoved : Unmoving uuid entry.act → Moves (λ who. stage who uuid history) → Kept uuid longer
  kept_unmoved unmoving moves =
      kept_held unmoving.claim (λ who held up holding. subst (Holding uuid who longer) (sym (unmoving.stage_is who (stage who uuid history))) (moves who held up holding)) unmoving.finding

-- ---- entries that write nothing

module _ (uuid : List ℕ) (history : List DoorEntry) (entry : DoorEntry) (comes : Comes history entry) (before : Kept uuid history) (quiet : IsFalse (is_write entry.act)) where
  kept_quietly : Unmoving uuid entry.act → ((who : Incarnation) (puts : List Commit) → put_after who uuid puts entry.act ≡ puts) → Kept uuid (history ++ entry ∷ [])
  kept_quietly unmoving puts_same =
      kept_unmoved uuid history entry comes before (quiet_news uuid history entry quiet) (λ bytes new. nothing_new uuid history entry quiet (record_name uuid) (Some bytes) new) unmoving
      (λ who held up holding. holding_stays uuid history entry comes before (quiet_news uuid history entry quiet) (λ bytes new. nothing_new uuid history entry quiet (record_name uuid) (Some bytes) new) who
      (quiet_unforgotten uuid history entry quiet) (λ bytes new. nothing_new uuid history entry quiet (marker_name uuid) (Some bytes) new)
      (λ id was. subst (λ cs. IsTrue (has_id id cs)) (sym (put-snoc who uuid history entry ∙ puts_same who (put_under_claim who uuid history))) was)
      (λ names unused name among outcome new. nothing_new uuid history entry quiet name outcome new) (stage who uuid history) holding)

-- ---- claims

module _ (uuid : List ℕ) (other : List ℕ) (apart : bytes_eq uuid other ≡ false) (node inc : ℕ) where
  other_claim : Unmoving uuid (Claim other node inc)
  other_claim = record {
    claim = λ held. ap (λ t. if t then Some (incarnation node inc) else held) apart;
    stage_is = λ who s. ap (λ t. if t then HasClaimed else s) (and_right (same_incarnation who (incarnation node inc)) (bytes_eq uuid other) apart);
    finding = λ id of held l. ap (λ t. if t then IsClaimed else l) (ap (λ u. bytes_eq u other) of ∙ apart);
  }

  other_claim_puts : (who : Incarnation) (puts : List Commit) → put_after who uuid puts (Claim other node inc) ≡ puts
  other_claim_puts who puts = ap (λ t. if t then [] else puts) (and_right (same_incarnation who (incarnation node inc)) (bytes_eq uuid other) apart)

  other_release : Unmoving uuid (Release other node inc)
  other_release = record {
    claim = λ held. ap (λ t. if t && is_held_by (incarnation node inc) held then None else held) apart;
    stage_is = λ who s. ap (λ t. if t then IsIdle else s) (and_right (same_incarnation who (incarnation node inc)) (bytes_eq uuid other) apart);
    finding = λ id of held l. ap (λ t. if t && is_held_by (incarnation node inc) held then IsUnclaimed else l) (ap (λ u. bytes_eq u other) of ∙ apart);
  }

  other_release_puts : (who : Incarnation) (puts : List Commit) → put_after who uuid puts (Release other node inc) ≡ puts
  other_release_puts who puts = ap (λ t. if t then [] else puts) (and_right (same_incarnation who (incarnation node inc)) (bytes_eq uuid other) apart)

module _ (uuid : List ℕ) (history : List DoorEntry) (entry : DoorEntry) (comes : Comes history entry) (before : Kept uuid history) where
  abbrev further : List DoorEntry
  further = history ++ entry ∷ []

  may_come_as : (act : DoorAct) → entry.act ≡ act → IsTrue (may_come history act)
  may_come_as act is = subst (λ a. IsTrue (may_come history a)) is (come history entry comes)

  -- a claim of the UUID
  claimed_now : (node inc : ℕ) (claimed : List ℕ) → entry.act ≡ Claim claimed node inc → bytes_eq uuid claimed ≡ true → IsFalse (is_write entry.act) → Kept uuid further
  claimed_now node inc claimed is same quiet = kept_after uuid history entry comes before (quiet_news uuid history entry quiet) claimed_of holding_of looking_of
    where
      claimant_is : claimant uuid further ≡ Some (incarnation node inc)
      claimant_is = claimant-snoc uuid history entry ∙ (ap (λ act. claimant_after uuid (claimant uuid history) act) is ∙ ap (λ t. if t then Some (incarnation node inc) else claimant uuid history) same)

      it_is : (who : Incarnation) → IsTrue (is_held_by who (claimant uuid further)) → who ≡ incarnation node inc
      it_is who held = same_who who (incarnation node inc) (subst (λ h. IsTrue (is_held_by who h)) claimant_is held)

      rule : IsTrue (is_up (incarnation node inc) history) × IsTrue (may_claim history claimed)
      rule = and_parts _ _ (may_come_as (Claim claimed node inc) is)

      ups_same : ups further ≡ ups history
      ups_same = ups-snoc history entry ∙ ap (λ act. up_after (ups history) act) is

      claimed_of : (who : Incarnation) → IsTrue (is_held_by who (claimant uuid further)) → IsTrue (is_up who further) ⊎ Fenced who further
      claimed_of who held =
          inl (subst (λ l. IsTrue (list_any (same_incarnation who) l)) (sym ups_same) (subst (λ (i : Incarnation). IsTrue (is_up i history)) (sym (it_is who held)) rule.0))

      unforgotten : IsFalse (forgotten uuid history)
      unforgotten = subst (λ u. IsFalse (forgotten u history)) (sym (same_bytes uuid claimed same)) (not-true (forgotten claimed history) (and_parts (not (is_some (holder claimed history))) (not (forgotten claimed history)) rule.1).1)

      holding_of : (who : Incarnation) → IsTrue (is_held_by who (claimant uuid further)) → IsTrue (is_up who further) → Holding uuid who further (stage who uuid further)
      holding_of who held up =
          let own : is_own who uuid node inc claimed ≡ true = and_from _ _ (subst (λ (i : Incarnation). IsTrue (same_incarnation who i)) (it_is who held) (same_itself who)) same in
          let staged : stage who uuid further ≡ HasClaimed =
          stage-snoc who uuid history entry ∙ (ap (λ act. stage_after who uuid (stage who uuid history) act) is ∙ ap (λ t. if t then HasClaimed else stage who uuid history) own) in
          subst (Holding uuid who further) (sym staged) (quiet_unforgotten uuid history entry quiet unforgotten)

      looking_of : (id : TxnId) → id.uuid ≡ uuid → IsTrue (is_held_by the_office (claimant uuid further)) → Looking id further (look id further)
      looking_of id of held =
          let after = look-snoc id history entry in
          let found : look id further ≡ IsClaimed =
          after.1 ∙ (ap (λ act. look_after id after.0 (look id history) act) is ∙ ap (λ t. if t then IsClaimed else look id history) (ap (λ u. bytes_eq u claimed) of ∙ same)) in
          subst (Looking id further) (sym found) tt

  -- a release of the UUID
  released_now : (node inc : ℕ) (released : List ℕ) → entry.act ≡ Release released node inc → bytes_eq uuid released ≡ true → IsFalse (is_write entry.act) → Kept uuid further
  released_now node inc released is same quiet =
      kept_after uuid history entry comes before (quiet_news uuid history entry quiet) (λ who held. absurd (nobody who held)) (λ who held up. absurd (nobody who held)) (λ id of held. absurd (nobody the_office held))
    where
      rule : IsTrue (holds (incarnation node inc) released history)
      rule = (and_parts (is_up (incarnation node inc) history) (holds (incarnation node inc) released history) (may_come_as (Release released node inc) is)).1

      held_it : IsTrue (is_held_by (incarnation node inc) (claimant uuid history))
      held_it =
          let it : uuid ≡ released = same_bytes uuid released same in
          (held_up (incarnation node inc) history (claimant uuid history) (subst (λ u. IsTrue (is_held_by (incarnation node inc) (holder u history))) (sym it) rule)).0

      gone : claimant uuid further ≡ None
      gone =
          claimant-snoc uuid history entry
          ∙ (ap (λ act. claimant_after uuid (claimant uuid history) act) is ∙ ap (λ t. if t then None else claimant uuid history) (and_from (bytes_eq uuid released) _ same held_it))

      nobody : (who : Incarnation) → IsTrue (is_held_by who (claimant uuid further)) → ⊥
      nobody who held = false≢true (subst (λ h. IsTrue (is_held_by who h)) gone held)

  pub kept_behind_claim : IsTrue (is_claiming entry.act) → Kept uuid further
  kept_behind_claim claiming = go entry.act refl claiming
    where
      go : (act : DoorAct) → entry.act ≡ act → IsTrue (is_claiming act) → Kept uuid further
      go (Claim claimed node inc) is claiming = elim (cases_Bool (bytes_eq uuid claimed)) [
        | inl same ↦ claimed_now node inc claimed is same (ap is_write is)
        | inr apart ↦ kept_quietly uuid history entry comes before (ap is_write is) (subst (Unmoving uuid) (sym is) (other_claim uuid claimed apart node inc))
            (λ who puts. ap (λ act. put_after who uuid puts act) is ∙ other_claim_puts uuid claimed apart node inc who puts)
      ]
      go (Release released node inc) is claiming = elim (cases_Bool (bytes_eq uuid released)) [
        | inl same ↦ released_now node inc released is same (ap is_write is)
        | inr apart ↦ kept_quietly uuid history entry comes before (ap is_write is) (subst (Unmoving uuid) (sym is) (other_release uuid released apart node inc))
            (λ who puts. ap (λ act. put_after who uuid puts act) is ∙ other_release_puts uuid released apart node inc who puts)
      ]
      go act is claiming = absurd (false≢true claiming)

  -- somebody comes up or is fenced, or gives an id up
  pub kept_behind_member : IsTrue (is_membership entry.act) → Kept uuid further
  kept_behind_member member = go entry.act refl member
    where
      go : (act : DoorAct) → entry.act ≡ act → IsTrue (is_membership act) → Kept uuid further
      go (Up node inc) is member = kept_quietly uuid history entry comes before (ap is_write is) (subst (Unmoving uuid) (sym is) (record { claim = λ held. refl; stage_is = λ who s. refl; finding = λ id of held l. refl })) (λ who puts. ap (λ act. put_after who uuid puts act) is)
      go (Fence node inc) is member = kept_quietly uuid history entry comes before (ap is_write is) (subst (Unmoving uuid) (sym is) (record { claim = λ held. refl; stage_is = λ who s. refl; finding = λ id of held l. refl })) (λ who puts. ap (λ act. put_after who uuid puts act) is)
      go (GiveUp node inc id) is member = kept_quietly uuid history entry comes before (ap is_write is) (subst (Unmoving uuid) (sym is) (record { claim = λ held. refl; stage_is = λ who s. refl; finding = λ id of held l. refl })) (λ who puts. ap (λ act. put_after who uuid puts act) is)
      go act is member = absurd (false≢true member)
