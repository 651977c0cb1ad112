-- Where an entry writes nothing, nothing is new; and what follows where no marker may be there.
use Rattle.std.proofs.Common.{ℕ, List, [], ◌∷◌, ◌++◌, refl, sym, ap, subst, ◌∙◌, ◌⊎◌, inl, inr}
use Rattle.std.specs.Prelude.{IsTrue, IsFalse, Option, Some, None}
use Rattle.std.proofs.lemmas.Bool.{true≢false, false_from_ne_true}
use Rattle.aft_keeper.specs.declared.keeper.KeeperCall.TheVariants.{Delete, Put}
use Rattle.aft_records.specs.declared.stored.Marker.{Marker}
use Rattle.aft_records.specs.declared.stored.Marker.TheVariants.{Full}
use Rattle.aft_records.specs.Commits.{has_uuid}
use Rattle.aft_model.specs.declared.door.DoorAct.{DoorAct}
use Rattle.aft_model.specs.declared.door.DoorAct.TheVariants.{Call}
use Rattle.aft_model.specs.declared.door.DoorEntry.{DoorEntry}
use Rattle.aft_model.specs.Claims.{forgotten, tries_delete}
use Rattle.aft_model.specs.Committed.{marked}
use Rattle.aft_model.specs.DoorKnowledge.{deletes, knows_marked}
use Rattle.aft_model.specs.Readings.{marker_name, record_name, version_name}
use Rattle.aft_model.proofs.Histories.{In, any_found}
use Rattle.aft_model.proofs.Sights.{same_bytes}
use Rattle.law_kept.specs.Kept.{Kept, is_write}
use Rattle.law_kept.specs.Outcomes.{MayBe, OnlyAbsent}
use Rattle.law_kept.specs.Tried.{markers_put}
use Rattle.law_kept.proofs.After.{News}
use Rattle.law_kept.proofs.Fates.{NewAt}
use Rattle.law_kept.proofs.Gone.{any_snoc, full_proven}
use Rattle.law_kept.proofs.Steps.{Deletes, Puts, Writing, deleted_effect, writing}

-- a UUID that isn't forgotten and whose marker may be absent isn't marked
pub unmarked_where_absent : (uuid : List ℕ) (history : List DoorEntry) → Kept uuid history → IsFalse (forgotten uuid history) → MayBe (marker_name uuid) history None → IsTrue (knows_marked uuid history) → ⊥
unmarked_where_absent uuid history kept un may marks =
    let found = any_found (has_uuid uuid) (marked history) marks in
    kept.sure (Full found.0) (full_proven found.0 history found.1, sym (same_bytes uuid found.0.id.uuid found.2)) un may

pub may_be_absent : (name : List ℕ) (history : List DoorEntry) → (outcome : Option (List ℕ)) × MayBe name history outcome → OnlyAbsent name history → MayBe name history None
may_be_absent name history some none = subst (MayBe name history) (none some.0 some.1) some.1

-- a UUID is forgotten behind an entry that it wasn't before: the entry deletes its marker
pub forgotten_fate : (uuid : List ℕ) (history : List DoorEntry) (entry : DoorEntry) → IsTrue (forgotten uuid (history ++ entry ∷ [])) → IsTrue (forgotten uuid history) ⊎ IsTrue (tries_delete (marker_name uuid) entry.act)
forgotten_fate uuid history entry is = any_snoc (λ (e : DoorEntry). tries_delete (marker_name uuid) e.act) history entry is

pub still_unforgotten : (uuid : List ℕ) (history : List DoorEntry) (entry : DoorEntry) → IsFalse (tries_delete (marker_name uuid) entry.act) → IsFalse (forgotten uuid history) → IsFalse (forgotten uuid (history ++ entry ∷ []))
still_unforgotten uuid history entry other un =
    false_from_ne_true (forgotten uuid (history ++ entry ∷ [])) (λ is. elim (forgotten_fate uuid history entry is) [ inl was ↦ true≢false (sym was ∙ un) | inr now ↦ true≢false (sym now ∙ other) ])

quiet_delete : (name : List ℕ) (act : DoorAct) → IsFalse (is_write act) → IsFalse (tries_delete name act)
quiet_delete name (Call node inc (Delete deleted) answer) quiet = absurd (true≢false quiet)
quiet_delete name act quiet = refl

quiet_mark : (m : Marker) (act : DoorAct) → IsFalse (is_write act) → In m (markers_put act) → ⊥
quiet_mark m (Call node inc (Put name bytes) answer) quiet among = true≢false quiet
quiet_mark m act quiet among = among

module _ (uuid : List ℕ) (history : List DoorEntry) (entry : DoorEntry) (quiet : IsFalse (is_write entry.act)) where
  pub nothing_new : (name : List ℕ) (outcome : Option (List ℕ)) → NewAt name entry.act outcome → ⊥
  nothing_new name outcome new = from outcome (writing name entry.act outcome new)
    where
      from : (o : Option (List ℕ)) → Writing name entry.act o → ⊥
      from o (Puts node inc bytes answer is) = true≢false (sym (ap is_write is) ∙ quiet)
      from o (Deletes node inc answer is) = true≢false (sym (ap is_write is) ∙ quiet)

  pub quiet_unforgotten : IsFalse (forgotten uuid history) → IsFalse (forgotten uuid (history ++ entry ∷ []))
  quiet_unforgotten un = still_unforgotten uuid history entry (quiet_delete (marker_name uuid) entry.act quiet) un

  pub quiet_news : News uuid history entry
  quiet_news = record {
    record_reads = λ bytes new. absurd (nothing_new (record_name uuid) (Some bytes) new);
    recorded = λ bytes new c among. absurd (nothing_new (record_name uuid) (Some bytes) new);
    unrecorded = λ new. absurd (nothing_new (record_name uuid) None new);
    marker_reads = λ bytes new. absurd (nothing_new (marker_name uuid) (Some bytes) new);
    unmarked = λ new. absurd (nothing_new (marker_name uuid) None new);
    marking = λ m among of. absurd (quiet_mark m entry.act quiet among);
    forgetting = λ is. elim (forgotten_fate uuid history entry is) [ inl was ↦ inl was | inr now ↦ absurd (true≢false (sym now ∙ quiet_delete (marker_name uuid) entry.act quiet)) ];
    began = λ id completes of. (let found = any_found (λ key. deletes (version_name key completes.commit.id) entry.act) completes.commit.keys completes.now in
        absurd (nothing_new (version_name found.0 completes.commit.id) None (inl (deleted_effect (version_name found.0 completes.commit.id) entry.act found.2))));
    stays = λ c may key among outcome new. nothing_new (version_name key c.id) outcome new;
  }
