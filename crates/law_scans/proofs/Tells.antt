-- What the pages of a history tell.
use Rattle.std.proofs.Common.{◌≡◌, ℕ, Bool, true, false, List, [], ◌∷◌, ◌++◌, refl, ap, subst, inl, inr}
use Rattle.std.specs.Prelude.{IsTrue, Option, Some, None}
use Rattle.std.specs.Str.{bytes_eq}
use Rattle.std.proofs.lemmas.Bool.{and_parts, or_cases, false≢true}
use Rattle.aft_keeper.specs.declared.keeper.Pair.{Pair}
use Rattle.aft_keeper.specs.declared.keeper.KeeperAnswer.TheVariants.{Page}
use Rattle.aft_keeper.specs.declared.keeper.KeeperCall.TheVariants.{Scan}
use Rattle.aft_keeper.specs.Contents.{bytes_at}
use Rattle.aft_model.specs.declared.caller.By.{By}
use Rattle.aft_model.specs.declared.door.DoorAct.TheVariants.{Call}
use Rattle.aft_model.specs.declared.door.DoorEntry.{DoorEntry}
use Rattle.aft_model.specs.Evidence.{covers, shown, shown_on_page}
use Rattle.aft_model.specs.Honest.{Honest, agrees, may_be}
use Rattle.aft_model.specs.MayHold.{MayHold, OneOf, may_hold}
use Rattle.aft_model.proofs.Histories.{each_after_split}
use Rattle.aft_model.proofs.Honesty.{honest_about}
use Rattle.aft_model.proofs.Sights.{same_bytes}

-- a page that covers a name shows of it what it lists, or nothing
covered_shown : (may : MayHold) (listed : Option (List ℕ)) (covered : Bool) → IsTrue covered → IsTrue (agrees may (shown_on_page listed covered)) → IsTrue (may_be may listed)
covered_shown may (Some bytes) covered is agreed = agreed
covered_shown may None true is agreed = agreed
covered_shown may None false is agreed = absurd (false≢true is)

-- of one possible outcome
one_bytes : (bytes : List ℕ) (listed : Option (List ℕ)) → IsTrue (may_be (OneOf (Some bytes ∷ [])) listed) → listed ≡ Some bytes
one_bytes bytes None may = absurd (false≢true may)
one_bytes bytes (Some found) may =
    elim (or_cases (bytes_eq found bytes) false may) [
      | inl same ↦ ap Some (same_bytes found bytes same)
      | inr none ↦ absurd (false≢true none)
    ]

one_absent : (listed : Option (List ℕ)) → IsTrue (may_be (OneOf (None ∷ [])) listed) → listed ≡ None
one_absent None may = refl
one_absent (Some found) may = absurd (false≢true may)

module _ (name prefix after : List ℕ) (node inc limit : ℕ) (by : By) (pairs : List Pair) (history more : List DoorEntry) where
  abbrev page : DoorEntry
  page = record { by = by; act = Call node inc (Scan prefix after limit) (Page pairs) }

  pub possible : Honest (history ++ page ∷ more) → IsTrue (covers prefix after limit pairs name) → IsTrue (may_be (may_hold name history) (bytes_at name pairs))
  possible honest covered =
      let each = each_after_split (λ before entry. agrees (may_hold name before) (shown name entry)) [] history (page ∷ more) (honest_about name (history ++ page ∷ more) honest) in
      let here = and_parts (agrees (may_hold name history) (shown name page)) _ each.1 in
      covered_shown (may_hold name history) (bytes_at name pairs) (covers prefix after limit pairs name) covered here.0

  pub there : (bytes : List ℕ) → Honest (history ++ page ∷ more) → IsTrue (covers prefix after limit pairs name) → may_hold name history ≡ OneOf (Some bytes ∷ []) → bytes_at name pairs ≡ Some bytes
  there bytes honest covered is = one_bytes bytes (bytes_at name pairs) (subst (λ may. IsTrue (may_be may (bytes_at name pairs))) is (possible honest covered))

  pub absent : Honest (history ++ page ∷ more) → IsTrue (covers prefix after limit pairs name) → may_hold name history ≡ OneOf (None ∷ []) → bytes_at name pairs ≡ None
  absent honest covered is = one_absent (bytes_at name pairs) (subst (λ may. IsTrue (may_be may (bytes_at name pairs))) is (possible honest covered))
