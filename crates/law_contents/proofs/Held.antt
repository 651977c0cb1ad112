-- Contents that go along with a history: they rise by name, and what stands under each name is something that it may hold.
use Rattle.std.proofs.Common.{◌≡◌, ℕ, Bool, true, false, List, [], ◌∷◌, ◌++◌, arith, refl, sym, ap, subst, ◌∙◌, inl, inr}
use Rattle.std.specs.Prelude.{Contains, IsTrue, Option, Some, None, if◌then◌else◌, is_none}
use Rattle.std.specs.Cmp.Lexicographic.{pointwise}
use Rattle.std.specs.Option.{option_eq}
use Rattle.std.specs.Str.{bytes_eq}
use Rattle.aft_keeper.proofs.Contents.{AllAbove, Contains-from_bytes_at, IsRising, IsRising-filter, IsRising-from_Ascends, IsRising-with_pair}
use Rattle.aft_keeper.proofs.Names.{bytes_eq-Greater}
use Rattle.aft_keeper.specs.Contents.{IsContents, bytes_at, page_of}
use Rattle.aft_keeper.specs.declared.keeper.Pair.{Pair}
use Rattle.aft_keeper.specs.declared.keeper.KeeperAnswer.{KeeperAnswer}
use Rattle.aft_keeper.specs.declared.keeper.KeeperAnswer.TheVariants.{Absent, Done, Failed, Found, Page}
use Rattle.aft_keeper.specs.declared.keeper.KeeperCall.TheVariants.{Delete, Get, Put, Scan}
use Rattle.aft_model.specs.declared.door.DoorAct.{DoorAct}
use Rattle.aft_model.specs.declared.door.DoorAct.TheVariants.{Call}
use Rattle.aft_model.specs.declared.door.DoorEntry.{DoorEntry}
use Rattle.aft_model.specs.Contents.{GoesAlong, held_after, if_shown, may_be_held, same_pair}
use Rattle.aft_model.specs.Honest.{may_be}
use Rattle.aft_model.specs.MayHold.{may_hold}
use Rattle.aft_model.specs.Opening.{opening}
use Rattle.aft_model.proofs.Followed.{from_one, in_from_Contains, joined}
use Rattle.aft_model.proofs.Histories.{In, in_append}
use Rattle.aft_model.proofs.Sights.{bytes_eq-refl}
use Rattle.aft_model.proofs.Told.{told_honest}
use Rattle.law_effects.specs.Effects.{Shows, effect_of, sight_effect}
use Rattle.law_effects.proofs.Follows.{honest_sight}
use Rattle.law_kept.specs.Outcomes.{MayBe}
use Rattle.law_kept.proofs.Fates.{Known, possible, under}

-- ---- in the order of names

tested : (t : Bool) (now held : List Pair) → In now (if_shown t held) → now ≡ held
tested true now held (inl is) = is
tested true now held (inr nowhere) = absurd nowhere
tested false now held nowhere = absurd nowhere

rising_after : (held now : List Pair) (act : DoorAct) → IsRising held → In now (held_after act held) → IsRising now
rising_after held now (Call node inc (Put other bytes) Done) up (inl is) = subst IsRising (sym is) (IsRising-with_pair other bytes held up)
rising_after held now (Call node inc (Put other bytes) Failed) up (inl is) = subst IsRising (sym is) (IsRising-with_pair other bytes held up)
rising_after held now (Call node inc (Put other bytes) Failed) up (inr (inl is)) = subst IsRising (sym is) up
rising_after held now (Call node inc (Delete other) Done) up (inl is) = subst IsRising (sym is) (IsRising-filter _ held up)
rising_after held now (Call node inc (Delete other) Failed) up (inl is) = subst IsRising (sym is) (IsRising-filter _ held up)
rising_after held now (Call node inc (Delete other) Failed) up (inr (inl is)) = subst IsRising (sym is) up
rising_after held now (Call node inc (Get other) Absent) up among = subst IsRising (sym (tested (is_none (bytes_at other held)) now held among)) up
rising_after held now (Call node inc (Get other) (Found bytes)) up among = subst IsRising (sym (tested (option_eq bytes_eq (bytes_at other held) (Some bytes)) now held among)) up
rising_after held now (Call node inc (Scan prefix from limit) (Page page)) up among = subst IsRising (sym (tested (pointwise same_pair (page_of prefix from limit held) page) now held among)) up
rising_after held now (Call node inc (Get other) Failed) up (inl is) = subst IsRising (sym is) up
rising_after held now (Call node inc (Scan prefix from limit) Failed) up (inl is) = subst IsRising (sym is) up
rising_after held now (Call node inc (Put other bytes) Done) up (inr nowhere) = absurd nowhere
rising_after held now (Call node inc (Put other bytes) Failed) up (inr (inr nowhere)) = absurd nowhere
rising_after held now (Call node inc (Delete other) Done) up (inr nowhere) = absurd nowhere
rising_after held now (Call node inc (Delete other) Failed) up (inr (inr nowhere)) = absurd nowhere
rising_after held now (Call node inc (Get other) Failed) up (inr nowhere) = absurd nowhere
rising_after held now (Call node inc (Scan prefix from limit) Failed) up (inr nowhere) = absurd nowhere
rising_after held now (Call node inc asked answer) up nowhere = absurd nowhere
rising_after held now act up (inl is) = subst IsRising (sym is) up
rising_after held now act up (inr nowhere) = absurd nowhere

rising_along : (held now : List Pair) (entries : List DoorEntry) → IsRising held → In now (may_be_held held entries) → IsRising now
rising_along held now [] up (inl is) = subst IsRising (sym is) up
rising_along held now [] up (inr nowhere) = absurd nowhere
rising_along held now (entry ∷ entries) up among =
    let rest = from_one entries now (held_after entry.act held ++ []) among in
    let first = elim (in_append rest.0 (held_after entry.act held) [] rest.1) as (λ _. In rest.0 (held_after entry.act held)) [ inl here ↦ here | inr nowhere ↦ absurd nowhere ] in
    rising_along rest.0 now entries (rising_after held rest.0 entry.act up first) rest.2

-- what stands in the list stands under its name
above_each : (low : List ℕ) (pairs : List Pair) (p : Pair) → AllAbove low pairs → In p pairs → bytes_eq p.name low ≡ false
above_each low [] p above among = absurd among
above_each low (q ∷ pairs) p above (inl here) = subst (λ (r : Pair). bytes_eq r.name low ≡ false) (sym here) (bytes_eq-Greater q.name low above.0)
above_each low (q ∷ pairs) p above (inr later) = above_each low pairs p above.1 later

pair_stands : (pairs : List Pair) (p : Pair) → IsRising pairs → In p pairs → bytes_at p.name pairs ≡ Some p.bytes
pair_stands [] p up among = absurd among
pair_stands (q ∷ pairs) p up (inl here) = subst (λ (r : Pair). bytes_at r.name (q ∷ pairs) ≡ Some r.bytes) (sym here) (ap (λ t. if t then Some q.bytes else bytes_at q.name pairs) (bytes_eq-refl q.name))
pair_stands (q ∷ pairs) p up (inr later) = ap (λ t. if t then Some q.bytes else bytes_at p.name pairs) (above_each q.name pairs p up.0 later) ∙ pair_stands pairs p up.1 later

-- ---- what stands under a name

same_text : (o : Option (List ℕ)) (bytes : List ℕ) → o ≡ Some bytes → option_eq bytes_eq o (Some bytes) ≡ true
same_text o bytes is = ap (λ p. option_eq bytes_eq p (Some bytes)) is ∙ bytes_eq-refl bytes

module _ (at_first now : List Pair) (history : List DoorEntry) (contents : IsContents at_first) (along : GoesAlong at_first history now) where
  pub rising : IsRising now
  rising = rising_along at_first now history (IsRising-from_Ascends at_first contents.0) (in_from_Contains now _ along)

  pub stands : (p : Pair) → In p now → bytes_at p.name now ≡ Some p.bytes
  stands p among = pair_stands now p rising among

  pub stands_in : (name bytes : List ℕ) → bytes_at name now ≡ Some bytes → In (under name bytes) now
  stands_in name bytes is = in_from_Contains (under name bytes) now (Contains-from_bytes_at name bytes now is)

  module _ (name : List ℕ) where
    -- a get of the name, were it asked now
    abbrev asked_now : KeeperAnswer → DoorEntry
    asked_now answer = record { by = opening; act = Call 0 1 (Get name) answer }

    also_then : (answer : KeeperAnswer) → held_after (asked_now answer).act now ≡ now ∷ [] → GoesAlong at_first (history ++ asked_now answer ∷ []) now
    also_then answer same = joined at_first now now history (asked_now answer ∷ []) along (subst (λ (l : List (List Pair)). Contains (l ++ []) now) (sym same) (0, omega arith, refl))

    honest_then : (answer : KeeperAnswer) (o : Option (List ℕ)) → held_after (asked_now answer).act now ≡ now ∷ [] → effect_of name (asked_now answer).act ≡ Shows o → IsTrue (may_be (may_hold name history) o)
    honest_then answer o same shows = honest_sight name o history [] (asked_now answer) (told_honest at_first (history ++ asked_now answer ∷ []) now contents (also_then answer same)) shows

    by_outcome : (o : Option (List ℕ)) → bytes_at name now ≡ o → IsTrue (may_be (may_hold name history) o)
    by_outcome (Some bytes) is =
        honest_then (Found bytes) (Some bytes) (ap (λ t. if_shown t now) (same_text (bytes_at name now) bytes is)) (ap (λ t. sight_effect (if t then Some (Some bytes) else None)) (bytes_eq-refl name))
    by_outcome None is = honest_then Absent None (ap (λ o. if_shown (is_none o) now) is) (ap (λ t. sight_effect (if t then Some None else None)) (bytes_eq-refl name))

    pub possible_now : IsTrue (may_be (may_hold name history) (bytes_at name now))
    possible_now = by_outcome (bytes_at name now) refl

    pub may_stand : Known name history → MayBe name history (bytes_at name now)
    may_stand known = possible (may_hold name history) known (bytes_at name now) possible_now
