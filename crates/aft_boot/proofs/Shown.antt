-- What the pairs of a page show, one by one.
use Rattle.std.proofs.Common.{◌≡◌, ◌+◌, ◌<◌, ℕ, zero, suc, Bool, false, ◌||◌, not, List, [], ◌∷◌, ◌++◌, length, get_or, take, sym, ap, subst, ◌∙◌, append-nil, append_assoc, arith}
use Rattle.std.specs.Prelude.{IsFalse, IsTrue, None, Some, filter, if◌then◌else◌, map}
use Rattle.std.specs.List.{list_all}
use Rattle.std.proofs.lemmas.Bool.{and_from, and_parts}
use Rattle.std.proofs.lemmas.List.{take_more}
use Rattle.std.proofs.lemmas.List.Concat.{flat_map-append}
use Rattle.std.proofs.lemmas.List.Folds.{list_all_more}
use Rattle.aft_keeper.specs.declared.keeper.Pair.{Pair}
use Rattle.aft_records.specs.declared.stored.Commit.{Commit}
use Rattle.aft_model.specs.declared.reply.Reply.{Reply}
use Rattle.aft_model.specs.declared.reply.Reply.TheVariants as replies
use Rattle.aft_model.specs.History.{first_of}
use Rattle.aft_model.specs.Readings.{has_reading, records_in}
use Rattle.aft_model.specs.Sound.{recorded}
use Rattle.aft_lines.specs.CausesScans.{is_damage}
use Rattle.aft_boot.specs.Pages.{IsDamage, IsNotRead, damage}
use Rattle.aft_boot.proofs.Pairs.{read}

-- ---- the first pair without a reading

first_damage : (pairs : List Pair) (i : ℕ) (p : Pair) → i < length pairs → p ≡ get_or pairs i p → IsTrue (list_all has_reading (take i pairs)) → IsFalse (has_reading p) → first_of (damage pairs) ≡ Some p.name
first_damage [] i p within at readable none = absurd (omega arith)
first_damage (q ∷ pairs) zero p within at readable none =
    ap (λ (t : Bool). first_of (map (λ (x : Pair). x.name) (if not t || false then q ∷ filter (is_damage None) pairs else filter (is_damage None) pairs))) (subst (λ (x : Pair). has_reading x ≡ false) at none)
    ∙ ap (λ (x : Pair). Some x.name) (sym at)
first_damage (q ∷ pairs) (suc i) p within at readable none =
    let parts = and_parts (has_reading q) (list_all has_reading (take i pairs)) readable in
    ap (λ (t : Bool). first_of (map (λ (x : Pair). x.name) (if not t || false then q ∷ filter (is_damage None) pairs else filter (is_damage None) pairs))) parts.0
    ∙ first_damage pairs i p (omega arith) at parts.1 none

pub not_read : (pairs : List Pair) (i : ℕ) (p : Pair) (reply : Reply) → i < length pairs → p ≡ get_or pairs i p → IsTrue (list_all has_reading (take i pairs)) → IsDamage p reply → IsNotRead pairs reply
not_read pairs i p (replies.Damaged written) within at readable (none, is) = (p.name, first_damage pairs i p within at readable none, is)
not_read pairs i p replies.NoMemory within at readable damaged = tt
not_read pairs i p reply within at readable damaged = absurd damaged

-- ---- one pair more

pub read_step : (before now new : List Commit) (pairs : List Pair) (i : ℕ) (p : Pair) (c : Commit) → i < length pairs → p ≡ get_or pairs i p → records_in p ≡ c ∷ [] → (now ≡ before ++ recorded (take i pairs)) × IsTrue (list_all has_reading (take i pairs)) → new ≡ now ++ c ∷ []
    → (new ≡ before ++ recorded (take (i + 1) pairs)) × IsTrue (list_all has_reading (take (i + 1) pairs))
read_step before now new pairs i p c within at one so_far added = (
  added ∙ (ap (λ (cs : List Commit). cs ++ c ∷ []) so_far.0 ∙ (append_assoc before (recorded (take i pairs)) (c ∷ []) ∙ ap (λ (cs : List Commit). before ++ cs) (sym more))),
  list_all_more has_reading pairs i p within ∙ and_from _ _ so_far.1 (subst (λ (x : Pair). IsTrue (has_reading x)) at (read p c one)),
)
  where
    more : recorded (take (i + 1) pairs) ≡ recorded (take i pairs) ++ c ∷ []
    more =
        ap recorded (take_more pairs i p within)
        ∙ (flat_map-append records_in (take i pairs) (get_or pairs i p ∷ [])
        ∙ ap (λ (cs : List Commit). recorded (take i pairs) ++ cs) (append-nil (records_in (get_or pairs i p)) ∙ (ap records_in (sym at) ∙ one)))
