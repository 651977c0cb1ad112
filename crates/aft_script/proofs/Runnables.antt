-- One line more in a script that can be run.
use Rattle.std.proofs.Common.{List, [], arith, length, ℕ, ◌+◌, ◌++◌, ◌<◌, ◌≡◌, ◌≤◌, ◌∷◌}
use Rattle.std.specs.List.{AllByRecursion}
use Rattle.aft_model.specs.declared.script.Line.{Line}
use Rattle.aft_script.specs.Runnable.{AreReadTo, Ascend, IsLineFor}

all_and_last : (P : Line → Type 0) (lines : List Line) (line : Line) → AllByRecursion P lines → P line → AllByRecursion P (lines ++ line ∷ [])
all_and_last P [] line all last = (last, tt)
all_and_last P (other ∷ lines) line all last = (all.0, all_and_last P lines line all.1 last)

all_later : (n : ℕ) (lines : List Line) → AllByRecursion (λ line. line.number < n) lines → AllByRecursion (λ line. line.number < n + 1) lines
all_later n [] all = tt
all_later n (line ∷ lines) all = (omega (arith, all.0), all_later n lines all.1)

-- no line stands at the next number
pub read_past : (nodes n : ℕ) (lines : List Line) → AreReadTo nodes n lines → AreReadTo nodes (n + 1) lines
read_past nodes n lines read = record { runnable = read.runnable; below = all_later n lines read.below }

ascend_last : (least n : ℕ) (lines : List Line) (line : Line) → line.number ≡ n → least < n → AllByRecursion (λ other. other.number < n) lines → Ascend least lines → Ascend least (lines ++ line ∷ [])
ascend_last least n [] line is above below ascending = (omega (arith, above, is), tt)
ascend_last least n (other ∷ lines) line is above below ascending = (ascending.0, ascend_last other.number n lines line is below.0 below.1 ascending.1)

-- a line stands there
pub read_more : (nodes n : ℕ) (lines : List Line) (line : Line) → 1 ≤ n → line.number ≡ n → IsLineFor nodes line → AreReadTo nodes n lines → AreReadTo nodes (n + 1) (lines ++ line ∷ [])
read_more nodes n lines line some is fits read = record {
  runnable = record {
    each = all_and_last (IsLineFor nodes) lines line read.runnable.each fits;
    ascending = ascend_last 0 n lines line is (omega arith) read.below read.runnable.ascending;
  };
  below = all_and_last (λ other. other.number < n + 1) lines line (all_later n lines read.below) (omega (arith, is));
}

-- nothing was read
pub read_nothing : (nodes n : ℕ) → AreReadTo nodes n []
read_nothing nodes n = record { runnable = record { each = tt; ascending = tt }; below = tt }

-- lines whose numbers ascend to below another number are fewer
ascend_few : (least n : ℕ) (lines : List Line) → least < n → Ascend least lines → AllByRecursion (λ line. line.number < n) lines → length lines + least + 1 ≤ n
ascend_few least n [] above ascending below = omega arith
ascend_few least n (line ∷ lines) above ascending below = omega (arith, ascending.0, ascend_few line.number n lines below.0 ascending.1 below.1)

-- so many lines are fewer than the next number
pub read_few : (nodes n : ℕ) (lines : List Line) → 1 ≤ n → AreReadTo nodes n lines → length lines + 1 ≤ n
read_few nodes n lines some read = omega (arith, ascend_few 0 n lines (omega arith) read.runnable.ascending read.below)
