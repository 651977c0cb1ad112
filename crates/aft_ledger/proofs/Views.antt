-- What is shown after an entry.
use Rattle.std.proofs.Common.{◌≡◌, ℕ, ◌-◌, not, List, [], ◌∷◌, ◌++◌, ap, ◌∙◌, max}
use Rattle.std.specs.Prelude.{Option, filter, if◌then◌else◌}
use Rattle.aft_records.specs.declared.stored.Commit.{Commit}
use Rattle.aft_records.specs.Superseded.{is_superseded}
use Rattle.aft_model.specs.declared.caller.By.{By}
use Rattle.aft_model.specs.declared.node.NodeAct.{NodeAct}
use Rattle.aft_model.specs.declared.node.NodeEntry.{NodeEntry}
use Rattle.aft_model.specs.declared.reply.Reply.{Reply}
use Rattle.aft_model.specs.Known.{known}
use Rattle.aft_model.specs.Replies.{is_silent}
use Rattle.aft_ledger.specs.Knowing.{kept_apart, pruned_away}
use Rattle.aft_ledger.specs.Ledger.{Held, IsLedger}
use Rattle.aft_ledger.specs.View.{NodeView, after_entry}

-- a view, by its parts
abbrev pub view : ℕ → ℕ → List NodeEntry → ℕ → ℕ → NodeView
view number capacity history front room = record { number = number; capacity = capacity; history = history; front = front; room = room }

abbrev pub entry : ℕ → By → NodeAct → Option Reply → NodeEntry
entry front by act answer = record { front = front; by = by; act = act; answer = answer }

pub view_after : (old : NodeView) (handed : ℕ) (by : By) (history : List NodeEntry) (front room : ℕ) (act act' : NodeAct) (answer answer' : Option Reply)
    → front ≡ max old.front handed → history ≡ old.history ++ record { front = max old.front handed; by = by; act = act; answer = answer } ∷ [] → act ≡ act' → answer ≡ answer' → room ≡ (if is_silent answer' then old.room else old.room - 1)
    → view old.number old.capacity history front room ≡ after_entry handed by act' answer' old
view_after old handed by history front room act act' answer answer' front_is history_is act_is answer_is room_is =
    ap (λ f. view old.number old.capacity history f room) front_is
    ∙ (ap (λ (h : List NodeEntry). view old.number old.capacity h (max old.front handed) room) history_is
    ∙ (ap (λ (a : NodeAct). view old.number old.capacity (old.history ++ entry (max old.front handed) by a answer ∷ []) (max old.front handed) room) act_is
    ∙ (ap (λ (r : Option Reply). view old.number old.capacity (old.history ++ entry (max old.front handed) by act' r ∷ []) (max old.front handed) room) answer_is
    ∙ ap (λ n. view old.number old.capacity (old.history ++ entry (max old.front handed) by act' answer' ∷ []) (max old.front handed) n) room_is)))

-- what is announced
module _ (h : Held) (l : IsLedger h) where
  pub kept_is : filter (λ c. not (is_superseded c h.commits)) h.fresh ≡ kept_apart h.history
  kept_is = ap (λ (k : List Commit). filter (λ c. not (is_superseded c k)) h.fresh) l.knows ∙ ap (filter (λ c. not (is_superseded c (known h.history)))) l.told

  pub pruned_is : filter (λ c. is_superseded c h.commits) h.fresh ≡ pruned_away h.history
  pruned_is = ap (λ (k : List Commit). filter (λ c. is_superseded c k) h.fresh) l.knows ∙ ap (filter (λ c. is_superseded c (known h.history))) l.told
