-- Behind an opening all clients sit, and behind the last line the trace is legal.
use Rattle.std.proofs.Common.{arith, ◌≡◌, ℕ, ◌+◌, ◌<◌, Bool, true, false, List, [], ◌∷◌, ◌++◌, length, slice_get, refl, sym, ap, subst, ◌∙◌, inl, inr, zero, suc, append-nil}
use Rattle.std.specs.Prelude.{IsTrue, None, Option, Some, if◌then◌else◌, nat_le, ◌&&◌}
use Rattle.std.specs.List.{list_all}
use Rattle.std.proofs.lemmas.Bool.{and_from, and_parts}
use Rattle.aft_model.proofs.Histories.{In, all_at}
use Rattle.aft_model.specs.declared.caller.Attempt.{Attempt}
use Rattle.aft_model.specs.declared.script.Line.{Line}
use Rattle.aft_model.specs.declared.script.Order.{Order}
use Rattle.aft_model.specs.declared.script.Step.{Step}
use Rattle.aft_lines.specs.Asked.{Asked, Ran, Settings, are_settings}
use Rattle.aft_lines.specs.LegalTrace.{LegalTrace, fits_settings}
use Rattle.aft_lines.specs.Lines.{background_lines, by_words, lines as run_lines, order_by}
use Rattle.aft_lines.specs.Opened.{Opened}
use Rattle.aft_step.proofs.Crowding.{index_of}
use Rattle.aft_step.specs.Asking.{HasRoom}
use Rattle.aft_step.specs.Crowding.{AreFirst, ComesTo, IsWordOf, SitsAt}
use Rattle.aft_step.specs.declared.client.Client.{Client}
use Rattle.aft_step.specs.Going.{IsAsked}
use Rattle.aft_step.specs.Sitting.{Sits}
use Rattle.aft_step.specs.Worlds.{WorldView, ran_of}
use Rattle.law_accounts.proofs.Ends.{account_ends}
use Rattle.law_accounts.specs.Account.{IsDone, Waits}
use Rattle.law_clients.proofs.Sits.{crowd_sits}
use Rattle.law_clients.proofs.Words.{words_first}
use Rattle.law_clients.specs.Clients.{first_seat}
use Rattle.law_clients.specs.Words.{WordsLeft}

-- the lines of a run on one thread are the script's
only_script : (asked : Asked) → asked.asks ≡ [] → (order : Order) → asked.order ≡ Some order → run_lines asked ≡ asked.script.lines
only_script asked none order ordered =
    ap (λ (o : Option Order). asked.script.lines ++ asked.asks ++ background_lines o asked.settings) ordered
    ∙ ap (λ (l : List Line). asked.script.lines ++ l ++ []) none ∙ append-nil (asked.script.lines ++ []) ∙ append-nil asked.script.lines

-- where a run's lines run whole, each word of its order does so
pub words_whole : (asked : Asked) (order : Order) → asked.order ≡ Some order → (words : List Step) → order.words ≡ words → (i : ℕ) (word : Step) → slice_get words i ≡ Some word → IsWordOf asked word
words_whole asked order ordered words same i word at lines is = whole_at order.words (subst (λ (l : List Step). slice_get l i ≡ Some word) (sym same) at) (by_whole (list_all (λ (w : Step). w.whole) order.words) refl (subst (λ (o : Option Order). order_by asked o ≡ Some lines) ordered is))
  where
    by_whole : (all : Bool) → list_all (λ (w : Step). w.whole) order.words ≡ all → (if all then Some (by_words order.words asked.script.lines ++ asked.asks) else None) ≡ Some lines → IsTrue (list_all (λ (w : Step). w.whole) order.words)
    by_whole true e is = e
    by_whole false e is = absurd cc

    in_words : (ws : List Step) (i : ℕ) → slice_get ws i ≡ Some word → In word ws
    in_words [] i is = absurd cc
    in_words (w ∷ ws) zero is = inl (one w word is)
      where
        one : (a b : Step) → Some a ≡ Some b → b ≡ a
        one a b e = cc
    in_words (w ∷ ws) (suc i) is = inr (in_words ws i is)

    whole_at : (ws : List Step) → slice_get ws i ≡ Some word → IsTrue (list_all (λ (w : Step). w.whole) ws) → IsTrue word.whole
    whole_at ws at all = all_at (λ (w : Step). w.whole) word ws (in_words ws i at) all

-- settings have a node at least
some_node : (settings : Settings) (ran : Ran) → IsTrue (fits_settings settings ran) → IsTrue (nat_le 1 settings.nodes)
some_node settings ran fits = (and_parts (nat_le 1 settings.nodes) _ (and_parts _ _ (and_parts _ _ (and_parts _ _ (and_parts _ _ (and_parts _ _ (and_parts (are_settings settings) _ (and_parts _ _ fits).0).0).0).0).0).0).0).0

pub begins_so : (asked : Asked) (order : Order) (words : List Step) (world : WorldView) (clients : List Client) → IsAsked asked → asked.order ≡ Some order → order.words ≡ words → Opened asked (ran_of world) → HasRoom asked world → AreFirst clients → ComesTo asked words 0 world clients
begins_so asked order words world clients asks ordered same opened room first = record {
  stand = λ line. Waits;
  seats = first_seat;
  sit = record {
    asks = asks;
    crowd = crowd_sits asked (ran_of world) asks.script order asks.asks ordered opened;
    fit = room;
    many = first.0;
    each = λ i client at. subst (λ (c : Client). SitsAt asked (λ line. Waits) first_seat i c) (sym (first.1 i client at)) (record { number = refl; sits = sits i; within = omega arith });
  };
  left = subst (λ (ws : List Step). WordsLeft asked (λ line. Waits) ws) same (words_first asked order asks.asks ordered);
  none_runs = λ lines is i client at. ap (λ (c : Client). c.running) (first.1 i client at);
  over = λ i line at low. absurd (never i low);
}
  where
    never : (i : ℕ) → i < 0 → ⊥
    never i low = omega arith

    one_node : IsTrue (nat_le 1 1 && nat_le 1 asked.settings.nodes)
    one_node = and_from _ _ refl (some_node asked.settings (ran_of world) opened.settings)

    no_attempt : (a : Attempt) → None ≡ Some a → ⊥
    no_attempt a held = cc

    sits : (i : ℕ) → Sits asked (λ line. Waits) first_seat (record { number = i + 1; hold = record { node = 1; attempt = None }; at = 0; running = None })
    sits i = record { placed = one_node; own = λ a held. absurd (no_attempt a held); behind = λ k line there its low. absurd (never k low); stands = (refl, λ k line there its up. refl) }

pub ends_so : (asked : Asked) (order : Order) (lines : List Line) (world : WorldView) (clients : List Client) → asked.order ≡ Some order → asked.script.lines ≡ lines → ComesTo asked [] (length lines) world clients → LegalTrace asked (ran_of world)
ends_so asked order lines world clients ordered is come = account_ends asked (ran_of world) come.stand come.sit.crowd.account each
  where
    each : (line : Line) → In line (run_lines asked) → come.stand line ≡ IsDone
    each line among =
        let at = index_of asked.script.lines line (subst (λ (l : List Line). In line l) (only_script asked come.sit.asks.asks order ordered) among) in
        come.over at.0 line at.2 (subst (λ (l : List Line). at.0 < length l) is at.1)
