use Rattle.std.proofs.Common.{◌≡◌, arith, Bool, true, false, ℕ, ◌-◌, ◌+◌, ◌≤◌, sym, subst, length, vec_capacity}
use Rattle.std.specs.Prelude.{if◌then◌else◌, Some}
use Rattle.aft_ledger.specs.Ledger.{LedgerView, shown}
use Rattle.aft_ledger.proofs.Fields.{does, entry_space, held}
use Rattle.aft_model.specs.Attempts.{is_running}
use Rattle.aft_model.specs.Replies.{is_silent}
use Rattle.aft_ledger.specs.Turns.{answer_of, picks}
use Rattle.aft_ledger.proofs.Acts.{doing}
use Rattle.aft_ledger.proofs.Gets.{selects, used_is}
use Rattle.aft_ledger.proofs.ledger.Ledger.add_select.Goals as goal

less : (t : Bool) (n room space : ℕ) → n + 1 + room ≤ space → n + 1 + (if t then room else room - 1) ≤ space
less true n room space fits = fits
less false n room space fits = omega (arith, fits)

pub invariant_of-self-2 : goal.invariant_of-self-2
invariant_of-self-2 c =
    let running = does c.self.inside c.args.self.now c.self.view_is is_running c.args.attempt c.requires.running in
    let d = doing is_running c.args.attempt c.self.inside.history.items running in
    let its = subst (λ (v : LedgerView). picks (shown v) c.args.attempt c.args.key ≡ Some c.args.picked) (sym c.self.view_is) c.requires.pick in
    rw (c.add.ensures.entry, c.add.ensures.front, c.add.ensures.room, c.in_ok-note.ensures.ok, c.use_again-key.ensures.key, c.use_again-key.ensures.cache, c.room_after-self-inside.ensures, c.requires.answer, used_is (held c.self.inside) c.self.invariant c.args.front c.args.by c.args.attempt (vec_capacity c.self.inside.history) c.args.key c.args.picked d.0 its)
    (selects (held c.self.inside) c.self.invariant c.args.front c.args.by c.args.attempt (vec_capacity c.self.inside.history) c.args.key c.args.picked running its (less (is_silent (answer_of c.args.picked)) (length c.self.inside.history.items) c.self.inside.room (vec_capacity c.self.inside.history) (entry_space c.self.inside c.args.self.now c.self.view_is c.requires.has_room)))
