use Rattle.std.proofs.Common.{◌≡◌, ℕ, List, [], ◌∷◌, length, refl, sym, ap, ◌∙◌}
use Rattle.std.specs.Prelude.{IsTrue, Some, if◌then◌else◌}
use Rattle.std.proofs.lemmas.Bool.{and_from, eq-eqb}
use Rattle.aft_id.specs.declared.txn_id.TxnId.{TxnId}
use Rattle.aft_records.specs.Commits.{ids_of}
use Rattle.aft_records.proofs.CommitOrder.{same_id-refl}
use Rattle.aft_records.specs.declared.stored.Commit.{Commit}
use Rattle.aft_model.specs.declared.reply.Reply.TheVariants.{Managed}
use Rattle.aft_model.specs.Office.{are_among, may_post}
use Rattle.aft_mail.proofs.tests.posts_missed.Goals as goal

among_themselves : (ids : List TxnId) → IsTrue (are_among ids ids)
among_themselves [] = refl
among_themselves (id ∷ ids) = ap (λ t. are_among (if t then ids else id ∷ ids) ids) (same_id-refl id) ∙ among_themselves ids

all_posted : (missed : List Commit) (n : ℕ) → n ≡ length missed → IsTrue (may_post (Some (record { heard = []; missed = missed })) (ids_of missed) (Some (Managed 0 n)))
all_posted missed n is = and_from _ _ (among_themselves (ids_of missed)) (eq-eqb (length missed) n (sym is))

pub posted-requires-clause-may : goal.posted-requires-clause-may
posted-requires-clause-may c =
    rw (c.in_ok-missed.ensures.ok, c.requires.new, c.from_vec.ensures, c.new.ensures.items, c.as_slice.ensures) (all_posted c.in_ok-missed.missed (length c.in_ok-missed.missed) refl)
