-- Each reply is the same as itself.
use Rattle.std.proofs.Common.{ℕ, Bool, ◌&&◌, eqb, List, [], ◌∷◌, refl}
use Rattle.std.specs.Prelude.{IsTrue}
use Rattle.std.specs.Cmp.Lexicographic.{pointwise}
use Rattle.std.proofs.lemmas.Bool.{and_from, eq-eqb}
use Rattle.aft_id.specs.TxnId.{same_id}
use Rattle.aft_model.specs.declared.choice.Blocked.{Blocked}
use Rattle.aft_model.specs.declared.reply.Judged.{Judged}
use Rattle.aft_model.specs.declared.reply.Reply.{Reply}
use Rattle.aft_model.specs.declared.reply.Reply.TheVariants.{Announced, Begun, Busy, Collected, Committed, Copied, Crashed, Damaged, Dropped, Forgot, Forgotten, IsBooting, IsUp, Joined, Kept, Learned, Managed, Missing, NoValidVersion, NodeDown, NotUp, OpenReads, Orphans, Own, Started, Unknown, Value}
use Rattle.aft_model.specs.declared.reply.Verdict.{Verdict}
use Rattle.aft_model.specs.declared.reply.Verdict.TheVariants.{Fault, Held, Retired}
use Rattle.aft_model.specs.Replies.{same_blocked}
use Rattle.aft_model.proofs.Ids.{same_id-refl}
use Rattle.aft_model.proofs.Sights.{bytes_eq-refl}
use Rattle.aft_lines.specs.Causes.{same_but_holder, same_but_holders}

number : (n : ℕ) → IsTrue (eqb n n)
number n = eq-eqb n n refl

-- lists are the same one by one where each element is the same as itself
each_same : {A : Type 0} (same : A → A → Bool) → ((x : A) → IsTrue (same x x)) → (xs : List A) → IsTrue (pointwise same xs xs)
each_same same one [] = refl
each_same same one (x ∷ xs) = and_from _ _ (one x) (each_same same one xs)

blocked_same : (b : Blocked) → IsTrue (same_blocked b b)
blocked_same b = and_from _ _ (and_from _ _ (same_id-refl b.id) (bytes_eq-refl b.key)) (same_id-refl b.read)

verdict_same : (v : Verdict) → IsTrue (same_but_holder v v)
verdict_same Retired = refl
verdict_same (Held node inc) = refl
verdict_same Fault = refl

judged_same : (j : Judged) → IsTrue (same_id j.id j.id && same_but_holder j.verdict j.verdict)
judged_same j = and_from _ _ (same_id-refl j.id) (verdict_same j.verdict)

pub reply_same : (reply : Reply) → IsTrue (same_but_holders reply reply)
reply_same (Begun uuid) = bytes_eq-refl uuid
reply_same (Joined uuid) = bytes_eq-refl uuid
reply_same (Committed id) = same_id-refl id
reply_same (Busy node inc) = and_from _ _ (number node) (number inc)
reply_same (Own value) = bytes_eq-refl value
reply_same (Value id value) = and_from _ _ (same_id-refl id) (bytes_eq-refl value)
reply_same (NoValidVersion blocked) = each_same same_blocked blocked_same blocked
reply_same (Missing id) = same_id-refl id
reply_same (Damaged name) = bytes_eq-refl name
reply_same (NodeDown node inc) = and_from _ _ (number node) (number inc)
reply_same (OpenReads count) = number count
reply_same (Crashed node inc) = and_from _ _ (number node) (number inc)
reply_same (NotUp node) = number node
reply_same (Started node inc) = and_from _ _ (number node) (number inc)
reply_same (IsUp node inc) = and_from _ _ (number node) (number inc)
reply_same (IsBooting node inc) = and_from _ _ (number node) (number inc)
reply_same (Announced kept pruned dropped) = and_from _ _ (and_from _ _ (number kept) (number pruned)) (number dropped)
reply_same (Learned taken superseded known) = and_from _ _ (and_from _ _ (number taken) (number superseded)) (number known)
reply_same (Dropped count) = number count
reply_same (Managed heard missed) = and_from _ _ (number heard) (number missed)
reply_same (Collected judged) = each_same (λ (a : Judged) (b : Judged). same_id a.id b.id && same_but_holder a.verdict b.verdict) judged_same judged
reply_same (Forgot id) = same_id-refl id
reply_same (Kept id) = same_id-refl id
reply_same (Unknown uuid) = bytes_eq-refl uuid
reply_same (Forgotten uuid) = bytes_eq-refl uuid
reply_same (Orphans deleted kept held fault) = and_from _ _ (and_from _ _ (and_from _ _ (number deleted) (number kept)) (number held)) (number fault)
reply_same (Copied taken marked) = and_from _ _ (number taken) (number marked)
reply_same reply = refl
