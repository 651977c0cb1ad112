use Rattle.std.proofs.Common.{Some, None, sym, subst, ◌∙◌, ◌≡◌, ℕ, List}
use Rattle.std.specs.Prelude.{IfOk}
use Rattle.aft_keeper.specs.Contents.{bytes_at}
use Rattle.aft_model.specs.Readings.{records_in}
use Rattle.aft_audit.specs.Pairs.{as_list, pair_of}
use Rattle.aft_audit.proofs.Among.{recorded_if, unrecorded}
use Rattle.aft_audit.proofs.pairs.record_of.Goals as goal

pub returns-in-Some : goal.returns-in-Some
returns-in-Some c =
    recorded_if c.args.uuid c.in-Some.bytes.now c.args.pairs.now c.record_in.result c.uuid_bytes.ensures.bytes c.requires
    (subst (λ (n : List ℕ). bytes_at n c.args.pairs.now ≡ Some c.in-Some.bytes.now) (c.as_str.ensures ∙ c.in_ok-name.ensures) (sym c.in-Some.ensures))
    (subst (λ (n : List ℕ). IfOk c.record_in.result (λ found. as_list found ≡ records_in (pair_of n c.in-Some.bytes.now))) (c.as_str-in-Some.ensures ∙ c.in_ok-name.ensures)
    (subst (λ (b : List ℕ). IfOk c.record_in.result (λ found. as_list found ≡ records_in (pair_of c.as_str-in-Some.result.now b))) c.as_slice.ensures c.record_in.ensures.read))
    c.record_in.ensures.limits

pub returns : goal.returns
returns c = unrecorded c.args.uuid c.args.pairs.now c.requires (subst (λ (n : List ℕ). bytes_at n c.args.pairs.now ≡ None) (c.as_str.ensures ∙ c.in_ok-name.ensures) (sym c.in-None.ensures))
