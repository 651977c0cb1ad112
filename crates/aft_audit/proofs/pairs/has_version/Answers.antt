use Rattle.std.proofs.Common.{Some, None, sym, subst, ◌≡◌, ℕ, List}
use Rattle.std.specs.Prelude.{IfOk}
use Rattle.aft_keeper.specs.Contents.{bytes_at}
use Rattle.aft_model.specs.Readings.{is_version_at}
use Rattle.aft_audit.specs.Pairs.{pair_of}
use Rattle.aft_audit.proofs.Among.{version_if, version_is}
use Rattle.aft_audit.proofs.pairs.has_version.Goals as goal

pub returns-in-Some : goal.returns-in-Some
returns-in-Some c =
    version_if c.args.key.now c.args.id.now c.in-Some.bytes.now c.args.pairs.now c.is_version.result c.requires.order
    (subst (λ (n : List ℕ). bytes_at n c.args.pairs.now ≡ Some c.in-Some.bytes.now) c.requires.name (sym c.in-Some.ensures))
    (subst (λ (n : List ℕ). IfOk c.is_version.result (λ is. is ≡ is_version_at c.args.key.now c.args.id.now (pair_of n c.in-Some.bytes.now))) c.requires.name
    (subst (λ (b : List ℕ). IfOk c.is_version.result (λ is. is ≡ is_version_at c.args.key.now c.args.id.now (pair_of c.args.name.now b))) c.as_slice.ensures c.is_version.ensures))

pub returns-in-None : goal.returns-in-None
returns-in-None c = sym (version_is c.args.key.now c.args.id.now c.args.pairs.now None c.requires.order (subst (λ (n : List ℕ). bytes_at n c.args.pairs.now ≡ None) c.requires.name (sym c.in-None.ensures)))
