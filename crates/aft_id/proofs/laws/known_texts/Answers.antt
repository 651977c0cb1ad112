use Rattle.std.proofs.Common.{refl}
use Rattle.std.specs.Fmt.{digits}
use Rattle.uuid.specs.Text.{by_index}
use Rattle.aft_id.proofs.laws.known_texts.Goals as goal

pub returns-clause-digits : goal.returns-clause-digits
unfolding by_index
returns-clause-digits c = refl

pub returns-clause-braced : goal.returns-clause-braced
unfolding by_index
returns-clause-braced c = refl

pub returns-clause-prefixed : goal.returns-clause-prefixed
unfolding by_index
returns-clause-prefixed c = refl

pub returns-clause-id : goal.returns-clause-id
unfolding by_index digits
returns-clause-id c = refl
