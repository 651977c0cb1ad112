use Rattle.law_names.proofs.Differ.{key_prefix}
use Rattle.law_names.proofs.laws.names_have_prefixes.Goals as goal

pub returns-clause-version_of_key : goal.returns-clause-version_of_key
returns-clause-version_of_key c key id = key_prefix key id
