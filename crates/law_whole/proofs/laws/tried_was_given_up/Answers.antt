use Rattle.law_names.proofs.Tests.{uuid_is}
use Rattle.law_whole.proofs.Marks.{tried_how, tried_superseded}
use Rattle.law_whole.proofs.laws.tried_was_given_up.Goals as goal

pub returns-clause-superseded : goal.returns-clause-superseded
returns-clause-superseded c x history is lawful opened tried = tried_superseded x history lawful (uuid_is x.id.uuid is) opened tried

pub returns-clause-put : goal.returns-clause-put
returns-clause-put c x history lawful tried = tried_how x history lawful tried
