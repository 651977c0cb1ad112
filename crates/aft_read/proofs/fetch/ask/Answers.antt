use Rattle.aft_read.proofs.Asking.{fetches}
use Rattle.aft_read.proofs.fetch.ask.Goals as goal

pub returns-clause-fetches : goal.returns-clause-fetches
returns-clause-fetches g c = fetches c.args.by c.args.attempt c.args.key.now c.args.id.now c.words_fit.ensures.key c.words_fit.ensures.id _ c.requires.name c.args.door.now c.get-told.new.self c.law_legal.ensures.bytes c.get-told.result c.got_of.result c.get-told.ensures.refused c.get-told.ensures.shows c.got_of.ensures.tells
