use Rattle.std.proofs.lemmas.Bool.{false_from_ne_true}
use Rattle.law_names.proofs.Tests.{uuid_is}
use Rattle.aft_model.specs.DoorKnowledge.{knows_marked}
use Rattle.law_whole.proofs.There.{unmarked_before, unmarked_whole}
use Rattle.law_whole.proofs.Unmarked.{unmarked_since}
use Rattle.law_whole.proofs.laws.unmarked_is_whole.Goals as goal

pub returns-clause-whole : goal.returns-clause-whole
returns-clause-whole c x history lawful opened is unmarked = unmarked_whole x history lawful opened is unmarked

pub returns-clause-absent : goal.returns-clause-absent
returns-clause-absent c uuid history entry is lawful opened un absent =
    false_from_ne_true (knows_marked uuid history) (λ marks. unmarked_before uuid (uuid_is uuid is) history entry opened lawful absent un marks)

pub returns-clause-since : goal.returns-clause-since
returns-clause-since c uuid history entry more is lawful opened absent un unretired = unmarked_since uuid (uuid_is uuid is) history entry more opened lawful absent un unretired
