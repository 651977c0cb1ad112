use Rattle.law_cut.proofs.Stands.{leaves, stands_of}
use Rattle.std.proofs.Common.{◌∙◌}
use Rattle.law_cut.proofs.laws.unmarked_stands.Goals as goal

pub returns-clause-record : goal.returns-clause-record
returns-clause-record x c bytes at_first held now start more contents along rest lawful opened served unretired there reads none =
    (leaves c at_first contents start more held now along rest opened lawful served unretired (stands_of c held bytes there reads none)).record_same ∙ there

pub returns-clause-marker : goal.returns-clause-marker
returns-clause-marker x c bytes at_first held now start more contents along rest lawful opened served unretired there reads none =
    (leaves c at_first contents start more held now along rest opened lawful served unretired (stands_of c held bytes there reads none)).marker_same ∙ none

pub returns-clause-versions : goal.returns-clause-versions
returns-clause-versions x c bytes key at_first held now start more contents along rest lawful opened served unretired there reads none within =
    (leaves c at_first contents start more held now along rest opened lawful served unretired (stands_of c held bytes there reads none)).version_same key within
