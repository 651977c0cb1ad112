-- What a line has done so far.
use Rattle.std.specs.Prelude.{List, [], ◌++◌, ◌∷◌}
use Rattle.aft_model.specs.declared.door.DoorEntry.{DoorEntry}
use Rattle.aft_lines.specs.Turns.{Turn}

-- the turns of a line that made an entry, in order; and the door's history as it was when it last refused a call of the line
pub record Trail : Type 0 where
  pub turns : List Turn
  pub look : List DoorEntry

-- of a line that has done nothing yet
abbrev pub no_trail : Trail
no_trail = record { turns = []; look = [] }

-- with one turn more
abbrev pub behind : Trail → Turn → Trail
behind trail turn = record trail { turns = trail.turns ++ turn ∷ [] }

-- behind a call that made no entry
abbrev pub looking : Trail → List DoorEntry → Trail
looking trail history = record trail { look = history }
