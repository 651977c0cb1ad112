-- What the values of the program say of texts, as lists of bytes.
use Rattle.std.specs.Prelude.{List, [], Option, option_map, ℕ, ◌∷◌}
use Rattle.std.specs.Borrow.{Bor}
use Rattle.aft_words.specs.Asked as asked
use Rattle.aft_words.specs.Reading.{Gathered}
use Rattle.aft_words.specs.declared.given.Given.{Given}
use Rattle.aft_words.specs.declared.given.Names.{Names}
use Rattle.aft_words.specs.declared.given.Names.TheVariants as names
use Rattle.aft_words.specs.declared.invocation.Invocation.{Invocation}
use Rattle.aft_words.specs.declared.invocation.Invocation.TheVariants as words
use Rattle.aft_words.specs.declared.invocation.Setup.{Setup}

-- a text, if there is one
abbrev pub text_of : Option (Bor (List ℕ)) → Option (List ℕ)
text_of text = option_map (λ t. t.now) text

-- what a run stands on
abbrev pub setup_said : Setup → asked.Setup
setup_said setup = record { conf = text_of setup.conf; store = text_of setup.store; time = setup.time }

-- what an invocation asks for
abbrev pub said : Invocation → asked.Asked
said (words.Run script setup trace) = asked.Run script.now (setup_said setup) trace
said (words.Step script order setup trace) = asked.Step script.now order.now (setup_said setup) trace
said (words.Make count first) = asked.Make count first
said (words.Upgrade store time) = asked.Upgrade (text_of store) time
said (words.Session script order ask setup) = asked.Session script.now order.now ask.now (setup_said setup)
said (words.Backup script order setup) = asked.Backup script.now order.now (setup_said setup)
said (words.Restore copy store) = asked.Restore copy.now (text_of store)
said (words.Check trace) = asked.Check trace.now

-- the names, in their order
abbrev pub names_said : Names → List (List ℕ)
names_said names.Empty = []
names_said (names.One first) = first.now ∷ []
names_said (names.Two first second) = first.now ∷ second.now ∷ []
names_said (names.Three first second third) = first.now ∷ second.now ∷ third.now ∷ []

-- the names and the options
abbrev pub given_said : Given → Gathered
given_said given = record {
  names = names_said given.names;
  conf = text_of given.conf;
  store = text_of given.store;
  time = given.time;
  trace = given.trace;
}
