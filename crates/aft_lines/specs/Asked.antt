-- What a run is asked to do, and what came of it.
use Rattle.std.specs.Prelude.{Bool, List, Option, nat_le, ℕ, ◌&&◌}
use Rattle.aft_model.specs.declared.mail.MailEntry.{MailEntry}
use Rattle.aft_model.specs.declared.script.Line.{Line}
use Rattle.aft_model.specs.declared.script.Order.{Order}
use Rattle.aft_model.specs.declared.script.Script.{Script}
use Rattle.aft_model.specs.declared.trace.Trace.{Trace}

-- the settings of a run: how many nodes, how many values a node's cache holds, how many messages a mailbox, and how many background rounds go beside the script
pub record Settings : Type 0 where
  pub nodes : ℕ
  pub cache : ℕ
  pub mailbox : ℕ
  pub rounds : ℕ

-- whether settings are within their limits
abbrev pub are_settings : Settings → Bool
are_settings settings =
    nat_le 1 settings.nodes && nat_le settings.nodes 8
    && nat_le 1 settings.cache && nat_le settings.cache 4096
    && nat_le 1 settings.mailbox && nat_le settings.mailbox 4096
    && nat_le settings.rounds 20

-- what a run is asked: a script; the order of its steps or, with threads, none; the lines that a session asks behind the script, one after the other; the settings; and the time of the clock, if it tells one
pub record Asked : Type 0 where
  pub script : Script
  pub order : Option Order
  pub asks : List Line
  pub settings : Settings
  pub clock : Option ℕ

-- what came of a run: the histories of the door, of the nodes and of the office, and that of box b at index b
pub record Ran : Type 0 where
  pub trace : Trace
  pub mail : List (List MailEntry)
