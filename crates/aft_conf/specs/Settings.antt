-- The settings, and what a text of settings is read as.
use Rattle.std.specs.Prelude.{Err, List, None, Ok, Option, Result, Some, codes, if◌then◌else◌, nat_le, pos, ℕ, ◌&&◌, ◌≤◌}
use Rattle.std.specs.Str.{bytes_eq, is_utf8}
use Rattle.toml.specs.Data.{Data, Members, integer, member, no_members}
use Rattle.toml.specs.Parse.{parse_document}
use Rattle.aft_conf.specs.declared.conf.Conf.{Conf}
use Rattle.aft_conf.specs.declared.fault.ConfFault.{ConfFault}
use Rattle.aft_conf.specs.declared.fault.ConfFault.TheVariants.{BadKey, NotToml}

-- the settings where nothing is said
abbrev pub default_settings : Conf
default_settings = record { nodes = 2; cache = 256; mailbox = 256; rounds = 4 }

-- settings within their ranges
pub record AreSettings (conf : Conf) : Type 0 where
  pub some_node : 1 ≤ conf.nodes
  pub few_nodes : conf.nodes ≤ 8
  pub some_cache : 1 ≤ conf.cache
  pub small_cache : conf.cache ≤ 4096
  pub some_mailbox : 1 ≤ conf.mailbox
  pub small_mailbox : conf.mailbox ≤ 4096
  pub few_rounds : conf.rounds ≤ 20

-- the settings, if a number is within a range
abbrev pub if_within : ℕ → ℕ → ℕ → Conf → Option Conf
if_within least most n conf = if nat_le least n && nat_le n most then Some conf else None

-- settings with one of them set to a number: none where it has no such name or is out of its range
abbrev pub with_number : List ℕ → ℕ → Conf → Option Conf
with_number name n conf =
    if bytes_eq name (codes "nodes") then if_within 1 8 n (record conf { nodes = n }) else
    (if bytes_eq name (codes "cache") then if_within 1 4096 n (record conf { cache = n }) else
    (if bytes_eq name (codes "mailbox") then if_within 1 4096 n (record conf { mailbox = n }) else
    (if bytes_eq name (codes "rounds") then if_within 0 20 n (record conf { rounds = n }) else None)))

-- settings with one of them set to a value, which has to be an integer, and no negative one
abbrev pub with_setting : List ℕ → Data → Conf → Option Conf
with_setting name (integer (pos n)) conf = with_number name n conf
with_setting name _ conf = None

-- what is read next, if a key was no bad one
abbrev pub or_bad : List ℕ → Option Conf → (Conf → Result Conf ConfFault) → Result Conf ConfFault
or_bad name (Some conf) next = next conf
or_bad name None next = Err (BadKey name)

-- settings with the members of a table, which ascend by their keys' bytes, or the first bad key
abbrev pub with_members : Members → Conf → Result Conf ConfFault
with_members no_members conf = Ok conf
with_members (member name value rest) conf = or_bad name (with_setting name value conf) (λ next. with_members rest next)

-- the settings of a document: the defaults with its members
abbrev pub of_document : Option Members → Result Conf ConfFault
of_document (Some members) = with_members members default_settings
of_document None = Err NotToml

-- the settings that bytes are read as, or the first fault
abbrev pub conf_of : List ℕ → Result Conf ConfFault
conf_of bytes = if is_utf8 bytes then of_document (parse_document bytes) else Err NotToml
