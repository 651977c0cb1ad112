use Rattle.std.proofs.Common.{◌≡◌}
use Rattle.toml.specs.View.{members_view, table_view}
use Rattle.aft_conf.specs.Settings.{AreSettings, default_settings, with_members}
use Rattle.aft_conf.proofs.reading.settings_of.Given as goal

-- the members that are left make the same of the settings so far as all do of the defaults
abbrev pub invariant-members : goal.invariant-members
invariant-members l = record {
  can_next : (goal.iterator-members).can_next l.name-iterator;
  finite : (goal.iterator-members).is_finite l.name-iterator;
  within : AreSettings l.conf;
  same : with_members (members_view l.name-iterator) l.conf ≡ with_members (table_view l.table) default_settings;
}
