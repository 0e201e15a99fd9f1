-- Settings of which none is refused are checked.
use Rattle.std.proofs.Common.{◌≡◌, rules, None}
use Rattle.toml.specs.View.{table_view}
use Rattle.sim_base.specs.Settings.{first_bad}
use Rattle.sim_config.specs.SettingsFile.{first_refused}
use Rattle.sim_config.proofs.Settings.{checked}
use Rattle.sim_config.proofs.file.config_of.Goals as goal

pub returns-clause-checked : goal.returns-clause-checked
returns-clause-checked c =
    let none : first_refused (table_view c.in_ok-table.table) (first_bad c.config_in-config.result) ≡ None = search rules in
    checked (table_view c.in_ok-table.table) c.config_in-config.result none
