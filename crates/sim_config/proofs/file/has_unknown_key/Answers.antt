-- The map's keys are the members' keys.
use Rattle.std.proofs.Common.{◌∙◌, rules, tests, string_bytes}
use Rattle.std.specs.Prelude.{not}
use Rattle.std.specs.BTreeMap.{keys}
use Rattle.std.proofs.lemmas.Iterator.Consumers.{YieldsList-from_rest}
use Rattle.std.proofs.lemmas.Iterator.Search.{any_from_yields_List}
use Rattle.sim_config.specs.SettingsFile.{is_known}
use Rattle.sim_config.proofs.Settings.{has_unknown_key-view}
use Rattle.sim_config.proofs.file.has_unknown_key.Goals as goal

pub returns : goal.returns
returns c =
    any_from_yields_List (λ key. not (is_known (string_bytes key))) _ _ _ c.any.ensures.ran (YieldsList-from_rest (keys c.args.table.now) c.keys.ensures.rest) (λ x b q k. search (rules, tests))
    ∙ has_unknown_key-view c.args.table.now.entries
