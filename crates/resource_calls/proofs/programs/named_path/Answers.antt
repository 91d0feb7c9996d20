use Rattle.std.proofs.Common.{option_map, string_bytes, sym, ap, ◌∙◌}
use Rattle.arguments.specs.declared.rule.Rule.TheVariants as rules
use Rattle.support.specs.paths.Paths.{tree_path}
use Rattle.world.specs.Settings.{SettingsData}
use Rattle.world.proofs.Answering.{carries_none, carries_read}
use Rattle.world.proofs.Ruling.{ruled_broken, ruled_found}
use Rattle.world.proofs.Values.{two}
use Rattle.resource_calls.specs.Programs.{named_path}
use Rattle.resource_calls.proofs.programs.named_path.Goals as goal

pub returns-in_err-path : goal.returns-in_err-path
returns-in_err-path g c = carries_none c.from_residual.ensures.1

pub returns-in-Some : goal.returns-in-Some
unfolding named_path
returns-in-Some g c =
    let root = c.source_root-source_root.ensures.value ∙ ap (λ (s : SettingsData). s.source_root) c.settings.ensures in
    carries_read (ruled_found {view = string_bytes} _ rules.NamesFile c.args.name.now
    (ap (option_map string_bytes) (sym c.in-Some.is) ∙ c.in_ok-path.ensures ∙ two (λ r f. tree_path r f c.args.name.now) root c.folder.ensures))

pub returns-in-None : goal.returns-in-None
unfolding named_path
returns-in-None g c =
    let root = c.source_root-source_root.ensures.value ∙ ap (λ (s : SettingsData). s.source_root) c.settings.ensures in
    carries_read (ruled_broken {view = string_bytes} _ rules.NamesFile c.args.name.now
    (ap (option_map string_bytes) (sym c.in-None.is) ∙ c.in_ok-path.ensures ∙ two (λ r f. tree_path r f c.args.name.now) root c.folder.ensures)
    c.refuse_by.ensures)
