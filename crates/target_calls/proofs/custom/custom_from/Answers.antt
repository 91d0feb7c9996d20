use Rattle.std.proofs.Common.{◌≡◌, Ok, Err, flat_map, map, ap, sym, subst, ◌∙◌}
use Rattle.arguments.specs.Arguments.{arguments_data}
use Rattle.arguments.specs.Said.{◌>>=◌}
use Rattle.arguments.specs.Stops.{Says}
use Rattle.build.specs.Sources.{source_paths}
use Rattle.build.specs.View.{custom_view, source_view}
use Rattle.build.specs.edge.Texts.{texts}
use Rattle.target_calls.specs.CommandsView.{part_view}
use Rattle.target_calls.specs.CustomNames.{NamesData, place_of}
use Rattle.target_calls.specs.CustomTargets.{custom_target, names_from, whole_command}
use Rattle.target_calls.specs.CustomTargetsView.{names_view}
use Rattle.target_calls.specs.LongCommands.{short_makers}
use Rattle.target_calls.proofs.Stopping.{says_stop}
use Rattle.world.specs.Prelude.{here_view}
use Rattle.target_calls.proofs.custom.custom_from.Goals as goal

pub returns-in_err-names : goal.returns-in_err-names
returns-in_err-names c =
    let here = here_view c.args.here.now in
    let a = arguments_data c.args.arguments.now in
    let inputs = map source_view c.args.inputs.items in
    let paths = flat_map (source_paths here.depth) inputs in
    let listed : texts c.deref-3.result.now ≡ paths =
    ap texts c.deref-3.ensures.value ∙ c.in_ok-paths.ensures ∙ ap (λ ss. flat_map (source_paths here.depth) (map source_view ss)) c.deref.ensures.value in
    let stopped = subst (λ ps. Says names_view (names_from here a ps) (Err c.in_err-names.field-0.0)) listed c.in_err-names.ensures in
    says_stop names_view custom_view (names_from here a paths)
    (λ names. whole_command short_makers here a (place_of here paths names) >>= (λ command. Ok (custom_target here a names inputs command)))
    c.in_err-names.field-0.0 c.from_residual-in_err-names.result c.from_residual-in_err-names.ensures.1 stopped

pub returns-in_err-command : goal.returns-in_err-command
returns-in_err-command c =
    let here = here_view c.args.here.now in
    let a = arguments_data c.args.arguments.now in
    let inputs = map source_view c.args.inputs.items in
    let paths = flat_map (source_paths here.depth) inputs in
    let names = names_view c.in_ok-names.names in
    let listed : texts c.deref-3.result.now ≡ paths =
    ap texts c.deref-3.ensures.value ∙ c.in_ok-paths.ensures ∙ ap (λ ss. flat_map (source_paths here.depth) (map source_view ss)) c.deref.ensures.value in
    let listed_again : texts c.deref-5.result.now ≡ paths =
    ap texts c.deref-5.ensures.value ∙ c.in_ok-paths.ensures ∙ ap (λ ss. flat_map (source_paths here.depth) (map source_view ss)) c.deref.ensures.value in
    let named : names_from here a paths ≡ Ok names = subst (λ ps. names_from here a ps ≡ Ok names) listed c.in_ok-names.ensures in
    let stopped = subst (λ ps. Says part_view (whole_command short_makers here a (place_of here ps names)) (Err c.in_err-command.field-0.0)) listed_again c.in_err-command.ensures in
    let steps = λ (n : NamesData). whole_command short_makers here a (place_of here paths n) >>= (λ command. Ok (custom_target here a n inputs command)) in
    subst (λ s. Says custom_view s c.from_residual-in_err-command.result) (sym (ap (λ r. r >>= steps) named))
    (says_stop part_view custom_view (whole_command short_makers here a (place_of here paths names)) (λ command. Ok (custom_target here a names inputs command))
    c.in_err-command.field-0.0 c.from_residual-in_err-command.result c.from_residual-in_err-command.ensures.1 stopped)
