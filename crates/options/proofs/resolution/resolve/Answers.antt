use Rattle.std.proofs.Common.{◌≡◌, ◌∙◌, ◌++◌, IfOk, sym, ap, subst, map, List}
use Rattle.std.specs.List.{fold, flat_map}
use Rattle.machine_file.specs.Questions.{options_at}
use Rattle.machine_file.specs.View.{machine_in}
use Rattle.options.specs.option_file.View.{options_in}
use Rattle.option_values.specs.View.{strings_in}
use Rattle.options.specs.declared.option_file.declaration.Declared.{Declared}
use Rattle.options.specs.Resolves.{State, next, at_first, resolution_of, resolved_options}
use Rattle.options.specs.Verdicts.{Verdict, of_declaration, of_project_default, of_section, of_words}
use Rattle.options.specs.View.{defaults_in, resolved_in, state_in}
use Rattle.options.proofs.Folds.{in_turn}
use Rattle.options.proofs.OptionSections.{of_options}
use Rattle.options.proofs.resolution.resolve.Goals as goal

pub returns : goal.returns
unfolding resolved_options
returns c =
    let ds = options_in c.in_ok-known.known.declared.now in
    let l = map of_declaration ds in
    let d = map (of_project_default ds) (defaults_in c.args.defaults.now) in
    let m = flat_map (of_section ds) (machine_in c.args.machine.now) in
    let w = of_words ds 1 (strings_in c.args.words.now) in
    let same = c.in_ok-known.ensures in
    subst (λ outcome. IfOk c.end.result (λ r. resolved_in r ≡ outcome)) (
    ap resolution_of (
    c.in_ok-take_words.ensures
    ∙ ap (λ (s : State). fold next s w) (c.in_ok-take_machine.ensures
    ∙ ap (λ (s : State). fold next s m) (c.in_ok-take_defaults.ensures
    ∙ ap (λ (s : State). fold next s d) (c.in_ok-take_declarations.ensures
    ∙ ap (λ (x : Declared). fold next (state_in c.in_ok-state.state) (map of_declaration (options_in x))) (sym same)
    ∙ ap (λ (s : State). fold next s l) c.in_ok-state.ensures)))
    ∙ sym (in_turn at_first l d m w))
    ∙ ap (λ (vs : List Verdict). resolution_of (fold next at_first (l ++ (d ++ (vs ++ w))))) (sym (of_options ds (machine_in c.args.machine.now)))
    ∙ ap (λ (x : Declared). resolved_options (options_in x) (defaults_in c.args.defaults.now) (options_at (machine_in c.args.machine.now))
    (strings_in c.args.words.now)) same) c.end.ensures
