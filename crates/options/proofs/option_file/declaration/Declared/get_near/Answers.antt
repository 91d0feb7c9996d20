use Rattle.std.proofs.Common.{◌≡◌, Some, [], sym, subst, ◌∙◌}
use Rattle.std.proofs.lemmas.Slice.Eq.{bytes_eq-Decides}
use Rattle.options.specs.option_file.Lookups.{option_named}
use Rattle.options.specs.option_file.View.{option_in, options_in}
use Rattle.options.proofs.NewNames.{named_at}
use Rattle.options.proofs.option_file.declaration.Declared.get_near.Goals as goal

pub returns-in-Some : goal.returns-in-Some
returns-in-Some c =
    let own = c.in-Some.own.now in
    let there = option_in own c.in-Some.declaration.now in
    subst (λ n. Some (option_in n c.in-Some.declaration.now) ≡ option_named (options_in c.args.self.now) n)
    ((bytes_eq-Decides own c.args.name.now).0 (sym c.eq.ensures ∙ c.if-eq.true))
    (sym (named_at [] (options_in c.args.self.now) c.args.i there c.args.self.now.differ (sym c.in-Some.ensures)))
