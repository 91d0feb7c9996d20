use Rattle.std.proofs.Common.{◌≡◌, length, arith, ◌∙◌, sym, ap, ℕ, add-one}
use Rattle.std.proofs.lemmas.List.{length-map}
use Rattle.options.specs.FillIns.{decided_setting}
use Rattle.option_values.specs.Settings.{change_at}
use Rattle.option_values.specs.SettingsView.{entry_in, settings_in}
use Rattle.options.proofs.Fills.{map_first, none_first, all_first, one_more_first}
use Rattle.options.proofs.fill_in.decide_all.Goals as goal

pub loop-i-init : goal.loop-i-init
loop-i-init c = sym (none_first (decided_setting c.args.state) (settings_in c.args.settings.now.entries))

pub loop-i-preserved : goal.loop-i-preserved
loop-i-preserved c =
    let f = decided_setting c.args.state in
    c.decide_at.ensures
    ∙ ap (change_at f c.loop-i.i) c.loop-i.invariant
    ∙ one_more_first f c.loop-i.i (settings_in c.args.settings.now.entries)
    ∙ ap (λ (n : ℕ). map_first f n (settings_in c.args.settings.now.entries)) (sym (add-one c.loop-i.i))

pub returns : goal.returns
returns c =
    let f = decided_setting c.args.state in
    let ss = settings_in c.args.settings.now.entries in
    let e : c.loop-i.i
    ≡ length ss = omega (
      arith,
      c.len-i-end.ensures,
      length-map c.args.settings.now.entries entry_in,
      c.loop-i-test.false,
      c.loop-i.auto.i-end,
    ) in
    c.loop-i.invariant ∙ ap (λ (n : ℕ). map_first f n ss) e ∙ all_first f ss
