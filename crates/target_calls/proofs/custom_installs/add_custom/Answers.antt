use Rattle.std.proofs.Common.{◌≡◌, ℕ, Bool, false, List, [], ◌∷◌, map, string_bytes, ap, sym, refl, ◌∙◌}
use Rattle.arguments.specs.Arguments.{arguments_data}
use Rattle.build.specs.edge.Holding.{is_some_list}
use Rattle.build.specs.View.{target_view}
use Rattle.world.specs.Store.{world_of}
use Rattle.world.proofs.Answering.{carries_as, carries_give, carries_none, carries_read, carries_stop, carries_then}
use Rattle.target_calls.specs.CustomInstalls.{WayData, add_custom, all_noted, installed_names, way_of}
use Rattle.target_calls.specs.CustomInstallsView.{way_view}
use Rattle.target_calls.proofs.custom_installs.add_custom.Goals as goal

pub returns-in_err-way : goal.returns-in_err-way
returns-in_err-way g c = carries_none c.from_residual-in_err-way.ensures.1

pub returns-in_err-names : goal.returns-in_err-names
returns-in_err-names g c = carries_none c.from_residual.ensures.1

pub returns-in_err-alone : goal.returns-in_err-alone
unfolding add_custom
returns-in_err-alone g c = carries_read (carries_stop c.in_err-alone.ensures c.from_residual-in_err-alone.ensures.1)

none_named : (names : List (List ℕ)) (b : Bool) → b ≡ is_some_list names → b ≡ false → names ≡ []
none_named [] b e h = refl
none_named (name ∷ names) b e h = cc

pub returns-then-not-is_some_list : goal.returns-then-not-is_some_list
unfolding add_custom all_noted
returns-then-not-is_some_list g c =
    let facts = (world_of c.args.caller.now.store.now).facts in
    let none = ap (all_noted (way_of facts (arguments_data c.args.arguments.now)))
    (sym c.in_ok-names.ensures ∙ none_named (map string_bytes c.in_ok-names.names.items) c.is_some_list.result
    (c.is_some_list.ensures ∙ ap (λ ns. is_some_list (map string_bytes ns)) c.deref.ensures.value) c.if-not-is_some_list.true) in
    carries_read (carries_then {x = c.in_ok-alone.alone} c.in_ok-alone.ensures
    (carries_then {x = tt {0}} (carries_as (sym none) (carries_give refl)) (carries_give refl)))

pub returns-in_err-number : goal.returns-in_err-number
unfolding add_custom
returns-in_err-number g c = carries_read (carries_stop c.in_err-number.ensures c.from_residual-in_err-number.ensures.1)

pub returns-in_err-note_all : goal.returns-in_err-note_all
unfolding add_custom
returns-in_err-note_all g c =
    let noted = ap (all_noted (way_view c.in_ok-way.way)) (ap (map string_bytes) c.deref-2.ensures.value ∙ c.in_ok-names.ensures)
    ∙ ap (λ (w : WayData). all_noted w (installed_names (target_view c.args.target))) c.in_ok-way.ensures in
    carries_read (carries_then {x = c.in_ok-number.number} c.in_ok-number.ensures
    (carries_stop (carries_as noted c.in_err-note_all.ensures) c.from_residual-in_err-note_all.ensures.1))

pub returns : goal.returns
unfolding add_custom
returns g c =
    let noted = ap (all_noted (way_view c.in_ok-way.way)) (ap (map string_bytes) c.deref-2.ensures.value ∙ c.in_ok-names.ensures)
    ∙ ap (λ (w : WayData). all_noted w (installed_names (target_view c.args.target))) c.in_ok-way.ensures in
    carries_read (carries_then {x = c.in_ok-number.number} c.in_ok-number.ensures
    (carries_then (carries_as noted c.in_ok-note_all.ensures) (carries_give refl)))
