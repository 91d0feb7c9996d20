use Rattle.std.proofs.Common.{map, ap}
use Rattle.sources.specs.SourcesView.{named_view}
use Rattle.world.proofs.Answering.{carries_as, carries_stop, carries_then}
use Rattle.world.proofs.Settling.{carries_says_of}
use Rattle.arguments.specs.Arguments.{arguments_data}
use Rattle.world.specs.Here.{here_of}
use Rattle.resource_calls.specs.DeclareDependency.{declare_dependency, said_lists}
use Rattle.resource_calls.specs.OwnLists.{own_lists}
use Rattle.resource_calls.specs.OwnListsView.{own_view}
use Rattle.resource_calls.specs.NamedFiles.{files_required}
use Rattle.resource_calls.proofs.dependency_declaration.declare_dependency.Goals as goal

pub returns-in_err-own : goal.returns-in_err-own
unfolding declare_dependency said_lists
returns-in_err-own g c = carries_stop (carries_says_of {view = own_view} (λ h. own_lists h (arguments_data c.args.arguments.now)) here_of c.own_lists.result
    c.own_lists.ensures c.here.ensures c.in_err-own.ensures) c.from_residual.ensures.1

pub returns-in_err-require_files : goal.returns-in_err-require_files
unfolding declare_dependency said_lists
returns-in_err-require_files g c =
    carries_then {x = c.in_ok-own.own} (carries_says_of {view = own_view} (λ h. own_lists h (arguments_data c.args.arguments.now)) here_of c.own_lists.result
    c.own_lists.ensures c.here.ensures c.in_ok-own.ensures)
    (carries_stop (carries_as (ap (λ ns. files_required (map named_view ns)) c.deref.ensures.value) c.in_err-require_files.ensures)
    c.from_residual-in_err-require_files.ensures.1)

pub returns-in_err-dependency : goal.returns-in_err-dependency
unfolding declare_dependency said_lists
returns-in_err-dependency g c =
    carries_then {x = c.in_ok-own.own} (carries_says_of {view = own_view} (λ h. own_lists h (arguments_data c.args.arguments.now)) here_of c.own_lists.result
    c.own_lists.ensures c.here.ensures c.in_ok-own.ensures)
    (carries_then (carries_as (ap (λ ns. files_required (map named_view ns)) c.deref.ensures.value) c.in_ok-require_files.ensures)
    (carries_stop c.in_err-dependency.ensures c.from_residual-in_err-dependency.ensures.1))

pub returns : goal.returns
unfolding declare_dependency said_lists
returns g c =
    carries_then {x = c.in_ok-own.own} (carries_says_of {view = own_view} (λ h. own_lists h (arguments_data c.args.arguments.now)) here_of c.own_lists.result
    c.own_lists.ensures c.here.ensures c.in_ok-own.ensures)
    (carries_then (carries_as (ap (λ ns. files_required (map named_view ns)) c.deref.ensures.value) c.in_ok-require_files.ensures)
    (carries_then {x = c.in_ok-dependency.dependency} c.in_ok-dependency.ensures c.return_object.ensures))
