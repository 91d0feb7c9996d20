use Rattle.std.proofs.Common.{map, ap, refl}
use Rattle.sources.specs.SourcesView.{named_view}
use Rattle.world.proofs.Answering.{carries_as, carries_give, carries_stop, carries_then}
use Rattle.world.proofs.Settling.{carries_says_of}
use Rattle.arguments.specs.Arguments.{arguments_data}
use Rattle.resource_calls.specs.Destinations.{folders_in, said_of}
use Rattle.resource_calls.specs.DestinationsView.{said_view}
use Rattle.resource_calls.specs.Installs.{install, said_installs}
use Rattle.resource_calls.specs.NamedFiles.{files_required}
use Rattle.resource_calls.proofs.installs.install.Goals as goal

pub returns-in_err-said : goal.returns-in_err-said
unfolding install said_installs
returns-in_err-said g c = carries_stop (carries_says_of {view = said_view} (λ f. said_of f c.args.sort (arguments_data c.args.arguments.now)) folders_in c.said_of.result
    c.said_of.ensures c.folders_in-folders.ensures c.in_err-said.ensures) c.from_residual.ensures.1

pub returns-in_err-require_files : goal.returns-in_err-require_files
unfolding install said_installs
returns-in_err-require_files g c =
    carries_then {x = c.in_ok-said.said} (carries_says_of {view = said_view} (λ f. said_of f c.args.sort (arguments_data c.args.arguments.now)) folders_in c.said_of.result
    c.said_of.ensures c.folders_in-folders.ensures c.in_ok-said.ensures)
    (carries_stop (carries_as (ap (λ ns. files_required (map named_view ns)) c.deref.ensures.value) c.in_err-require_files.ensures)
    c.from_residual-in_err-require_files.ensures.1)

pub returns-in_err-install_all : goal.returns-in_err-install_all
unfolding install said_installs
returns-in_err-install_all g c =
    carries_then {x = c.in_ok-said.said} (carries_says_of {view = said_view} (λ f. said_of f c.args.sort (arguments_data c.args.arguments.now)) folders_in c.said_of.result
    c.said_of.ensures c.folders_in-folders.ensures c.in_ok-said.ensures)
    (carries_then (carries_as (ap (λ ns. files_required (map named_view ns)) c.deref.ensures.value) c.in_ok-require_files.ensures)
    (carries_stop c.in_err-install_all.ensures
    c.from_residual-in_err-install_all.ensures.1))

pub returns : goal.returns
unfolding install said_installs
returns g c =
    carries_then {x = c.in_ok-said.said} (carries_says_of {view = said_view} (λ f. said_of f c.args.sort (arguments_data c.args.arguments.now)) folders_in c.said_of.result
    c.said_of.ensures c.folders_in-folders.ensures c.in_ok-said.ensures)
    (carries_then (carries_as (ap (λ ns. files_required (map named_view ns)) c.deref.ensures.value) c.in_ok-require_files.ensures)
    (carries_then c.in_ok-install_all.ensures
    (carries_give refl)))
