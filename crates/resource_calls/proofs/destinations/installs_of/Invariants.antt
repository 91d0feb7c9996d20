use Rattle.std.proofs.Common.{◌≡◌, [], map, drop}
use Rattle.arguments.specs.Arguments.{arguments_data}
use Rattle.arguments.specs.Each.{each_said}
use Rattle.build.specs.project.View.{install_view}
use Rattle.sources.specs.SourcesView.{named_view}
use Rattle.resource_calls.specs.Destinations.{destination_of_file}
use Rattle.resource_calls.specs.DestinationsView.{folders_view}
use Rattle.resource_calls.proofs.destinations.installs_of.Given as goal

-- what is installed so far and the files that are left decide
abbrev pub invariant-loop-one : goal.invariant-loop-one
invariant-loop-one l =
    each_said (destination_of_file (folders_view l.call.folders) l.call.sort (arguments_data l.call.arguments.now)) (map install_view l.installs.items)
    (map named_view (drop l.one-index l.named))
    ≡ each_said (destination_of_file (folders_view l.call.folders) l.call.sort (arguments_data l.call.arguments.now)) [] (map named_view l.named)
