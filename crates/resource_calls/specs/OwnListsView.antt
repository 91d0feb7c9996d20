-- Defines the view of the lists that a call itself gives.
use Rattle.std.specs.Prelude.{map}
use Rattle.build.specs.edge.Texts.{texts}
use Rattle.sources.specs.SourcesView.{named_view}
use Rattle.resource_calls.specs.OwnLists.{OwnData}
use Rattle.resource_calls.specs.declared.own_lists.Own.{Own}

-- Returns the plain data of the lists that a call itself gives.
abbrev pub own_view : Own → OwnData
own_view o = record { folders = texts o.folders.items; libraries = o.libraries.items; sources = map named_view o.sources.items }
