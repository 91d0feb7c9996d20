-- Defines the views of directories and of installed files.
use Rattle.std.specs.Prelude.{map}
use Rattle.build.specs.project.View.{install_view}
use Rattle.sources.specs.SourcesView.{named_view}
use Rattle.world.specs.HereView.{here_view}
use Rattle.resource_calls.specs.Destinations.{FoldersData, SaidData}
use Rattle.resource_calls.specs.declared.destinations.Folders.{Folders}
use Rattle.resource_calls.specs.declared.destinations.Said.{Said}

-- Returns the plain data of directories.
abbrev pub folders_view : Folders → FoldersData
folders_view f = record {
  here = here_view f.here;
  prefix = f.prefix.now;
  includedir = f.includedir.now;
  datadir = f.datadir.now;
  mandir = f.mandir.now;
  project = f.project.now;
}

-- Returns the plain data of what a call installs.
abbrev pub said_view : Said → SaidData
said_view s = record { named = map named_view s.named.items; installs = map install_view s.installs.items }
