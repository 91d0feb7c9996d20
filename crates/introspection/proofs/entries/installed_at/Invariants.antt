use Rattle.std.proofs.Common.{◌≡◌, map, take}
use Rattle.std.specs.Prelude.{fold}
use Rattle.serde_json.specs.Data.{no_members}
use Rattle.serde_json.specs.View.{members_view}
use Rattle.build.specs.project.View.{install_view}
use Rattle.introspection.specs.Document.{with_installed}
use Rattle.introspection.proofs.entries.installed_at.Given as goal

abbrev pub invariant-loop-install : goal.invariant-loop-install
invariant-loop-install l = members_view l.members.entries ≡ fold with_installed no_members (map install_view (take l.install-index l.installs))
