-- Defines the view of what a call declares.
use Rattle.build.specs.edge.Texts.{texts}
use Rattle.build.specs.View.{target_view}
use Rattle.target_calls.specs.BuildTargets.{NamedTargetData}
use Rattle.target_calls.specs.declared.build_target.NamedTarget.{NamedTarget}

-- Returns the plain data of what a call declares.
abbrev pub named_target_view : NamedTarget → NamedTargetData
named_target_view d = record { target = target_view d.target; files = texts d.files.items }
