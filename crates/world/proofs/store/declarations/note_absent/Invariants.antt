use Rattle.std.proofs.Common.{◌≡◌, drop}
use Rattle.build.specs.edge.Texts.{put_all_new, texts}
use Rattle.build.specs.project.World.{WorldData}
use Rattle.world.proofs.store.declarations.note_absent.Given as goal

-- what was noted and what is left are all
abbrev pub invariant-loop-path : goal.invariant-loop-path
invariant-loop-path l =
    let now : WorldData = record l.project { absent = put_all_new l.project.absent (texts (drop l.path-index l.paths)) } in
    let all : WorldData = record l.initial.project { absent = put_all_new l.initial.project.absent (texts l.paths) } in
    now ≡ all
