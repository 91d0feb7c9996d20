use Rattle.std.proofs.Common.{◌∙◌, ap, map, string_bytes, subst}
use Rattle.std.proofs.lemmas.Bool.{false≢true}
use Rattle.ports.proofs.Sending.{sends_none}
use Rattle.backend.specs.Concluding.{Agrees}
use Rattle.meson.specs.Tasks.{run_by}
use Rattle.world.specs.MakingSettings.{settings_of}
use Rattle.world.specs.Settings.{SettingsData}
use Rattle.hawkottoman.proofs.program.perform_over.Goals as goal

pub returns-in-Ok : goal.returns-in-Ok
returns-in-Ok g c = record {
  run = λ files said h is.
      let root = c.args.place.now.root.now in
      let words = map string_bytes c.args.line.words.items in
      let same = c.in-Ok.ensures.settings ∙ ap (λ folder. settings_of root folder words) c.as_str.ensures.value in
      let old = g.O.Outputs.seen c.args.out.now in
      let new = g.O.Outputs.seen c.perform.new.out in
      subst (λ (s : SettingsData). Agrees (run_by c.args.line.task files s said) c.perform.result old new) same
      (c.perform.ensures.run files said h is);
}

pub returns-in-Err-Memory : goal.returns-in-Err-Memory
returns-in-Err-Memory g c = record {
  run = λ files said h is. record { status = λ finished. absurd (false≢true finished); events = sends_none _ _ };
}

pub returns : goal.returns
returns g c = record {
  run = λ files said h is. record { status = λ finished. absurd (false≢true finished); events = sends_none _ _ };
}
