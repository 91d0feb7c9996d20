use Rattle.std.proofs.Common.{◌≡◌, Some, false, is_some, string_bytes, length, drop}
use Rattle.support.specs.Maps.{get_by_text}
use Rattle.machine_file.specs.Files.{said_from, nothing_said}
use Rattle.machine_file.specs.Lines.{file_lines}
use Rattle.machine_file.specs.View.{said_by}
use Rattle.machine_file.specs.declared.state.OpenSection.{OpenSection}
use Rattle.machine_file.proofs.reader.read_lines.Given as goal

abbrev pub invariant-loop-line : goal.invariant-loop-line
invariant-loop-line l = record {
  fresh : (o : OpenSection) → l.reading.1.0 ≡ Some o → is_some (get_by_text l.reading.0 (string_bytes o.name)) ≡ false;
  counted : l.number ≡ length l.yielded;
  said : said_from (drop l.number (file_lines l.text)) l.number (said_by l.reading.0.entries l.reading.1.0)
      ≡ said_from (file_lines l.text) 0 nothing_said;
}
