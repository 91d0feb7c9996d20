-- The text of lines of questions that are written out.
use Rattle.std.proofs.Common.{◌≡◌, true, None, Some, [], ◌∷◌, ◌++◌, codes, refl}
use Rattle.std.specs.Fmt.{digits}
use Rattle.serde_json.proofs.OnLiterals.{serde_json_on_literals}
use Rattle.machine_file.specs.Values.{Boolean, Text, Texts}
use Rattle.introspection.specs.Questions.{Value, head_of, head_text, line_of, line_text}
use Rattle.introspection.specs.Questions.{Section as Whole}

-- a check beside which words were said
said_beside : line_text (record {
  section = codes "checks";
  key = Some (codes "has_function fsync");
  reply = Value (Some (Boolean true));
  asides = record { name = codes "prefix"; texts = codes "#include <unistd.h>" ∷ [] }
      ∷ record { name = codes "args"; texts = codes "-DX" ∷ [] }
      ∷ [];
}) (codes "meson.build") 12 ≡
    codes "{\"section\":\"checks\",\"key\":\"has_function fsync\",\"answer\":true,\"file\":\"meson.build\",\"line\":12," ++
    codes "\"beside\":{\"prefix\":[\"#include <unistd.h>\"],\"args\":[\"-DX\"]}}"
unfolding line_of line_text digits serde_json_on_literals
said_beside = refl

-- a dependency, whose keys stand in the order of the file's lines
whole_section : line_text (record {
  section = codes "dependency z";
  key = None;
  reply = Whole (Some (
      record { key = codes "version"; value = Text (codes "1.2"); line = 2 }
      ∷ record { key = codes "compile_args"; value = Texts []; line = 3 }
      ∷ record { key = codes "link_args"; value = Texts (codes "-lz" ∷ codes "-l\"q\"" ∷ []); line = 4 }
      ∷ []));
  asides = [];
}) (codes "a/meson.build") 1 ≡
    codes "{\"section\":\"dependency z\",\"key\":null,\"answer\":{\"version\":\"1.2\",\"compile_args\":[]," ++ (
    codes "\"link_args\":[\"-lz\",\"-l\\\"q\\\"\"]}," ++
    codes "\"file\":\"a/meson.build\",\"line\":1,\"beside\":{}}")
unfolding line_of line_text digits serde_json_on_literals
whole_section = refl

-- what is not answered, without its place
unanswered : head_text (record { section = codes "binaries"; key = Some (codes "sed"); reply = Value None; asides = [] }) ≡
    codes "{\"section\":\"binaries\",\"key\":\"sed\",\"answer\":null}"
unfolding head_of head_text digits serde_json_on_literals
unanswered = refl

absent_section : head_text (record { section = codes "dependency z"; key = None; reply = Whole None; asides = [] }) ≡
    codes "{\"section\":\"dependency z\",\"key\":null,\"answer\":null}"
unfolding head_of head_text digits serde_json_on_literals
absent_section = refl
