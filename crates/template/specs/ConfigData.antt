-- Defines how contracts see configuration data.
use Rattle.std.specs.Prelude.{List, map, String, string_bytes}
use Rattle.std.specs.declared.alloc.Global.{Global}
use Rattle.template.specs.declared.config.ConfigValue.{ConfigValue}
use Rattle.template.specs.declared.config.ConfigValue.TheVariants.{Boolean, Integer, Text}
use Rattle.template.specs.Config.{Content, Flag, Number, Bytes, Entries}

-- Returns the data of a value of the code. A text is seen as its bytes.
abbrev pub content_of : ConfigValue → Content
content_of (Boolean b) = Flag b
content_of (Integer z) = Number z
content_of (Text text) = Bytes (string_bytes text)

-- Returns the data of the entries of the code, in the same order. Names and texts are seen as their bytes.
abbrev pub entries_of : List (String Global × ConfigValue) → Entries
entries_of entries = map (λ entry. (string_bytes entry.0, content_of entry.1)) entries
