use Rattle.std.proofs.Common.{◌≡◌, ◌++◌, [], drop, string_bytes}
use denote.Text.{Utf8}
use denote.Shadow.{shadow}
use Rattle.option_values.specs.Given.{quoted_texts}
use Rattle.option_values.specs.View.{strings_in}
use Rattle.option_values.proofs.from_machine_file.push_quoted.Given as goal

abbrev pub invariant-loop-item : goal.invariant-loop-item
invariant-loop-item l =
    shadow (Utf8 l.separator)
    × (string_bytes l.text ++ quoted_texts l.separator (strings_in (drop l.item-index l.items))
    ≡ string_bytes l.initial.text ++ quoted_texts [] (strings_in l.items))
