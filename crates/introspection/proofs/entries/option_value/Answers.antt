use Rattle.std.proofs.Common.{◌≡◌, ◌∙◌, rules, string_bytes, subst, sym}
use Rattle.serde_json.specs.Data.{number}
use Rattle.serde_json.specs.Find.{of_integer}
use Rattle.serde_json.specs.View.{view}
use Rattle.build.specs.View.{option_view}
use Rattle.build.specs.declared.facts.OptionValue.{OptionValue}
use Rattle.build.specs.edge.Texts.{texts}
use Rattle.introspection.specs.Document.{option_value}
use Rattle.introspection.specs.Sending.{Reads}
use Rattle.introspection.proofs.Lists.{always}
use Rattle.introspection.proofs.ReadBack.{reads_boolean, reads_string, reads_strings}
use Rattle.introspection.proofs.entries.option_value.Goals as goal

pub returns-in-Text-clause-reads : goal.returns-in-Text-clause-reads
returns-in-Text-clause-reads c = always c.try_from_str.result _
    (subst (λ (v : OptionValue). Reads (option_value (option_view v))) (sym c.in-Text.is) (reads_string (string_bytes c.in-Text.text)))

pub returns-in-Boolean-clause-reads : goal.returns-in-Boolean-clause-reads
returns-in-Boolean-clause-reads c =
    subst (λ (v : OptionValue). Reads (option_value (option_view v))) (sym c.in-Boolean.is) (reads_boolean c.in-Boolean.truth)

pub returns-in-Integer-clause-reads : goal.returns-in-Integer-clause-reads
returns-in-Integer-clause-reads c =
    let plain : view c.integer.result ≡ number (of_integer c.in-Integer.number) = search rules in
    subst (λ (v : OptionValue). Reads (option_value (option_view v))) (sym c.in-Integer.is)
    (subst Reads (sym c.integer.ensures.shows ∙ plain) c.integer.ensures.reads)

pub returns-in-Texts-clause-reads : goal.returns-in-Texts-clause-reads
returns-in-Texts-clause-reads c = always c.strings.result _
    (subst (λ (v : OptionValue). Reads (option_value (option_view v))) (sym c.in-Texts.is) (reads_strings (texts c.in-Texts.texts.items)))
