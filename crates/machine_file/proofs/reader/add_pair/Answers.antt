use Rattle.std.proofs.Common.{◌∙◌, ◌++◌, ◌∷◌, [], ap, sym, Ok, Err, List, ℕ, string_bytes}
use Rattle.std.specs.Option.{option_map}
use Rattle.machine_file.specs.Files.{has_key}
use Rattle.machine_file.specs.Files as file
use Rattle.machine_file.specs.Misfits.{words_of}
use Rattle.machine_file.specs.View.{value_in, entries_in}
use Rattle.machine_file.proofs.Entries.{Added, pair_none, pair_no_value, pair_not_taken, pair_taken, taken_new, has_key_lookup}
use Rattle.machine_file.proofs.Entries.{entries_in-append}
use Rattle.machine_file.proofs.reader.add_pair.Goals as goal

abbrev why : List ℕ → Added
why detail = Err detail

pub returns-in_default : goal.returns-in_default
returns-in_default c = ap why c.in_ok-words.ensures
    ∙ pair_none c.args.heading.name.now c.args.heading.kind (entries_in c.args.entries.now.entries) c.args.line c.args.text.now
    c.in_default.ensures

pub returns-in_default-2 : goal.returns-in_default-2
returns-in_default-2 c = ap why c.in_ok-words-2.ensures
    ∙ pair_no_value c.args.heading.name.now c.args.heading.kind (entries_in c.args.entries.now.entries) c.args.line c.args.text.now
    c.in-Some.key.now c.in-Some.value.now c.in-Some.ensures
    (ap (option_map value_in) (sym c.in_default-2.is) ∙ c.in_ok-value.ensures)

pub returns-then-not-takes : goal.returns-then-not-takes
returns-then-not-takes c = ap why c.in_ok-words-3.ensures ∙ ap (λ m. why (words_of m)) c.of_value.ensures
    ∙ pair_not_taken c.args.heading.name.now c.args.heading.kind (entries_in c.args.entries.now.entries) c.args.line c.args.text.now
    c.in-Some.key.now c.in-Some.value.now (value_in c.in-Some-2.value) c.in-Some.ensures
    (ap (option_map value_in) (sym c.in-Some-2.is) ∙ c.in_ok-value.ensures) c.if-not-takes.ensures

pub put-requires : goal.put-requires
put-requires c = has_key_lookup (string_bytes c.in_ok-key.key) c.args.entries.now.entries
    ∙ ap (λ (k : List ℕ). has_key k (entries_in c.args.entries.now.entries)) c.in_ok-key.ensures.ok
    ∙ taken_new c.args.heading.kind (entries_in c.args.entries.now.entries) c.in-Some.key.now
    (value_in c.in-Some-2.value) (sym c.if-not-takes.ensures)

pub returns : goal.returns
returns c = ap (λ (es : List file.Entry). Ok es) (ap entries_in c.in_ok-put.ensures
    ∙ entries_in-append c.args.entries.now.entries (c.in_ok-key.key, record { value = c.in-Some-2.value; line = c.args.line })
    ∙ ap (λ (k : List ℕ). entries_in c.args.entries.now.entries ++ record
    { key = k; value = value_in c.in-Some-2.value; line = c.args.line } ∷ []) c.in_ok-key.ensures.ok)
    ∙ pair_taken c.args.heading.name.now c.args.heading.kind (entries_in c.args.entries.now.entries) c.args.line c.args.text.now
    c.in-Some.key.now c.in-Some.value.now (value_in c.in-Some-2.value) c.in-Some.ensures
    (ap (option_map value_in) (sym c.in-Some-2.is) ∙ c.in_ok-value.ensures) c.if-not-takes.ensures
