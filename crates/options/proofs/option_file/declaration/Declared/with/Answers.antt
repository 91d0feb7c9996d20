use Rattle.std.proofs.Common.{◌∙◌, [], ap, string_bytes}
use Rattle.options.specs.option_file.Lookups.{are_new}
use Rattle.options.specs.option_file.View.{entry_in, entries_in}
use Rattle.options.proofs.Entries.{none_from, is_used_lookup, entries_in-append}
use Rattle.options.proofs.NewNames.{not_used, one_more}
use Rattle.options.proofs.option_file.declaration.Declared.with.Goals as goal

pub invariant_of-result : goal.invariant_of-result
invariant_of-result c =
    let es = c.args.self.options.entries in
    let seen = ap entries_in (c.in_ok-insert.ensures.last
    (none_from _ (is_used_lookup (string_bytes c.args.name) es ∙ not_used (string_bytes c.args.name) (entries_in es) c.requires)))
    ∙ entries_in-append es (c.args.name, c.args.declaration) in
    record {
      differ = ap are_new seen
          ∙ one_more [] (entries_in es) (entry_in (c.args.name, c.args.declaration)) c.args.self.differ c.requires;
    }

pub returns : goal.returns
returns c =
    let es = c.args.self.options.entries in
    ap entries_in (c.in_ok-insert.ensures.last
    (none_from _ (is_used_lookup (string_bytes c.args.name) es ∙ not_used (string_bytes c.args.name) (entries_in es) c.requires)))
    ∙ entries_in-append es (c.args.name, c.args.declaration)
