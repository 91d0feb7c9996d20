use Rattle.std.proofs.Common.{sym, ap, option_map, ◌∙◌, string_bytes}
use Rattle.template.specs.ConfigData.{content_of, entries_of}
use Rattle.template.proofs.Settings.{entries_of_insert, names_ascend, value_of-entries_of}
use Rattle.template.proofs.Undoing.{on_err}
use Rattle.template.proofs.config.put.Goals as goal

pub returns-clause-ok : goal.returns-clause-ok
returns-clause-ok c = ap entries_of c.in_ok-insert.ensures.entries ∙ entries_of_insert c.args.key c.args.value c.args.entries.now.entries

pub returns-clause-set : goal.returns-clause-set
returns-clause-set c = record {
  content = content_of c.args.value;
  is = ap entries_of c.in_ok-insert.ensures.entries ∙ entries_of_insert c.args.key c.args.value c.args.entries.now.entries;
  was = sym (ap (option_map content_of) c.in_ok-insert.ensures.old ∙ value_of-entries_of (string_bytes c.args.key) c.args.entries.now.entries);
  ascending = names_ascend c.args.entries.now.entries c.in_ok-insert.ensures.was_ordered;
}

pub returns-in_err-insert-clause-absent : goal.returns-in_err-insert-clause-absent
returns-in_err-insert-clause-absent c =
    on_err c.from_residual.result c.from_residual.ensures.0
    (sym (value_of-entries_of (string_bytes c.args.key) c.args.entries.now.entries) ∙ ap (option_map content_of) c.in_err-insert.ensures.absent)
