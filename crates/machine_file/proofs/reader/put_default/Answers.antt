use Rattle.std.proofs.Common.{◌∙◌, ap, sym, List, ℕ, string_bytes}
use Rattle.machine_file.specs.Files.{has_key}
use Rattle.machine_file.specs.View.{entries_in}
use Rattle.machine_file.proofs.Entries.{has_key_lookup, lacking}
use Rattle.machine_file.proofs.reader.put_default.Goals as goal

pub put-requires : goal.put-requires
put-requires c = has_key_lookup (string_bytes c.in_ok-key.key) c.args.entries.now.entries
    ∙ ap (λ (k : List ℕ). has_key k (entries_in c.args.entries.now.entries)) c.in_ok-key.ensures.ok
    ∙ lacking c.args.kind (entries_in c.args.entries.now.entries) (sym c.if-not-lacks_version.ensures)
