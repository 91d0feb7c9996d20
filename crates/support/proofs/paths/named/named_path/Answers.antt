use Rattle.std.proofs.Common.{sym, ap, ◌∙◌, true, string_bytes, ◌≡◌}
use Rattle.std.specs.List.{list_all}
use Rattle.support.specs.paths.Paths.{parts_of}
use Rattle.support.proofs.Staying.{named_itself, stays}
use Rattle.support.proofs.paths.named.named_path.Goals as goal

pub returns-then-is_path : goal.returns-then-is_path
returns-then-is_path c =
    let all : list_all stays (parts_of (string_bytes c.args.text)) ≡ true =
    sym (ap (λ t. list_all stays (parts_of t)) c.as_str.ensures.value) ∙ sym c.is_path.ensures ∙ c.if-is_path.true in
    sym (named_itself (string_bytes c.args.text) all)
