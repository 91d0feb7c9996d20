use Rattle.std.proofs.Common.{◌++◌, string_bytes, sym, ap, ◌∙◌, lit<, rules}
use Rattle.std.proofs.lemmas.Str.Pattern.{split_parts}
use Rattle.build.specs.edge.Paths.{flat_name}
use Rattle.build.proofs.PathTexts.{flat_name-plain, name-more, put_last}
use Rattle.build.proofs.edge.seen_paths.push_flat_name.Goals as goal

pub loop-part-preserved : goal.loop-part-preserved
loop-part-preserved c =
    let rest = c.loop-part.rest.now in
    let cut = rw c.in-Some.is at (split_parts 47 rest c.split_once.result c.split_once.ensures.cases (lit< tt)) in
    (name-more (string_bytes c.loop-part.name) (string_bytes c.push_str.new.self) _ rest c.in-Some.part.now c.in-Some.behind.now _ c.loop-part.invariant.0 c.in_ok-push_str.ensures.bytes c.in_ok-push_str-2.ensures.bytes cut.0 cut.1, search rules)

pub returns : goal.returns
returns c =
    let rest = c.loop-part.rest.now in
    let none = rw c.in_default.is at (split_parts 47 rest c.split_once.result c.split_once.ensures.cases (lit< tt)) in
    let name = string_bytes c.loop-part.name in
    put_last c.push_str-2.result (string_bytes c.push_str-2.new.self) name rest (string_bytes c.args.name.now ++ flat_name c.args.path.now) c.push_str-2.ensures.bytes
    (ap (λ p. name ++ p) (sym (flat_name-plain rest none)) ∙ c.loop-part.invariant.0)
