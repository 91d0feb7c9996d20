use Rattle.std.proofs.Common.{sym, ap, ◌∙◌, lit<, rules}
use Rattle.std.proofs.lemmas.Str.Pattern.{split_parts}
use Rattle.support.specs.paths.Names.{plain_name}
use Rattle.support.proofs.NameTexts.{none_has, plain_name-none, plain_name-behind}
use Rattle.support.proofs.paths.names.plain_name.Goals as goal

pub loop-folder-preserved : goal.loop-folder-preserved
loop-folder-preserved c =
    let name = c.loop-folder.name.now in
    let cut = rw c.in-Some.is at (split_parts 47 name c.split_once.result c.split_once.ensures.cases (lit< tt)) in
    (sym (plain_name-behind c.in-Some._folder.now c.in-Some.behind.now) ∙ ap plain_name (sym cut.0) ∙ c.loop-folder.invariant.0, search rules)

pub returns : goal.returns
returns c =
    let name = c.loop-folder.name.now in
    let none = rw c.in_default.is at (split_parts 47 name c.split_once.result c.split_once.ensures.cases (lit< tt)) in
    sym (plain_name-none name (none_has 47 name none)) ∙ c.loop-folder.invariant.0
