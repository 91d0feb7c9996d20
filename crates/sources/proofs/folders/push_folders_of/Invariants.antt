use Rattle.std.proofs.Common.{◌≡◌, map, drop}
use Rattle.arguments.specs.declared.rule.Rule.TheVariants as rules
use Rattle.values.specs.View.{data_of}
use Rattle.support.specs.paths.Folder.{strings_of}
use Rattle.arguments.specs.Each.{all_said}
use Rattle.sources.specs.Folders.{folders_in}
use Rattle.sources.specs.Unnamed.{named_by}
use Rattle.sources.proofs.folders.push_folders_of.Given as goal

-- the folders so far and the values that are left decide
abbrev pub invariant-loop-value : goal.invariant-loop-value
invariant-loop-value l =
    all_said (named_by rules.NamesFolder (folders_in l.source_root l.folder)) (strings_of l.paths)
    (map (λ v. data_of v.now) (drop l.value-index l.values))
    ≡ all_said (named_by rules.NamesFolder (folders_in l.source_root l.folder)) (strings_of l.fn.paths)
    (map (λ v. data_of v.now) l.values)
