use Rattle.std.proofs.Common.{◌≡◌, ◌∙◌, length, lit<}
use Rattle.std.proofs.lemmas.Iterator.Consumers.{count_from_yields_List}
use Rattle.std.proofs.lemmas.Iterator.Splits.{YieldsList-from_str_split}
use Rattle.support.specs.paths.Paths.{parts_of}
use Rattle.support.proofs.BuildFolders.{pieces-le}
use Rattle.support.proofs.paths.folders.depth_of.Goals as goal

pub returns-clause-value : goal.returns-clause-value
returns-clause-value c = count_from_yields_List c.split.result _ c.count.ensures.ran
    (YieldsList-from_str_split 47 c.args.folder.now (lit< tt) c.split.ensures.text c.split.ensures.has_more c.split.ensures.pattern)

pub returns-clause-limit : goal.returns-clause-limit
returns-clause-limit c =
    let value : c.count.result ≡ length (parts_of c.args.folder.now) = returns-clause-value c in
    let limit = pieces-le c.args.folder.now c.requires in
    rw value limit
