use Rattle.std.proofs.Common.{sym, ap, ◌∙◌}
use Rattle.std.specs.Prelude.{not}
use Rattle.build.specs.edge.Texts.{Path}
use Rattle.build.specs.edge.Paths.{is_upward}
use Rattle.support.specs.paths.Names.{is_file_name}
use Rattle.build.specs.project.Adding.{is_folder}
use Rattle.build.proofs.EdgeOrder.{split_and}
use Rattle.build.proofs.NextInside.{named_inside}
use Rattle.build.proofs.project.project.Project.add_output.Goals as goal

pub place_output-requires : goal.place_output-requires
place_output-requires c =
    let folder = c.args.folder.now in
    let name = c.args.name.now in
    let h = split_and (is_folder folder) (is_file_name name) (sym c.output_fits-fits.ensures ∙ c.if-not-fits.false) in
    ap (λ (p : Path). not (is_upward p)) c.in_ok-path.ensures ∙ named_inside folder name h.0 h.1
