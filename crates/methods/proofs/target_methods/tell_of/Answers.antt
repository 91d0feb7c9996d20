use Rattle.std.proofs.Common.{option_map, string_bytes, sym, ap, ◌∙◌}
use Rattle.methods.proofs.Values.{gives_as}
use Rattle.build.specs.Libraries.{linked_of}
use Rattle.world.specs.Store.{world_of}
use Rattle.methods.specs.Targets.{at, path_of, path_value, told_of}
use Rattle.methods.proofs.target_methods.tell_of.Goals as goal

pub returns-in_ok-path_at-in-FullPath : goal.returns-in_ok-path_at-in-FullPath
returns-in_ok-path_at-in-FullPath c =
    let facts = (world_of c.args.store.now).facts in
    gives_as _ (ap (λ root. path_value root (option_map string_bytes c.in_ok-path_at-in-FullPath.field-0)) c.build_root.ensures
    ∙ ap (path_value facts.settings.build_root) (c.in_ok-path_at-in-FullPath.ensures
    ∙ ap (λ ts. at ts c.args.number path_of) (c.targets-targets.ensures ∙ ap (λ p. linked_of p.targets) c.project.ensures))
    ∙ ap (λ m. told_of m facts c.args.number c.args.outputs) (sym c.in-FullPath.is)) c.path_value.ensures

pub returns-in-Name : goal.returns-in-Name
returns-in-Name c = gives_as _ (cc (c.name_at.ensures, c.targets-targets.ensures, c.project.ensures, c.in-Name.is)) c.name_value.ensures
