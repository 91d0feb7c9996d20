use Rattle.std.proofs.Common.{◌≡◌, ◌++◌, ap, sym, ◌∙◌, append_assoc, string_bytes}
use Rattle.std.specs.Prelude.{flat_map}
use Rattle.std.proofs.lemmas.Result.{IfOk-weaker}
use Rattle.build.specs.edge.Texts.{texts, first_kept}
use Rattle.build.specs.Data.{ListsData}
use Rattle.build.specs.View.{lists_view, build_view}
use Rattle.build.proofs.ListLemmas.{flat_map-both}
use Rattle.build.specs.target_edges.Words.{include_words, includes}
use Rattle.build.proofs.target_edges.compile_words.includes.Goals as goal

pub returns : goal.returns
returns c =
    let t = c.args.target.now in
    let depth = c.args.depth in
    let here = include_words depth (string_bytes t.folder) in
    let own = flat_map (include_words depth) (texts t.own.include_folders.items) in
    let is =
    ap texts c.deref.ensures.value ∙ c.in_ok-words.ensures
    ∙ append_assoc here own (flat_map (λ d. flat_map (include_words depth) (texts d.value.include_folders.items)) t.dependencies.items)
    ∙ ap (λ l. here ++ l) (sym (flat_map-both (include_words depth) (texts t.own.include_folders.items) (λ (l : ListsData). l.include_folders) (λ l. lists_view l.value) t.dependencies.items)) in
    IfOk-weaker c.first_kept.result (λ v. texts v.items ≡ first_kept (texts c.deref.result.now)) (λ v. texts v.items ≡ includes depth (build_view t)) (λ v e. e ∙ ap first_kept is) c.first_kept.ensures
