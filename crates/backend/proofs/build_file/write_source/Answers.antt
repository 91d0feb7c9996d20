use Rattle.std.proofs.Common.{◌≡◌, ◌++◌, map, codes, string_bytes, ap, ◌∙◌}
use Rattle.ports.specs.Outputs.{puts}
use Rattle.build.specs.edge.Own.{own_view}
use Rattle.build.specs.edge.Parts.{OwnData, SharedData, edge_of_parts}
use Rattle.build.specs.edge.Paths.{object_path}
use Rattle.build.specs.edge.Texts.{Path, texts}
use Rattle.build.specs.declared.edge.rule.EdgeRule.TheVariants.{CCompile}
use Rattle.build.specs.target_edges.Parts.{compile_own, compile_shared, last_words}
use Rattle.ninja.proofs.Puts.{writes_over}
use Rattle.ninja.specs.Writing.{edge_text}
use Rattle.backend.proofs.TargetTexts.{own_is, shared_is}
use Rattle.backend.proofs.build_file.write_source.Goals as goal

pub returns : goal.returns
returns g c =
    let p = c.args.parts.now in
    let input = c.args.input.now in
    let path = string_bytes input.path in
    let made = c.args.own.now in
    let object = object_path (string_bytes p.file) (string_bytes input.name) in
    let words =
    c.last_words-words.ensures
    ∙ ap (λ o. last_words o (string_bytes made.depfile) c.deref.result.now) c.requires.object
    ∙ ap (λ d. last_words object d c.deref.result.now) c.requires.depfile
    ∙ ap (last_words object (object ++ codes ".d")) c.deref.ensures in
    let own : own_view c.own_parts.result ≡ compile_own object path =
    c.own_parts.ensures
    ∙ own_is (string_bytes made.object) c.deref-4.result.now (string_bytes made.depfile) (string_bytes made.description)
    (map (λ w. w.now) c.last_words-words.result) (compile_own object path) c.requires.object c.deref-4.ensures words c.requires.description
    c.requires.depfile in
    let shared : SharedData = record { rule = CCompile; order_only = texts c.deref-2.result.now; words = texts c.deref-3.result.now } in
    let same : shared ≡ compile_shared (texts p.words.items) (texts p.generated.items) =
    shared_is (texts c.deref-2.result.now) (texts c.deref-3.result.now) (texts p.generated.items) (texts p.words.items)
    (ap texts c.deref-2.ensures.value) (ap texts c.deref-3.ensures.value) in
    writes_over (puts (edge_text (edge_of_parts shared (own_view c.own_parts.result))))
    (puts (edge_text (edge_of_parts (compile_shared (texts p.words.items) (texts p.generated.items)) (compile_own object path))))
    (ap (λ s. puts (edge_text (edge_of_parts s (own_view c.own_parts.result)))) same
    ∙ ap (λ o. puts (edge_text (edge_of_parts (compile_shared (texts p.words.items) (texts p.generated.items)) o))) own)
    c.write_joined.ensures
