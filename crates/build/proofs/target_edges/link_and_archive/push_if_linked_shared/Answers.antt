use Rattle.std.proofs.Common.{◌≡◌, [], ◌∷◌, ◌++◌, codes, ap, ◌∙◌, append_assoc}
use Rattle.std.proofs.lemmas.Result.{IfOk-weaker}
use Rattle.build.specs.edge.Texts.{texts}
use Rattle.build.specs.View.{build_view}
use Rattle.build.specs.target_edges.Words.{shared_library_words}
use Rattle.build.proofs.target_edges.link_and_archive.push_if_linked_shared.Goals as goal

pub returns : goal.returns
returns c =
    let old = texts c.args.words.now.items in
    let new = texts c.push_joined.new.words.items in
    let word = codes "-Wl,-soname," ++ c.deref.result.now in
    IfOk-weaker c.push_joined.result (λ _. new ≡ texts c.push_all.new.to.items ++ word ∷ []) (λ _. new ≡ old ++ shared_library_words (build_view c.args.target.now))
    (λ _ e. e ∙ ap (λ ws. ws ++ word ∷ []) c.in_ok-push_all.ensures ∙ append_assoc old (codes "-shared" ∷ codes "-fPIC" ∷ []) (word ∷ [])
    ∙ ap (λ n. old ++ codes "-shared" ∷ codes "-fPIC" ∷ (codes "-Wl,-soname," ++ n) ∷ []) (c.deref.ensures ∙ c.in_ok-name.ensures)) c.push_joined.ensures
