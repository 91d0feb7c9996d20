-- Edges that are put piece by piece: their text.
use Rattle.std.proofs.Common.{◌≡◌, ℕ, true, List, [], ◌∷◌, ◌++◌, Option, Some, None, String, Global, codes, map, option_map, string_bytes, refl, sym, ap, ◌∙◌}
use Rattle.std.proofs.lemmas.List.Concat.{flat_map-append}
use Rattle.ports.specs.Outputs.{puts}
use Rattle.build.specs.edge.Data.{EdgeData}
use Rattle.build.specs.edge.Holding.{is_some_list}
use Rattle.build.specs.edge.Own.{lent_view, own_view, shared_view}
use Rattle.build.specs.edge.Parts.{OwnData, edge_of_parts}
use Rattle.build.specs.edge.Texts.{texts}
use Rattle.build.specs.declared.edge.parts.LentEdge.{LentEdge}
use Rattle.build.specs.declared.edge.parts.OwnParts.{OwnParts}
use Rattle.build.specs.declared.edge.parts.SharedParts.{SharedParts}
use Rattle.build.specs.declared.edge.rule.EdgeRule.{EdgeRule}
use Rattle.ninja.specs.Escapes.{path_text, value_rest_text, value_text}
use Rattle.ninja.specs.Parts.{bindings_text, end_text, own_bindings_text, own_build_text, shared_text}
use Rattle.ninja.specs.Steps.{bindings_steps, build_steps, end_steps, last_words_steps, own_bindings_steps, own_build_steps, paths_steps}
use Rattle.ninja.specs.Steps.{shared_steps, signed_paths_steps, spaced_path_steps}
use Rattle.ninja.specs.Words.{later_words_text, words_text}
use Rattle.ninja.specs.Writing.{build_line, edge_text, paths_text, rule_text, signed_paths_text, spaced_path_text}
use Rattle.ninja.proofs.EdgeTexts.{end_is, joined_is}
use Rattle.ninja.proofs.Puts.{join, puts-nil}
use Rattle.ninja.proofs.WordSteps.{last_words_is}

spaced_path_is : (p : List ℕ) → spaced_path_steps p ≡ puts (spaced_path_text p)
spaced_path_is p = join (codes " ") (path_text p) refl refl

pub paths_is : (ps : List (String Global)) → paths_steps ps ≡ puts (paths_text (texts ps))
paths_is [] = sym puts-nil
paths_is (p ∷ ps) = join (spaced_path_text (string_bytes p)) (paths_text (texts ps)) (spaced_path_is (string_bytes p)) (paths_is ps)

signed_is : (sign : List ℕ) (ps : List (String Global)) → signed_paths_steps sign ps ≡ puts (signed_paths_text sign (texts ps))
signed_is sign [] = sym puts-nil
signed_is sign (p ∷ ps) = join sign (paths_text (texts (p ∷ ps))) refl (paths_is (p ∷ ps))

-- ---- the block of an edge

build_is : (e : LentEdge) → build_steps e ≡ puts (build_line (lent_view e))
build_is e =
    join (codes "build") _ refl
    (join (paths_text (texts e.outputs.now)) _ (paths_is e.outputs.now)
    (join (codes ": ") _ refl
    (join (rule_text e.rule) _ refl
    (join (paths_text (texts e.inputs.now)) _ (paths_is e.inputs.now)
    (join (signed_paths_text (codes " |") (texts e.implicit.now)) (signed_paths_text (codes " ||") (texts e.order_only.now))
    (signed_is (codes " |") e.implicit.now) (signed_is (codes " ||") e.order_only.now))))))

end_puts : (depfile : Option (List ℕ)) → end_steps depfile ≡ puts (end_text depfile)
end_puts None = refl
end_puts (Some path) = join (codes " DEPFILE = ") (value_text path ++ codes "\n\n") refl (join (value_text path) (codes "\n\n") refl refl)

bindings_are : (e : LentEdge) → bindings_steps e ≡ puts (bindings_text (lent_view e))
bindings_are e =
    join (codes "\n COMMAND = ") _ refl
    (join (value_text (words_text (lent_view e).words (lent_view e).redirect)) _ refl
    (join (codes "\n DESC = ") _ refl
    (join (value_text e.description.now) _ refl
    (join (codes "\n") (end_text (lent_view e).depfile) refl (end_puts (lent_view e).depfile)))))

block_is : (e : EdgeData) → build_line e ++ bindings_text e ≡ edge_text e
block_is e =
    ap (λ d. build_line e
    ++ (codes "\n COMMAND = "
    ++ (value_text (words_text e.words e.redirect) ++ (codes "\n DESC = " ++ (value_text e.description ++ (codes "\n" ++ d))))))
    (end_is e.depfile)

pub edge_is : (e : LentEdge) → build_steps e ++ bindings_steps e ≡ puts (edge_text (lent_view e))
edge_is e =
    join (build_line (lent_view e)) (bindings_text (lent_view e)) (build_is e) (bindings_are e) ∙ ap puts (block_is (lent_view e))

-- ---- edges that share parts

own_build_is : (s : SharedParts) (o : OwnParts) → own_build_steps s o ≡ puts (own_build_text s.rule (own_view o))
own_build_is s o =
    join (codes "build") _ refl
    (join (spaced_path_text o.output.now) _ (spaced_path_is o.output.now)
    (join (codes ": ") _ refl
    (join (rule_text s.rule) (spaced_path_text o.input.now) refl (spaced_path_is o.input.now))))

shared_is : (s : SharedParts) → shared_steps s ≡ puts (shared_text (texts s.order_only.now) (texts s.words.now))
shared_is s =
    join (signed_paths_text (codes " ||") (texts s.order_only.now)) _ (signed_is (codes " ||") s.order_only.now)
    (join (codes "\n COMMAND = ") (value_text (words_text (texts s.words.now) None)) refl refl)

own_bindings_are : (o : OwnParts) → own_bindings_steps o ≡ puts (own_bindings_text (own_view o))
own_bindings_are o =
    join (value_rest_text (later_words_text (own_view o).words)) _ (last_words_is o.words.now)
    (join (codes "\n DESC = ") _ refl
    (join (value_text o.description.now) _ refl
    (join (codes "\n DEPFILE = ") _ refl
    (join (value_text o.depfile.now) (codes "\n\n") refl refl))))

joined_texts : (rule : EdgeRule) (order_only words : List (List ℕ)) (own : OwnData) → is_some_list words ≡ true
    → own_build_text rule own ++ (shared_text order_only words ++ own_bindings_text own)
    ≡ edge_text (edge_of_parts (record { rule = rule; order_only = order_only; words = words }) own)
joined_texts rule order_only [] own h = absurd cc
joined_texts rule order_only (w ∷ ws) own h = joined_is rule order_only w ws own

pub joined_block_is : (s : SharedParts) (o : OwnParts) → is_some_list (texts s.words.now) ≡ true
    → own_build_steps s o ++ (shared_steps s ++ own_bindings_steps o) ≡ puts (edge_text (edge_of_parts (shared_view s) (own_view o)))
joined_block_is s o h =
    let shared = shared_text (texts s.order_only.now) (texts s.words.now) in
    join (own_build_text s.rule (own_view o)) (shared ++ own_bindings_text (own_view o)) (own_build_is s o)
    (join shared (own_bindings_text (own_view o)) (shared_is s) (own_bindings_are o))
    ∙ ap puts (joined_texts s.rule (texts s.order_only.now) (texts s.words.now) (own_view o) h)
