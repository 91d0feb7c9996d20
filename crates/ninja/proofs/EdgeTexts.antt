-- The text of edges in the pieces in which it is made.
use Rattle.std.proofs.Common.{◌≡◌, ℕ, List, [], ◌∷◌, ◌++◌, Option, Some, None, codes, refl, sym}
use Rattle.std.proofs.Common.{ap, ◌∙◌, append_assoc, append-nil}
use Rattle.build.specs.edge.Parts.{OwnData, edge_of_parts}
use Rattle.build.specs.declared.edge.rule.EdgeRule.{EdgeRule}
use Rattle.ninja.specs.Escapes.{value_rest_text, value_text}
use Rattle.ninja.specs.Words.{later_words_text, words_text}
use Rattle.ninja.specs.Writing.{spaced_path_text, paths_text, signed_paths_text, rule_text, build_line, depfile_line, edge_text}
use Rattle.ninja.specs.Writing.{tail_text}
use Rattle.ninja.specs.Parts.{end_text, shared_text, own_build_text, own_bindings_text}
use Rattle.ninja.proofs.WordTexts.{words_more}

pub end_is : (depfile : Option (List ℕ)) → end_text depfile ≡ depfile_line depfile (10 ∷ [])
end_is None = refl
end_is (Some path) = refl

-- ---- edges that share parts

shape : (a o c r i s k f t d : List ℕ)
    → (a ++ (o ++ (c ++ (r ++ i)))) ++ ((s ++ (k ++ f)) ++ (t ++ d)) ≡ (a ++ ((o ++ []) ++ (c ++ (r ++ ((i ++ []) ++ s))))) ++ (k ++ ((f ++ t) ++ d))
shape a o c r i s k f t d = simp (append_assoc, append-nil)

pub joined_is : (rule : EdgeRule) (order_only : List (List ℕ)) (w : List ℕ) (ws : List (List ℕ)) (own : OwnData)
    → own_build_text rule own ++ (shared_text order_only (w ∷ ws) ++ own_bindings_text own) ≡ edge_text (edge_of_parts (record { rule = rule; order_only = order_only; words = w ∷ ws }) own)
joined_is rule order_only w ws own =
    let e = edge_of_parts (record { rule = rule; order_only = order_only; words = w ∷ ws }) own in
    let rest = codes "\n DESC = " ++ (value_text own.description ++ (codes "\n DEPFILE = " ++ (value_text own.depfile ++ codes "\n\n"))) in
    shape (codes "build") (spaced_path_text own.output) (codes ": ") (rule_text rule) (spaced_path_text own.input) (signed_paths_text (codes " ||") order_only)
    (codes "\n COMMAND = ") (value_text (words_text (w ∷ ws) None)) (value_rest_text (later_words_text own.words)) rest
    ∙ ap (λ command. build_line e ++ (codes "\n COMMAND = " ++ (command ++ rest))) (sym (words_more w ws own.words))

-- ---- the tail

pub tail_is : (names : List (List ℕ)) → codes "build all: phony" ++ (paths_text names ++ codes "\n\ndefault all\n") ≡ tail_text names
tail_is names = ap (λ ps. codes "build all: phony" ++ (ps ++ codes "\n\ndefault all\n")) (sym (append-nil (paths_text names)))
