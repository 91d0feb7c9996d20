-- Words that are put piece by piece: their text.
use Rattle.std.proofs.Common.{◌≡◌, ℕ, List, [], ◌∷◌, ◌++◌, Option, Some, None, String, Global, Bor, codes, map, string_bytes, refl, sym, ap, ◌∙◌}
use Rattle.std.specs.List.{flat_map}
use Rattle.std.proofs.lemmas.List.Concat.{flat_map-append}
use Rattle.ports.specs.Outputs.{puts}
use Rattle.build.specs.edge.Texts.{texts}
use Rattle.ninja.specs.Escapes.{value_byte_text, value_rest_text}
use Rattle.ninja.specs.Places.{byte_text}
use Rattle.ninja.specs.Words.{first_word_text, later_word_text, later_words_text, lone_redirect_text, single_quoted_word, redirect_text, word_text}
use Rattle.ninja.specs.Steps.{last_words_steps, later_word_steps, later_words_steps, lone_redirect_steps, quoted_steps, redirect_steps}
use Rattle.ninja.specs.Steps.{words_steps}
use Rattle.ninja.specs.declared.escapes.EscapeMode.TheVariants.{InQuotes}
use Rattle.ninja.proofs.Puts.{join, puts-append, puts-nil}
use Rattle.ninja.proofs.WordTexts.{quoted_value}

pub quoted_is : (w : List ℕ) → quoted_steps w ≡ puts (value_rest_text (single_quoted_word w))
quoted_is w =
    let inside = flat_map (byte_text InQuotes) w in
    join (codes "'") (inside ++ codes "'") refl (join inside (codes "'") refl refl) ∙ ap puts (sym (quoted_value w))

later_word_is : (w : List ℕ) → later_word_steps w ≡ puts (value_rest_text (later_word_text w))
later_word_is w = join (codes " ") (value_rest_text (word_text w)) refl refl

pub later_words_is : (ws : List (String Global)) → later_words_steps ws ≡ puts (value_rest_text (later_words_text (texts ws)))
later_words_is [] = sym puts-nil
later_words_is (w ∷ ws) =
    let one = later_word_text (string_bytes w) in
    let rest = later_words_text (texts ws) in
    join (value_rest_text one) (value_rest_text rest) (later_word_is (string_bytes w)) (later_words_is ws)
    ∙ ap puts (sym (flat_map-append value_byte_text one rest))

pub last_words_is : (ws : List (Bor (List ℕ))) → last_words_steps ws ≡ puts (value_rest_text (later_words_text (map (λ (w : Bor (List ℕ)). w.now) ws)))
last_words_is [] = sym puts-nil
last_words_is (w ∷ ws) =
    let one = later_word_text w.now in
    let rest = later_words_text (map (λ (v : Bor (List ℕ)). v.now) ws) in
    join (value_rest_text one) (value_rest_text rest) (later_word_is w.now) (last_words_is ws)
    ∙ ap puts (sym (flat_map-append value_byte_text one rest))

redirect_is : (file : Option (List ℕ)) → redirect_steps file ≡ puts (value_rest_text (redirect_text file))
redirect_is None = sym puts-nil
redirect_is (Some name) = join (codes " > ") (value_rest_text (word_text name)) refl refl

pub lone_redirect_is : (file : Option (List ℕ)) → lone_redirect_steps file ≡ puts (value_rest_text (lone_redirect_text file))
lone_redirect_is None = sym puts-nil
lone_redirect_is (Some name) = join (codes "> ") (value_rest_text (word_text name)) refl refl

pub words_is : (first : List ℕ) (later : List (String Global)) (file : Option (List ℕ))
    → words_steps first later file
    ≡ puts (value_rest_text (first_word_text first) ++ (value_rest_text (later_words_text (texts later)) ++ value_rest_text (redirect_text file)))
words_is first later file =
    let later_text = value_rest_text (later_words_text (texts later)) in
    let file_text = value_rest_text (redirect_text file) in
    join (value_rest_text (first_word_text first)) (later_text ++ file_text) refl (join later_text file_text (later_words_is later) (redirect_is file))
