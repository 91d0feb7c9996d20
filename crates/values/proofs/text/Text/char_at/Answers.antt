use Rattle.std.proofs.Common.{◌≡◌, ℕ, Option, Some, None, option_map, refl, ap, slice_get, ◌∙◌}
use Rattle.std.specs.Str.{chars}
use Rattle.std.proofs.lemmas.Iterator.{YieldsList-from_chars}
use Rattle.std.proofs.lemmas.Iterator.Consumers.{nth_from_yields_List}
use Rattle.values.proofs.text.Text.char_at.Goals as goal

option_map_same : (o : Option ℕ) → o ≡ option_map (λ c. c) o
option_map_same None = refl
option_map_same (Some c) = refl

pub returns-then-is_ascii : goal.returns-then-is_ascii
returns-then-is_ascii c = c.ascii_char_at.ensures ∙ ap (λ t. slice_get (chars t) c.args.at) c.as_str-text.ensures.text

pub returns : goal.returns
returns c =
    option_map_same c.nth.result
    ∙ nth_from_yields_List c.nth.result c.nth.new.self c.args.at c.nth.ensures.ran (YieldsList-from_chars c.as_str-text.result.now c.as_str-text.utf8 c.chars.ensures.rest)
    ∙ ap (λ t. slice_get (chars t) c.args.at) c.as_str-text.ensures.text
