use Rattle.std.proofs.Common.{◌≡◌, [], map, drop, string_bytes}
use Rattle.sources.specs.HolesView.{place_view}
use Rattle.sources.specs.Holes.{filled_text}
use Rattle.sources.specs.declared.placeholders.PlaceholderScope.TheVariants.{FileName}
use Rattle.arguments.specs.Each.{each_behind}
use Rattle.target_calls.proofs.custom.names_in.Given as goal

-- the names so far and the texts that are left decide
abbrev pub invariant-loop-text : goal.invariant-loop-text
invariant-loop-text l =
    each_behind (filled_text FileName (place_view l.place)) (map string_bytes l.names.items) (map (λ t. t.now) (drop l.text-index l.texts))
    ≡ each_behind (filled_text FileName (place_view l.place)) [] (map (λ t. t.now) l.texts)
