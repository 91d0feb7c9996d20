-- Of a machine file only the sections of options give options values.
use Rattle.std.proofs.Common.{◌≡◌, List, [], ◌∷◌, ◌++◌, ◌||◌, Bool, true, false, bytes_eq, codes, refl, sym, ap, ◌∙◌}
use Rattle.std.specs.Prelude.{if◌then◌else◌}
use Rattle.std.specs.List.{flat_map}
use Rattle.machine_file.specs.Files.{Section}
use Rattle.machine_file.specs.Questions.{gives_options, options_at}
use Rattle.options.specs.option_file.Declarations.{Declaration}
use Rattle.options.specs.Verdicts.{Verdict, of_section}

-- a section of another name gives none
none_given : (ds : List Declaration) (s : Section) (b c : Bool) → bytes_eq s.name (codes "built-in options") ≡ b → bytes_eq s.name (codes "project options") ≡ c
    → (b || (c || false)) ≡ false → of_section ds s ≡ []
unfolding of_section
none_given ds s true c e f h = cc
none_given ds s false true e f h = cc
none_given ds s false false e f h = cc

given_by : (ds : List Declaration) (s : Section) (ss : List Section) (b : Bool) → gives_options s.name ≡ b → flat_map (of_section ds) (options_at ss) ≡ flat_map (of_section ds) ss
    → flat_map (of_section ds) (if b then s ∷ options_at ss else options_at ss) ≡ of_section ds s ++ flat_map (of_section ds) ss
given_by ds s ss true e h = ap (λ vs. of_section ds s ++ vs) h
given_by ds s ss false e h =
    let none = none_given ds s (bytes_eq s.name (codes "built-in options")) (bytes_eq s.name (codes "project options")) refl refl e in
    h ∙ ap (λ (vs : List Verdict). vs ++ flat_map (of_section ds) ss) (sym none)

pub of_options : (ds : List Declaration) (sections : List Section) → flat_map (of_section ds) (options_at sections) ≡ flat_map (of_section ds) sections
of_options ds [] = refl
of_options ds (s ∷ ss) = given_by ds s ss (gives_options s.name) refl (of_options ds ss)
