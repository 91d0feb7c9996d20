-- Each value that a place sets is one of its option's type.
use Rattle.std.proofs.Common.{◌≡◌, ℕ, ◌+◌, Bool, true, List, [], ◌∷◌, ◌++◌, map, Option, Some, None, refl, sym, ap, ◌∙◌}
use Rattle.std.proofs.Common.{append_assoc}
use Rattle.std.specs.List.{list_all, flat_map}
use Rattle.syntax.specs.lexer.Bytes.{equals}
use Rattle.machine_file.specs.Files as machine
use Rattle.machine_file.specs.Texts.{Parts, cut_first}
use Rattle.machine_file.specs.Values as written
use Rattle.option_values.specs.Given.{value_of_given}
use Rattle.option_values.specs.Kinds.{Kind}
use Rattle.option_values.specs.Values.{Value}
use Rattle.options.specs.option_file.Declarations.{Declaration}
use Rattle.options.specs.option_file.Lookups.{is_new, are_new_after, are_new}
use Rattle.options.specs.declared.fault.Origin.{Origin}
use Rattle.options.specs.declared.fault.Origin.TheVariants.{Declared, Project, MachineFile, CommandLine}
use Rattle.options.specs.declared.known_options.OptionScope.{OptionScope}
use Rattle.options.specs.declared.known_options.OptionScope.TheVariants.{BuiltIn, OfProject}
use Rattle.options.specs.Defaults.{default_of}
use Rattle.options.specs.Misfits.{MisfitData}
use Rattle.options.specs.Laws.{fits_known, has_fitting}
use Rattle.options.specs.Resolves.{verdicts}
use Rattle.options.specs.Verdicts.{Verdict, Sets, Warns, Refuses, Default, Assignment, Entry, of_declaration, of_default, of_named, of_kind}
use Rattle.options.specs.Verdicts.{of_value, misfit_of, unknown_at, of_parts, of_assignment, of_project_default, of_words, kind_in_scope}
use Rattle.options.specs.Verdicts.{scope_of, of_entry, of_entries, of_section, kind_named}
use Rattle.options.proofs.Bools.{both, first, second, all_append, all_map, all_flat_map}
use Rattle.options.proofs.Fitting.{maybe_fits, given_fits, default_fits}
use Rattle.options.proofs.KnownKinds.{declared_known, built_in_is_known, declared_is_known}

abbrev pub verdict_fits : List Declaration → Verdict → Bool
verdict_fits ds (Sets s) = has_fitting ds s
verdict_fits ds (Warns name) = true
verdict_fits ds (Refuses fault) = true

-- ---- declarations

default_cases : (ds : List Declaration) (d : Declaration) (o : Option Value) → kind_named ds d.name ≡ Some d.kind
    → maybe_fits d.kind o ≡ true
    → verdict_fits ds (of_default d o) ≡ true
default_cases ds d None k e = refl
default_cases ds d (Some v) k e = ap (λ (o : Option Kind). fits_known o v) k ∙ e

declaration_fits : (ds : List Declaration) (d : Declaration) → kind_named ds d.name ≡ Some d.kind
    → verdict_fits ds (of_declaration d) ≡ true
unfolding of_declaration
declaration_fits ds d k = default_cases ds d (default_of d) k (default_fits d)

declarations_fit : (before ds : List Declaration) → are_new_after before ds ≡ true
    → list_all (verdict_fits (before ++ ds)) (map of_declaration ds) ≡ true
declarations_fit before [] e = refl
declarations_fit before (d ∷ ds) e =
    both (verdict_fits (before ++ d ∷ ds) (of_declaration d)) (list_all (verdict_fits (before ++ d ∷ ds)) (map of_declaration ds))
    (declaration_fits (before ++ d ∷ ds) d (declared_known before ds d (first (is_new d.name before) _ e)))
    (ap (λ (all : List Declaration). list_all (verdict_fits all) (map of_declaration ds)) (sym (append_assoc before (d ∷ []) ds))
    ∙ declarations_fit (before ++ d ∷ []) ds (second (is_new d.name before) _ e))

-- ---- what a place gives

value_cases : (ds : List Declaration) (place : Origin) (name : List ℕ) (r : MisfitData) (k : Kind) (o : Option Value)
    → kind_named ds name ≡ Some k
    → maybe_fits k o ≡ true → verdict_fits ds (of_value place name r o) ≡ true
value_cases ds place name r k None known e = refl
value_cases ds place name r k (Some v) known e = ap (λ (x : Option Kind). fits_known x v) known ∙ e

kind_given : (ds : List Declaration) (place : Origin) (name : List ℕ) (what : written.Value) (k : Kind) → kind_named ds name ≡ Some k
    → verdict_fits ds (of_kind place name what k) ≡ true
unfolding of_kind
kind_given ds place name what k known = value_cases ds place name (misfit_of name k what) k (value_of_given k what) known (given_fits k what)

unknown_fits : (ds : List Declaration) (place : Origin) (name : List ℕ) → verdict_fits ds (unknown_at place name) ≡ true
unknown_fits ds (Declared line) name = refl
unknown_fits ds Project name = refl
unknown_fits ds (MachineFile line) name = refl
unknown_fits ds (CommandLine number) name = refl

named_fits : (ds : List Declaration) (place : Origin) (name : List ℕ) (what : written.Value) (o : Option Kind)
    → ((k : Kind) → o ≡ Some k → kind_named ds name ≡ Some k) → verdict_fits ds (of_named place name what o) ≡ true
named_fits ds place name what None h = unknown_fits ds place name
named_fits ds place name what (Some k) h = kind_given ds place name what k (h k refl)

parts_fit : (ds : List Declaration) (place : Origin) (text : List ℕ) (o : Option Parts) → verdict_fits ds (of_parts ds place text o) ≡ true
parts_fit ds place text None = refl
parts_fit ds place text (Some parts) = named_fits ds place parts.0 (written.Text parts.1) (kind_named ds parts.0) (λ k e. e)

assignment_fits : (ds : List Declaration) (place : Origin) (text : List ℕ) → verdict_fits ds (of_assignment ds place text) ≡ true
unfolding of_assignment
assignment_fits ds place text = parts_fit ds place text (cut_first equals text)

project_default_fits : (ds : List Declaration) (d : Default) → verdict_fits ds (of_project_default ds d) ≡ true
unfolding of_project_default
project_default_fits ds (Assignment text) = assignment_fits ds Project text
project_default_fits ds (Entry name value) = named_fits ds Project name (written.Text value) (kind_named ds name) (λ k e. e)

known_in_scope : (ds : List Declaration) (scope : OptionScope) (name : List ℕ) (k : Kind) → are_new ds ≡ true
    → kind_in_scope scope ds name ≡ Some k
    → kind_named ds name ≡ Some k
known_in_scope ds BuiltIn name k new e = built_in_is_known ds name k e
known_in_scope ds OfProject name k new e = declared_is_known ds name k new e

entry_fits : (ds : List Declaration) (scope : OptionScope) → are_new ds ≡ true → (e : machine.Entry)
    → verdict_fits ds (of_entry ds scope e) ≡ true
unfolding of_entry
entry_fits ds scope new e = named_fits ds (MachineFile e.line) e.key e.value (kind_in_scope scope ds e.key)
    (λ k is. known_in_scope ds scope e.key k new is)

entries_fit : (ds : List Declaration) (es : List machine.Entry) (o : Option OptionScope) → are_new ds ≡ true
    → list_all (verdict_fits ds) (of_entries ds es o) ≡ true
entries_fit ds es None new = refl
entries_fit ds es (Some scope) new = all_map (verdict_fits ds) (of_entry ds scope) es (entry_fits ds scope new)

section_fits : (ds : List Declaration) → are_new ds ≡ true → (s : machine.Section) → list_all (verdict_fits ds) (of_section ds s) ≡ true
unfolding of_section
section_fits ds new s = entries_fit ds s.entries (scope_of s.name) new

words_fit : (ds : List Declaration) (n : ℕ) (words : List (List ℕ)) → list_all (verdict_fits ds) (of_words ds n words) ≡ true
unfolding of_words
words_fit ds n [] = refl
words_fit ds n (word ∷ words) =
    both (verdict_fits ds (of_assignment ds (CommandLine n) word)) (list_all (verdict_fits ds) (of_words ds (n + 1) words))
    (assignment_fits ds (CommandLine n) word) (words_fit ds (n + 1) words)

-- all behind the declarations
pub others_fit : (ds : List Declaration) (defaults : List Default) (sections : List machine.Section) (words : List (List ℕ))
    → are_new ds ≡ true
    → list_all (verdict_fits ds) (map (of_project_default ds) defaults ++ (flat_map (of_section ds) sections ++ of_words ds 1 words)) ≡ true
others_fit ds defaults sections words new =
    all_append (verdict_fits ds) (map (of_project_default ds) defaults) (flat_map (of_section ds) sections ++ of_words ds 1 words)
    (all_map (verdict_fits ds) (of_project_default ds) defaults (project_default_fits ds))
    (all_append (verdict_fits ds) (flat_map (of_section ds) sections) (of_words ds 1 words)
    (all_flat_map (verdict_fits ds) (of_section ds) sections (section_fits ds new)) (words_fit ds 1 words))

pub verdicts_fit : (ds : List Declaration) (defaults : List Default) (sections : List machine.Section) (words : List (List ℕ))
    → are_new ds ≡ true
    → list_all (verdict_fits ds) (verdicts ds defaults sections words) ≡ true
verdicts_fit ds defaults sections words new =
    all_append (verdict_fits ds) (map of_declaration ds) _ (declarations_fit [] ds new) (others_fit ds defaults sections words new)
