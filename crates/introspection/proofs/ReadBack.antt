-- The document is read from its text.
use Rattle.std.proofs.Common.{◌≡◌, ◌≤◌, ◌<◌, suc, Bool, List, [], ◌∷◌, ◌++◌, map, Some, codes, refl, sym, ap, ap₂, ◌∙◌, arith, append-nil}
use Rattle.std.specs.Prelude.{ℤ, pos, negsuc, ◌^◌, FitsSigned, max, option_and_then, option_map}
use Rattle.std.specs.Int.{w64}
use Rattle.json.specs.Lex.{tokens}
use Rattle.json.specs.Json as json
use Rattle.json.specs.Tree as tree
use Rattle.json.specs.Tree.{ItemsHaveNumbers, json_tokens}
use Rattle.json.proofs.Printed.Decimals.{IsNumber-decimal, IsNumber-signed_decimal}
use Rattle.json.proofs.Printed.Tokens.{tokens-print}
use Rattle.json.proofs.Printed.Trees.{value-json_tokens, ArePrintable-json_tokens}
use Rattle.build.specs.edge.Texts.{Text}
use Rattle.serde_json.specs.Data.{Data, null, boolean, number, string, array, object, Items, no_items, item, Members, no_members, member}
use Rattle.serde_json.specs.Data.{depth, items_depth, members_depth}
use Rattle.serde_json.specs.Find.{of_integer}
use Rattle.serde_json.specs.Read.{max_depth, of_items, of_json, read}
use Rattle.serde_json.specs.View.{items_of}
use Rattle.serde_json.specs.Written.{compact_text, outline, items_outline, members_outline}
use Rattle.serde_json.proofs.Numbers.{number_of-decimal, number_of-negative}
use Rattle.serde_json.proofs.Texts.{print-outline}
use Rattle.build.specs.Data.{FactsData, OptionEntryData, TargetData, Build, Custom}
use Rattle.build.specs.Files.{file_path, output_paths}
use Rattle.build.specs.project.World.{AnswerData, TestData}
use Rattle.introspection.specs.Document.{definition_file, dependency_entry, fields, kind_name, list, option_entry, option_value, project_entry}
use Rattle.introspection.specs.Document.{strings, target_entry, test_entry, type_name}
use Rattle.introspection.specs.Sending.{Reads}

-- ---- a text of just a value's tokens

mutual
  outline_depth : (d : Data) → tree.depth (outline d) ≡ depth d
  outline_depth null = refl
  outline_depth (boolean b) = refl
  outline_depth (number n) = refl
  outline_depth (string s) = refl
  outline_depth (array ds) = ap suc (items_outline_depth ds)
  outline_depth (object ms) = ap suc (members_outline_depth ms)

  items_outline_depth : (ds : Items) → tree.items_depth (items_outline ds) ≡ items_depth ds
  items_outline_depth no_items = refl
  items_outline_depth (item d ds) = ap₂ max (outline_depth d) (items_outline_depth ds)

  members_outline_depth : (ms : Members) → tree.members_depth (members_outline ms) ≡ members_depth ms
  members_outline_depth no_members = refl
  members_outline_depth (member k d ms) = ap₂ max (outline_depth d) (members_outline_depth ms)

read_tokens : (d : Data) (text : Text) → tokens text ≡ json_tokens (outline d) → depth d ≤ max_depth → read text ≡ of_json (outline d)
read_tokens d text same shallow =
    ap (λ r. option_and_then of_json (option_and_then (λ p. json.if_last p.0 p.1) r))
    (ap (json.value max_depth) (same ∙ sym (append-nil (json_tokens (outline d)))) ∙ value-json_tokens (outline d) max_depth [] (omega (arith, outline_depth d)))

-- ---- what has no number

pub reads_string : (s : Text) → Reads (string s)
reads_string s = record { value = refl; numbers = tt }

pub reads_boolean : (b : Bool) → Reads (boolean b)
reads_boolean b = record { value = refl; numbers = tt }

items_read : {X : Type 0} (show : X → Data) (xs : List X) → ((x : X) → Reads (show x))
    → (of_items (items_outline (items_of (map show xs))) ≡ Some (items_of (map show xs))) × ItemsHaveNumbers (items_outline (items_of (map show xs)))
items_read show [] h = (refl, tt)
items_read show (x ∷ xs) h =
    let rest = items_read show xs h in
    (rw ((h x).value, rest.0) refl, ((h x).numbers, rest.1))

reads_list : {X : Type 0} (show : X → Data) (xs : List X) → ((x : X) → Reads (show x)) → Reads (list (map show xs))
reads_list show xs h =
    let all = items_read show xs h in
    record { value = rw all.0 refl; numbers = all.1 }

pub reads_strings : (ts : List Text) → Reads (strings ts)
reads_strings ts = reads_list string ts reads_string

-- ---- numbers

pub reads_integer : (z : ℤ) → FitsSigned w64 z → Reads (number (of_integer z))
reads_integer (pos n) fits =
    let small : n < 2 ^ 64 = grind arith in
    record { value = ap (option_map number) (number_of-decimal n small); numbers = IsNumber-decimal n small }
reads_integer (negsuc n) fits =
    let small : n < 2 ^ 63 = grind arith in
    record { value = ap (option_map number) (number_of-negative n small); numbers = IsNumber-signed_decimal (negsuc n) fits.sfits }

-- ---- entries

option_read : (name kind : Text) (value : Data) → Reads value
    → Reads (fields ((codes "name", string name) ∷ (codes "type", string kind) ∷ (codes "value", value) ∷ []))
option_read name kind value h = record { value = rw h.value refl; numbers = (tt, (tt, (h.numbers, tt))) }

pub reads_option : (o : OptionEntryData) → Reads (option_value o.value) → Reads (option_entry o)
reads_option o h = option_read o.name (type_name o.kind) (option_value o.value) h

dependency_read : (is_found : Bool) (name version : Text)
    → Reads (fields ((codes "found", boolean is_found) ∷ (codes "name", string name) ∷ (codes "version", string version) ∷ []))
dependency_read is_found name version = record { value = refl; numbers = (tt, (tt, (tt, tt))) }

pub reads_dependency : (a : AnswerData) → Reads (dependency_entry a)
reads_dependency a = dependency_read a.is_found a.name a.version

test_read : (command environment : Data) (name : Text) (should_fail : Bool) (suites timeout : Data)
    → Reads command → Reads environment → Reads suites → Reads timeout
    → Reads (fields ((codes "cmd", command)
    ∷ (codes "env", environment)
    ∷ (codes "name", string name)
    ∷ (codes "should_fail", boolean should_fail)
    ∷ (codes "suite", suites)
    ∷ (codes "timeout", timeout)
    ∷ []))
test_read command environment name should_fail suites timeout a b c d = record {
  value = rw (a.value, b.value, c.value, d.value) refl;
  numbers = (a.numbers, (b.numbers, (tt, (tt, (c.numbers, (d.numbers, tt))))));
}

pub reads_test : (t : TestData) → Reads (number (of_integer t.timeout)) → Reads (test_entry t)
reads_test t h =
    test_read (strings t.command) (strings t.environment) t.name t.should_fail (strings t.suites) (number (of_integer t.timeout))
    (reads_strings t.command) (reads_strings t.environment) (reads_strings t.suites) h

info_read : (license : Data) (name version : Text) → Reads license
    → Reads (fields ((codes "license", license) ∷ (codes "name", string name) ∷ (codes "version", string version) ∷ []))
info_read license name version h = record { value = rw h.value refl; numbers = (h.numbers, (tt, (tt, tt))) }

pub reads_info : (f : FactsData) → Reads (project_entry f)
reads_info f = info_read (strings f.license) f.name f.version (reads_strings f.license)

entry_read : (is_default : Bool) (defined_in : Text) (files : Data) (is_installed : Bool) (name kind : Text) → Reads files
    → Reads (fields ((codes "build_by_default", boolean is_default)
    ∷ (codes "defined_in", string defined_in)
    ∷ (codes "filename", files)
    ∷ (codes "installed", boolean is_installed)
    ∷ (codes "name", string name)
    ∷ (codes "type", string kind)
    ∷ []))
entry_read is_default defined_in files is_installed name kind h =
    record { value = rw h.value refl; numbers = (tt, (tt, (h.numbers, (tt, (tt, (tt, tt)))))) }

pub reads_target : (t : TargetData) → Reads (target_entry t)
reads_target (Build t) =
    entry_read t.is_default (definition_file t.folder) (strings (file_path t ∷ [])) t.is_installed t.name (kind_name t.kind) (reads_strings (file_path t ∷ []))
reads_target (Custom t) =
    entry_read t.is_default (definition_file t.folder) (strings (output_paths t)) t.is_installed t.name (codes "custom") (reads_strings (output_paths t))

pub reads_two : (absent present : Data) → Reads absent → Reads present → Reads (fields ((codes "absent", absent) ∷ (codes "present", present) ∷ []))
reads_two absent present h k = record { value = rw (h.value, k.value) refl; numbers = (h.numbers, (k.numbers, tt)) }

-- ---- the whole

pub reads_seven : (options files dependencies installed info made tests : Data)
    → Reads options → Reads files → Reads dependencies → Reads installed → Reads info → Reads made → Reads tests
    → Reads (fields ((codes "buildoptions", options)
    ∷ (codes "buildsystem_files", files)
    ∷ (codes "dependencies", dependencies)
    ∷ (codes "installed", installed)
    ∷ (codes "projectinfo", info)
    ∷ (codes "targets", made)
    ∷ (codes "tests", tests)
    ∷ []))
reads_seven options files dependencies installed info made tests a b c d e f g = record {
  value = rw (a.value, b.value, c.value, d.value, e.value, f.value, g.value) refl;
  numbers = (a.numbers, (b.numbers, (c.numbers, (d.numbers, (e.numbers, (f.numbers, (g.numbers, tt)))))));
}

-- the compact text of such a value is read as it
pub text_read : (d : Data) → Reads d → depth d ≤ max_depth → read (compact_text d) ≡ Some d
text_read d r shallow =
    let same = ap tokens (sym (print-outline d)) ∙ tokens-print (json_tokens (outline d)) (ArePrintable-json_tokens (outline d) r.numbers) in
    read_tokens d (compact_text d) same shallow ∙ r.value
