-- Options whose names are new.
use Rattle.std.proofs.Common.{◌≡◌, ℕ, zero, suc, Bool, true, false, List, [], ◌∷◌, ◌++◌, Option, Some, None, Ok, Err}
use Rattle.std.proofs.Common.{refl, sym, ap, ◌∙◌, append_assoc}
use Rattle.std.specs.Prelude.{◌||◌, ◌&&◌, not, bytes_eq, codes, if◌then◌else◌, slice_get}
use Rattle.std.proofs.lemmas.Slice.Eq.{bytes_eq-Decides}
use Rattle.std.specs.Option.{option_map, option_and_then}
use Rattle.options.specs.option_file.Misfits.{RefusedData, NoCall, refused_as}
use Rattle.syntax.specs.ExpressionTree.{ExpressionTree, ArgumentTrees, NoArgument, MoreArguments, FunctionTree}
use Rattle.syntax.specs.Tree.{StatementTree, ValueTree}
use Rattle.option_values.specs.BuiltIns.{is_built_in}
use Rattle.option_values.specs.Kinds.{Kind}
use Rattle.options.specs.option_file.Calls.{gives_twice, gives_left_out, is_free_name, name_in, with_name, keywords_from, option_of}
use Rattle.options.specs.option_file.Calls.{or_fault}
use Rattle.options.specs.option_file.Calls.{call_declares}
use Rattle.options.specs.option_file.Declarations.{Declaration}
use Rattle.options.specs.option_file.Declares.{expression_declares, statement_declares}
use Rattle.options.specs.option_file.Given.{Given, Text, given_of_argument}
use Rattle.options.specs.option_file.Keywords.{Keywords, nothing_given, asked_by}
use Rattle.options.specs.option_file.Lookups.{is_used, is_new, are_new_after, option_named}
use Rattle.options.specs.option_file.Names.{is_option_name}

both : (a b : Bool) → a ≡ true → b ≡ true → (a && b) ≡ true
both true b e f = f
both false b e f = absurd cc

first : (a b : Bool) → (a && b) ≡ true → a ≡ true
first true b e = refl
first false b e = absurd cc

second : (a b : Bool) → (a && b) ≡ true → b ≡ true
second true b e = e
second false b e = absurd cc

-- one more behind the others
pub one_more : (before ds : List Declaration) (d : Declaration) → are_new_after before ds ≡ true → is_new d.name (before ++ ds) ≡ true
    → are_new_after before (ds ++ d ∷ []) ≡ true
one_more before [] d e new = both (is_new d.name before) true (ap (λ (xs : List Declaration). is_new d.name xs) (sym (append_nil before))
    ∙ new) refl
  where
    append_nil : (xs : List Declaration) → xs ++ [] ≡ xs
    append_nil [] = refl
    append_nil (x ∷ xs) = ap (λ (ys : List Declaration). x ∷ ys) (append_nil xs)
one_more before (x ∷ ds) d e new =
    both (is_new x.name before) (are_new_after (before ++ x ∷ []) (ds ++ d ∷ [])) (first (is_new x.name before) _ e)
    (one_more (before ++ x ∷ []) ds d (second (is_new x.name before) _ e)
    (ap (λ (xs : List Declaration). is_new d.name xs) (append_assoc before (x ∷ []) ds) ∙ new))

-- ---- what a statement declares has a name that is not built in

not_built_in : (a b : Bool) → (a && not b) ≡ true → b ≡ false
not_built_in true true e = absurd cc
not_built_in true false e = refl
not_built_in false b e = absurd cc

free : (b : Bool) (name n : List ℕ) → is_free_name name ≡ b → (if b then Some name else None) ≡ Some n → is_built_in n ≡ false
free true name n f e = let same : name ≡ n = cc in ap is_built_in (sym same) ∙ not_built_in (is_option_name name) (is_built_in name) f
free false name n f e = absurd cc

free_name : (g : Option Given) (n : List ℕ) → name_in g ≡ Some n → is_built_in n ≡ false
free_name None n e = absurd cc
free_name (Some (Text name)) n e = free (is_free_name name) name n refl e
free_name (Some g) n e = absurd cc

named : (line : ℕ) (name : List ℕ) (k : Keywords) (d : Declaration) (o : Option (Kind × Option Given))
    → option_map (λ (a : Kind × Option Given). let r : Declaration = record { name = name; kind = a.0; value = a.1; line = line } in r) o
    ≡ Some d → name ≡ d.name
named line name k d None e = absurd cc
named line name k d (Some a) e = cc

with_keywords : (line : ℕ) (name : List ℕ) (o : Option Keywords) (d : Declaration) → option_and_then (with_name line name) o ≡ Some d
    → name ≡ d.name
with_keywords line name None d e = absurd cc
with_keywords line name (Some k) d e = named line name k d (asked_by k) e

of_name : (line : ℕ) (o : Option (List ℕ)) (k : Option Keywords) (d : Declaration)
    → ((n : List ℕ) → o ≡ Some n → is_built_in n ≡ false)
    → option_and_then (λ (name : List ℕ). option_and_then (with_name line name) k) o ≡ Some d → is_built_in d.name ≡ false
of_name line None k d h e = absurd cc
of_name line (Some name) k d h e = ap is_built_in (sym (with_keywords line name k d e)) ∙ h name refl

option_new : (line : ℕ) (arguments : ArgumentTrees) (d : Declaration) → option_of line arguments ≡ Some d → is_built_in d.name ≡ false
option_new line NoArgument d e = absurd cc
option_new line (MoreArguments None a more) d e = of_name line (name_in (given_of_argument a)) (keywords_from nothing_given more) d
    (free_name (given_of_argument a)) e
option_new line (MoreArguments (Some key) a more) d e = absurd cc

taken : (r : RefusedData) (o : Option Declaration) (d : Declaration) → or_fault r o ≡ Ok d → o ≡ Some d
taken r None d e = absurd cc
taken r (Some x) d e = cc

call_cases : (line : ℕ) (arguments : ArgumentTrees) (d : Declaration) (a b : Bool) (q r s : RefusedData)
    → (if a then Err q else (if b then Err r else or_fault s (option_of line arguments))) ≡ Ok d
    → is_built_in d.name ≡ false
call_cases line arguments d true b q r s e = absurd cc
call_cases line arguments d false true q r s e = absurd cc
call_cases line arguments d false false q r s e = option_new line arguments d (taken s (option_of line arguments) d e)

function_cases : (line : ℕ) (arguments : ArgumentTrees) (d : Declaration) (b : Bool)
    → (if b then call_declares line arguments else Err (refused_as NoCall)) ≡ Ok d → is_built_in d.name ≡ false
function_cases line arguments d true e = call_cases line arguments d (gives_twice [] arguments) (gives_left_out arguments) _ _ _ e
function_cases line arguments d false e = absurd cc

expression_new : (line : ℕ) (x : ExpressionTree) (d : Declaration) → expression_declares line x ≡ Ok d → is_built_in d.name ≡ false
expression_new line (FunctionTree name arguments own) d e = function_cases line arguments d (bytes_eq name (codes "option")) e
expression_new line _ d e = absurd cc

statement_new : (s : StatementTree) (d : Declaration) → statement_declares s ≡ Ok d → is_built_in d.name ≡ false
statement_new (ValueTree x line) d e = expression_new line x d e
statement_new _ d e = absurd cc

neither : (a b : Bool) → a ≡ false → b ≡ false → not (a || b) ≡ true
neither a b e f = ap (λ (x : Bool). not (x || b)) e ∙ ap not f

pub declared_new : (s : StatementTree) (d : Declaration) (options : List Declaration) → Ok d ≡ statement_declares s
    → is_used d.name options ≡ false
    → is_new d.name options ≡ true
declared_new s d options e u = neither (is_built_in d.name) (is_used d.name options) (statement_new s d (sym e)) u

pub not_used : (name : List ℕ) (options : List Declaration) → is_new name options ≡ true → is_used name options ≡ false
not_used name options e = unused (is_built_in name) (is_used name options) e
  where
    unused : (a b : Bool) → not (a || b) ≡ true → b ≡ false
    unused true b h = absurd cc
    unused false true h = absurd cc
    unused false false h = refl

-- ---- an option by its place

or_first : (a b : Bool) → (a || b) ≡ false → a ≡ false
or_first true b e = absurd cc
or_first false b e = refl

-- an option among these is none of those before them
unused_before : (before ds : List Declaration) (i : ℕ) (d : Declaration) → are_new_after before ds ≡ true → slice_get ds i ≡ Some d
    → is_used d.name before ≡ false
unused_before before [] i d new at = absurd cc
unused_before before (x ∷ ds) zero d new at =
    let same : x ≡ d = cc in
    ap (λ (y : Declaration). is_used y.name before) (sym same) ∙ not_used x.name before (first (is_new x.name before) _ new)
unused_before before (x ∷ ds) (suc i) d new at =
    front before (unused_before (before ++ x ∷ []) ds i d (second (is_new x.name before) _ new) at)
  where
    front : (xs : List Declaration) → is_used d.name (xs ++ x ∷ []) ≡ false → is_used d.name xs ≡ false
    front [] e = refl
    front (y ∷ ys) e = joined (bytes_eq d.name y.name) (is_used d.name (ys ++ x ∷ [])) (is_used d.name ys) (front ys) e
      where
        joined : (a b r : Bool) → (b ≡ false → r ≡ false) → (a || b) ≡ false → (a || r) ≡ false
        joined true b r h f = absurd cc
        joined false b r h f = h f

-- the option at a place has its name, and no one before it has
pub named_at : (before ds : List Declaration) (i : ℕ) (d : Declaration) → are_new_after before ds ≡ true → slice_get ds i ≡ Some d
    → option_named ds d.name ≡ Some d
named_at before [] i d new at = absurd cc
named_at before (x ∷ ds) zero d new at =
    let same : x ≡ d = cc in
    here (bytes_eq d.name x.name) ((bytes_eq-Decides d.name x.name).1 (ap (λ (y : Declaration). y.name) (sym same))) same
  where
    here : (b : Bool) → b ≡ true → x ≡ d → (if b then Some x else option_named ds d.name) ≡ Some d
    here true e same = ap (λ (y : Declaration). Some y) same
    here false e same = absurd cc
named_at before (x ∷ ds) (suc i) d new at =
    let rest = second (is_new x.name before) (are_new_after (before ++ x ∷ []) ds) new in
    behind (bytes_eq d.name x.name) (last before (unused_before (before ++ x ∷ []) ds i d rest at))
    (named_at (before ++ x ∷ []) ds i d rest at)
  where
    last : (xs : List Declaration) → is_used d.name (xs ++ x ∷ []) ≡ false → bytes_eq d.name x.name ≡ false
    last [] e = or_first (bytes_eq d.name x.name) false e
    last (y ∷ ys) e = last ys (or_second (bytes_eq d.name y.name) (is_used d.name (ys ++ x ∷ [])) e)
      where
        or_second : (a b : Bool) → (a || b) ≡ false → b ≡ false
        or_second true b f = absurd cc
        or_second false b f = f

    behind : (b : Bool) → b ≡ false → option_named ds d.name ≡ Some d → (if b then Some x else option_named ds d.name) ≡ Some d
    behind true e h = absurd cc
    behind false e h = h
