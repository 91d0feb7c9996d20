-- Option files that are read.
use Rattle.std.proofs.Common.{◌≡◌, ℕ, Bool, true, false, List, [], ◌∷◌, Result, Ok, Err, refl, sym, ap, ◌∙◌}
use Rattle.std.specs.Str.{IsUtf8, is_utf8}
use Rattle.std.specs.Str.Lossy.{utf8_valid_len}
use Rattle.std.proofs.lemmas.Str.{IsUtf8-from_is_utf8, is_utf8-from_IsUtf8}
use Rattle.world.specs.Details.{refuse_line_about}
use Rattle.world.specs.DefinitionFiles.{line_at, refusal_of, refuse_line, spelled_by, tree_or_fault}
use Rattle.support.specs.declared.faults.refusal.Refusal.{Refusal}
use Rattle.support.specs.declared.faults.refusal.Refusal.TheVariants as refusals
use Rattle.syntax.specs.Parsed.{parsed_file}
use Rattle.syntax.specs.Tree.{FileTree, StatementTree, Statements, statements}
use Rattle.syntax.specs.declared.lexer.fault.SyntaxFault.{SyntaxFault}
use Rattle.options.specs.option_file.Declarations.{Declaration}
use Rattle.options.specs.option_file.Declares.{file_declares}
use Rattle.ports.specs.Outputs.{OutputState}
use Rattle.ports.specs.Tree.{TreeState}
use Rattle.world.specs.Answering.{Carries, Refuses, State}
use Rattle.world.specs.Deed.{Deed, then}
use Rattle.world.specs.Store.{world_after_change}
use Rattle.world.specs.World.{World, fault_here, with_line}
use Rattle.world.specs.declared.stop.Stop.{Stop}
use Rattle.world.proofs.Answering.{carries_as, carries_change, carries_give, carries_refuse, carries_stop, carries_then}
use Rattle.project_calls.specs.OptionFile.{bytes_declare, declared_or_fault, list_of_statements, text_declares}

-- what is refused at a line of the present file
pub carries_line : {A B : Type 0} {view : B → A} (line : ℕ) (refusal : Refusal) {w w1 : World} {names names1 : List (List ℕ)} {tree : TreeState} {out : OutputState} {lent : ℕ × ℕ × ℕ} (result : Result B Stop)
    → w1 ≡ world_after_change (with_line line) w → names1 ≡ names → Refuses (fault_here w1 refusal []) result
    → Carries view (refuse_line line refusal) (record { world = w; names = names; tree = tree; out = out; lent = lent }) result (record { world = w1; names = names1; tree = tree; out = out; lent = lent })
unfolding refuse_line
carries_line line refusal result moved named is = carries_then {x = tt {0}} (carries_change {view = λ (u : Unit {0}). u} moved named) (carries_refuse is)

-- and what that is about
pub carries_line_about : {A B : Type 0} {view : B → A} (line : ℕ) (refusal : Refusal) (detail : List ℕ) {w w1 : World} {names names1 : List (List ℕ)} {tree : TreeState} {out : OutputState} {lent : ℕ × ℕ × ℕ} (result : Result B Stop)
    → w1 ≡ world_after_change (with_line line) w → names1 ≡ names → Refuses (fault_here w1 refusal detail) result
    → Carries view (refuse_line_about line refusal detail) (record { world = w; names = names; tree = tree; out = out; lent = lent }) result (record { world = w1; names = names1; tree = tree; out = out; lent = lent })
unfolding refuse_line_about
carries_line_about line refusal detail result moved named is = carries_then {x = tt {0}} (carries_change {view = λ (u : Unit {0}). u} moved named) (carries_refuse is)

-- the same, and what was to follow never comes
pub carries_line_first : {A B C : Type 0} {view : C → B} (line : ℕ) (refusal : Refusal) {next : A → Deed B} {w w1 : World} {names names1 : List (List ℕ)} {tree : TreeState} {out : OutputState} {lent : ℕ × ℕ × ℕ} (result : Result C Stop)
    → w1 ≡ world_after_change (with_line line) w → names1 ≡ names → Refuses (fault_here w1 refusal []) result
    → Carries view (then (refuse_line line refusal) next) (record { world = w; names = names; tree = tree; out = out; lent = lent }) result (record { world = w1; names = names1; tree = tree; out = out; lent = lent })
carries_line_first line refusal (Ok x) moved named is = absurd is
carries_line_first {A = A} line refusal (Err e) moved named is = carries_stop {view = λ (a : A). a} (carries_line {A = A} {B = A} {view = λ (a : A). a} line refusal (Err e) moved named is) refl

-- the statements of a file, one after another
listed_statements : (ss : List StatementTree) → list_of_statements (statements ss) ≡ ss
listed_statements [] = refl
listed_statements (s ∷ ss) = ap (λ us. s ∷ us) (listed_statements ss)

-- a text that has a tree
pub carries_spelled : {B : Type 0} {view : B → List Declaration} (text : List ℕ) {s s1 : State} {result : Result B Stop} (tree : FileTree) → parsed_file text ≡ Ok tree
    → Carries view (declared_or_fault (file_declares tree)) s result s1 → Carries view (text_declares text) s result s1
unfolding text_declares tree_or_fault
carries_spelled {view = view} text tree is d =
    carries_as (ap (λ r. then (tree_or_fault r) (λ body. declared_or_fault (file_declares (list_of_statements body)))) (sym is))
    (carries_then {view = λ (b : Statements). b} {x = statements tree} (carries_give refl) (carries_as (ap (λ ss. declared_or_fault (file_declares ss)) (sym (listed_statements tree))) d))

-- and one that has none
pub carries_unspelled : {B : Type 0} {view : B → List Declaration} (text : List ℕ) {w w1 : World} {names names1 : List (List ℕ)} {tree : TreeState} {out : OutputState} {lent : ℕ × ℕ × ℕ} (fault : SyntaxFault) (refusal : Refusal) (result : Result B Stop)
    → parsed_file text ≡ Err fault → refusal ≡ refusal_of fault.kind → w1 ≡ world_after_change (with_line fault.line) w → names1 ≡ names → Refuses (fault_here w1 refusal []) result
    → Carries view (text_declares text) (record { world = w; names = names; tree = tree; out = out; lent = lent }) result (record { world = w1; names = names1; tree = tree; out = out; lent = lent })
unfolding text_declares tree_or_fault
carries_unspelled text fault refusal result is kind moved named refused =
    carries_as (ap (λ r. then (refuse_line fault.line r) (λ body. declared_or_fault (file_declares (list_of_statements body)))) kind
    ∙ ap (λ r. then (tree_or_fault r) (λ body. declared_or_fault (file_declares (list_of_statements body)))) (sym is))
    (carries_line_first fault.line refusal result moved named refused)

-- bytes that are a text
pub text_is : (bytes : List ℕ) → IsUtf8 bytes → text_declares bytes ≡ bytes_declare bytes
unfolding text_declares bytes_declare spelled_by
text_is bytes u = ap (λ b. then (spelled_by b bytes) (λ body. declared_or_fault (file_declares (list_of_statements body)))) (sym (is_utf8-from_IsUtf8 bytes u))

no_text : (bytes : List ℕ) → (IsUtf8 bytes → ⊥) → (b : Bool) → is_utf8 bytes ≡ b → is_utf8 bytes ≡ false
no_text bytes no_utf8 true e = absurd (no_utf8 (IsUtf8-from_is_utf8 bytes e))
no_text bytes no_utf8 false e = e

-- and bytes that are none
pub text_is_not : (bytes : List ℕ) (line : ℕ) → (IsUtf8 bytes → ⊥) → line ≡ line_at bytes (utf8_valid_len bytes)
    → then (refuse_line line refusals.NotUtf8) (λ body. declared_or_fault (file_declares (list_of_statements body))) ≡ bytes_declare bytes
unfolding bytes_declare spelled_by
text_is_not bytes line n is =
    ap (λ l. then (refuse_line l refusals.NotUtf8) (λ body. declared_or_fault (file_declares (list_of_statements body)))) is
    ∙ ap (λ b. then (spelled_by b bytes) (λ body. declared_or_fault (file_declares (list_of_statements body)))) (sym (no_text bytes n (is_utf8 bytes) refl))
