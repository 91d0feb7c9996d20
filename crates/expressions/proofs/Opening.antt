-- Folders that are entered, and files that are read.
use Rattle.std.proofs.Common.{◌≡◌, ℕ, ◌<◌, ◌≤◌, Bool, true, false, List, [], length, Option, Some, None, option_map, is_some, Result, Ok}
use Rattle.std.proofs.Common.{Err, IsErrAnd, refl, sym, ap, subst, ◌∙◌}
use Rattle.std.specs.Str.{IsUtf8, is_utf8}
use Rattle.std.specs.Str.Lossy.{utf8_valid_len}
use Rattle.std.proofs.lemmas.Bool.{lt-leb, le-leb}
use Rattle.std.proofs.lemmas.Str.{IsUtf8-from_is_utf8, is_utf8-from_IsUtf8}
use Rattle.code.specs.Draft.{IsFront}
use Rattle.syntax.specs.Parsed.{parsed_file}
use Rattle.syntax.specs.Tree.{FileTree, Statements, statements}
use Rattle.syntax.specs.declared.lexer.fault.SyntaxFault.{SyntaxFault}
use Rattle.ports.specs.Outputs.{OutputState}
use Rattle.ports.specs.Tree.{TreeState, file_at}
use Rattle.support.specs.declared.faults.refusal.Refusal.{Refusal}
use Rattle.support.specs.declared.faults.refusal.Refusal.TheVariants as refusals
use Rattle.world.specs.Answering.{Refuses}
use Rattle.world.specs.Deed.{Files, ask, need, perform, refuse as refuse_deed}
use Rattle.world.specs.Gives.{Gives, Holds}
use Rattle.world.specs.Plan.{Plan, carry, deed, enter, entered, give, next, refuse}
use Rattle.world.specs.Run.{Run, Act, Done, follow, marks_of, pure, ran}
use Rattle.world.specs.Trace.{Seen, seen_from_parts}
use Rattle.world.specs.World.{World, world_in_folder, fault_here, world_after_look}
use Rattle.world.specs.declared.stop.Stop.{Stop}
use Rattle.world.specs.declared.stop.Stop.TheVariants as stops
use Rattle.world.proofs.Follow.{after-nil, begun, done, ends_grown, gives_later, refused_later}
use Rattle.world.proofs.Marks.{front_as, grown_added, none_added}
use Rattle.expressions.specs.Contexts.{Stand, Given, seen_of}
use Rattle.world.specs.DefinitionFiles.{line_at, most_bytes, refusal_of, refuse_line, statements_of_bytes, spelled_by, tree_or_fault}
use Rattle.world.specs.FileReading.{IsNoFault}
use Rattle.expressions.proofs.Evaluating.{given_refuse}

-- ---- what was entered, and where it is refused

-- the folders entered are read
pub given_entered : {B D : Type 0} {view : D → B} {files : Files} {others : List (List ℕ) → Plan B} {s0 s1 : Stand} {result : Result D Stop}
    → Given view files (others s0.world.entered) s0 result s1 → Given view files (next entered others) s0 result s1
given_entered {view = view} {files = files} {others = others} {s0 = s0} {s1 = s1} {result = result} g = record {
  gives = gives_later view result s1.world (seen_of s1)
      (done (carry files entered s0.world) (λ a. carry files (others a)) s0.world.entered (record { is = refl; written = none_added (seen_of s0) })) g.gives;
  holds = g.holds;
}

refused_here : {A B : Type 0} (view : B → A) (files : Files) (refusal : Refusal) (detail : List ℕ) (w : World) (result : Result B Stop) (old : Seen)
    → Refuses (fault_here w refusal detail) result → Gives view (carry files (deed (refuse_deed refusal detail)) w) result w old old
refused_here view files refusal detail w (Ok x) old is = absurd is
refused_here view files refusal detail w (Err s) old is = refused_later view (fault_here w refusal detail) s w w old (begun _ old) is refl

-- it is refused at the present place
pub given_here : {A B : Type 0} {view : B → A} {files : Files} {line : ℕ} {refusal : Refusal} {detail : List ℕ} {s : Stand} {result : Result B Stop}
    → Holds s.tree files → line ≡ s.world.facts.line → Refuses (record { file = s.world.facts.file; line = line; refusal = refusal; detail = detail }) result
    → Given view files (deed (refuse_deed refusal detail)) s result s
given_here {view = view} {files = files} {refusal = refusal} {detail = detail} {s = s} {result = result} h here is = record {
  gives = refused_here view files refusal detail s.world result (seen_of s)
      (subst (λ l. Refuses (record { file = s.world.facts.file; line = l; refusal = refusal; detail = detail }) result) here is);
  holds = h;
}

-- the same run, of another plan
pub given_run : {A B : Type 0} {view : B → A} {files : Files} {p q : Plan A} {s s1 : Stand} {result : Result B Stop}
    → carry files p s.world ≡ carry files q s.world → Given view files p s result s1 → Given view files q s result s1
given_run {view = view} {s = s} {s1 = s1} {result = result} e g = record {
  gives = subst (λ r. Gives view r result s1.world (seen_of s) (seen_of s1)) e g.gives;
  holds = g.holds;
}

needed : {A : Type 0} (b : Bool) (files : Files) (refusal : Refusal) (detail : List ℕ) (rest : Unit {0} → Plan A) (w : World)
    → b ≡ true → carry files (rest tt) w ≡ carry files (next (deed (need b refusal detail)) rest) w
unfolding need
needed true files refusal detail rest w e = sym (after-nil (carry files (rest tt) w))
needed false files refusal detail rest w e = absurd (let h : false ≡ true = e in cc)

lacking : {A : Type 0} (b : Bool) (files : Files) (refusal : Refusal) (detail : List ℕ) (rest : Unit {0} → Plan A) (w : World)
    → b ≡ false → carry files (deed (refuse_deed {A = A} refusal detail)) w ≡ carry files (next (deed (need b refusal detail)) rest) w
unfolding need
lacking true files refusal detail rest w e = absurd (let h : true ≡ false = e in cc)
lacking false files refusal detail rest w e = refl

-- what is needed holds, and then the rest
pub given_need : {A B : Type 0} {view : B → A} {files : Files} {rest : Unit {0} → Plan A} {s s1 : Stand} {result : Result B Stop} (b : Bool) (refusal : Refusal) (detail : List ℕ)
    → b ≡ true → Given view files (rest tt) s result s1 → Given view files (next (deed (need b refusal detail)) rest) s result s1
given_need {files = files} {rest = rest} {s = s} b refusal detail e g = given_run (needed b files refusal detail rest s.world e) g

-- it does not, and is refused
pub given_lack : {A B : Type 0} {view : B → A} {files : Files} {line : ℕ} {rest : Unit {0} → Plan A} {s : Stand} {result : Result B Stop} (b : Bool) (refusal : Refusal) (detail : List ℕ)
    → b ≡ false → Holds s.tree files → line ≡ s.world.facts.line → Refuses (record { file = s.world.facts.file; line = line; refusal = refusal; detail = detail }) result
    → Given view files (next (deed (need b refusal detail)) rest) s result s
given_lack {files = files} {rest = rest} {s = s} b refusal detail e h here is = given_run (lacking b files refusal detail rest s.world e) (given_here h here is)

-- ---- what stops without a fault, before any mark

begins_none : {A B : Type 0} (view : B → A) (run : Run A) (e : Stop) (w : World) (out : OutputState) (n : ℕ) (names names1 : List (List ℕ))
    → IsNoFault {B = B} (Err e) → IsFront names names1 → Gives view run (Err e) w (seen_from_parts out n names) (seen_from_parts out n names1)
begins_none view run (stops.Refused fault) w out n names names1 quiet more = absurd quiet
begins_none view run stops.Device w out n names names1 quiet more =
    record { made = []; left = marks_of run; all = refl; written = grown_added (seen_from_parts out n names) (seen_from_parts out n names1) refl refl more }
begins_none view run stops.Memory w out n names names1 quiet more =
    record { made = []; left = marks_of run; all = refl; written = grown_added (seen_from_parts out n names) (seen_from_parts out n names1) refl refl more }

begins_by : {A B : Type 0} (view : B → A) (run : Run A) (e : Stop) (result : Result B Stop) (w : World) (out : OutputState) (n : ℕ) (names names1 : List (List ℕ))
    → IsNoFault {B = B} (Err e) → IsErrAnd result (λ s. s ≡ e) → IsFront names names1 → Gives view run result w (seen_from_parts out n names) (seen_from_parts out n names1)
begins_by view run e (Ok x) w out n names names1 quiet is more = absurd is
begins_by view run e (Err s) w out n names names1 quiet is more =
    subst (λ d. Gives view run (Err d) w (seen_from_parts out n names) (seen_from_parts out n names1)) (sym is) (begins_none view run e w out n names names1 quiet more)

-- a device fails, or no memory is left
pub given_short : {A B : Type 0} {view : B → A} {files : Files} {p : Plan A} {w w1 : World} {names names1 : List (List ℕ)} {tree tree1 : TreeState} {out : OutputState} {n : ℕ} {result : Result B Stop} (e : Stop)
    → Holds tree1 files → IsNoFault {B = B} (Err e) → IsErrAnd result (λ s. s ≡ e) → names1 ≡ names
    → Given view files p (record { world = w; names = names; tree = tree; out = out; ticks = n }) result (record { world = w1; names = names1; tree = tree1; out = out; ticks = n })
given_short {view = view} {files = files} {p = p} {w = w} {w1 = w1} {names = names} {names1 = names1} {out = out} {n = n} {result = result} e h quiet is same = record {
  gives = begins_by view (carry files p w) e result w1 out n names names1 quiet is (front_as same);
  holds = h;
}

-- ---- a path that is looked at, a folder that is entered

moved_on : {A B C : Type 0} (view : B → A) (act : Act C) (x : C) (others : C → Act A) (w w1 v : World) (out : OutputState) (n : ℕ) (names names1 : List (List ℕ)) (result : Result B Stop) (new : Seen)
    → act w ≡ ran (Done x) w1 [] → names1 ≡ names → Gives view (others x w1) result v (seen_from_parts out n names1) new
    → Gives view (follow (act w) others) result v (seen_from_parts out n names) new
moved_on view act x others w w1 v out n names names1 result new is same g =
    subst (λ r. Gives view (follow r others) result v (seen_from_parts out n names) new) (sym is)
    (gives_later view result v new
    (done (ran (Done x) w1 []) others x (record { is = refl; written = none_added (seen_from_parts out n names) }))
    (subst (λ ns. Gives view (others x w1) result v (seen_from_parts out n ns) new) same g))

pub given_ask : {A B : Type 0} {view : B → A} {files : Files} {path : List ℕ} {others : Option (List ℕ) → Plan A} {w w1 : World} {names names1 : List (List ℕ)} {tree tree1 : TreeState} {out : OutputState} {n : ℕ} {result : Result B Stop} {s : Stand}
    → w1 ≡ world_after_look w path (is_some (file_at files path)) → names1 ≡ names
    → Given view files (others (file_at files path)) (record { world = w1; names = names1; tree = tree1; out = out; ticks = n }) result s
    → Given view files (next (deed (ask path)) others) (record { world = w; names = names; tree = tree; out = out; ticks = n }) result s
given_ask {view = view} {files = files} {path = path} {others = others} {w = w} {w1 = w1} {names = names} {names1 = names1} {out = out} {n = n} {result = result} {s = s} is same g = record {
  gives = moved_on view (carry files (deed (ask path))) (file_at files path) (λ a. carry files (others a)) w w1 s.world out n names names1 result (seen_of s)
      (ap (λ v. ran (Done (file_at files path)) v []) (sym is)) same g.gives;
  holds = g.holds;
}

pub given_enter : {A B : Type 0} {view : B → A} {files : Files} {folder : List ℕ} {others : Unit {0} → Plan A} {w w1 : World} {names names1 : List (List ℕ)} {tree : TreeState} {out : OutputState} {n : ℕ} {result : Result B Stop} {s : Stand}
    → w1 ≡ world_in_folder w folder → names1 ≡ names
    → Given view files (others tt) (record { world = w1; names = names1; tree = tree; out = out; ticks = n }) result s
    → Given view files (next (enter folder) others) (record { world = w; names = names; tree = tree; out = out; ticks = n }) result s
given_enter {view = view} {files = files} {folder = folder} {others = others} {w = w} {w1 = w1} {names = names} {names1 = names1} {out = out} {n = n} {result = result} {s = s} is same g = record {
  gives = moved_on view (carry files (enter folder)) tt (λ a. carry files (others a)) w w1 s.world out n names names1 result (seen_of s)
      (ap (λ v. ran (Done tt) v []) (sym is)) same g.gives;
  holds = g.holds;
}

-- ---- the statements that bytes spell

over_limit : (files : Files) (bytes : List ℕ) (w : World) → most_bytes < length bytes
    → carry files (deed (refuse_deed {A = Statements} refusals.Limit [])) w ≡ carry files (deed (statements_of_bytes bytes)) w
unfolding statements_of_bytes need
over_limit files bytes w h = rw (lt-leb (length bytes) most_bytes h) refl

within_limit : (files : Files) (bytes : List ℕ) (w : World) → length bytes ≤ most_bytes
    → carry files (deed (spelled_by (is_utf8 bytes) bytes)) w ≡ carry files (deed (statements_of_bytes bytes)) w
unfolding statements_of_bytes need
within_limit files bytes w h = rw (le-leb (length bytes) most_bytes h) (sym (after-nil (perform files (spelled_by (is_utf8 bytes) bytes) w)))

-- too many bytes
pub given_over : {B : Type 0} {view : B → Statements} {files : Files} {line : ℕ} {s : Stand} {result : Result B Stop} (bytes : List ℕ) → most_bytes < length bytes
    → Holds s.tree files → line ≡ s.world.facts.line → Refuses (record { file = s.world.facts.file; line = line; refusal = refusals.Limit; detail = [] }) result
    → Given view files (deed (statements_of_bytes bytes)) s result s
given_over {files = files} {s = s} bytes more h here is = given_run (over_limit files bytes s.world more) (given_here h here is)

-- few enough
pub given_within : {B : Type 0} {view : B → Statements} {files : Files} {s s1 : Stand} {result : Result B Stop} (bytes : List ℕ) → length bytes ≤ most_bytes
    → Given view files (deed (spelled_by (is_utf8 bytes) bytes)) s result s1 → Given view files (deed (statements_of_bytes bytes)) s result s1
given_within {files = files} {s = s} bytes few g = given_run (within_limit files bytes s.world few) g

refused_line : {A : Type 0} (files : Files) (line : ℕ) (refusal : Refusal) (w : World)
    → carry files (refuse {A = A} line refusal []) w ≡ carry files (deed (refuse_line {A = A} line refusal)) w
unfolding refuse_line
refused_line files line refusal w = refl

-- it is refused at a line
pub given_line : {A B : Type 0} {view : B → A} {files : Files} {s : Stand} {result : Result B Stop} (line : ℕ) (refusal : Refusal)
    → Holds s.tree files → Refuses (record { file = s.world.facts.file; line = line; refusal = refusal; detail = [] }) result
    → Given view files (deed (refuse_line line refusal)) s result s
given_line {files = files} {s = s} line refusal h is = given_run (refused_line files line refusal s.world) (given_refuse h is)

pub is_text : (bytes : List ℕ) → IsUtf8 bytes → tree_or_fault (parsed_file bytes) ≡ spelled_by (is_utf8 bytes) bytes
unfolding spelled_by
is_text bytes u = ap (λ b. spelled_by b bytes) (sym (is_utf8-from_IsUtf8 bytes u))

no_text : (bytes : List ℕ) → (IsUtf8 bytes → ⊥) → (b : Bool) → is_utf8 bytes ≡ b → is_utf8 bytes ≡ false
no_text bytes no_utf8 true e = absurd (no_utf8 (IsUtf8-from_is_utf8 bytes e))
no_text bytes no_utf8 false e = e

pub is_no_text : (bytes : List ℕ) → (IsUtf8 bytes → ⊥) → refuse_line (line_at bytes (utf8_valid_len bytes)) refusals.NotUtf8 ≡ spelled_by (is_utf8 bytes) bytes
unfolding spelled_by
is_no_text bytes n = ap (λ b. spelled_by b bytes) (sym (no_text bytes n (is_utf8 bytes) refl))

-- what is found of a file's size
pub some_length : (o : Option (List ℕ)) (n : ℕ) → Some n ≡ option_map length o → (bytes : List ℕ) × (o ≡ Some bytes) × (n ≡ length bytes)
some_length None n e = absurd (let h : Some n ≡ None = e in cc)
some_length (Some bytes) n e = (bytes, refl, let h : Some n ≡ Some (length bytes) = e in cc)

pub none_length : (o : Option (List ℕ)) → None ≡ option_map length o → o ≡ None
none_length None e = refl
none_length (Some bytes) e = absurd (let h : None ≡ Some (length bytes) = e in cc)

-- whether it is there
pub found_length : (o : Option (List ℕ)) (size : Option ℕ) → size ≡ option_map length o → is_some size ≡ is_some o
found_length None size e = ap is_some e
found_length (Some bytes) size e = ap is_some e

-- a source that has a tree
pub source_read : (bytes : List ℕ) (tree : FileTree) → parsed_file bytes ≡ Ok tree → give (statements tree) ≡ deed (tree_or_fault (parsed_file bytes))
unfolding tree_or_fault
source_read bytes tree e = sym (ap (λ r. deed (tree_or_fault r)) e)

-- and one that has none
pub source_refused : (bytes : List ℕ) (f : SyntaxFault) (refusal : Refusal) → parsed_file bytes ≡ Err f → refusal ≡ refusal_of f.kind
    → deed (refuse_line f.line refusal) ≡ deed (tree_or_fault (parsed_file bytes))
unfolding tree_or_fault
source_refused bytes f refusal e is = ap (λ r. deed (refuse_line f.line r)) is ∙ sym (ap (λ r. deed (tree_or_fault r)) e)

-- a value is given, and the table of names may have grown
pub given_made : {A B : Type 0} {view : B → A} {files : Files} {p : Plan A} {w w1 : World} {names names1 : List (List ℕ)} {tree : TreeState} {out : OutputState} {n : ℕ} {x : B} (a : A)
    → Holds tree files → carry files p w ≡ pure a w → view x ≡ a → w1 ≡ w → IsFront names names1
    → Given view files p (record { world = w; names = names; tree = tree; out = out; ticks = n }) (Ok x) (record { world = w1; names = names1; tree = tree; out = out; ticks = n })
given_made {view = view} {files = files} {p = p} {w = w} {w1 = w1} {names = names} {names1 = names1} {out = out} {n = n} {x = x} a h e is same more = record {
  gives = ends_grown (carry files p w) (Done (view x)) w1 (seen_from_parts out n names) (seen_from_parts out n names1)
      (e ∙ ap (λ y. ran (Done y) w []) (sym is) ∙ ap (λ v. ran (Done (view x)) v []) (sym same)) refl refl more;
  holds = h;
}
