-- A project stays whole when it grows.
use Rattle.std.proofs.Common.{◌≡◌, ℕ, ◌≤◌, Bool, true, false, List, [], ◌∷◌, ◌++◌, length, map, Result, Ok, Err, refl, sym, ap, ◌∙◌, subst}
use Rattle.std.proofs.Common.{append-nil, append_assoc, arith, take}
use Rattle.std.specs.Prelude.{◌&&◌, ◌||◌, not, is_some, Option, Some, None, option_map, OnOk, OnErr, if◌then◌else◌}
use Rattle.std.proofs.lemmas.List.{map-append, take_at}
use Rattle.std.proofs.lemmas.List.Concat.{flat_map-append}
use Rattle.build.specs.edge.Texts.{Path, Text, holds, put_new}
use Rattle.build.specs.edge.Data.{EdgeData}
use Rattle.build.specs.edge.Holding.{are_writable, is_writable}
use Rattle.build.specs.edge.Paths.{is_upward, source_path}
use Rattle.build.specs.Data.{FactsData, SurroundingsData, TargetData}
use Rattle.build.specs.Libraries.{DeclaredTargetData, declared_target, linked_after, linked_of}
use Rattle.build.specs.target_edges.Edges.{edges_of, edges_after, all_edges}
use Rattle.build.specs.project.Laws.{outputs_of, first_taken, times, all_made, all_inside}
use Rattle.build.specs.project.World.{AnswerData, InstallData, TestData, WorldData, new_world, reserved_paths, taken_of, known_of, taken_in}
use Rattle.build.specs.project.Earlier.{all_refer_back}
use Rattle.build.specs.project.Whole.{targets_in, IsWhole, IsNext}
use Rattle.build.specs.project.Adding.{place_answer, with_target, after_answer, unless_taken}
use Rattle.build.specs.project.Refused.{RefusedData, refusal_for_text}
use Rattle.support.specs.declared.faults.refusal.Refusal.TheVariants.{Limit, Duplicate}
use Rattle.build.specs.project.View.{NotesData, world_of}
use Rattle.build.proofs.PathLists.{once_more, taken_same, times-append}
use Rattle.build.proofs.Earlier.{back_push, back_grown}
use Rattle.build.proofs.EdgeOrder.{both, or_cases, list_all-joined, holds_append, holds_left, holds_right, made_append, made_grown}

pub linked_after-push : (earlier : List DeclaredTargetData) (ts : List TargetData) (t : TargetData)
    → linked_after earlier (ts ++ t ∷ []) ≡ linked_after earlier ts ++ declared_target (linked_after earlier ts) t ∷ []
linked_after-push earlier [] t = refl
linked_after-push earlier (x ∷ ts) t = linked_after-push (earlier ++ declared_target earlier x ∷ []) ts t

edges_after-push : (s : SurroundingsData) (earlier : List DeclaredTargetData) (ts : List TargetData) (t : TargetData)
    → edges_after s earlier (ts ++ t ∷ []) ≡ edges_after s earlier ts ++ edges_of s (linked_after earlier ts) (declared_target (linked_after earlier ts) t)
edges_after-push s earlier [] t = append-nil (edges_of s earlier (declared_target earlier t))
edges_after-push s earlier (x ∷ ts) t =
    let es = edges_of s earlier (declared_target earlier x) in
    let next = earlier ++ declared_target earlier x ∷ [] in
    ap (λ l. es ++ l) (edges_after-push s next ts t)
    ∙ sym (append_assoc es (edges_after s next ts) (edges_of s (linked_after next ts) (declared_target (linked_after next ts) t)))

pub all_edges-push : (s : SurroundingsData) (ts : List TargetData) (t : TargetData) → all_edges s (ts ++ t ∷ []) ≡ all_edges s ts ++ edges_of s (linked_of ts) (declared_target (linked_of ts) t)
all_edges-push s ts t = edges_after-push s [] ts t

outputs-append : (es fs : List EdgeData) → outputs_of (es ++ fs) ≡ outputs_of es ++ outputs_of fs
outputs-append es fs = flat_map-append (λ (e : EdgeData). e.outputs) es fs

pub targets-push : (ls : List DeclaredTargetData) (l : DeclaredTargetData) → targets_in (ls ++ l ∷ []) ≡ targets_in ls ++ l.target ∷ []
targets-push ls l = map-append (λ (k : DeclaredTargetData). k.target) ls (l ∷ [])

-- ---- the same paths in another order

or_swap : (r f o q : Bool) → (((r || (f || o)) || q) ≡ (r || ((f || q) || o)))
or_swap true f o q = refl
or_swap false true o q = refl
or_swap false false true q = by q
  where
    by : (q : Bool) → true ≡ (q || true)
    by true = refl
    by false = refl
or_swap false false false true = refl
or_swap false false false false = refl

module _ (p : Path) (r f o q : List Path) where
  holds_between : holds p ((r ++ (f ++ o)) ++ q) ≡ holds p (r ++ ((f ++ q) ++ o))
  holds_between =
      holds_append p (r ++ (f ++ o)) q
      ∙ ap (λ b. b || holds p q) (holds_append p r (f ++ o) ∙ ap (λ b. holds p r || b) (holds_append p f o))
      ∙ or_swap (holds p r) (holds p f) (holds p o) (holds p q)
      ∙ sym (holds_append p r ((f ++ q) ++ o)
      ∙ ap (λ b. holds p r || b) (holds_append p (f ++ q) o
      ∙ ap (λ b. b || holds p o) (holds_append p f q)))

  times_between : times p ((r ++ (f ++ o)) ++ q) ≡ times p (r ++ ((f ++ q) ++ o))
  times_between = omega (arith, times-append p (r ++ (f ++ o)) q, times-append p r (f ++ o), times-append p f o, times-append p r ((f ++ q) ++ o), times-append p (f ++ q) o, times-append p f q)

-- ---- one target more

module _ (s : SurroundingsData) (ls : List DeclaredTargetData) (outputs present kept now : List Path) (l : DeclaredTargetData) (ps : List Path) (w : IsWhole s ls outputs present kept)
    (n : IsNext s (targets_in ls) outputs present l ps) where
  abbrev ts : List TargetData
  ts = targets_in ls

  abbrev more : List EdgeData
  more = edges_of s (linked_of ts) l

  edges_are : all_edges s (targets_in (ls ++ l ∷ [])) ≡ all_edges s ts ++ more
  edges_are =
      ap (all_edges s) (targets-push ls l) ∙ all_edges-push s ts l.target ∙ ap (λ k. all_edges s ts ++ edges_of s (linked_of ts) k) (sym n.libraries)

  outputs_are : outputs_of (all_edges s (targets_in (ls ++ l ∷ []))) ≡ outputs_of (all_edges s ts) ++ ps
  outputs_are = ap outputs_of edges_are ∙ outputs-append (all_edges s ts) more ∙ ap (λ qs. outputs_of (all_edges s ts) ++ qs) (sym n.paths_are)

  taken_are : taken_of s (targets_in (ls ++ l ∷ [])) outputs ≡ reserved_paths ++ ((outputs_of (all_edges s ts) ++ ps) ++ outputs)
  taken_are = ap (λ qs. reserved_paths ++ (qs ++ outputs)) outputs_are

  pub whole_next : first_taken kept ps ≡ None → now ≡ kept ++ ps → IsWhole s (ls ++ l ∷ []) outputs present now
  whole_next new e =
      let all = taken_of s ts outputs in
      let f = outputs_of (all_edges s ts) in
      let once = once_more all ps w.once (sym (taken_same kept all ps w.paths) ∙ new) in
      record {
        libraries =
            ap (λ k. ls ++ k ∷ []) n.libraries
            ∙ ap (λ x. x ++ declared_target (linked_of ts) l.target ∷ []) w.libraries
            ∙ sym (linked_after-push [] ts l.target)
            ∙ ap linked_of (sym (targets-push ls l));
        paths = λ p.
            ap (holds p) e
            ∙ holds_append p kept ps
            ∙ ap (λ b. b || holds p ps) (w.paths p)
            ∙ sym (holds_append p all ps)
            ∙ holds_between p reserved_paths f outputs ps
            ∙ ap (holds p) (sym taken_are);
        once = λ p.
            let P : ℕ → Type 0 = λ m. m ≤ 1 in
            subst P (times_between p reserved_paths f outputs ps ∙ ap (times p) (sym taken_are)) (once p);
        made =
            ap (all_made (known_of s outputs present)) edges_are
            ∙ made_append (known_of s outputs present) (all_edges s ts) more
            ∙ both (all_made (known_of s outputs present) (all_edges s ts)) (all_made (known_of s outputs present ++ outputs_of (all_edges s ts)) more) w.made n.made;
        inside =
            ap all_inside outputs_are
            ∙ list_all-joined (λ p. not (is_upward p)) (outputs_of (all_edges s ts)) ps w.inside (ap all_inside n.paths_are ∙ n.inside);
        outputs_inside = w.outputs_inside;
        writable = ap are_writable edges_are ∙ list_all-joined is_writable (all_edges s ts) more w.writable n.writable;
        back = ap (all_refer_back s outputs []) (targets-push ls l) ∙ back_push s outputs [] ts l.target w.back n.back;
      }

-- ---- an output of its own

pub whole_with_output : (s : SurroundingsData) (ls : List DeclaredTargetData) (outputs present kept now : List Path) (q : Path) → IsWhole s ls outputs present kept
    → not (is_upward q) ≡ true → first_taken kept (q ∷ []) ≡ None → now ≡ kept ++ q ∷ [] → IsWhole s ls (outputs ++ q ∷ []) present now
whole_with_output s ls outputs present kept now q w inside new e =
    let f = outputs_of (all_edges s (targets_in ls)) in
    let all = taken_of s (targets_in ls) outputs in
    let once = once_more all (q ∷ []) w.once (sym (taken_same kept all (q ∷ []) w.paths) ∙ new) in
    let is : taken_of s (targets_in ls) (outputs ++ q ∷ []) ≡ all ++ q ∷ [] = sym (append_assoc reserved_paths (f ++ outputs) (q ∷ []) ∙ ap (λ l. reserved_paths ++ l) (append_assoc f outputs (q ∷ []))) in
    let known = known_of s outputs present in
    record {
      libraries = w.libraries;
      paths = λ p.
          ap (holds p) e
          ∙ holds_append p kept (q ∷ [])
          ∙ ap (λ b. b || holds p (q ∷ [])) (w.paths p)
          ∙ sym (holds_append p all (q ∷ []))
          ∙ ap (holds p) (sym is);
      once = λ p. let P : ℕ → Type 0 = λ m. m ≤ 1 in subst P (ap (times p) (sym is)) (once p);
      made = made_grown known (known_of s (outputs ++ q ∷ []) present)
          (λ p h. ap (holds p) (sym (append_assoc (map (source_path s.facts.depth) present) outputs (q ∷ []))) ∙ holds_left p known (q ∷ []) h)
          (all_edges s (targets_in ls)) w.made;
      inside = w.inside;
      outputs_inside = list_all-joined (λ p. not (is_upward p)) outputs (q ∷ []) w.outputs_inside (both (not (is_upward q)) true inside refl);
      writable = w.writable;
      back = back_grown s outputs (q ∷ []) [] (targets_in ls) w.back;
    }

-- ---- a file of the tree more

pub whole_with_present : (s : SurroundingsData) (ls : List DeclaredTargetData) (outputs present now kept more : List Path) → IsWhole s ls outputs present kept → now ≡ present ++ more → IsWhole s ls outputs now kept
whole_with_present s ls outputs present now kept more w e =
    record {
      libraries = w.libraries;
      paths = w.paths;
      once = w.once;
      made = made_grown (known_of s outputs present) (known_of s outputs now)
          (λ p h.
          ap (λ ps. holds p (map (source_path s.facts.depth) ps ++ outputs)) e
          ∙ ap (λ ps. holds p (ps ++ outputs)) (map-append (source_path s.facts.depth) present more)
          ∙ or_cases (holds p (map (source_path s.facts.depth) present)) (holds p outputs) (sym (holds_append p (map (source_path s.facts.depth) present) outputs) ∙ h)
          (λ a. holds_left p (map (source_path s.facts.depth) present ++ map (source_path s.facts.depth) more) outputs (holds_left p (map (source_path s.facts.depth) present) (map (source_path s.facts.depth) more) a))
          (λ b. holds_right p (map (source_path s.facts.depth) present ++ map (source_path s.facts.depth) more) outputs b))
          (all_edges s (targets_in ls)) w.made;
      inside = w.inside;
      outputs_inside = w.outputs_inside;
      writable = w.writable;
      back = w.back;
    }

-- ---- nothing yet

pub world_start : (facts : FactsData) (a b : List Text) (ts : List TargetData) (outputs present absent : List Path) (ds : List AnswerData)
    (is : List InstallData) (tests : List TestData)
    → a ≡ [] → b ≡ [] → ts ≡ [] → outputs ≡ [] → present ≡ [] → absent ≡ [] → ds ≡ [] → is ≡ [] → tests ≡ []
    → new_world facts ≡ record {
      surroundings = record { facts = facts; arguments = a; link_arguments = b };
      targets = ts;
      outputs = outputs;
      present = present;
      absent = absent;
      dependencies = ds;
      installs = is;
      tests = tests;
    }
world_start facts a b ts outputs present absent ds is tests h i j k l m n o p = rw h (rw i (rw j (rw k (rw l (rw m (rw n (rw o (rw p refl))))))))

pub whole_start : (s : SurroundingsData) (ls : List DeclaredTargetData) (outputs present kept : List Path) → ls ≡ [] → outputs ≡ [] → kept ≡ reserved_paths
    → IsWhole s ls outputs present kept
whole_start s ls outputs present kept none empty e =
    let whole : IsWhole s [] [] present kept = record {
      libraries = refl;
      paths = λ p. ap (holds p) e;
      once = once_more [] reserved_paths (λ p. omega arith) refl;
      made = refl;
      inside = refl;
      outputs_inside = refl;
      writable = refl;
      back = refl;
    } in
    subst (λ x. IsWhole s x outputs present kept) (sym none) (subst (λ x. IsWhole s [] x present kept) (sym empty) whole)

pub whole_same : (s : SurroundingsData) (ls now_ls : List DeclaredTargetData) (outputs present kept now : List Path) → IsWhole s ls outputs present kept → now_ls ≡ ls → now ≡ kept → IsWhole s now_ls outputs present now
whole_same s ls now_ls outputs present kept now w a b = subst (λ x. IsWhole s x outputs present now) (sym a) (subst (λ x. IsWhole s ls outputs present x) (sym b) w)

-- ---- what is answered

pub place_ok : (w : WorldData) (ps : List Path) (within : Bool) → first_taken (taken_in w) ps ≡ None → within ≡ true → place_answer w ps within ≡ Ok (length w.targets)
place_ok w ps within e f =
    ap (λ o. unless_taken o (if within then Ok (length w.targets) else Err (refusal_for_text Limit []))) e ∙ ap (λ b. if b then Ok (length w.targets) else Err (refusal_for_text Limit [])) f

pub place_long : (w : WorldData) (ps : List Path) (within : Bool) → first_taken (taken_in w) ps ≡ None → within ≡ false → place_answer w ps within ≡ Err (refusal_for_text Limit [])
place_long w ps within e f =
    ap (λ o. unless_taken o (if within then Ok (length w.targets) else Err (refusal_for_text Limit []))) e ∙ ap (λ b. if b then Ok (length w.targets) else Err (refusal_for_text Limit [])) f

pub place_twice : (w : WorldData) (ps : List Path) (within : Bool) (path : Path) → first_taken (taken_in w) ps ≡ Some path → place_answer w ps within ≡ Err (refusal_for_text Duplicate path)
place_twice w ps within path e = ap (λ o. unless_taken o (if within then Ok (length w.targets) else Err (refusal_for_text Limit []))) e

-- what the set tells is so of the project
pub free_is : (s : SurroundingsData) (ls : List DeclaredTargetData) (outputs present kept ps : List Path) (taken : Option Path) → IsWhole s ls outputs present kept → taken ≡ first_taken kept ps
    → first_taken (taken_of s (targets_in ls) outputs) ps ≡ taken
free_is s ls outputs present kept ps taken w e = sym (taken_same kept (taken_of s (targets_in ls) outputs) ps w.paths) ∙ sym e

pub placed_kept : {X : Type 0} (kept ps now : List Path) (taken : Option X) (within : Bool) → now ≡ (if not (is_some taken) && within then kept ++ ps else kept) → taken ≡ None → within ≡ true
    → now ≡ kept ++ ps
placed_kept kept ps now taken within e a b = e ∙ ap (λ o. if not (is_some o) && within then kept ++ ps else kept) a ∙ ap (λ x. if x then kept ++ ps else kept) b

pub placed_back : {X : Type 0} (kept ps now : List Path) (taken : Option X) (within : Bool) → now ≡ (if not (is_some taken) && within then kept ++ ps else kept) → taken ≡ None → within ≡ false
    → now ≡ kept
placed_back kept ps now taken within e a b = e ∙ ap (λ o. if not (is_some o) && within then kept ++ ps else kept) a ∙ ap (λ x. if x then kept ++ ps else kept) b

pub placed_twice : {X : Type 0} (kept ps now : List Path) (taken : Option X) (within : Bool) {x : X} → now ≡ (if not (is_some taken) && within then kept ++ ps else kept) → taken ≡ Some x → now ≡ kept
placed_twice kept ps now taken within e a = e ∙ ap (λ o. if not (is_some o) && within then kept ++ ps else kept) a

-- what the set tells, where it is known whether it tells a path
pub told_none : {X : Type 0} (f : X → Path) {taken : Option X} {o : Option Path} → option_map f taken ≡ o → taken ≡ None → None ≡ o
told_none f is none = sym (ap (option_map f) none) ∙ is

pub told_path : {X : Type 0} (f : X → Path) {taken : Option X} {x : X} {o : Option Path} → option_map f taken ≡ o → taken ≡ Some x → Some (f x) ≡ o
told_path f is some = sym (ap (option_map f) some) ∙ is

pub after_ok : (r : Result ℕ RefusedData) (n : ℕ) (then_ before : WorldData) → r ≡ Ok n → after_answer r then_ before ≡ then_
after_ok r n then_ before e = ap (λ x. after_answer x then_ before) e

pub after_err : (r : Result ℕ RefusedData) (why : RefusedData) (then_ before : WorldData) → r ≡ Err why → after_answer r then_ before ≡ before
after_err r why then_ before e = ap (λ x. after_answer x then_ before) e

-- what is so anyway is so where it went well, and where it did not
pub on_ok : {A E P : Type 0} (r : Result A E) → P → OnOk r P
on_ok (Ok a) p = p
on_ok (Err e) p = tt

pub on_err : {A E P : Type 0} (r : Result A E) → P → OnErr r P
on_err (Ok a) p = tt
on_err (Err e) p = p

-- what was pushed is taken off again
pub taken_off : {X : Type 0} (xs pushed new : List X) (x : X) (n : ℕ) → pushed ≡ xs ++ x ∷ [] → n ≡ length xs → new ≡ take n pushed → new ≡ xs
taken_off xs pushed new x n p l e = e ∙ ap (take n) p ∙ take_at xs (x ∷ []) n (sym l)

pub world_with : (s : SurroundingsData) (ls : List DeclaredTargetData) (outputs : List Path) (notes : NotesData) (l : DeclaredTargetData) (w : WorldData) → world_of s ls outputs notes ≡ w
    → world_of s (ls ++ l ∷ []) outputs notes ≡ with_target w l.target
world_with s ls outputs notes l w v =
    ap (λ ts. record (world_of s ls outputs notes) { targets = ts }) (targets-push ls l) ∙ ap (λ x. with_target x l.target) v

pub whole_with_put : (s : SurroundingsData) (ls : List DeclaredTargetData) (outputs present kept : List Path) (q : Path) → IsWhole s ls outputs present kept → IsWhole s ls outputs (put_new present q) kept
whole_with_put s ls outputs present kept q w = by (holds q present)
  where
    by : (b : Bool) → IsWhole s ls outputs (if b then present else present ++ q ∷ []) kept
    by true = w
    by false = whole_with_present s ls outputs present (present ++ q ∷ []) kept (q ∷ []) w refl

pub whole_back : (s : SurroundingsData) (ls : List DeclaredTargetData) (outputs now_outputs present kept now : List Path) → IsWhole s ls outputs present kept → now_outputs ≡ outputs → now ≡ kept → IsWhole s ls now_outputs present now
whole_back s ls outputs now_outputs present kept now w a b = subst (λ x. IsWhole s ls x present now) (sym a) (subst (λ x. IsWhole s ls outputs present x) (sym b) w)
