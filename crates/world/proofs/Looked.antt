-- What is found at a path.
use Rattle.std.proofs.Common.{◌≡◌, ℕ, List, [], length, Option, Some, None, option_map, is_some, IsTrue, IfOk, Result, Ok, Err, refl, sym}
use Rattle.std.proofs.Common.{ap, subst, ◌∙◌, arith}
use Rattle.std.specs.Prelude.{nat_le, unwrap_or}
use Rattle.ports.specs.Outputs.{OutputState}
use Rattle.ports.specs.Tree.{TreeState, Stays, file_at}
use Rattle.world.specs.Answering.{Carries}
use Rattle.world.specs.Deed.{Files, perform}
use Rattle.world.specs.Gives.{Ends, Holds, failures_after}
use Rattle.world.specs.Run.{Done, ran}
use Rattle.world.specs.Trace.{seen_from_parts}
use Rattle.world.specs.World.{World, world_after_look}
use Rattle.world.specs.declared.stop.Stop.{Stop}
use Rattle.world.specs.declared.stop.Stop.TheVariants as stops
use Rattle.world.proofs.Answering.{carries_fail, carries_lost}
use Rattle.world.proofs.Marks.{front_as, none_added}
use Rattle.world.specs.DefinitionFiles.{most_bytes}
use Rattle.world.specs.Finding.{FoundData, nothing, find, found_data, found_by}
use Rattle.world.specs.FindingView.{found_in}
use Rattle.world.specs.FileReading.{IsNoFault}
use Rattle.world.specs.declared.definition_files.lookup.Found.{Found}

is_some-length : (o : Option (List ℕ)) → is_some (option_map length o) ≡ is_some o
is_some-length None = refl
is_some-length (Some bytes) = refl

-- a path was looked at, and this was found there
pub carries_found : (path : List ℕ) (size : Option ℕ) {w w1 : World} {names names1 : List (List ℕ)} {tree tree1 : TreeState} {out : OutputState} {lent : ℕ × ℕ × ℕ} (f : Found)
    → w1 ≡ world_after_look w path (is_some size) → names1 ≡ names → (IsTrue tree.steady → size ≡ option_map length (file_at tree.files path))
    → ((files : Files) → Holds tree files → found_in f ≡ found_data (file_at files path)) → Stays tree tree1 → tree1.failures ≡ tree.failures
    → Carries found_in (find path) (record { world = w; names = names; tree = tree; out = out; lent = lent }) (Ok f) (record { world = w1; names = names1; tree = tree1; out = out; lent = lent })
unfolding find
carries_found path size {w = w} {w1 = w1} {names = names} {names1 = names1} {tree = tree} {tree1 = tree1} {out = out} f looked named sized is stays none = record {
  gives = λ files n h.
      let there : is_some size ≡ is_some (file_at files path) = ap is_some (sized h.steady) ∙ is_some-length (file_at tree.files path) ∙ ap (λ fs. is_some (file_at fs path)) h.files in
      subst (λ v. Ends (perform files (find path) w) (Done (found_in f)) v (seen_from_parts out n names) (seen_from_parts out n names1)) (sym (looked ∙ ap (world_after_look w path) there))
      (subst (λ ns. Ends (perform files (find path) w) (Done (found_in f)) (world_after_look w path (is_some (file_at files path))) (seen_from_parts out n names) (seen_from_parts out n ns)) (sym named)
      (record { is = ap (λ x. ran (Done x) (world_after_look w path (is_some (file_at files path))) []) (sym (is files h)); written = none_added (seen_from_parts out n names) }));
  stays = stays;
  device = record { tree = omega (arith, none); out = omega arith; sum = omega (arith, none) };
  same = refl;
}

-- the same, of what reading its bytes came to
pub carries_content : (path : List ℕ) (size : Option ℕ) {w w1 : World} {names names1 : List (List ℕ)} {tree tree1 : TreeState} {out : OutputState} {lent : ℕ × ℕ × ℕ} (result : Result Found Stop)
    → w1 ≡ world_after_look w path (is_some size) → names1 ≡ names → (IsTrue tree.steady → size ≡ option_map length (file_at tree.files path))
    → ((files : Files) → Holds tree files → IfOk result (λ f. found_in f ≡ found_data (file_at files path))) → IsNoFault result → Stays tree tree1
    → tree1.failures ≡ failures_after tree.failures result
    → Carries found_in (find path) (record { world = w; names = names; tree = tree; out = out; lent = lent }) result (record { world = w1; names = names1; tree = tree1; out = out; lent = lent })
carries_content path size (Ok f) looked named sized is quiet stays none = carries_found path size f looked named sized is stays none
carries_content path size (Err (stops.Refused fault)) looked named sized is quiet stays none = absurd quiet
carries_content path size (Err stops.Device) looked named sized is quiet stays once = carries_fail stays once named refl
carries_content path size (Err stops.Memory) looked named sized is quiet stays none = carries_lost refl (front_as named) stays none

-- of a file that is there
pub found_there : (o : Option (List ℕ)) (n : ℕ) → Some n ≡ option_map length o
    → (n ≡ length (unwrap_or o [])) × (found_by (nat_le n most_bytes) (unwrap_or o []) ≡ found_data o)
found_there None n e = absurd (let h : Some n ≡ None = e in cc)
found_there (Some bytes) n e = let h : n ≡ length bytes = cc in (h, ap (λ m. found_by (nat_le m most_bytes) bytes) h)

-- and of none
pub found_nothing : (o : Option (List ℕ)) → None ≡ option_map length o → nothing ≡ found_data o
found_nothing None e = refl
found_nothing (Some bytes) e = absurd (let h : None ≡ Some (length bytes) = e in cc)

-- what was found is the same, written otherwise
pub ok_as : (result : Result Found Stop) (f d : FoundData) → f ≡ d → IfOk result (λ x. found_in x ≡ f) → IfOk result (λ x. found_in x ≡ d)
ok_as (Ok x) f d e is = is ∙ e
ok_as (Err s) f d e is = tt
