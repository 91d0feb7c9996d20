-- Texts that are told one after another are told as one.
use Rattle.std.proofs.Common.{◌≡◌, ℕ, Bool, suc, ◌+◌, ◌<◌, List, [], ◌∷◌, ◌++◌, map, drop, length, get_or, codes, MatchOption, Option, Some}
use Rattle.std.proofs.Common.{None, Result, Ok, Err, arith, refl, sym, ap, subst, ◌∙◌, add-one}
use Rattle.std.specs.Prelude.{◌&&◌}
use Rattle.std.specs.List.{list_all}
use Rattle.std.proofs.Math.Seq.{drop-cons}
use Rattle.std.proofs.lemmas.List.{map-append}
use Rattle.values.specs.Data.{Data}
use Rattle.values.specs.View.{data_of}
use Rattle.values.specs.declared.value.Value.{Value}
use Rattle.ports.specs.Outputs.{Step, Logs, logs}
use Rattle.values.specs.printing.Parts.{piece_bytes}
use Rattle.values.specs.printing.Pieces.{whole}
use Rattle.values.specs.declared.printing.pieces.Piece.{Piece}
use Rattle.values.specs.printing.Printed.{text_of_value}
use Rattle.world.specs.Answering.{State, Carries, seen_at}
use Rattle.world.specs.Deed.{Deed, Files, give, perform, say, then}
use Rattle.world.specs.Gives.{Gives}
use Rattle.world.specs.Run.{ran, Done, after}
use Rattle.world.specs.Trace.{Mark, Told}
use Rattle.world.specs.World.{World}
use Rattle.world.specs.declared.stop.Stop.{Stop}
use Rattle.world.proofs.Answering.{carries_give, carries_stop, carries_then}
use Rattle.language_calls.specs.Messages.{line_of}
use Rattle.language_calls.specs.Saying.{behind_spaces, say_each}

told : List ℕ → List Mark
told bytes = map (λ s. Told s) (map (λ b. Logs b) bytes)

told-append : (t u : List ℕ) → told t ++ told u ≡ told (t ++ u)
unfolding told
told-append t u =
    sym (ap (map (λ (s : Step). Told s)) (map-append (λ (b : ℕ). Logs b) t u) ∙ map-append (λ (s : Step). Told s) (map (λ b. Logs b) t) (map (λ b. Logs b) u))

said : (files : Files) (ts : List (List ℕ)) (w : World) → perform files (say_each ts) w ≡ perform files (say (whole ts)) w
unfolding say logs told
said files [] w = refl
said files (t ∷ ts) w = ap (after (told t)) (said files ts w) ∙ ap (ran (Done tt) w) (told-append t (whole ts))

pub carries_whole : {B : Type 0} {view : B → Unit {0}} (ts : List (List ℕ)) {s s1 : State} {result : Result B Stop} → Carries view (say_each ts) s result s1
    → Carries view (say (whole ts)) s result s1
carries_whole {view = view} ts {s = s} {s1 = s1} {result = result} k = record {
  gives = λ files n h. subst (λ r. Gives view r result s1.world (seen_at s n) (seen_at s1 n)) (said files ts s.world) (k.gives files n h);
  stays = k.stays;
  device = k.device;
  same = k.same;
}

pub all_of : (test : Data → Bool) (vs : List Value) → list_all (λ v. test (data_of v)) vs ≡ list_all test (map data_of vs)
all_of test [] = refl
all_of test (v ∷ vs) = ap (λ b. test (data_of v) && b) (all_of test vs)

pub no_line : (vs : List Value) → length vs ≡ 0 → line_of (map data_of vs) ≡ []
no_line [] e = refl
no_line (v ∷ vs) e = absurd (omega (arith, e))

-- the next piece, and none
pub next_piece : {o : Option Piece} {p : Piece} {old new : List (List ℕ)} → o ≡ Some p → MatchOption o (old ≡ []) (λ q. old ≡ piece_bytes q ∷ new) → old ≡ piece_bytes p ∷ new
next_piece {old = old} {new = new} is m = subst (λ x. MatchOption x (old ≡ []) (λ q. old ≡ piece_bytes q ∷ new)) is m

pub no_piece : {o : Option Piece} {old : List (List ℕ)} (new : List (List ℕ)) → o ≡ None → MatchOption o (old ≡ []) (λ q. old ≡ piece_bytes q ∷ new) → old ≡ []
no_piece {old = old} new is m = subst (λ x. MatchOption x (old ≡ []) (λ q. old ≡ piece_bytes q ∷ new)) is m

-- a deed behind which nothing comes
pub carries_last : {d : Deed (Unit {0})} {s s1 : State} (result : Result (Unit {0}) Stop) → Carries (λ u. u) d s result s1
    → Carries (λ u. u) (then d (λ u. give tt)) s result s1
carries_last (Ok u) k = carries_then {x = u} k (carries_give refl)
carries_last (Err e) k = carries_stop k refl

-- the next value
pub behind-drop : (vs : List Value) (i : ℕ) (v : Value) → i < length vs → v ≡ get_or vs i v
    → behind_spaces (map data_of (drop i vs)) ≡ codes " " ∷ text_of_value (data_of v) ∷ behind_spaces (map data_of (drop (i + 1) vs))
behind-drop vs i v h is =
    ap (λ us. behind_spaces (map data_of us)) (drop-cons vs i v h)
    ∙ ap (λ (x : Value). codes " " ∷ text_of_value (data_of x) ∷ behind_spaces (map data_of (drop (suc i) vs))) (sym is)
    ∙ rw add-one refl
