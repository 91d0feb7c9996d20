-- A template of any tree, by the bytes that the tree gave so far.
use Rattle.std.proofs.Common.{◌≡◌, ℕ, ◌+◌, ◌-◌, ◌<◌, ◌≤◌, true, List, [], ◌∷◌, ◌++◌, length, take, drop, Option, Some, None, Result, Ok}
use Rattle.std.proofs.Common.{Err, IsErr, IfOk, refl, sym, ap, subst, ◌∙◌, append_assoc, arith, ⊎_elim, unwrap_or, length-append}
use Rattle.std.specs.Prelude.{nat_lt, Bool, false, OnOk}
use Rattle.ports.specs.declared.fault.DeviceFault.{DeviceFault}
use borrow.Rule.Slice.PartMut.{put_mid, post_of}
use Rattle.std.proofs.lemmas.List.{append-nil, drop_at, length-drop, length-take-le, take-append-le}
use Rattle.std.proofs.Math.Seq.{take-add}
use Rattle.memchr.specs.Find.{IsFirstByte, is_byte}
use Rattle.std.proofs.lemmas.Bool.{cases_lt}
use Rattle.std.proofs.lemmas.Bool.Decides.{nat_tests}
use Rattle.ports.specs.Endings.{Whole}
use Rattle.ports.specs.Outputs.{OutputState, Writes}
use Rattle.ports.specs.Reading.{Given, GivenWhole, none, more, full, ended}
use Rattle.template.specs.Config.{Entries}
use Rattle.template.specs.declared.stop.PassStop.{PassStop}
use Rattle.template.specs.declared.stop.PassStop.TheVariants.{Template, Limit, Device}
use Rattle.template.specs.Given.{Gave, Passed, UnlessFailed, called, past}
use Rattle.template.specs.Line.{line_fault, line_steps}
use Rattle.template.specs.Template.{Agrees, Lacks, ending_of, fault_from, first_fault, lines_of, steps_from}
use Rattle.template.proofs.Passing.{IsPassing, Passes, cut_at, passing_as, passing_last, passing_line, passing_long, passing_start}
use Rattle.template.proofs.Passing.{passing_stop}

module _ {T : Type 0} (gives : T → List ℕ → ℕ → ℕ → List ℕ → T → Type 0) (path : List ℕ) (size : ℕ) (start : T) where
  -- one call more, or none
  given_on : (bytes piece : List ℕ) (at : ℕ) (t u : T) → at ≡ length bytes → Given gives path size start bytes t → Gave gives path size at t piece u
      → Given gives path size start (bytes ++ piece) u
  given_on bytes piece at t u place before (called p room v some fits gave few) =
      more bytes p room t v before (omega (arith, place)) (subst (λ a. gives t path a room p v) place gave) few
  given_on bytes piece at t u place before (past beyond) = subst (λ b. Given gives path size start b t) (sym (append-nil bytes)) before

  -- nothing more is given
  given_all : (bytes piece : List ℕ) (at : ℕ) (t u : T) → at ≡ length bytes → at ≤ size → piece ≡ [] → Given gives path size start bytes t
      → Gave gives path size at t piece u → GivenWhole gives path size start bytes u
  given_all bytes piece at t u place within empty before (called p room v some fits gave few) =
      ended bytes room t v before some (omega (arith, place)) (subst (λ a. gives t path a room [] v) place (subst (λ q. gives t path at room q v) empty gave))
  given_all bytes piece at t u place within empty before (past beyond) = full bytes t before (omega (arith, place))

-- what the tree told and gave so far, and where that leads with whatever follows it
pub record Reading {T : Type 0} (tells : T → List ℕ → Option ℕ → T → Type 0) (gives : T → List ℕ → ℕ → ℕ → List ℕ → T → Type 0) (entries : Entries) (path : List ℕ)
    (tree_old tree : T) (out_old out : OutputState) (size at number : ℕ) (buffer : List ℕ) : Type 0 where
  pub told : Option ℕ
  pub start : T
  pub is_told : tells tree_old path told start
  pub size_is : size ≡ unwrap_or told 0
  pub bytes : List ℕ
  pub place : at ≡ length bytes
  pub given : Given gives path size start bytes tree
  pub passing : (more : List ℕ) → IsPassing out_old out entries path (bytes ++ more) number (buffer ++ more)

-- nothing follows what was given
passing_now : {out_old out : OutputState} {entries : Entries} {path : List ℕ} {number : ℕ} (bytes buffer : List ℕ) → IsPassing out_old out entries path (bytes ++ []) number (buffer ++ [])
    → IsPassing out_old out entries path bytes number buffer
passing_now {out_old} {out} {entries} {path} {number} bytes buffer p =
    subst (λ (q : List ℕ × List ℕ). IsPassing out_old out entries path q.0 number q.1) (λ i. (append-nil bytes i, append-nil buffer i)) p

err_only : (A : Type 0) (r : Result (Unit {0}) PassStop) → IsErr r → OnOk r A
err_only A (Ok x) h = absurd cc
err_only A (Err e) h = tt

on_ok : (A : Type 0) (q : Result (Unit {0}) PassStop) → A → OnOk q A
on_ok A (Ok x) a = a
on_ok A (Err e) a = tt

given_whole : {T : Type 0} (gives : T → List ℕ → ℕ → ℕ → List ℕ → T → Type 0) (path : List ℕ) (size : ℕ) (start : T) (bytes : List ℕ) (u : T) → GivenWhole gives path size start bytes u
    → Given gives path size start bytes u
given_whole gives path size start bytes u (full b t before e) = before
given_whole gives path size start bytes u (ended b room t v before some fits gave) =
    subst (λ (x : List ℕ). Given gives path size start x v) (append-nil b) (more b [] room t v before fits gave (omega arith))

module _ {T : Type 0} (tells : T → List ℕ → Option ℕ → T → Type 0) (gives : T → List ℕ → ℕ → ℕ → List ℕ → T → Type 0) (entries : Entries) (path : List ℕ) (tree_old : T)
    (out_old : OutputState) where
  pub reading_start : (told : Option ℕ) (size : ℕ) (t : T) → tells tree_old path told t → size ≡ unwrap_or told 0
      → Reading tells gives entries path tree_old t out_old out_old size 0 1 []
  reading_start told size t h e = record {
    told = told;
    start = t;
    is_told = h;
    size_is = e;
    bytes = [];
    place = refl;
    given = none;
    passing = λ rest. passing_start out_old entries path rest;
  }

  pub reading_as : {tree : T} {out : OutputState} {size at number : ℕ} {a b : List ℕ} → Reading tells gives entries path tree_old tree out_old out size at number a → a ≡ b
      → Reading tells gives entries path tree_old tree out_old out size at number b
  reading_as {tree} {out} {size} {at} {number} {a} {b} r e = subst (λ x. Reading tells gives entries path tree_old tree out_old out size at number x) e r

  -- a line without fault
  pub reading_line : {tree : T} {mid new : OutputState} {size at number : ℕ} (line : List ℕ) (start end len : ℕ)
      → Reading tells gives entries path tree_old tree out_old mid size at number (take (end - start) (drop start line)) → start ≤ end → end ≤ length line
      → IsFirstByte (is_byte 10) (take (end - start) (drop start line)) (Some len)
      → Writes mid (line_steps entries path number (take len (drop start line) ++ 10 ∷ [])) Whole new
      → first_fault number (line_fault (take len (drop start line) ++ 10 ∷ [])) None ≡ None
      → Reading tells gives entries path tree_old tree out_old new size at (number + 1) (take (end - (start + (len + 1))) (drop (start + (len + 1)) line))
  reading_line {tree} {mid} {new} {size} {at} {number} line start end len r ends in_line first s f = record {
    told = r.told;
    start = r.start;
    is_told = r.is_told;
    size_is = r.size_is;
    bytes = r.bytes;
    place = r.place;
    given = r.given;
    passing = λ rest.
        let cut = cut_at line rest start end len ends in_line first in
        passing_line _ _ (passing_as (r.passing rest) cut.rest) cut.lacks s f;
  }

  -- some bytes more
  pub reading_more : {tree next : T} {out : OutputState} {size at number : ℕ} {buffer : List ℕ} (piece : List ℕ) (n : ℕ)
      → Reading tells gives entries path tree_old tree out_old out size at number buffer → Gave gives path size at tree piece next → n ≡ length piece
      → Reading tells gives entries path tree_old next out_old out size (at + n) number (buffer ++ piece)
  reading_more {tree} {next} {out} {size} {at} {number} {buffer} piece n r gave few = record {
    told = r.told;
    start = r.start;
    is_told = r.is_told;
    size_is = r.size_is;
    bytes = r.bytes ++ piece;
    place = omega (arith, r.place, length-append r.bytes piece);
    given = given_on gives path size r.start r.bytes piece at tree next r.place r.given gave;
    passing = λ rest.
        subst (λ (p : List ℕ × List ℕ). IsPassing out_old out entries path p.0 number p.1)
        (λ i. (sym (append_assoc r.bytes piece rest) i, sym (append_assoc buffer piece rest) i)) (r.passing (piece ++ rest));
  }

  -- how a pass ended, by the bytes that were given
  ended_so : {tree : T} {new : OutputState} {size : ℕ} (told : Option ℕ) (start : T) (bytes : List ℕ) (result : Result (Unit {0}) PassStop) → tells tree_old path told start → size ≡ unwrap_or told 0
      → Given gives path size start bytes tree → OnOk result (GivenWhole gives path size start bytes tree) → Passes out_old new entries path bytes result
      → UnlessFailed result (Passed tells gives entries path tree_old tree out_old new result)
  ended_so {tree} {new} {size} told start bytes (Ok x) h e given whole p = record {
    size = told;
    tree = start;
    told = h;
    bytes = bytes;
    given = subst (λ n. Given gives path n start bytes tree) e given;
    whole = subst (λ n. GivenWhole gives path n start bytes tree) e whole;
    events = p.events;
    fault = p.fault;
  }
  ended_so {tree} {new} {size} told start bytes (Err (Template line)) h e given whole p = record {
    size = told;
    tree = start;
    told = h;
    bytes = bytes;
    given = subst (λ n. Given gives path n start bytes tree) e given;
    whole = tt;
    events = p.events;
    fault = p.fault;
  }
  ended_so {tree} {new} {size} told start bytes (Err (Limit line)) h e given whole p = record {
    size = told;
    tree = start;
    told = h;
    bytes = bytes;
    given = subst (λ n. Given gives path n start bytes tree) e given;
    whole = tt;
    events = p.events;
    fault = p.fault;
  }
  ended_so told start bytes (Err Device) h e given whole p = tt

  -- at a line's refusal, or where a device failed in it
  pub reading_stop : {tree : T} {mid new : OutputState} {size at number : ℕ} (line : List ℕ) (start end len : ℕ) (result : Result (Unit {0}) PassStop) → IsErr result
      → Reading tells gives entries path tree_old tree out_old mid size at number (take (end - start) (drop start line)) → start ≤ end → end ≤ length line
      → IsFirstByte (is_byte 10) (take (end - start) (drop start line)) (Some len)
      → Writes mid (line_steps entries path number (take len (drop start line) ++ 10 ∷ [])) (ending_of result) new
      → Agrees result (first_fault number (line_fault (take len (drop start line) ++ 10 ∷ [])) None)
      → UnlessFailed result (Passed tells gives entries path tree_old tree out_old new result)
  reading_stop {tree} {mid} {new} {size} {at} {number} line start end len result err r ends in_line first s a =
      let cut = cut_at line [] start end len ends in_line first in
      let p = passing_stop _ _ result err (passing_as (r.passing []) cut.rest) cut.lacks s a in
      ended_so r.told r.start r.bytes result r.is_told r.size_is r.given (err_only _ result err)
      (subst (λ b. Passes out_old new entries path b result) (append-nil r.bytes) p)

  -- a line that is longer than the buffer
  pub reading_long : {tree next : T} {mid : OutputState} {size at number : ℕ} (line piece : List ℕ) → Reading tells gives entries path tree_old tree out_old mid size at number line → Lacks 10 line
      → Gave gives path size at tree piece next → 0 < length piece → length line ≡ 65536
      → Passed tells gives entries path tree_old next out_old mid (Err (Limit number))
  reading_long {tree} {next} {mid} {size} {at} {number} line piece r lacks gave some len =
      let p = passing_long line piece (r.passing piece) lacks some len in
      ended_so r.told r.start (r.bytes ++ piece) (Err (Limit number)) r.is_told r.size_is
      (given_on gives path size r.start r.bytes piece at tree next r.place r.given gave) tt p

  -- the last bytes, as `put_last` puts them
  pub reading_last : {tree next : T} {mid new : OutputState} {size at number : ℕ} (buffer piece : List ℕ) (result : Result (Unit {0}) PassStop)
      → Reading tells gives entries path tree_old tree out_old mid size at number buffer → at ≤ size → piece ≡ [] → Gave gives path size at tree piece next
      → Writes mid (steps_from entries path number (lines_of buffer)) (ending_of result) new → Agrees result (fault_from number (lines_of buffer))
      → UnlessFailed result (Passed tells gives entries path tree_old next out_old new result)
  reading_last {tree} {next} {mid} {new} {size} {at} {number} buffer piece result r within empty gave s a =
      let p = passing_last result (passing_now r.bytes buffer (r.passing [])) s a in
      let all = given_all gives path size r.start r.bytes piece at tree next r.place within empty r.given gave in
      ended_so r.told r.start r.bytes result r.is_told r.size_is (given_whole gives path size r.start r.bytes next all) (on_ok _ result all) p

-- ---- what the calls say

pub before : (a b : ℕ) → a ≤ b → (a ≡ b → ⊥) → a < b
before a b le ne = omega (arith, ne)

pub piece_some : (piece : List ℕ) (b : Bool) → b ≡ nat_lt 0 (length piece) → b ≡ true → 0 < length piece
piece_some piece b is e = let h : nat_lt 0 (length piece) ≡ true = sym is ∙ e in grind (arith, nat_tests)

pub piece_none : (piece : List ℕ) (b : Bool) → b ≡ nat_lt 0 (length piece) → b ≡ false → piece ≡ []
piece_none [] b is e = refl
piece_none (x ∷ piece) b is e = let h : nat_lt 0 (length (x ∷ piece)) ≡ false = sym is ∙ e in absurd (let le : length (x ∷ piece) ≤ 0 = grind (arith, nat_tests) in omega (arith, le))

-- what the buffer holds of what was there before
pub buffer_kept : (line moved now : List ℕ) (start end to : ℕ) → to ≡ end - start → take (end - start) moved ≡ take (end - start) (drop start line) → take to now ≡ take to moved
    → take (end - start) (drop start line) ≡ take to now
buffer_kept line moved now start end to count kept same = sym kept ∙ ap (λ k. take k moved) (sym count) ∙ sym same

pub lacks_kept : (line moved now : List ℕ) (start end to : ℕ) → to ≡ end - start
    → take (end - start) moved ≡ take (end - start) (drop start line) → take to now ≡ take to moved
    → Lacks 10 (take (end - start) (drop start line)) → Lacks 10 (take to now)
lacks_kept line moved now start end to count kept same h = subst (Lacks 10) (buffer_kept line moved now start end to count kept same) h

-- and with some bytes more
pub buffer_more : (line moved now : List ℕ) (start end to n : ℕ) → to ≡ end - start → take (end - start) moved ≡ take (end - start) (drop start line) → take to now ≡ take to moved
    → take (end - start) (drop start line) ++ take n (drop to now) ≡ take (to + n - 0) (drop 0 now)
buffer_more line moved now start end to n count kept same =
    ap (λ b. b ++ take n (drop to now)) (buffer_kept line moved now start end to count kept same) ∙ sym (take-add to n now) ∙ ap (λ k. take k now) (omega arith)

pub piece_length : (now : List ℕ) (to n : ℕ) → to + n ≤ length now → n ≡ length (take n (drop to now))
piece_length now to n within = let rest : length (drop to now) ≡ length now - to = length-drop to now in sym (length-take-le n (drop to now) (omega arith))

-- there was nothing to ask for
pub nothing_left : (at size filled len want : ℕ) → (0 < size - at → 0 < len - filled → 0 < want) → want ≡ 0 → filled < len → size ≤ at
nothing_left at size filled len want some no_wish room =
    ⊎_elim (λ lt. absurd (let h : 0 < want = some (omega (arith, lt)) (omega (arith, room)) in omega (arith, h, no_wish))) (λ le. le) (cases_lt at size)

-- what a call of `read_at` on a part of the line gave
pub fill_given : {T : Type 0} (gives : T → List ℕ → ℕ → ℕ → List ℕ → T → Type 0) (path : List ℕ) (size at : ℕ) (t u : T) (line buf : List ℕ) (filled want room : ℕ) (r : Result ℕ DeviceFault)
    → filled ≤ length line → length buf ≡ room → 0 < room → at + room ≤ size → IfOk r (λ n. n ≤ room) → IfOk r (λ n. gives t path at room (take n buf) u)
    → IfOk r (λ n. Gave gives path size at t (take n (drop filled (put_mid filled want line buf))) u)
fill_given gives path size at t u line buf filled want room (Ok n) le len some fits within gave =
    let place : length (take filled line) ≡ filled = length-take-le filled line le in
    let same : take n (drop filled (put_mid filled want line buf)) ≡ take n buf =
    ap (take n) (drop_at (take filled line) (buf ++ post_of filled want line) filled place) ∙ take-append-le n buf (post_of filled want line) (omega (arith, len)) in
    subst (λ p. Gave gives path size at t p u) (sym same)
    (called (take n buf) room u some fits gave (omega (arith, length-take-le n buf (omega (arith, len)))))
fill_given gives path size at t u line buf filled want room (Err e) le len some fits within gave = tt
