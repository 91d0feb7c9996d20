-- How a template is passed line by line.
use Rattle.std.proofs.Common.{◌≡◌, ℕ, suc, ◌+◌, ◌-◌, ◌<◌, ◌≤◌, Bool, true, false, ◌==◌, List, [], ◌∷◌, ◌++◌, length, take, drop, get_or}
use Rattle.std.proofs.Common.{Option, Some, None, Result, Ok, Err, IsErr, IfOk, refl, sym, ap, ◌∙◌, append_assoc, arith, subst, ⊎_elim}
use Rattle.std.proofs.Common.{eqb-true, unwrap_or}
use Rattle.std.specs.Prelude.{nat_lt}
use Rattle.std.proofs.lemmas.Bool.{false≢true, cases_Bool, cases_lt, lt-ltb}
use Rattle.std.proofs.lemmas.List.{append-nil, length-drop, length-take-le, get_or-take, take_more, drop-drop, take-take, take-append-drop}
use Rattle.std.proofs.lemmas.List.{take-append-le, drop_all}
use Rattle.std.specs.Result.{IsErrAnd}
use Rattle.std.proofs.Math.Seq.{take-append-add, take-add, take-length}
use Rattle.std.proofs.lemmas.Bool.Decides.{nat_tests}
use Rattle.std.specs.Option.{option_map}
use Rattle.memchr.specs.Find.{IsFirstByte, is_byte}
use Rattle.template.proofs.Scan.{lacks-take}
use Rattle.ports.specs.declared.fault.DeviceFault.{DeviceFault}
use borrow.Rule.Slice.PartMut.{put_mid, post_of}
use Rattle.ports.specs.Tree.{TreeState, Stays, Reads}
use Rattle.ports.specs.Endings.{Ending, Whole, Failed, is_whole}
use Rattle.ports.specs.Outputs.{OutputState, Step, Sends, Writes}
use Rattle.ports.proofs.Sending.{writes_nothing, sends_part, sends_stop}
use Rattle.template.specs.Config.{Entries}
use Rattle.template.specs.declared.stop.PassStop.{PassStop}
use Rattle.template.specs.declared.stop.PassStop.TheVariants.{Template, Limit, Device}
use Rattle.template.specs.Line.{Refusal, LongLine, TooLong, line_fault, line_steps, reading_of_line}
use Rattle.template.proofs.Define.{fault_read, refusal-TooLong, steps_read, steps-TooLong}
use Rattle.template.specs.Template.{Agrees, Lacks, ending_of, fault_from, first_fault, lines_of, onto, steps_from}
use Rattle.ports.proofs.Going.{Going, going_start, going_on, going_stop, going_last, going_end, going_as}

-- cutting

lines_of-newline : (rest : List ℕ) → lines_of (10 ∷ rest) ≡ (10 ∷ []) ∷ lines_of rest
unfolding lines_of
lines_of-newline rest = refl

lines_of-other : (b : ℕ) (bytes : List ℕ) → (b == 10) ≡ false → lines_of (b ∷ bytes) ≡ onto b (lines_of bytes)
unfolding lines_of
lines_of-other b bytes e = rw e

onto-cons : (b : ℕ) (line : List ℕ) (lines : List (List ℕ)) → onto b (line ∷ lines) ≡ (b ∷ line) ∷ lines
unfolding onto
onto-cons b line lines = refl

pub lines_of-line : (line rest : List ℕ) → Lacks 10 line → lines_of (line ++ 10 ∷ rest) ≡ (line ++ 10 ∷ []) ∷ lines_of rest
lines_of-line [] rest h = lines_of-newline rest
lines_of-line (b ∷ line) rest h =
    lines_of-other b (line ++ 10 ∷ rest) h.0 ∙ ap (onto b) (lines_of-line line rest h.1) ∙ onto-cons b (line ++ 10 ∷ []) (lines_of rest)

lines_of-one : (b : ℕ) → (b == 10) ≡ false → lines_of (b ∷ []) ≡ (b ∷ []) ∷ []
unfolding lines_of onto
lines_of-one b e = rw e

pub lines_of-last : (b : ℕ) (line : List ℕ) → Lacks 10 (b ∷ line) → lines_of (b ∷ line) ≡ (b ∷ line) ∷ []
lines_of-last b [] h = lines_of-one b h.0
lines_of-last b (x ∷ line) h = lines_of-other b (x ∷ line) h.0 ∙ ap (onto b) (lines_of-last x line h.1) ∙ onto-cons b (x ∷ line) []

-- the first line of some bytes is longer than this
pub record IsLong (n : ℕ) (lines : List (List ℕ)) : Type 0 where
  pub line : List ℕ
  pub later : List (List ℕ)
  pub is : lines ≡ line ∷ later
  pub long : n < length line

long_onto : (n b : ℕ) (lines : List (List ℕ)) → IsLong n lines → IsLong (suc n) (onto b lines)
long_onto n b lines h = record { line = b ∷ h.line; later = h.later; is = ap (onto b) h.is ∙ onto-cons b h.line h.later; long = let e = h.long in omega arith }

onto-any : (b : ℕ) (lines : List (List ℕ)) → IsLong 0 (onto b lines)
unfolding onto
onto-any b [] = record { line = b ∷ []; later = []; is = refl; long = omega arith }
onto-any b (line ∷ lines) = record { line = b ∷ line; later = lines; is = refl; long = omega arith }

newline_any : (b : ℕ) (bytes : List ℕ) → (b == 10) ≡ true → lines_of (b ∷ bytes) ≡ (b ∷ []) ∷ lines_of bytes
unfolding lines_of
newline_any b bytes e = rw e

lines_of-any : (b : ℕ) (bytes : List ℕ) → IsLong 0 (lines_of (b ∷ bytes))
lines_of-any b bytes =
    ⊎_elim
    (λ e. record { line = b ∷ []; later = lines_of bytes; is = newline_any b bytes e; long = omega arith })
    (λ e. subst (IsLong 0) (sym (lines_of-other b bytes e)) (onto-any b (lines_of bytes)))
    (cases_Bool (b == 10))

pub lines_of-long : (line more : List ℕ) → Lacks 10 line → 0 < length more → IsLong (length line) (lines_of (line ++ more))
lines_of-long [] [] h some = absurd (omega arith)
lines_of-long [] (b ∷ more) h some = lines_of-any b more
lines_of-long (b ∷ line) more h some = subst (IsLong (suc (length line))) (sym (lines_of-other b (line ++ more) h.0)) (long_onto (length line) b (lines_of (line ++ more)) (lines_of-long line more h.1 some))

-- the first line

steps_from-some : (entries : Entries) (path : List ℕ) (number : ℕ) (line : List ℕ) (lines : List (List ℕ)) (f : Refusal) → line_fault line ≡ Some f
    → steps_from entries path number (line ∷ lines) ≡ line_steps entries path number line
unfolding steps_from
steps_from-some entries path number line lines f e = rw e (append-nil (line_steps entries path number line))

steps_from-none : (entries : Entries) (path : List ℕ) (number : ℕ) (line : List ℕ) (lines : List (List ℕ)) → line_fault line ≡ None
    → steps_from entries path number (line ∷ lines) ≡ line_steps entries path number line ++ steps_from entries path (number + 1) lines
unfolding steps_from
steps_from-none entries path number line lines e = rw e

fault_from-some : (number : ℕ) (line : List ℕ) (lines : List (List ℕ)) (f : Refusal) → line_fault line ≡ Some f → fault_from number (line ∷ lines) ≡ Some (number, f)
unfolding fault_from first_fault
fault_from-some number line lines f e = rw e

fault_from-none : (number : ℕ) (line : List ℕ) (lines : List (List ℕ)) → line_fault line ≡ None → fault_from number (line ∷ lines) ≡ fault_from (number + 1) lines
unfolding fault_from first_fault
fault_from-none number line lines e = rw e

-- a template of which this was passed, and the rest, whose first line has this number
pub record IsPassing (old now : OutputState) (entries : Entries) (path file : List ℕ) (number : ℕ) (rest : List ℕ) : Type 0 where
  pub going : Going old now (steps_from entries path 1 (lines_of file)) (steps_from entries path number (lines_of rest))
  pub fault : fault_from 1 (lines_of file) ≡ fault_from number (lines_of rest)

pub passing_start : (s : OutputState) (entries : Entries) (path file : List ℕ) → IsPassing s s entries path file 1 file
passing_start s entries path file = record { going = going_start s _; fault = refl }

pub passing_as : {old now : OutputState} {entries : Entries} {path file : List ℕ} {number : ℕ} {a b : List ℕ} → IsPassing old now entries path file number a → a ≡ b → IsPassing old now entries path file number b
passing_as {old} {now} {entries} {path} {file} {number} {a} {b} h e = subst (λ r. IsPassing old now entries path file number r) e h

no_fault : (number : ℕ) (f : Option Refusal) → first_fault number f None ≡ None → f ≡ None
unfolding first_fault
no_fault number None e = refl
no_fault number (Some f) e = cc

-- a line without fault
pub passing_line : {old mid new : OutputState} {entries : Entries} {path file : List ℕ} {number : ℕ} (line rest : List ℕ)
    → IsPassing old mid entries path file number (line ++ 10 ∷ rest) → Lacks 10 line
    → Writes mid (line_steps entries path number (line ++ 10 ∷ [])) Whole new → first_fault number (line_fault (line ++ 10 ∷ [])) None ≡ None
    → IsPassing old new entries path file (number + 1) rest
passing_line {old} {mid} {new} {entries} {path} {file} {number} line rest h lacks s f =
    let none = no_fault number (line_fault (line ++ 10 ∷ [])) f in
    record {
      going = going_on (going_as h.going (ap (steps_from entries path number) (lines_of-line line rest lacks) ∙ steps_from-none entries path number (line ++ 10 ∷ []) (lines_of rest) none)) s;
      fault = h.fault ∙ ap (fault_from number) (lines_of-line line rest lacks) ∙ fault_from-none number (line ++ 10 ∷ []) (lines_of rest) none;
    }

-- the call ended as the definition says
pub record Passes (old new : OutputState) (entries : Entries) (path file : List ℕ) (r : Result (Unit {0}) PassStop) : Type 0 where
  pub events : Sends old new (steps_from entries path 1 (lines_of file)) (is_whole (ending_of r))
  pub fault : Agrees r (fault_from 1 (lines_of file))

-- at a line's refusal, or where a device failed in it
stopped_at : {old mid new : OutputState} (entries : Entries) (path file : List ℕ) (number : ℕ) (line : List ℕ) (lines : List (List ℕ)) (r : Result (Unit {0}) PassStop) (f : Option Refusal)
    → line_fault line ≡ f → IsErr r
    → Going old mid (steps_from entries path 1 (lines_of file)) (steps_from entries path number (line ∷ lines)) → fault_from 1 (lines_of file) ≡ fault_from number (line ∷ lines)
    → Writes mid (line_steps entries path number line) (ending_of r) new → Agrees r (first_fault number f None) → Passes old new entries path file r
unfolding first_fault
stopped_at entries path file number line lines (Ok x) f e err h same s a = absurd (false≢true err)
stopped_at entries path file number line lines (Err Device) None e err h same s a = record { events = (going_stop _ (going_as h (steps_from-none entries path number line lines e)) s).sends; fault = tt }
stopped_at entries path file number line lines (Err Device) (Some f) e err h same s a = record { events = (going_last (going_as h (steps_from-some entries path number line lines f e)) s).sends; fault = tt }
stopped_at entries path file number line lines (Err (Template n)) None e err h same s a = absurd cc
stopped_at entries path file number line lines (Err (Template n)) (Some f) e err h same s a = record {
  events = (going_last (going_as h (steps_from-some entries path number line lines f e)) s).sends;
  fault = same ∙ fault_from-some number line lines f e ∙ a;
}
stopped_at entries path file number line lines (Err (Limit n)) None e err h same s a = absurd cc
stopped_at entries path file number line lines (Err (Limit n)) (Some f) e err h same s a = record {
  events = (going_last (going_as h (steps_from-some entries path number line lines f e)) s).sends;
  fault = same ∙ fault_from-some number line lines f e ∙ a;
}

pub passing_stop : {old mid new : OutputState} {entries : Entries} {path file : List ℕ} {number : ℕ} (line rest : List ℕ) (r : Result (Unit {0}) PassStop)
    → IsErr r → IsPassing old mid entries path file number (line ++ 10 ∷ rest) → Lacks 10 line
    → Writes mid (line_steps entries path number (line ++ 10 ∷ [])) (ending_of r) new → Agrees r (first_fault number (line_fault (line ++ 10 ∷ [])) None)
    → Passes old new entries path file r
passing_stop {old} {mid} {new} {entries} {path} {file} {number} line rest r err h lacks s a =
    stopped_at entries path file number (line ++ 10 ∷ []) (lines_of rest) r (line_fault (line ++ 10 ∷ [])) refl err
    (going_as h.going (ap (steps_from entries path number) (lines_of-line line rest lacks)))
    (h.fault ∙ ap (fault_from number) (lines_of-line line rest lacks)) s a

-- the last bytes, as `put_last` puts them
pub passing_last : {old mid new : OutputState} {entries : Entries} {path file : List ℕ} {number : ℕ} {rest : List ℕ} (r : Result (Unit {0}) PassStop)
    → IsPassing old mid entries path file number rest → Writes mid (steps_from entries path number (lines_of rest)) (ending_of r) new → Agrees r (fault_from number (lines_of rest))
    → Passes old new entries path file r
passing_last {old} {mid} {new} {entries} {path} {file} {number} {rest} r h s a = record {
  events = (going_last h.going s).sends;
  fault = subst (λ f. Agrees r f) (sym h.fault) a;
}

-- a device failed between two lines
pub passing_fault : {old mid : OutputState} {entries : Entries} {path file : List ℕ} {number : ℕ} {rest : List ℕ}
    → IsPassing old mid entries path file number rest → Sends old mid (steps_from entries path 1 (lines_of file)) false
passing_fault {old} {mid} {entries} {path} {file} {number} {rest} h = subst (λ r. Sends old mid r false) (sym h.going.of_run) (sends_stop _ (sends_part h.going.writes.sends))

long_reading : (line : List ℕ) → 65536 < length line → reading_of_line line ≡ TooLong
unfolding reading_of_line
long_reading line h = let e : nat_lt 65536 (length line) ≡ true = lt-ltb 65536 (length line) h in rw e refl

long_fault : (line : List ℕ) → 65536 < length line → line_fault line ≡ Some LongLine
long_fault line h = fault_read line TooLong (long_reading line h) ∙ refusal-TooLong

long_steps : (entries : Entries) (path : List ℕ) (number : ℕ) (line : List ℕ) → 65536 < length line → line_steps entries path number line ≡ []
long_steps entries path number line h = steps_read entries path number line TooLong (long_reading line h) ∙ steps-TooLong entries path number line

-- the line is longer than the buffer
pub passing_long : {old mid : OutputState} {entries : Entries} {path file : List ℕ} {number : ℕ} (line more : List ℕ)
    → IsPassing old mid entries path file number (line ++ more) → Lacks 10 line → 0 < length more → length line ≡ 65536
    → Passes old mid entries path file (Err (Limit number))
passing_long {old} {mid} {entries} {path} {file} {number} line more h lacks some len =
    let l = lines_of-long line more lacks some in
    let long : 65536 < length l.line = let e = l.long in omega arith in
    let f = long_fault l.line long in
    record {
      events = (going_end (going_as h.going (ap (steps_from entries path number) l.is ∙ steps_from-some entries path number l.line l.later LongLine f ∙ long_steps entries path number l.line long))).sends;
      fault = h.fault ∙ ap (fault_from number) l.is ∙ fault_from-some number l.line l.later LongLine f;
    }

-- the first line in the buffer, and what stands behind it
pub record IsCut (line more : List ℕ) (start end len : ℕ) : Type 0 where
  pub lacks : Lacks 10 (take len (drop start line))
  pub range : start + (len + 1) ≤ end
  pub whole : take (start + len + 1 - start) (drop start line) ≡ take len (drop start line) ++ 10 ∷ []
  pub rest : take (end - start) (drop start line) ++ more ≡ take len (drop start line) ++ 10 ∷ (take (end - (start + (len + 1))) (drop (start + (len + 1)) line) ++ more)

pub cut_at : (line more : List ℕ) (start end len : ℕ) → start ≤ end → end ≤ length line
    → IsFirstByte (is_byte 10) (take (end - start) (drop start line)) (Some len) → IsCut line more start end len
cut_at line more start end len ends in_line first =
    let d = drop start line in
    let dlen : length d ≡ length line - start = length-drop start line in
    let blen : length (take (end - start) d) ≡ end - start = length-take-le (end - start) d (omega arith) in
    let high : len < length (take (end - start) d) = first.0.high in
    let lt : len < length d = omega arith in
    let lt' : len < end - start = omega arith in
    let is10 : get_or d len 0 ≡ 10 = sym (get_or-take (end - start) d len 0 lt') ∙ eqb-true (get_or (take (end - start) d) len 0) 10 first.1 in
    let front : take (len + 1) d ≡ take len d ++ 10 ∷ [] = take_more d len 0 lt ∙ ap (λ x. take len d ++ x ∷ []) is10 in
    let r = end - (start + (len + 1)) in
    let behind : drop (len + 1) d ≡ drop (start + (len + 1)) line = drop-drop (len + 1) start line ∙ ap (λ k. drop k line) (omega arith) in
    let n : end - start ≡ len + 1 + r = omega arith in
    let m : start + len + 1 - start ≡ len + 1 = omega arith in
    record {
      lacks = subst (Lacks 10) (take-take len (end - start) d (omega arith)) (lacks-take 10 (take (end - start) d) len (λ j low lt. first.0.before j low lt));
      range = omega arith;
      whole = ap (λ k. take k d) m ∙ front;
      rest = ap (λ k. take k d ++ more) n
          ∙ ap (λ l. l ++ more) (take-add (len + 1) r d ∙ ap (λ f. f ++ take r (drop (len + 1) d)) front ∙ ap (λ b. (take len d ++ 10 ∷ []) ++ take r b) behind ∙ append_assoc (take len d) (10 ∷ []) (take r (drop (start + (len + 1)) line)))
          ∙ append_assoc (take len d) (10 ∷ take r (drop (start + (len + 1)) line)) more;
    }

pub size_is : (o : Option (List ℕ)) → unwrap_or (option_map length o) 0 ≡ length (unwrap_or o [])
size_is None = refl
size_is (Some bytes) = refl

-- at the exit of a `?` on a device
pub exit_device : {old new : OutputState} {run : List Step} (r : Result (Unit {0}) PassStop) → IsErrAnd r (λ e. e ≡ Device) → Writes old run Failed new → Writes old run (ending_of r) new
exit_device (Ok x) e s = absurd e
exit_device (Err Device) e s = s
exit_device (Err (Template n)) e s = absurd cc
exit_device (Err (Limit n)) e s = absurd cc

-- the same of what was sent
pub exit_sends : {old new : OutputState} {run : List Step} (r : Result (Unit {0}) PassStop) → IsErrAnd r (λ e. e ≡ Device) → Sends old new run false → Sends old new run (is_whole (ending_of r))
exit_sends (Ok x) e s = absurd e
exit_sends (Err Device) e s = s
exit_sends (Err (Template n)) e s = absurd cc
exit_sends (Err (Limit n)) e s = absurd cc

-- at the exit of a `?` that hands its error on
pub exit_same : (r : Result (Unit {0}) PassStop) (x : PassStop) → IsErrAnd r (λ e. e ≡ x) → r ≡ Err x
exit_same (Ok y) x e = absurd e
exit_same (Err y) x e = ap (λ z. Err z) e

pub filled_on : (line moved now file : List ℕ) (start end to at n : ℕ) → to ≡ end - start → take (end - start) moved ≡ take (end - start) (drop start line)
    → take (to + n) now ≡ take to moved ++ take n (drop at file)
    → take (end - start) (drop start line) ++ drop at file ≡ take (to + n) now ++ drop (at + n) file
filled_on line moved now file start end to at n count kept read =
    let same : take to moved ≡ take (end - start) (drop start line) = ap (λ k. take k moved) count ∙ kept in
    sym (ap (λ l. l ++ drop (at + n) file) (read ∙ ap (λ l. l ++ take n (drop at file)) same)
    ∙ append_assoc (take (end - start) (drop start line)) (take n (drop at file)) (drop (at + n) file)
    ∙ ap (λ l. take (end - start) (drop start line) ++ (take n (drop at file) ++ l)) (sym (drop-drop n at file))
    ∙ ap (λ l. take (end - start) (drop start line) ++ l) (take-append-drop n (drop at file)))

pub filled_more : (line moved now file : List ℕ) (start end to at n : ℕ) → to ≡ end - start → take (end - start) moved ≡ take (end - start) (drop start line)
    → take (to + n) now ≡ take to moved ++ take n (drop at file)
    → take (end - start) (drop start line) ++ drop at file ≡ take (to + n - 0) (drop 0 now) ++ drop (at + n) file
filled_more line moved now file start end to at n count kept read = filled_on line moved now file start end to at n count kept read ∙ ap (λ k. take k now ++ drop (at + n) file) (omega arith)

-- the file has ended, and the buffer holds the rest
pub filled_last : (line moved now file : List ℕ) (start end to at n : ℕ) → to ≡ end - start → take (end - start) moved ≡ take (end - start) (drop start line)
    → take (to + n) now ≡ take to moved ++ take n (drop at file) → n ≡ 0 → length file ≤ at
    → (take (end - start) (drop start line) ++ drop at file ≡ take to now) × (take (end - start) (drop start line) ≡ take to now)
filled_last line moved now file start end to at n count kept read none past =
    let gone : drop at file ≡ [] = drop_all at file past in
    let all : take (end - start) (drop start line) ++ drop at file ≡ take to now = filled_on line moved now file start end to at n count kept read ∙ ap (λ l. take (to + n) now ++ l) (drop_all (at + n) file (omega arith)) ∙ append-nil (take (to + n) now) ∙ ap (λ k. take k now) (omega arith) in
    (all, sym (append-nil (take (end - start) (drop start line))) ∙ ap (λ l. take (end - start) (drop start line) ++ l) (sym gone) ∙ all)

pub left_some : (file : List ℕ) (at size : ℕ) → size ≡ length file → at < size → 0 < length (drop at file)
left_some file at size e lt = let n : length (drop at file) ≡ length file - at = length-drop at file in omega arith

-- the whole buffer is full
pub whole_kept : (line moved : List ℕ) (start end to : ℕ) → to ≡ end - start → take (end - start) moved ≡ take (end - start) (drop start line) → to ≡ length moved
    → take (end - start) (drop start line) ≡ moved
whole_kept line moved start end to count kept full = sym kept ∙ ap (λ k. take k moved) (sym count ∙ full) ∙ take-length moved

pub lacks_whole : (line moved : List ℕ) (start end to : ℕ) → to ≡ end - start
    → take (end - start) moved ≡ take (end - start) (drop start line) → to ≡ length moved
    → Lacks 10 (take (end - start) (drop start line)) → Lacks 10 moved
lacks_whole line moved start end to count kept full h = subst (Lacks 10) (whole_kept line moved start end to count kept full) h

-- nothing is left of the file
pub file_over : (file : List ℕ) (at size : ℕ) (more : Bool) → (size ≡ length file → more ≡ nat_lt at size) → more ≡ false → size ≡ length file → drop at file ≡ []
file_over file at size more is none same =
    let h : nat_lt at size ≡ false = sym (is same) ∙ none in
    let le : size ≤ at = grind (arith, nat_tests) in
    drop_all at file (omega arith)

pub file_goes_on : (file : List ℕ) (at size : ℕ) (more : Bool) → (size ≡ length file → more ≡ nat_lt at size) → more ≡ true → size ≡ length file → 0 < length (drop at file)
file_goes_on file at size more is some same =
    let h : nat_lt at size ≡ true = sym (is same) ∙ some in
    let lt : at < size = grind (arith, nat_tests) in
    left_some file at size same lt

pub buffer_len : (line : List ℕ) (start end : ℕ) → start ≤ end → end ≤ length line → length (take (end - start) (drop start line)) ≡ end - start
buffer_len line start end ends in_line = let n : length (drop start line) ≡ length line - start = length-drop start line in length-take-le (end - start) (drop start line) (omega arith)

pub stays_then : {a b d : TreeState} → Stays a b → Stays b d → Stays a d
stays_then {a} {b} {d} s t = record { steady = λ h. t.steady (s.steady h); files = λ h. t.files (s.steady h) ∙ s.files h }

pub file_past : (n at size flen filled len : ℕ) → (filled < len → at < size → at < flen → 0 < n) → n ≡ 0 → filled ≤ len → (filled ≡ len → ⊥) → size ≡ flen → flen ≤ at
file_past n at size flen filled len some none le ne same =
    ⊎_elim (λ lt. absurd (let h : 0 < n = some (omega arith) (omega arith) lt in omega arith)) (λ le. le) (cases_lt at flen)

fill_at : (line buf : List ℕ) (file : List ℕ) (filled want at n : ℕ) → filled ≤ length line → n ≤ length buf → take n buf ≡ take n (drop at file)
    → take (filled + n) (put_mid filled want line buf) ≡ take filled line ++ take n (drop at file)
fill_at line buf file filled want at n le short same =
    let len : length (take filled line) ≡ filled = length-take-le filled line le in
    ap (λ k. take (k + n) (put_mid filled want line buf)) (sym len) ∙ take-append-add (take filled line) (buf ++ post_of filled want line) n
    ∙ ap (λ r. take filled line ++ r) (take-append-le n buf (post_of filled want line) short ∙ same)

-- what a call of `read_at` on a part of the line leaves in the line
pub fill_bytes : (line buf file : List ℕ) (filled want at room : ℕ) (r : Result ℕ DeviceFault) → filled ≤ length line → length buf ≡ room
    → IfOk r (λ n. n ≤ room) → IfOk r (λ n. Reads file at room n buf) → IfOk r (λ n. take (filled + n) (put_mid filled want line buf) ≡ take filled line ++ take n (drop at file))
fill_bytes line buf file filled want at room (Ok n) le len within reads = fill_at line buf file filled want at n le (omega arith) reads.bytes
fill_bytes line buf file filled want at room (Err e) le len within reads = tt

pub last_none : (s : OutputState) (entries : Entries) (path : List ℕ) (number : ℕ) (bytes : List ℕ) → length bytes ≡ 0 → Writes s (steps_from entries path number (lines_of bytes)) Whole s
unfolding steps_from lines_of
last_none s entries path number [] h = writes_nothing s
last_none s entries path number (b ∷ bytes) h = absurd (omega arith)

pub fault_none : (number : ℕ) (bytes : List ℕ) → length bytes ≡ 0 → fault_from number (lines_of bytes) ≡ None
unfolding fault_from lines_of
fault_none number [] h = refl
fault_none number (b ∷ bytes) h = absurd (omega arith)

steps_from-end : (entries : Entries) (path : List ℕ) (number : ℕ) → steps_from entries path number [] ≡ []
unfolding steps_from
steps_from-end entries path number = refl

fault_one_is : (number : ℕ) (line : List ℕ) → first_fault number (line_fault line) None ≡ fault_from number (line ∷ [])
unfolding fault_from
fault_one_is number line = refl

steps_one : (entries : Entries) (path : List ℕ) (number : ℕ) (line : List ℕ) → steps_from entries path number (line ∷ []) ≡ line_steps entries path number line
steps_one entries path number line = steps_one_at entries path number line (line_fault line) refl where
  steps_one_at : (entries : Entries) (path : List ℕ) (number : ℕ) (line : List ℕ) (f : Option Refusal) → line_fault line ≡ f → steps_from entries path number (line ∷ []) ≡ line_steps entries path number line
  steps_one_at entries path number line None e = steps_from-none entries path number line [] e ∙ ap (λ r. line_steps entries path number line ++ r) (steps_from-end entries path (number + 1)) ∙ append-nil (line_steps entries path number line)
  steps_one_at entries path number line (Some f) e = steps_from-some entries path number line [] f e

pub last_one : {old new : OutputState} (entries : Entries) (path : List ℕ) (number : ℕ) (bytes : List ℕ) {e : Ending} → (length bytes ≡ 0 → ⊥) → Lacks 10 bytes
    → Writes old (line_steps entries path number bytes) e new → Writes old (steps_from entries path number (lines_of bytes)) e new
last_one entries path number [] some lacks s = absurd (some refl)
last_one entries path number (b ∷ bytes) some lacks s = rw (lines_of-last b bytes lacks) (rw (steps_one entries path number (b ∷ bytes)) s)

pub fault_one : (number : ℕ) (bytes : List ℕ) → (length bytes ≡ 0 → ⊥) → Lacks 10 bytes → first_fault number (line_fault bytes) None ≡ fault_from number (lines_of bytes)
fault_one number [] some lacks = absurd (some refl)
fault_one number (b ∷ bytes) some lacks = fault_one_is number (b ∷ bytes) ∙ sym (ap (fault_from number) (lines_of-last b bytes lacks))
