-- The first line that may not stand where it does.
use Rattle.std.proofs.Common.{◌≡◌, ℕ, suc, ◌+◌, List, [], ◌∷◌, ◌++◌, length, Result, Ok, Err, refl, sym, ap, ◌∙◌, subst, arith}
use Rattle.std.specs.Result.{result_map_both}
use Rattle.support.specs.declared.faults.refusal.Refusal.TheVariants as refusals
use Rattle.machine_file.specs.Fault.{MachineFaultData, bad_line}
use Rattle.machine_file.specs.Files.{Said, nothing_said, after, continue_with, said_from, sections_said, machine_of}
use Rattle.machine_file.specs.Answers.{IsFirstBad, MachineSaid}
use Rattle.machine_file.proofs.SaysLemmas.{said_sound, said_complete}

abbrev Read : Type 0
Read = Result Said MachineFaultData

abbrev failed : MachineFaultData → Read
failed fault = Err fault

abbrev taken : Said → Read
taken s = Ok s

abbrev Line : Type 0
Line = Result Said (List ℕ)

-- from what was said on, the lines up to a first bad one, with this fault
record Stops (ls : List (List ℕ)) (n : ℕ) (fault : MachineFaultData) (s : Said) : Type 0 where
  before : List (List ℕ)
  here : List ℕ
  rest : List (List ℕ)
  parts : ls ≡ before ++ here ∷ rest
  refusal : fault.refusal ≡ refusals.MachineFile
  number : fault.line ≡ length before + (n + 1)
  said : Said
  good : said_from before n s ≡ Ok said
  why : after said fault.line here ≡ Err fault.detail
  bad : (more : List (List ℕ)) → said_from (before ++ here ∷ more) n s ≡ Err fault

next : (l : List ℕ) (ls : List (List ℕ)) (n : ℕ) (fault : MachineFaultData) (s t : Said) → after s (suc n) l ≡ Ok t
    → Stops ls (suc n) fault t → Stops (l ∷ ls) n fault s
unfolding said_from
next l ls n fault s t e w = record {
  before = l ∷ w.before;
  here = w.here;
  rest = w.rest;
  parts = ap (λ (xs : List (List ℕ)). l ∷ xs) w.parts;
  refusal = w.refusal;
  number = omega (arith, w.number);
  said = w.said;
  good = ap (continue_with (said_from w.before (suc n)) (suc n)) e ∙ w.good;
  why = w.why;
  bad = λ more. ap (continue_with (said_from (w.before ++ w.here ∷ more) (suc n)) (suc n)) e ∙ w.bad more;
}

here_bad : (l : List ℕ) (ls : List (List ℕ)) (n : ℕ) (detail : List ℕ) (s : Said) → after s (suc n) l ≡ Err detail
    → Stops (l ∷ ls) n (bad_line (suc n) detail) s
unfolding said_from
here_bad l ls n detail s e = record {
  before = [];
  here = l;
  rest = ls;
  parts = refl;
  refusal = refl;
  number = omega arith;
  said = s;
  good = refl;
  why = e;
  bad = λ more. ap (continue_with (said_from more (suc n)) (suc n)) e;
}

same_fault : (f g : MachineFaultData) → failed f ≡ failed g → f ≡ g
same_fault f g e = cc

stops_by : (l : List ℕ) (ls : List (List ℕ)) (n : ℕ) (fault : MachineFaultData) (s : Said) (o : Line) → after s (suc n) l ≡ o
    → continue_with (said_from ls (suc n)) (suc n) o ≡ Err fault
    → ((t : Said) → said_from ls (suc n) t ≡ Err fault → Stops ls (suc n) fault t) → Stops (l ∷ ls) n fault s
stops_by l ls n fault s (Err detail) e h later =
    subst (λ f. Stops (l ∷ ls) n f s) (same_fault (bad_line (suc n) detail) fault h) (here_bad l ls n detail s e)
stops_by l ls n fault s (Ok t) e h later = next l ls n fault s t e (later t h)

stops : (ls : List (List ℕ)) (n : ℕ) (fault : MachineFaultData) (s : Said) → said_from ls n s ≡ Err fault → Stops ls n fault s
unfolding said_from
stops [] n fault s h = absurd cc
stops (l ∷ ls) n fault s h = stops_by l ls n fault s (after s (suc n) l) refl h (λ t e. stops ls (suc n) fault t e)

abbrev refused_so : MachineFaultData → MachineSaid
refused_so fault = Err fault

err_said : (r : Read) (fault : MachineFaultData) → result_map_both sections_said (λ f. f) r ≡ refused_so fault → r ≡ Err fault
err_said (Ok s) fault e = absurd cc
err_said (Err f) fault e = let same : f ≡ fault = cc in ap failed same

-- a fault that is read is E16, at the first bad line
pub first_bad : (ls : List (List ℕ)) (fault : MachineFaultData) → machine_of ls ≡ Err fault
    → (fault.refusal ≡ refusals.MachineFile) × IsFirstBad ls fault.line fault.detail
unfolding machine_of
first_bad ls fault h =
    let w = stops ls 0 fault nothing_said (err_said (said_from ls 0 nothing_said) fault h) in (
      w.refusal,
      record {
        before = w.before;
        here = w.here;
        rest = w.rest;
        parts = w.parts;
        number = omega (arith, w.number);
        said = w.said;
        good = said_sound w.before 0 nothing_said w.said w.good;
        why = w.why;
        bad = λ more others e. absurd (apart e.said fault (sym (said_complete (w.before ++ w.here ∷ more) 0 nothing_said e.said e.reads)
            ∙ w.bad more));
      },
    )
  where
    apart : (t : Said) (f : MachineFaultData) → taken t ≡ failed f → ⊥
    apart t f e = cc

-- ---- no other fault is read

same_taken : (s t : Said) → taken s ≡ taken t → s ≡ t
same_taken s t e = cc

same_read : (ls : List (List ℕ)) (n m : ℕ) (s t : Said) → n ≡ m → s ≡ t → said_from ls n s ≡ said_from ls m t
same_read ls n m s t h e = ap (λ (k : ℕ). said_from ls k s) h ∙ ap (said_from ls m) e

-- lines behind others
read_by : (before ls : List (List ℕ)) (n m : ℕ) (t : Said) (o : Line) → continue_with (said_from before n) n o ≡ Ok t
    → ((u : Said) → said_from before n u ≡ Ok t → said_from (before ++ ls) n u ≡ said_from ls m t)
    → continue_with (said_from (before ++ ls) n) n o ≡ said_from ls m t
read_by before ls n m t (Err detail) e later = absurd cc
read_by before ls n m t (Ok u) e later = later u e

read_on : (before ls : List (List ℕ)) (n m : ℕ) (s t : Said) → said_from before n s ≡ Ok t → m ≡ length before + n
    → said_from (before ++ ls) n s ≡ said_from ls m t
unfolding said_from
read_on [] ls n m s t e h = same_read ls n m s t (omega (arith, h)) (same_taken s t e)
read_on (l ∷ before) ls n m s t e h =
    read_by before ls (suc n) m t (after s (suc n) l) e (λ u g. read_on before ls (suc n) m u t g (omega (arith, h)))

step_bad : (ls : List (List ℕ)) (here : List ℕ) (n line : ℕ) (s : Said) (detail : List ℕ) → line ≡ suc n
    → after s line here ≡ Err detail → said_from (here ∷ ls) n s ≡ Err (bad_line line detail)
unfolding said_from
step_bad ls here n line s detail is e =
    ap (continue_with (said_from ls (suc n)) (suc n)) (subst (λ k. after s k here ≡ Err detail) is e)
    ∙ ap (λ (k : ℕ). failed (bad_line k detail)) (sym is)

abbrev all : Read → MachineSaid
all r = result_map_both sections_said (λ fault. fault) r

pub bad_read : (ls : List (List ℕ)) (line : ℕ) (detail : List ℕ) → IsFirstBad ls line detail → machine_of ls ≡ Err (bad_line line detail)
unfolding machine_of
bad_read ls line detail w =
    ap (λ (xs : List (List ℕ)). all (said_from xs 0 nothing_said)) w.parts
    ∙ ap all (read_on w.before (w.here ∷ w.rest) 0 (length w.before) nothing_said w.said
    (said_complete w.before 0 nothing_said w.said w.good) (omega arith)
    ∙ step_bad w.rest w.here (length w.before) line w.said detail (omega (arith, w.number)) w.why)
