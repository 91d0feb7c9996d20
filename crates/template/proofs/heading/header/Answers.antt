use Rattle.std.proofs.Common.{◌≡◌, ℕ, List, [], ◌∷◌, ◌++◌, String, string_bytes, codes, refl, sym, ap, append_assoc, ◌∙◌, arith}
use Rattle.std.proofs.lemmas.Grind.{common_steps}
use Rattle.std.specs.declared.alloc.Global.{Global}
use Rattle.ports.specs.Outputs.{OutputState, Step, puts}
use Rattle.ports.proofs.Sending.{writes_exit, writes_stop}
use Rattle.template.specs.declared.config.ConfigValue.{ConfigValue}
use Rattle.template.specs.ConfigData.{content_of, entries_of}
use Rattle.template.specs.Line.{definition}
use Rattle.template.specs.Header.{entry_lines}
use Rattle.ports.proofs.Going.{Going, going_as, going_end, going_on, going_open, going_start, going_stop}
use Rattle.template.proofs.heading.header.Goals as goal

lines_next : (name : String Global) (value : ConfigValue) (later : List (String Global × ConfigValue))
    → entry_lines (entries_of ((name, value) ∷ later)) ≡ definition (string_bytes name) (content_of value) ++ (puts (codes "\n") ++ entry_lines (entries_of later))
unfolding entry_lines
lines_next name value later = refl

lines_none : entry_lines [] ≡ []
unfolding entry_lines
lines_none = refl

-- the next entry's line is next
entry_going : {old now : OutputState} {run : List Step} (name : String Global) (value : ConfigValue)
    (s later : List (String Global × ConfigValue)) (text : List ℕ)
    → Going old now run (entry_lines (entries_of s)) → s ≡ (name, value) ∷ later → text ≡ string_bytes name
    → Going old now run ((definition text (content_of value) ++ puts (codes "\n")) ++ entry_lines (entries_of later))
entry_going name value s later text h e t =
    let end = entry_lines (entries_of later) in
    let line = definition (string_bytes name) (content_of value) in
    going_as h (ap (λ r. entry_lines (entries_of r)) e ∙ lines_next name value later ∙ sym (append_assoc line (puts (codes "\n")) end)
    ∙ ap (λ n. (definition n (content_of value) ++ puts (codes "\n")) ++ end) (sym t))

pub loop-name-init : goal.loop-name-init
loop-name-init g c =
    let same : c.args.config.now.entries ≡ entries_of c.into_iter-name-iterator.result = grind (arith, common_steps) in
    going_as (going_on (going_start _ _) c.in_ok-put_all.ensures) (ap entry_lines same)

pub put_all-requires : goal.put_all-requires
put_all-requires g c = c.requires

pub put_line-requires : goal.put_line-requires
put_line-requires g c = going_open c.loop-name.invariant c.requires

pub returns-in_err-put_all : goal.returns-in_err-put_all
returns-in_err-put_all g c = writes_exit _ c.from_residual.ensures.0 (writes_stop _ c.in_err-put_all.ensures)

pub returns-in_err-put_line : goal.returns-in_err-put_line
returns-in_err-put_line g c =
    let h =
    entry_going c.in-Some.name.now c.in-Some.value.now c.loop-name.name-iterator c.next.new.self c.as_str.result.now c.loop-name.invariant
    c.in-Some.ensures.steps c.as_str.ensures.value in
    writes_exit _ c.from_residual-in_err-put_line.ensures.0 (going_stop _ h c.in_err-put_line.ensures)

pub loop-name-preserved : goal.loop-name-preserved
loop-name-preserved g c =
    let h =
    entry_going c.in-Some.name.now c.in-Some.value.now c.loop-name.name-iterator c.next.new.self c.as_str.result.now c.loop-name.invariant
    c.in-Some.ensures.steps c.as_str.ensures.value in
    going_on h c.in_ok-put_line.ensures

pub returns : goal.returns
returns g c = let e = c.in-None.ensures.steps in going_end (going_as c.loop-name.invariant (ap (λ r. entry_lines (entries_of r)) e.0 ∙ lines_none))
