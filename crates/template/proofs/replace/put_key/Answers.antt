use Rattle.std.proofs.Common.{◌≡◌, ◌⊎◌, inl, inr, true, false, ℕ, ℤ, List, ◌++◌, String, Global, sym, append_assoc, rules}
use Rattle.std.specs.Prelude.{codes}
use Rattle.ports.specs.Outputs.{puts}
use Rattle.ports.proofs.Sending.{open_after, writes_exit, writes_stop, writes_then}
use Rattle.template.specs.Config.{printed_content}
use Rattle.template.specs.ConfigData.{content_of}
use Rattle.template.specs.Line.{definition}
use Rattle.template.specs.declared.config.ConfigValue.TheVariants.{Integer, Text, the_data}
use Rattle.template.proofs.replace.put_key.Goals as goal

-- the line of a key whose value is no truth value
worth : (name : List ℕ) (v : the_data) → ((z : ℤ) × v ≡ Integer z) ⊎ ((text : String Global) × v ≡ Text text)
    → definition name (content_of v) ≡ (puts (codes "#define ") ++ puts name) ++ (puts (codes " ") ++ puts (printed_content (content_of v)))
unfolding definition
worth name v (inl n) =
    rw n.1 (sym (append_assoc (puts (codes "#define ")) (puts name) (puts (codes " ") ++ puts (printed_content (content_of (Integer n.0))))))
worth name v (inr t) =
    rw t.1 (sym (append_assoc (puts (codes "#define ")) (puts name) (puts (codes " ") ++ puts (printed_content (content_of (Text t.0))))))

pub returns-in-Boolean-true : goal.returns-in-Boolean-true
unfolding definition
returns-in-Boolean-true g c =
    let t : c.in-Boolean-true.field-0 ≡ true = search rules in
    rw (c.in-Boolean-true.is, t) c.put_behind.ensures

pub returns-in-Boolean-false : goal.returns-in-Boolean-false
unfolding definition
returns-in-Boolean-false g c =
    let t : c.in-Boolean-false.field-0 ≡ false = search rules in
    rw (c.in-Boolean-false.is, t) c.put_behind-in-Boolean-false.ensures

pub returns-in_err-put_behind-in-Integer : goal.returns-in_err-put_behind-in-Integer
returns-in_err-put_behind-in-Integer g c =
    rw (worth _ _ c.in-Integer.is) (writes_exit _ c.from_residual.ensures.0 (writes_stop _ c.in_err-put_behind-in-Integer.ensures))

pub put_all-requires : goal.put_all-requires
put_all-requires g c = open_after c.in_ok-put_behind-in-Integer.ensures c.requires

pub returns-in_err-put_all-in-Integer : goal.returns-in_err-put_all-in-Integer
returns-in_err-put_all-in-Integer g c =
    rw (worth _ _ c.in-Integer.is) (writes_exit _ c.from_residual-in_err-put_all-in-Integer.ensures.0
    (writes_then c.in_ok-put_behind-in-Integer.ensures (writes_stop _ c.in_err-put_all-in-Integer.ensures)))

pub put_value-requires : goal.put_value-requires
put_value-requires g c =
    open_after c.in_ok-put_all-in-Integer.ensures (open_after c.in_ok-put_behind-in-Integer.ensures c.requires)

pub returns-in_ok-put_all-in-Integer : goal.returns-in_ok-put_all-in-Integer
returns-in_ok-put_all-in-Integer g c =
    rw (worth _ _ c.in-Integer.is)
    (writes_then c.in_ok-put_behind-in-Integer.ensures (writes_then c.in_ok-put_all-in-Integer.ensures c.put_value.ensures))
