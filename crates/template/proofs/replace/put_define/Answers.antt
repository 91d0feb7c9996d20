use Rattle.std.proofs.Common.{◌≡◌, ℕ, List, ◌++◌, None, codes, sym, append_assoc}
use Rattle.ports.specs.Outputs.{puts}
use Rattle.ports.proofs.Sending.{open_after, writes_exit, writes_stop, writes_then}
use Rattle.template.specs.Line.{definition_or_comment}
use Rattle.template.proofs.replace.put_define.Goals as goal

-- the parts of the line for a name that stands for nothing
undefined : (name : List ℕ) → definition_or_comment name None ≡ (puts (codes "/* undef ") ++ puts name) ++ puts (codes " */")
unfolding definition_or_comment
undefined name = sym (append_assoc (puts (codes "/* undef ")) (puts name) (puts (codes " */")))

pub returns-in_err-put_behind-in-None : goal.returns-in_err-put_behind-in-None
returns-in_err-put_behind-in-None g c =
    rw (← c.in-None.ensures, undefined c.args.name.now)
    (writes_exit _ c.from_residual.ensures.0 (writes_stop _ c.in_err-put_behind-in-None.ensures))

pub put_all-requires : goal.put_all-requires
put_all-requires g c = open_after c.in_ok-put_behind-in-None.ensures c.requires.out

pub returns-in_ok-put_behind-in-None : goal.returns-in_ok-put_behind-in-None
returns-in_ok-put_behind-in-None g c =
    rw (← c.in-None.ensures, undefined c.args.name.now) (writes_then c.in_ok-put_behind-in-None.ensures c.put_all.ensures)

pub returns-in-Some : goal.returns-in-Some
unfolding definition_or_comment
returns-in-Some g c = rw (← c.in-Some.ensures) c.put_key.ensures
