use Rattle.std.proofs.Common.{◌∙◌, ◌++◌, ℕ, List, sym, ap, subst, eqb-true, false-eqb, string_bytes}
use Rattle.std.specs.Prelude.{encode_utf8}
use Rattle.std.specs.Str.{IsUtf8}
use Rattle.std.proofs.lemmas.Str.{IsUtf8-drop}
use Rattle.syntax.specs.lexer.Lexing.{run_length}
use Rattle.syntax.specs.lexer.Texts.{escaped_by, is_no_backslash}
use Rattle.syntax.proofs.Texts.{StillUnescapes, still_first, still_end, still_more, plain_boundary, behind_boundary, escape_boundary}
use Rattle.syntax.proofs.lexer.text.unescape.Goals as goal

pub loop-whole-init : goal.loop-whole-init
loop-whole-init c = record { text = c.utf8.text; still = subst (λ (b : List ℕ). StillUnescapes c.args.text.now b c.args.text.now) (sym c.new-whole.ensures.bytes) (still_first c.args.text.now) }

pub split_at-requires : goal.split_at-requires
split_at-requires c = plain_boundary c.loop-whole.rest.now c.plain_length.result c.loop-whole.invariant.text (c.plain_length.ensures ∙ ap (run_length is_no_backslash) c.as_bytes.ensures.value)

pub returns-then-is_empty : goal.returns-then-is_empty
returns-then-is_empty c =
    c.in_ok-push_str.ensures.bytes
    ∙ still_end c.args.text.now (string_bytes c.loop-whole.whole) c.loop-whole.rest.now c.split_at.result.0.now c.split_at.result.1.now c.plain_length.result c.loop-whole.invariant.still
    (c.plain_length.ensures ∙ ap (run_length is_no_backslash) c.as_bytes.ensures.value) c.split_at.ensures.front c.split_at.ensures.back (eqb-true _ 0 (sym c.if-is_empty.ensures))

pub split_at-requires-in-loop-whole : goal.split_at-requires-in-loop-whole
split_at-requires-in-loop-whole c =
    let size = c.plain_length.ensures ∙ ap (run_length is_no_backslash) c.as_bytes.ensures.value in
    let utf8 = subst IsUtf8 (sym c.split_at.ensures.back) (IsUtf8-drop c.loop-whole.rest.now c.plain_length.result c.loop-whole.invariant.text (plain_boundary c.loop-whole.rest.now c.plain_length.result c.loop-whole.invariant.text size)) in
    behind_boundary c.split_at.result.1.now c.loop-whole.rest.now c.plain_length.result utf8 c.split_at.ensures.back size (false-eqb _ 0 c.if-is_empty.ensures)

pub split_at-requires-in-loop-whole-2 : goal.split_at-requires-in-loop-whole-2
split_at-requires-in-loop-whole-2 c =
    let value = c.as_bytes-in-loop-whole.ensures.value in
    escape_boundary c.split_at-in-loop-whole.result.1.now c.unescape_one-character.result.1 (subst IsUtf8 value c.as_bytes-in-loop-whole.ensures.utf8)
    (ap (λ (p : ℕ × ℕ). p.1) (c.unescape_one-character.ensures ∙ ap escaped_by value))

pub loop-whole-preserved : goal.loop-whole-preserved
loop-whole-preserved c =
    let behind = c.split_at-in-loop-whole.result.1.now in
    let after = c.split_at-in-loop-whole-2.result.1.now in
    let value = c.as_bytes-in-loop-whole.ensures.value in
    let utf8 = subst IsUtf8 value c.as_bytes-in-loop-whole.ensures.utf8 in
    let escape = c.unescape_one-character.ensures ∙ ap escaped_by value in
    let pushed = c.in_ok-push.ensures.bytes ∙ ap (λ (b : List ℕ). b ++ encode_utf8 c.unescape_one-character.result.0) c.in_ok-push_str.ensures.bytes in
    record {
      text = subst IsUtf8 (sym c.split_at-in-loop-whole-2.ensures.back) (IsUtf8-drop behind c.unescape_one-character.result.1 utf8 (escape_boundary behind c.unescape_one-character.result.1 utf8 (ap (λ (p : ℕ × ℕ). p.1) escape)));
      still = subst (λ (b : List ℕ). StillUnescapes c.args.text.now b after) (sym pushed)
          (still_more c.args.text.now (string_bytes c.loop-whole.whole) c.loop-whole.rest.now c.split_at.result.0.now c.split_at.result.1.now behind after c.unescape_one-character.result.0 c.unescape_one-character.result.1 c.plain_length.result
          c.loop-whole.invariant.still (c.plain_length.ensures ∙ ap (run_length is_no_backslash) c.as_bytes.ensures.value) c.split_at.ensures.front c.split_at.ensures.back (false-eqb _ 0 c.if-is_empty.ensures)
          c.split_at-in-loop-whole.ensures.back escape c.split_at-in-loop-whole-2.ensures.back);
    }
