use Rattle.std.proofs.Common.{◌≡◌, ◌∙◌, ◌+◌, sym, ap, subst, arith, is_ok, length, length-drop, length-take, take, Some, Ok, Err, eqb-true}
use Rattle.std.proofs.Common.{false-eqb}
use Rattle.std.proofs.ResultArms.{chosen}
use Rattle.std.specs.Str.{IsUtf8}
use Rattle.std.proofs.lemmas.Str.{IsUtf8-drop}
use Rattle.syntax.specs.lexer.Bytes.{newlines}
use Rattle.syntax.specs.lexer.Lexeme.{lexemes}
use Rattle.syntax.specs.lexer.Lexing.{fault_at, gap, lexed_tokens, token_at}
use Rattle.syntax.specs.declared.lexer.token.Token.{Token}
use Rattle.std.specs.Prelude.{List}
use Rattle.syntax.proofs.Boundaries.{after_gap, gap_boundary, token_boundary}
use Rattle.syntax.proofs.Cutting.{place, still_first, still_end, still_fault, still_more, only_ok, only_err, refused_is, newlines_le}
use Rattle.syntax.proofs.Cutting.{depth_after_le, lexemes_push, token_size}
use Rattle.syntax.proofs.Cuts.{StillLexes}
use Rattle.syntax.proofs.Spans.{lexed_sound, lexed_fault}
use Rattle.syntax.proofs.lexer.cut.tokens.Goals as goal
use Rattle.syntax.proofs.lexer.cut.tokens.Goals.{Then-is_empty, After-drop-tokens, After-depth_after-depth}

pub loop-here-init : goal.loop-here-init
loop-here-init c = record {
  text = c.utf8.source;
  lines = omega arith;
  brackets = omega arith;
  still = subst (λ (ts : List Token). StillLexes c.args.source.now (lexemes ts) (place c.args.source.now 1 0)) (sym c.new-tokens.ensures.items) (still_first c.args.source.now);
}

pub split_at-requires : goal.split_at-requires
split_at-requires c = gap_boundary c.loop-here.rest.now c.loop-here.depth c.gap_length.result c.loop-here.invariant.text (c.gap_length.ensures ∙ ap (gap c.loop-here.depth _) c.as_bytes.ensures.value)

the_end : (c : Then-is_empty) → lexed_tokens c.args.source.now ≡ Ok (lexemes c.loop-here.tokens.items)
the_end c = still_end c.args.source.now (lexemes c.loop-here.tokens.items) c.loop-here.rest.now c.split_at.result.1.now c.loop-here.line c.loop-here.depth c.gap_length.result c.loop-here.invariant.still
    (c.gap_length.ensures ∙ ap (gap c.loop-here.depth _) c.as_bytes.ensures.value) c.split_at.ensures.back (eqb-true _ 0 (sym c.if-is_empty.ensures))

pub returns-then-is_empty-clause-reads : goal.returns-then-is_empty-clause-reads
returns-then-is_empty-clause-reads c = the_end c

pub returns-then-is_empty-clause-listed : goal.returns-then-is_empty-clause-listed
returns-then-is_empty-clause-listed c = lexed_sound c.args.source.now (lexemes c.loop-here.tokens.items) (the_end c)

pub returns-then-is_empty-clause-only : goal.returns-then-is_empty-clause-only
returns-then-is_empty-clause-only c = λ ts h. only_ok c.args.source.now (lexemes c.loop-here.tokens.items) ts (the_end c) h

the_fault : (c : After-drop-tokens) → lexed_tokens c.args.source.now ≡ Err (fault_at (c.loop-here.line + c.newlines-line.result))
the_fault c = still_fault c.args.source.now (lexemes c.loop-here.tokens.items) c.loop-here.rest.now c.split_at.result.1.now c.loop-here.line c.loop-here.depth c.gap_length.result c.newlines-line.result c.loop-here.invariant.still
    (c.gap_length.ensures ∙ ap (gap c.loop-here.depth _) c.as_bytes.ensures.value) c.split_at.ensures.back (false-eqb _ 0 c.if-is_empty.ensures)
    (c.newlines-line.ensures ∙ ap newlines (c.as_bytes-in-loop-here.ensures.value ∙ c.split_at.ensures.front)) (sym c.in_default.ensures)

pub returns-in_default-clause-reads : goal.returns-in_default-clause-reads
returns-in_default-clause-reads c = the_fault c

pub returns-in_default-clause-only : goal.returns-in_default-clause-only
returns-in_default-clause-only c = λ ts h. only_err c.args.source.now _ ts (the_fault c) h

pub returns-in_default-clause-refused : goal.returns-in_default-clause-refused
returns-in_default-clause-refused c = λ f e.
    let w = lexed_fault c.args.source.now f (refused_is c.args.source.now _ f (the_fault c) e) in
    (ap (λ x. x.kind) w.0, w.1)

pub split_at-requires-in-loop-here : goal.split_at-requires-in-loop-here
split_at-requires-in-loop-here c =
    let utf8 = after_gap c.loop-here.rest.now c.split_at.result.1.now c.loop-here.depth c.gap_length.result c.loop-here.invariant.text
    (c.gap_length.ensures ∙ ap (gap c.loop-here.depth _) c.as_bytes.ensures.value) c.split_at.ensures.back in
    token_boundary c.split_at.result.1.now c.in-Some.kind c.in-Some.length utf8 (sym c.in-Some.ensures)

found : (c : After-depth_after-depth) → token_at c.split_at.result.1.now ≡ Some (c.in-Some.kind, c.in-Some.length)
found c = sym c.in-Some.ensures

pub loop-here-smaller : goal.loop-here-smaller
loop-here-smaller c =
    let size = token_size c.split_at.result.1.now c.in-Some.kind c.in-Some.length (found c) in
    let after = ap length c.split_at-in-loop-here.ensures.back in
    let here = ap length c.split_at.ensures.back in
    omega (arith, size, after, here, length-drop c.in-Some.length c.split_at.result.1.now, length-drop c.gap_length.result c.loop-here.rest.now)

pub loop-here-preserved : goal.loop-here-preserved
loop-here-preserved c =
    let size = token_size c.split_at.result.1.now c.in-Some.kind c.in-Some.length (found c) in
    let utf8 = after_gap c.loop-here.rest.now c.split_at.result.1.now c.loop-here.depth c.gap_length.result c.loop-here.invariant.text
    (c.gap_length.ensures ∙ ap (gap c.loop-here.depth _) c.as_bytes.ensures.value) c.split_at.ensures.back in
    let here = ap length c.split_at.ensures.back in
    let after = ap length c.split_at-in-loop-here.ensures.back in
    let gap_lines : c.newlines-line.result ≡ newlines (take c.gap_length.result c.loop-here.rest.now) = c.newlines-line.ensures ∙ ap newlines (c.as_bytes-in-loop-here.ensures.value ∙ c.split_at.ensures.front) in
    let text_lines : c.newlines-line-in-loop-here.result ≡ newlines c.split_at-in-loop-here.result.0.now = c.newlines-line-in-loop-here.ensures ∙ ap newlines c.as_bytes-in-loop-here-2.ensures.value in
    record {
      text = subst IsUtf8 (sym c.split_at-in-loop-here.ensures.back) (IsUtf8-drop c.split_at.result.1.now c.in-Some.length utf8 (token_boundary c.split_at.result.1.now c.in-Some.kind c.in-Some.length utf8 (found c)));
      lines = omega (
        arith,
        c.loop-here.invariant.lines,
        gap_lines,
        text_lines,
        newlines_le (take c.gap_length.result c.loop-here.rest.now),
        newlines_le c.split_at-in-loop-here.result.0.now,
        c.split_at.ensures.front_len,
        c.split_at.ensures.back_len,
        c.split_at-in-loop-here.ensures.front_len,
        c.split_at-in-loop-here.ensures.back_len,
        length-take c.gap_length.result c.loop-here.rest.now,
      );
      brackets = omega (arith, c.loop-here.invariant.brackets, c.depth_after-depth.ensures, depth_after_le c.in-Some.kind c.loop-here.depth, size, here, after, length-drop c.in-Some.length c.split_at.result.1.now, length-drop c.gap_length.result c.loop-here.rest.now);
      still = still_more c.args.source.now (lexemes c.loop-here.tokens.items) (lexemes c.push.new.self.items) c.loop-here.rest.now c.split_at.result.1.now c.split_at-in-loop-here.result.0.now c.split_at-in-loop-here.result.1.now
          c.loop-here.line c.loop-here.depth c.gap_length.result c.newlines-line.result c.in-Some.length c.newlines-line-in-loop-here.result c.depth_after-depth.result c.in-Some.kind c.loop-here.invariant.still
          (c.gap_length.ensures ∙ ap (gap c.loop-here.depth _) c.as_bytes.ensures.value) c.split_at.ensures.back gap_lines (found c) c.split_at-in-loop-here.ensures.front c.split_at-in-loop-here.ensures.back text_lines c.depth_after-depth.ensures
          (lexemes_push _ _ _ (chosen _ _ _ _ c.push.ensures.items (ap is_ok c.in_ok-push.was)));
    }
