use Rattle.std.proofs.Common.{◌≡◌, ℕ, [], Box, ap, map, refl, string_bytes, sym, ◌∙◌}
use Rattle.std.specs.Prelude.{IsTrue}
use Rattle.std.specs.declared.alloc.Global.{Global}
use Rattle.code.specs.FormatStrings.{part_data, text_of_parts}
use Rattle.code.specs.Literals.{means, bytes_of_literal}
use Rattle.code.specs.declared.format_string.FormatString.{FormatString}
use Rattle.code.specs.declared.literal.LiteralNode.{LiteralNode}
use Rattle.code.specs.declared.literal.LiteralValue.TheVariants as meanings
use Rattle.values.specs.Data.{text}
use Rattle.values.specs.Limits.{within}
use Rattle.values.specs.declared.texts.placeholders.Places.TheVariants as places
use Rattle.values.specs.texts.Segments.{segments}
use Rattle.world.specs.Plan.{answer_at_line}
use Rattle.expressions.specs.Forms.{filled_format_string, literal_value}
use Rattle.expressions.proofs.Evaluating.{given_as, given_give, given_none}
use Rattle.expressions.proofs.Meanings.{stands, of_boolean, of_integer, of_text, of_format, of_source}
use Rattle.expressions.proofs.context.Context.any_literal.Goals as goal

pub returns-in-Boolean-clause-gives : goal.returns-in-Boolean-clause-gives
returns-in-Boolean-clause-gives g c = λ files h.
    let n = c.args.node.now in
    given_as (of_boolean c.args.line (bytes_of_literal n.source.value) n.literal c.in-Boolean.value (stands n (meanings.Boolean c.in-Boolean.value) c.in-Boolean.is))
    (given_give h refl)

pub returns-in-Integer-clause-gives : goal.returns-in-Integer-clause-gives
returns-in-Integer-clause-gives g c = λ files h.
    let n = c.args.node.now in
    given_as (ap (answer_at_line c.args.line) (sym c.small_integer.ensures)
    ∙ of_integer c.args.line (bytes_of_literal n.source.value) n.literal c.in-Integer.n (stands n (meanings.Integer c.in-Integer.n) c.in-Integer.is))
    (given_give h refl)

pub returns-in-Short-clause-gives : goal.returns-in-Short-clause-gives
returns-in-Short-clause-gives g c = λ files h.
    let n = c.args.node.now in
    given_as (ap (answer_at_line c.args.line) (sym c.short_text.ensures)
    ∙ of_text c.args.line (bytes_of_literal n.source.value) n.literal c.in-Short.text (stands n (meanings.Short c.in-Short.text) c.in-Short.is))
    (given_give h refl)

pub returns-in_err-share-in-Text-clause-gives : goal.returns-in_err-share-in-Text-clause-gives
returns-in_err-share-in-Text-clause-gives g c = λ files h. given_none h c.from_residual.ensures.1

pub returns-in_ok-share-in-Text-clause-gives : goal.returns-in_ok-share-in-Text-clause-gives
returns-in_ok-share-in-Text-clause-gives g c = λ files h.
    let n = c.args.node.now in
    given_as (ap (answer_at_line c.args.line) (sym c.in_ok-share-in-Text.ensures)
    ∙ ap (λ t. answer_at_line c.args.line (within (text t))) c.deref-text.ensures
    ∙ of_text c.args.line (bytes_of_literal n.source.value) n.literal c.in-Text.text.value (stands n (meanings.Text c.in-Text.text) c.in-Text.is))
    (given_give h refl)

-- an f-string of these parts
of_parts : (line : ℕ) (n : LiteralNode) (f : FormatString) (box : Box FormatString Global)
    → IsTrue (means n.literal (bytes_of_literal n.source.value) (meanings.Format box))
    → f ≡ box.value → filled_format_string line [] (map part_data f.parts.items) ≡ literal_value line n.literal (bytes_of_literal n.source.value)
of_parts line n f box h is =
    ap (filled_format_string line []) (f.split ∙ ap (λ (x : FormatString). segments places.Names (text_of_parts x.parts.items)) is)
    ∙ of_format line (bytes_of_literal n.source.value) n.literal (text_of_parts box.value.parts.items) h

pub returns-in-Format-clause-gives : goal.returns-in-Format-clause-gives
returns-in-Format-clause-gives g c = λ files h.
    let n = c.args.node.now in
    given_as (ap (λ ps. filled_format_string c.args.line [] (map part_data ps)) c.deref.ensures.value ∙ of_parts c.args.line n c.deref-format.result.now c.in-Format.format (stands n (meanings.Format c.in-Format.format) c.in-Format.is) c.deref-format.ensures)
    (c.fill.ensures.gives files h)

pub returns-in-Source-clause-gives : goal.returns-in-Source-clause-gives
returns-in-Source-clause-gives g c = λ files h.
    let n = c.args.node.now in
    given_as (ap (literal_value c.args.line n.literal) (c.as_str.ensures.value ∙ ap string_bytes c.deref-in-Source.ensures)
    ∙ (of_source c.args.line (bytes_of_literal n.source.value) n.literal (string_bytes c.in-Source.text.value) (stands n (meanings.Source c.in-Source.text) c.in-Source.is)).1)
    (c.unread.ensures.gives files h)

pub unread-requires : goal.unread-requires
unread-requires g c =
    let n = c.args.node.now in
    (of_source c.args.line (bytes_of_literal n.source.value) n.literal (string_bytes c.in-Source.text.value) (stands n (meanings.Source c.in-Source.text) c.in-Source.is)).0
