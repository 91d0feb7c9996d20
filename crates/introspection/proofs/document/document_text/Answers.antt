use Rattle.std.proofs.Common.{◌∙◌, ap, arith, string_bytes}
use Rattle.std.proofs.lemmas.Result.{IfOk-weaker}
use Rattle.serde_json.proofs.FreeTexts.{text_of_value}
use Rattle.serde_json.specs.Read.{read}
use Rattle.introspection.specs.Document.{document_of}
use Rattle.introspection.proofs.ReadBack.{text_read}
use Rattle.introspection.proofs.WholeShape.{plain_document}
use Rattle.introspection.proofs.document.document_text.Goals as goal

pub returns-clause-text : goal.returns-clause-text
returns-clause-text c =
    let d = document_of c.args.project.now in
    IfOk-weaker c.printed.result _ _ (λ s h. text_of_value d h.0 (string_bytes s) h.1.events h.2 (plain_document c.args.project.now).floats) c.printed.ensures

pub returns-clause-reads_back : goal.returns-clause-reads_back
returns-clause-reads_back c =
    let d = document_of c.args.project.now in
    let plain = plain_document c.args.project.now in
    let le = plain.nests in
    IfOk-weaker c.printed.result _ _
    (λ s h. ap read (text_of_value d h.0 (string_bytes s) h.1.events h.2 plain.floats) ∙ text_read d h.1.reads (omega (arith, le))) c.printed.ensures
