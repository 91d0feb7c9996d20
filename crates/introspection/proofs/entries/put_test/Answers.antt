use Rattle.std.proofs.Common.{◌≡◌, ◌∙◌, rules, subst, sym}
use Rattle.serde_json.specs.Data.{number}
use Rattle.serde_json.specs.Find.{of_integer}
use Rattle.serde_json.specs.View.{view}
use Rattle.introspection.specs.Sending.{Reads}
use Rattle.build.specs.project.View.{test_view}
use Rattle.introspection.proofs.Lists.{always_on_ok}
use Rattle.introspection.proofs.ReadBack.{reads_test}
use Rattle.introspection.proofs.entries.put_test.Goals as goal

pub returns-clause-reads : goal.returns-clause-reads
returns-clause-reads c =
    let plain : view c.integer.result ≡ number (of_integer c.args.test.now.timeout) = search rules in
    let reads : Reads (number (of_integer c.args.test.now.timeout)) = subst Reads (sym c.integer.ensures.shows ∙ plain) c.integer.ensures.reads in
    always_on_ok c.put-2.result _ _ (reads_test (test_view c.args.test.now) reads) c.put-2.ensures.ok
