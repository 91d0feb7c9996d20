use Rattle.std.proofs.Common.{◌<◌, arith}
use Rattle.std.specs.List.{prefix_len}
use Rattle.std.specs.Char.{is_ascii_digit, is_ascii_alphabetic}
use Rattle.std.proofs.lemmas.Bool.Decides.{nat_tests}
use Rattle.versions.proofs.Runs.{number_run, word_run, front_passes}
use Rattle.versions.proofs.first_run.Goals as goal

pub returns-then-not-is_empty-clause-first : goal.returns-then-not-is_empty-clause-first
returns-then-not-is_empty-clause-first c =
    let from = c.without_separators-from.result.now in
    let some : 0 < prefix_len is_ascii_digit from = grind (arith, nat_tests) in
    let run = number_run from some in
    cc

pub returns-then-not-is_empty-clause-digits : goal.returns-then-not-is_empty-clause-digits
returns-then-not-is_empty-clause-digits c =
    let from = c.without_separators-from.result.now in
    front_passes is_ascii_digit from c.split_at.result.0.now c.digit_count.result c.digit_count.ensures.count c.split_at.ensures.front

pub returns-clause-first : goal.returns-clause-first
returns-clause-first c =
    let from = c.without_separators-from.result.now in
    let some : 0 < prefix_len is_ascii_alphabetic from = grind (arith, nat_tests) in
    let run = word_run from some in
    cc
