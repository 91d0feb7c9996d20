use Rattle.std.proofs.Common.{◌∙◌}
use Rattle.template.proofs.Define.{IsRead, read_defines, read_plain, bad_writes, bad_fault, define_writes, define_stop, define_fault}
use Rattle.template.proofs.Define.{plain_writes, plain_fault}
use Rattle.template.proofs.Passing.{exit_device}
use Rattle.template.proofs.replace.replace_line.Goals as goal

pub returns-in_default-clause-writes : goal.returns-in_default-clause-writes
returns-in_default-clause-writes g c =
    let line = c.args.line.now in let len = c.body_length-len.result in let first = c.first_word-first.result in
    let read : IsRead line len first.word.now first.rest.now = record { short = c.requires.len; len_is = c.body_length-len.ensures.same; first = c.first_word-first.ensures } in
    let is = read_defines line len first.word.now first.rest.now read c.if-starts_with.ensures.value in
    let bad = c.in_default.ensures.read in
    bad_writes _ c.args.config.now.entries c.args.path.now c.args.number line (is ∙ bad)

pub returns-in_default-clause-fault : goal.returns-in_default-clause-fault
returns-in_default-clause-fault g c =
    let line = c.args.line.now in let len = c.body_length-len.result in let first = c.first_word-first.result in
    let read : IsRead line len first.word.now first.rest.now = record { short = c.requires.len; len_is = c.body_length-len.ensures.same; first = c.first_word-first.ensures } in
    let is = read_defines line len first.word.now first.rest.now read c.if-starts_with.ensures.value in
    let bad = c.in_default.ensures.read in
    bad_fault c.args.number line (is ∙ bad)

pub put_define-requires-clause-named : goal.put_define-requires-clause-named
put_define-requires-clause-named g c = c.in-Some.ensures.named

pub returns-in_err-put_define-clause-writes : goal.returns-in_err-put_define-clause-writes
returns-in_err-put_define-clause-writes g c =
    let line = c.args.line.now in let len = c.body_length-len.result in let first = c.first_word-first.result in
    let read : IsRead line len first.word.now first.rest.now = record { short = c.requires.len; len_is = c.body_length-len.ensures.same; first = c.first_word-first.ensures } in
    let is = read_defines line len first.word.now first.rest.now read c.if-starts_with.ensures.value ∙ c.in-Some.ensures.read in
    exit_device _ c.from_residual.ensures.1 (define_stop c.args.config.now.entries c.args.path.now c.args.number line c.in-Some.name.now len is c.body_length-len.ensures.same c.in_err-put_define.ensures)

pub returns-in_err-put_all-clause-writes : goal.returns-in_err-put_all-clause-writes
returns-in_err-put_all-clause-writes g c =
    let line = c.args.line.now in let len = c.body_length-len.result in let first = c.first_word-first.result in
    let read : IsRead line len first.word.now first.rest.now = record { short = c.requires.len; len_is = c.body_length-len.ensures.same; first = c.first_word-first.ensures } in
    let is = read_defines line len first.word.now first.rest.now read c.if-starts_with.ensures.value ∙ c.in-Some.ensures.read in
    exit_device _ c.from_residual-in_err-put_all.ensures.1 (define_writes c.args.config.now.entries c.args.path.now c.args.number line c.in-Some.name.now len is c.body_length-len.ensures.same c.in_ok-put_define.ensures c.in_err-put_all.ensures)

pub returns-in_ok-put_all-clause-writes : goal.returns-in_ok-put_all-clause-writes
returns-in_ok-put_all-clause-writes g c =
    let line = c.args.line.now in let len = c.body_length-len.result in let first = c.first_word-first.result in
    let read : IsRead line len first.word.now first.rest.now = record { short = c.requires.len; len_is = c.body_length-len.ensures.same; first = c.first_word-first.ensures } in
    let is = read_defines line len first.word.now first.rest.now read c.if-starts_with.ensures.value ∙ c.in-Some.ensures.read in
    define_writes c.args.config.now.entries c.args.path.now c.args.number line c.in-Some.name.now len is c.body_length-len.ensures.same c.in_ok-put_define.ensures c.in_ok-put_all.ensures

pub returns-in_ok-put_all-clause-fault : goal.returns-in_ok-put_all-clause-fault
returns-in_ok-put_all-clause-fault g c =
    let line = c.args.line.now in let len = c.body_length-len.result in let first = c.first_word-first.result in
    let read : IsRead line len first.word.now first.rest.now = record { short = c.requires.len; len_is = c.body_length-len.ensures.same; first = c.first_word-first.ensures } in
    let is = read_defines line len first.word.now first.rest.now read c.if-starts_with.ensures.value ∙ c.in-Some.ensures.read in
    define_fault c.args.number line c.in-Some.name.now is

pub returns-in_err-put_replaced-clause-writes : goal.returns-in_err-put_replaced-clause-writes
returns-in_err-put_replaced-clause-writes g c =
    let line = c.args.line.now in let len = c.body_length-len.result in let first = c.first_word-first.result in
    let read : IsRead line len first.word.now first.rest.now = record { short = c.requires.len; len_is = c.body_length-len.ensures.same; first = c.first_word-first.ensures } in
    let is = read_plain line len first.word.now first.rest.now read c.if-starts_with.ensures.value in
    exit_device _ c.from_residual-in_err-put_replaced.ensures.1 (plain_writes c.args.config.now.entries c.args.path.now c.args.number line is c.in_err-put_replaced.ensures)

pub returns-in_ok-put_replaced-clause-writes : goal.returns-in_ok-put_replaced-clause-writes
returns-in_ok-put_replaced-clause-writes g c =
    let line = c.args.line.now in let len = c.body_length-len.result in let first = c.first_word-first.result in
    let read : IsRead line len first.word.now first.rest.now = record { short = c.requires.len; len_is = c.body_length-len.ensures.same; first = c.first_word-first.ensures } in
    let is = read_plain line len first.word.now first.rest.now read c.if-starts_with.ensures.value in
    plain_writes c.args.config.now.entries c.args.path.now c.args.number line is c.in_ok-put_replaced.ensures

pub returns-in_ok-put_replaced-clause-fault : goal.returns-in_ok-put_replaced-clause-fault
returns-in_ok-put_replaced-clause-fault g c =
    let line = c.args.line.now in let len = c.body_length-len.result in let first = c.first_word-first.result in
    let read : IsRead line len first.word.now first.rest.now = record { short = c.requires.len; len_is = c.body_length-len.ensures.same; first = c.first_word-first.ensures } in
    let is = read_plain line len first.word.now first.rest.now read c.if-starts_with.ensures.value in
    plain_fault c.args.number line is
