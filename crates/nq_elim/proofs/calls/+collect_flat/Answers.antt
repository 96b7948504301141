use Rattle.std.proofs.Common.{◌<◌, get_or, arith, rules}
use Rattle.nq_bank.specs.declared.node.TermId.{TermId}
use Rattle.nq_lines.specs.Lines.{IsTermIn}
use Rattle.nq_elim.proofs.CallLemmas.{argument_in}
use Rattle.nq_elim.proofs.calls.+collect_flat.Goals as goal

pub keep_flat-requires-clause-term : goal.keep_flat-requires-clause-term
keep_flat-requires-clause-term t c =
    let none : TermId = record { 0 = 0 } in
    argument_in c.args.history.now c.args.work.now c.args.t c.args-arguments.result.now c.loop-i.i none c.requires.term c.args-arguments.ensures.parts c.args-arguments.ensures.earlier (omega (arith, c.loop-i-test.true))

pub collect_flat-requires : goal.collect_flat-requires
collect_flat-requires t c =
    let none : TermId = record { 0 = 0 } in
    let ids = c.args-arguments.result.now in
    let i = c.loop-i.i in
    let a : TermId = get_or ids i none in
    let over : IsTermIn c.args.history.now c.args.work.now a = argument_in c.args.history.now c.args.work.now c.args.t ids i none c.requires.term c.args-arguments.ensures.parts c.args-arguments.ensures.earlier (omega (arith, c.loop-i-test.true)) in
    let earlier : a.0 < c.args.t.0 = c.args-arguments.ensures.earlier i none (omega (arith, c.loop-i-test.true)) in
    (search rules, (c.requires.stands, (over, c.loop-i.invariant)))
