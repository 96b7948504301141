use Rattle.std.proofs.Common.{◌<◌, get_or, arith, rules}
use Rattle.nq_bank.specs.declared.node.TermId.{TermId}
use Rattle.nq_schemes.proofs.KnownLemmas.{argument_in, same_default}
use Rattle.nq_schemes.proofs.finding.+suggesting_within.Goals as goal

pub has_suggestion-requires-clause-term : goal.has_suggestion-requires-clause-term
has_suggestion-requires-clause-term t c =
    let none : TermId = record { 0 = 0 } in
    let ids = c.args-arguments.result.now in
    let i = c.loop-i.i in
    let a : TermId = get_or ids i none in
    (argument_in c.args.history.now c.args.work.now c.args.t a ids i c.requires.term c.args-arguments.ensures.parts c.args-arguments.ensures.earlier (omega (arith, c.loop-i-test.true)) (same_default ids i none a (omega (arith, c.loop-i-test.true)))).over

pub suggesting_within-requires : goal.suggesting_within-requires
suggesting_within-requires t c =
    let none : TermId = record { 0 = 0 } in
    let ids = c.args-arguments.result.now in
    let i = c.loop-i.i in
    let a : TermId = get_or ids i none in
    let arg = argument_in c.args.history.now c.args.work.now c.args.t a ids i c.requires.term c.args-arguments.ensures.parts c.args-arguments.ensures.earlier (omega (arith, c.loop-i-test.true)) (same_default ids i none a (omega (arith, c.loop-i-test.true))) in
    let earlier : a.0 < c.args.t.0 = arg.earlier in
    (search rules, (c.requires.stands, arg.over))
