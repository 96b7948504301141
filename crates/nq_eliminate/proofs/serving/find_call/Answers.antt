use Rattle.nq_bank.specs.declared.node.TermId.{TermId}
use Rattle.nq_bank.specs.Content.{term_at, terms_at, text_at}
use Rattle.nq_eliminate.specs.Serving.{ServesNone}
use Rattle.nq_eliminate.proofs.ServingLemmas.{each_all, each_more}
use Rattle.nq_eliminate.proofs.serving.find_call.Goals as goal

pub loop-u-preserved : goal.loop-u-preserved
loop-u-preserved c =
    let first : TermId = record { 0 = 0 } in
    let bank = c.args.bank.now in
    each_more (ServesNone (text_at bank c.args.rule.name) (terms_at bank c.args.goal.now) (terms_at bank c.args.destructors.now) (term_at bank c.args.d)) (term_at bank) c.args.calls.now c.loop-u.u-index first c.loop-u-test.true c.loop-u.invariant (c.in_ok-here.ensures.no c.if-here.false)

pub returns-then-here : goal.returns-then-here
returns-then-here c =
    let first : TermId = record { 0 = 0 } in
    record { call = c.requires.calls c.loop-u.u-index first c.loop-u-test.true; served = c.in_ok-here.ensures.yes c.if-here.true }

pub returns : goal.returns
returns c =
    let bank = c.args.bank.now in
    each_all (ServesNone (text_at bank c.args.rule.name) (terms_at bank c.args.goal.now) (terms_at bank c.args.destructors.now) (term_at bank c.args.d)) (term_at bank) c.args.calls.now c.loop-u.u-index c.loop-u-test.false c.loop-u.invariant
