use Rattle.std.proofs.Common.{◌∙◌, refl, sym, arith}
use Rattle.nq_bank.specs.declared.node.TermId.{TermId}
use Rattle.nq_cases.proofs.FindLemmas.{inside_at, none_more}
use Rattle.nq_cases.proofs.finding.first_with_if.Goals as goal

pub returns-then-branch-clause-ok : goal.returns-then-branch-clause-ok
returns-then-branch-clause-ok c =
    let first : TermId = record { 0 = 0 } in
    let place = c.loop-argument.invariant.place in
    inside_at c.args.bank.now c.args.t c.args-argument-items.result.now c.loop-argument.argument-index first _ c.requires.stands c.args-argument-items.ensures.parts c.args-argument-items.ensures.earlier c.loop-argument-test.true
    (omega (arith, place)) refl (sym c.in_ok-has_if.ensures.ok ∙ c.if-branch.true)

pub loop-argument-preserved : goal.loop-argument-preserved
loop-argument-preserved c =
    let first : TermId = record { 0 = 0 } in
    let at = c.loop-argument.invariant.place in
    record {
      place = omega (arith, at);
      none = none_more c.args.bank.now c.args-argument-items.result.now c.loop-argument.argument-index first c.loop-argument-test.true c.loop-argument.invariant.none (sym c.in_ok-has_if.ensures.ok ∙ c.if-branch.false);
      known = c.in_ok-has_if.ensures.counts;
    }
