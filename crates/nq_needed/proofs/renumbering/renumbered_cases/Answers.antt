use Rattle.std.proofs.Common.{List, subst, sym, arith, take, ◌+◌}
use Rattle.std.proofs.lemmas.List.{take_all}
use Rattle.nq_rule.specs.declared.induction.CaseOfInduction.{CaseOfInduction}
use Rattle.nq_needed.specs.Renumbering.{number_in, AreRenumberedCases}
use Rattle.nq_needed.proofs.RenumberingLemmas.{cases_more}
use Rattle.nq_needed.proofs.renumbering.renumbered_cases.Goals as goal

pub loop-case-preserved : goal.loop-case-preserved
loop-case-preserved c =
    let f = number_in c.args.numbers.now in
    subst (λ (made : List CaseOfInduction). AreRenumberedCases f (take (c.loop-case.case-index + 1) c.args.cases.now) made) (sym c.in_ok-push.ensures.items)
    (cases_more f c.args.cases.now c.loop-case.made.items c.loop-case.case-index c.case-item.result c.in_ok-one.one c.loop-case-test.true c.case-item.is c.loop-case.invariant c.in_ok-one.ensures)

pub returns : goal.returns
returns c =
    subst (λ (cases : List CaseOfInduction). AreRenumberedCases (number_in c.args.numbers.now) cases c.loop-case.made.items) (take_all c.loop-case.case-index c.args.cases.now (omega arith)) c.loop-case.invariant
