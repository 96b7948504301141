use Rattle.std.proofs.Common.{List, [], map, sym, ap, ◌∙◌}
use Rattle.std.proofs.lemmas.List.{at_drop_all}
use Rattle.nq_rule.specs.Inductions.{cases_at}
use Rattle.nq_check.specs.declared.waiting.CaseLine.{CaseLine}
use Rattle.nq_check.specs.Cases.{resumed_at}
use Rattle.nq_check.specs.Contexts.{case_of, state_of}
use Rattle.nq_check.proofs.CaseLemmas.{resumed_all}
use Rattle.nq_check.proofs.context.Context.waiting_cases.Goals as goal

pub returns-clause-cases : goal.returns-clause-cases
returns-clause-cases c =
    let bank = c.args.self.now.bank in
    let block = (state_of c.args.self.now).block in
    let cs = cases_at bank c.loop-line.cases.items in
    let lines = c.as_slice-lines.result.now in
    sym (
    ap (λ (ls : List CaseLine). resumed_at block [] (map case_of ls)) (sym c.as_slice-lines.ensures.value)
    ∙ c.loop-line.invariant.rest
    ∙ at_drop_all (λ rest. resumed_at block cs (map case_of rest)) lines c.loop-line.line-index c.loop-line-test.false
    ∙ resumed_all cs
    )
