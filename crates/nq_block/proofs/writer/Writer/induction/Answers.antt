use Rattle.std.proofs.Common.{◌≡◌, ap, ◌∙◌, subst, sym, take, List}
use Rattle.std.proofs.lemmas.Result.{on_ok_weaker}
use Rattle.std.proofs.lemmas.List.{take_all}
use Rattle.nq_bank.specs.Content.{term_at}
use Rattle.nq_proof.specs.Rules.{CaseLines, Induct, conclusion, rule_terms}
use Rattle.nq_log.specs.RuleLines.{are_without}
use Rattle.nq_rule.specs.declared.induction.CaseOfInduction.{CaseOfInduction}
use Rattle.nq_rule.specs.Inductions.{case_at, cases_at}
use Rattle.nq_block.specs.Writing.{Frame, Concludes, CanDistinguish, IsWriting, line_clause, with_line}
use Rattle.nq_block.proofs.Keeping.{each_made, fits}
use Rattle.nq_block.proofs.InductionLemmas.{cases_can, cases_next, induct_written}
use Rattle.nq_block.proofs.writer.Writer.induction.Goals as goal

pub loop-case-init : goal.loop-case-init
loop-case-init c =
    record {
      counted = c.requires.counted;
      writing = λ frame v none can. subst (λ (cs : List CaseLines). IsWriting c.args.bank.now (record frame { cases = cs }) c.args.self.now) none v;
    }

pub loop-case-preserved : goal.loop-case-preserved
loop-case-preserved c =
    let bank = c.args.bank.now in
    let i = c.loop-case.case-index in
    let case : CaseOfInduction = c.case-item.result in
    let below = c.loop-case-test.true in
    record {
      counted = c.in_ok-case.ensures.counted;
      writing = λ frame v none can.
          let so_far : Frame = record frame { cases = cases_at bank (take i c.args.cases.now) } in
          let at = each_made (CanDistinguish frame.history frame.clauses) (case_at bank) c.args.cases.now i case below can in
          let here : CanDistinguish frame.history frame.clauses (case_at bank case) = subst (λ s. CanDistinguish frame.history frame.clauses (case_at bank s)) (sym c.case-item.is) at in
          let one_more = c.in_ok-case.ensures.writing so_far (c.loop-case.invariant.writing frame v none can) here in
          subst (λ (cs : List CaseLines). IsWriting bank (record frame { cases = cs }) c.case.new.self) (cases_next bank c.args.cases.now i case below c.case-item.is) one_more;
    }

pub returns-clause-rule : goal.returns-clause-rule
returns-clause-rule c =
    λ frame clause v none over concluded low.
    let bank = c.args.bank.now in
    let p = term_at bank c.args.claim in
    let m = term_at bank c.args.measure in
    let cases = cases_at bank c.args.cases.now in
    let so_far : Frame = record frame { cases = cases_at bank (take c.loop-case.case-index c.args.cases.now) } in
    let all : cases_at bank (take c.loop-case.case-index c.args.cases.now) ≡ cases = ap (cases_at bank) (take_all c.loop-case.case-index c.args.cases.now c.loop-case-test.false) in
    let can = cases_can frame p m c.args.ordinal c.args.base cases clause concluded.clause over.terms.1.1 over.names in
    let first = c.in_ok-term.ensures.writing so_far (c.loop-case.invariant.writing frame v none can) over.terms.0 in
    let second = c.in_ok-term-2.ensures.writing so_far first over.terms.1.0 in
    let allowed : Concludes so_far (Induct p m c.args.ordinal c.args.base so_far.cases) clause =
    record {
      clause = ap (λ cs. conclusion frame.history (line_clause frame) (Induct p m c.args.ordinal c.args.base cs)) all ∙ concluded.clause;
      without = ap (λ cs. are_without frame.introduced (rule_terms (Induct p m c.args.ordinal c.args.base cs))) all ∙ concluded.without;
    } in
    on_ok_weaker c.put.result
    (λ adds.
    subst (λ (cs : List CaseLines). IsWriting bank (with_line (record frame { cases = cs }) clause) c.put.new.self) (sym none)
    (induct_written bank so_far c.term-2.new.self c.put.new.self second c.args.claim c.args.measure c.args.ordinal c.args.base c.number.result c.number-2.result clause (fits c.args.ordinal c.ranges.ordinal) (fits c.args.base c.ranges.base)
    (c.in_ok-term-2.ensures.keeps.terms c.args.claim c.in_ok-term.ensures.written) c.in_ok-term-2.ensures.written c.number.ensures c.number-2.ensures low allowed adds))
    c.put.ensures.line
