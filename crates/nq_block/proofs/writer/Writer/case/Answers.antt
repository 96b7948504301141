use Rattle.std.proofs.Common.{[], subst, sym}
use Rattle.nq_logic.specs.Terms.{Each}
use Rattle.nq_bank.specs.Content.{term_at}
use Rattle.nq_proof.specs.Rules.{CaseLines}
use Rattle.nq_rule.specs.Inductions.{hypotheses_at}
use Rattle.nq_block.specs.Writing.{CanSuppose, IsWriting, with_case, with_hypotheses}
use Rattle.std.specs.Prelude.{OnOk}
use Rattle.nq_block.proofs.writer.Writer.case.Goals as goal

pub returns-clause-writing : goal.returns-clause-writing
returns-clause-writing c =
    λ frame v can.
    let bank = c.args.bank.now in
    let same = c.as_slice.ensures.value in
    let begun : CaseLines = record { test = term_at bank c.args.case.now.test; step = c.args.case.now.line; hypotheses = [] } in
    let first = c.in_ok-begin_case.ensures.writing frame v can.line can.test in
    let hypotheses = subst (λ steps. Each (CanSuppose frame.history frame.clauses) (hypotheses_at bank steps)) (sym same) can.hypotheses in
    subst (λ steps. OnOk c.hypotheses.result (IsWriting bank (with_case frame (with_hypotheses begun (hypotheses_at bank steps))) c.hypotheses.new.self)) same (c.hypotheses.ensures.writing frame begun first hypotheses)
