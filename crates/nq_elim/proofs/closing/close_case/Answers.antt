use Rattle.nq_rule.proofs.Made.{for_ok}
use Rattle.nq_bank.specs.Content.{term_at}
use Rattle.nq_lines.specs.Lines.{CutsTo}
use Rattle.nq_elim.specs.Cases.{CaseCloses}
use Rattle.nq_elim.proofs.CaseLemmas.{closed_denied, closed_other}
use Rattle.nq_elim.proofs.closing.close_case.Goals as goal

pub returns-then-case-clause-line : goal.returns-then-case-clause-line
returns-then-case-clause-line c =
    let old = c.args.work.now in
    let new = c.cut.new.work in
    for_ok c.cut.result (λ n. CutsTo old new (term_at old.bank c.args.case.other) c.args.other c.args.line n) (λ n. CaseCloses old new c.args.case c.args.line c.args.other n)
    (λ n cuts. closed_denied old new c.args.case c.args.line c.args.other n c.requires.case.opposed c.if-case.true cuts) c.cut.ensures.line

pub returns-else-case-clause-line : goal.returns-else-case-clause-line
returns-else-case-clause-line c =
    let old = c.args.work.now in
    let new = c.cut-else-case.new.work in
    for_ok c.cut-else-case.result (λ n. CutsTo old new (term_at old.bank c.args.case.literal) c.args.line c.args.other n) (λ n. CaseCloses old new c.args.case c.args.line c.args.other n)
    (λ n cuts. closed_other old new c.args.case c.args.line c.args.other n c.requires.case.opposed c.if-case.false cuts) c.cut-else-case.ensures.line
