use Rattle.nq_kernel.specs.Lines.{ids_at}
use Rattle.nq_part_lines.proofs.ReadingLemmas.{one_first, one_ids, one_length, one_literal}
use Rattle.nq_part_lines.proofs.reading.only_literal.Goals as goal

pub clause_over-literals-requires-clause-line : goal.clause_over-literals-requires-clause-line
clause_over-literals-requires-clause-line c = one_ids c.args.work.now.bank (ids_at c.args.work.now.log c.args.line) c.requires.line.literal c.requires.line.holds

pub bounds-literals-0 : goal.bounds-literals-0
bounds-literals-0 c =
    let w = c.args.work.now in
    let t = c.requires.line.literal in
    one_length w.bank c.clause_over-literals.result.now t (one_literal w.bank c.clause_over-literals.result.now (ids_at w.log c.args.line) t c.clause_over-literals.ensures.clause c.requires.line.holds)

pub returns-clause-literal : goal.returns-clause-literal
returns-clause-literal c t holds =
    let w = c.args.work.now in
    one_first w.bank c.clause_over-literals.result.now t _ (one_literal w.bank c.clause_over-literals.result.now (ids_at w.log c.args.line) t c.clause_over-literals.ensures.clause holds)
