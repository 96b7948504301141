use Rattle.std.proofs.Common.{sym, ◌∙◌}
use Rattle.nq_bank.specs.Content.{term_at}
use Rattle.nq_lines.proofs.PlacedLemmas.{lacks_literal}
use Rattle.nq_lines.proofs.placed.has_literal.Goals as goal

pub returns : goal.returns
returns c off = lacks_literal c.args.work.now c.args.line c.clause_over.result.now (term_at c.args.work.now.bank c.args.t) c.clause_over.ensures.clause (sym c.contains.ensures ∙ off)
