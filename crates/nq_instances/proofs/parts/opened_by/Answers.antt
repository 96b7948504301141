use Rattle.std.proofs.Common.{◌∷◌, []}
use Rattle.nq_logic.specs.Words.{equal_term}
use Rattle.nq_bank.specs.Content.{term_at}
use Rattle.nq_lines.proofs.LineLemmas.{only_stands}
use Rattle.nq_instances.proofs.PartLemmas.{opened_line}
use Rattle.nq_instances.proofs.parts.opened_by.Goals as goal

pub rewrite_literal-requires-clause-equation : goal.rewrite_literal-requires-clause-equation
rewrite_literal-requires-clause-equation c = only_stands c.args.work.now c.args.body.line (equal_term (term_at c.args.work.now.bank c.args.fact.term) (term_at c.args.work.now.bank c.args.body.term) ∷ []) c.requires.body.line

pub returns-clause-fact : goal.returns-clause-fact
returns-clause-fact c = opened_line c.args.history.now c.args.work.now c.rewrite_literal.new.work c.args.fact c.args.body c.in_ok-line.line c.requires.stands c.rewrite_literal.ensures.grows c.requires.body c.in_ok-line.ensures.stands c.in_ok-line.ensures.line
