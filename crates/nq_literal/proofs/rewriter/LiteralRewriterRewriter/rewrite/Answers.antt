use Rattle.nq_kernel.proofs.GrowingLemmas.{WorkGrows-refl}
use Rattle.nq_literal.proofs.rewriter.LiteralRewriterRewriter.rewrite.Goals as goal

pub returns-then-is_past-clause-grows : goal.returns-then-is_past-clause-grows
returns-then-is_past-clause-grows c = WorkGrows-refl c.args.history.now c.args.work.now c.requires.stands
