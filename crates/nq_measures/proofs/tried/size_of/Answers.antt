use Rattle.std.proofs.Common.{◌≤◌, sym, subst}
use Rattle.nq_logic.specs.Terms.{Term}
use Rattle.nq_logic.specs.Sizes.{depth_of}
use Rattle.nq_bank.specs.Content.{text_at}
use Rattle.nq_measures.proofs.TriedLemmas.{variable_depth}
use Rattle.nq_measures.proofs.tried.size_of.Goals as goal

pub call_of_one-requires-clause-shallow : goal.call_of_one-requires-clause-shallow
call_of_one-requires-clause-shallow c = subst (λ (t : Term). depth_of t ≤ 2000) (sym c.in_ok-variable.ensures.ok.id.denotes) (variable_depth (text_at c.args.bank.now c.args.formal))
