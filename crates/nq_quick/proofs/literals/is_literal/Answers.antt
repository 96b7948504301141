use Rattle.std.proofs.Common.{sym, ◌∙◌, inr}
use Rattle.nq_bank.specs.Content.{term_at, terms_at}
use Rattle.nq_proof.proofs.Tests.{found}
use Rattle.nq_quick.proofs.literals.is_literal.Goals as goal

pub returns : goal.returns
returns c = λ e. inr (found (term_at c.args.bank.now c.args.literal) (terms_at c.args.bank.now c.args.others.now) (sym c.contains.ensures ∙ e))
