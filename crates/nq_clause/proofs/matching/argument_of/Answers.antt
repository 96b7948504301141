use Rattle.std.proofs.Common.{◌<◌, length, subst, sym, get_or, ◌≡◌, ◌-◌}
use Rattle.nq_logic.specs.Words.{numeral}
use Rattle.nq_bank.specs.Content.{Content}
use Rattle.nq_clause.specs.Binding.{bound_at}
use Rattle.nq_clause.specs.Matching.{arguments_of}
use Rattle.nq_clause.proofs.BoundLemmas.{argument_of_numeral}
use Rattle.nq_clause.proofs.matching.argument_of.Goals as goal

pub overflow_sub-result : goal.overflow_sub-result
overflow_sub-result c =
    (argument_of_numeral c.in-Num.n c.args.i (subst (λ b. c.args.i < length (arguments_of (bound_at c.args.bank.now b))) c.in-Num.is c.requires.argument)).0

pub returns-in-Num-clause-is : goal.returns-in-Num-clause-is
returns-in-Num-clause-is c =
    let bank : Content = c.args.bank.now in
    subst (λ b. numeral (c.in-Num.n - 1) ≡ get_or (arguments_of (bound_at bank b)) c.args.i (numeral (c.in-Num.n - 1))) (sym c.in-Num.is)
    (argument_of_numeral c.in-Num.n c.args.i (subst (λ b. c.args.i < length (arguments_of (bound_at bank b))) c.in-Num.is c.requires.argument)).1
