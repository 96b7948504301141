use Rattle.std.proofs.lemmas.Result.{on_ok_weaker}
use Rattle.nq_rewrite.proofs.ArithmeticLemmas.{terms_grown, term_pushed}
use Rattle.nq_rewrite.proofs.arithmetic.add_opposite.Goals as goal

pub returns-clause-literals : goal.returns-clause-literals
returns-clause-literals c =
    on_ok_weaker c.push.result
    (λ e. term_pushed c.args.history.now c.opposite.new.work c.args.literals.now.items c.push.new.literals.items c.in_ok-t.t e (terms_grown c.args.history.now c.args.work.now c.opposite.new.work c.requires.stands c.opposite.ensures.grows c.args.literals.now.items c.requires.literals) c.in_ok-t.ensures.term)
    c.push.ensures.ok
