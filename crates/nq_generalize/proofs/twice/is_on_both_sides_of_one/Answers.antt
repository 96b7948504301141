use Rattle.nq_bank.specs.declared.node.TermId.{TermId}
use Rattle.nq_bank.specs.Content.{term_at}
use Rattle.nq_generalize.proofs.TwiceLemmas.{balanced-more}
use Rattle.nq_generalize.proofs.twice.is_on_both_sides_of_one.Goals as goal

pub loop-literal-preserved : goal.loop-literal-preserved
loop-literal-preserved c =
    let first : TermId = record { 0 = 0 } in
    let bank = c.args.bank.now in
    balanced-more bank (term_at bank c.args.a) c.args.goal.now c.loop-literal.literal-index first (term_at bank c.atom_of-atom.result) c.loop-literal.found c.in_ok-here.here c.is_either-found.result c.loop-literal-test.true c.loop-literal.invariant c.atom_of-atom.ensures.is c.in_ok-here.ensures.answer c.is_either-found.ensures
