use Rattle.std.proofs.Common.{[], sym, subst}
use Rattle.std.specs.Prelude.{All}
use Rattle.nq_bank.specs.declared.node.TermId.{TermId}
use Rattle.nq_lines.specs.Lines.{IsTermIn}
use Rattle.nq_elim.proofs.ListLemmas.{all_none, all_cons}
use Rattle.nq_elim.proofs.differing.unless_there.Goals as goal

pub returns-in_ok-more-clause-literals : goal.returns-in_ok-more-clause-literals
returns-in_ok-more-clause-literals c =
    let P : TermId → Type 0 = IsTermIn c.args.history.now c.args.work.now in
    subst (All P) (sym c.in_ok-more.ensures.ok) (all_cons P c.args.t [] c.requires.term (all_none P))
