use Rattle.std.proofs.Common.{List, subst}
use Rattle.nq_logic.specs.Terms.{Term}
use Rattle.nq_induct.specs.Goals.{AreShown}
use Rattle.nq_search.specs.Goals.{goals_at}
use Rattle.nq_tactic.proofs.WayLemmas.{are_shown}
use Rattle.nq_tactic.proofs.closing.close_inducted.Goals as goal

pub close_induction-requires-clause-lines : goal.close_induction-requires-clause-lines
close_induction-requires-clause-lines c =
    subst (λ (cs : List (List Term)). AreShown c.args.work.now cs c.args.lines.now) c.requires.way.leads
    (are_shown c.args.work.now (goals_at c.args.work.now.bank c.args.induction.now.nexts.items) c.args.lines.now c.requires.lines)
