use Rattle.std.proofs.Common.{◌∙◌, List, sym, ap, subst}
use Rattle.std.specs.Prelude.{All}
use Rattle.nq_bank.specs.declared.node.TermId.{TermId}
use Rattle.nq_bank.specs.Content.{terms_at}
use Rattle.nq_kernel.proofs.GrowingLemmas.{WorkGrows-trans}
use Rattle.nq_lines.specs.Lines.{IsTermIn}
use Rattle.nq_elim.proofs.GrownLemmas.{terms_grown}
use Rattle.nq_elim.proofs.ReasonLemmas.{same_whole, reason_grown}
use Rattle.nq_elim.proofs.making.eliminated.Goals as goal

pub renamed-requires-clause-goal : goal.renamed-requires-clause-goal
renamed-requires-clause-goal c = terms_grown c.args.history.now c.args.work.now c.whole_goal.new.work c.requires.stands c.whole_goal.ensures.grows c.args.goal.now c.requires.goal

pub renamed-requires-clause-reason : goal.renamed-requires-clause-reason
renamed-requires-clause-reason c = reason_grown c.args.history.now c.args.work.now c.whole_goal.new.work c.requires.stands c.whole_goal.ensures.grows c.args.goal.now c.requires.goal c.args.reason c.requires.reason

pub renamed-requires-clause-whole : goal.renamed-requires-clause-whole
renamed-requires-clause-whole c =
    ap (terms_at c.whole_goal.new.work.bank) c.as_slice.ensures.value ∙ c.in_ok-whole.ensures.literals ∙
    sym (same_whole c.args.history.now c.args.work.now c.whole_goal.new.work c.requires.stands c.whole_goal.ensures.grows c.args.goal.now c.requires.goal c.args.reason c.requires.reason)

pub renamed-requires-clause-over : goal.renamed-requires-clause-over
renamed-requires-clause-over c = subst (All (IsTermIn c.args.history.now c.whole_goal.new.work)) (sym c.as_slice.ensures.value) c.in_ok-whole.ensures.over

pub renamed-requires-clause-calls : goal.renamed-requires-clause-calls
renamed-requires-clause-calls c = terms_grown c.args.history.now c.args.work.now c.whole_goal.new.work c.requires.stands c.whole_goal.ensures.grows c.args.calls.now c.requires.calls

pub returns-clause-grows : goal.returns-clause-grows
returns-clause-grows c = WorkGrows-trans c.args.history.now c.args.work.now c.whole_goal.new.work c.renamed.new.work c.whole_goal.ensures.grows c.renamed.ensures.grows
