use Rattle.nq_bank.specs.declared.node.TermId.{TermId}
use Rattle.nq_bank.specs.Content.{term_at}
use Rattle.nq_cases.specs.Paths.{IsIfFree}
use Rattle.nq_cases.proofs.CapLemmas.{counts_grown}
use Rattle.nq_cases.proofs.CaseLemmas.{match_some}
use Rattle.nq_kernel.proofs.GrowingLemmas.{WorkGrows-trans}
use Rattle.nq_simplify.specs.declared.steps.Outcome.TheVariants.{Divided}
use Rattle.nq_simplify.specs.Splitting.{IsChoiceIn}
use Rattle.nq_simplify.proofs.BasisLemmas.{basis_grown}
use Rattle.nq_simplify.proofs.SimplifiedLemmas.{goal_in}
use Rattle.nq_simplify.proofs.OutcomeLemmas.{outcome_before}
use Rattle.nq_simplify.proofs.splitting.split_at.Goals as goal

pub choose_in-requires-clause-term : goal.choose_in-requires-clause-term
choose_in-requires-clause-term c = let d : TermId = record { 0 = 0 } in c.requires.goal c.args.at d c.requires.at

pub split_by-requires-clause-basis : goal.split_by-requires-clause-basis
split_by-requires-clause-basis c = basis_grown c.args.history.now c.args.work.now c.choose_in.new.work c.args.basis.now c.requires.stands c.choose_in.ensures.grows c.requires.basis

pub split_by-requires-clause-goal : goal.split_by-requires-clause-goal
split_by-requires-clause-goal c = goal_in c.args.history.now c.args.work.now c.choose_in.new.work c.args.goal.now c.requires.stands c.choose_in.ensures.grows c.requires.goal

pub split_by-requires-clause-choice : goal.split_by-requires-clause-choice
split_by-requires-clause-choice c = match_some c.in_ok-found.found (IsIfFree (term_at c.args.work.now.bank _)) (IsChoiceIn c.args.history.now c.choose_in.new.work _) c.in-Some.choice c.in_ok-found.ensures.choice c.in-Some.is

pub returns-in_err-split-in-Some-clause-grows : goal.returns-in_err-split-in-Some-clause-grows
returns-in_err-split-in-Some-clause-grows c = WorkGrows-trans c.args.history.now c.args.work.now c.choose_in.new.work c.split_by.new.work c.choose_in.ensures.grows c.split_by.ensures.grows

pub returns-in_ok-split-in-Some-clause-grows : goal.returns-in_ok-split-in-Some-clause-grows
returns-in_ok-split-in-Some-clause-grows c = WorkGrows-trans c.args.history.now c.args.work.now c.choose_in.new.work c.split_by.new.work c.choose_in.ensures.grows c.split_by.ensures.grows

pub returns-in_ok-split-in-Some-clause-outcome : goal.returns-in_ok-split-in-Some-clause-outcome
returns-in_ok-split-in-Some-clause-outcome c = outcome_before c.args.history.now c.args.work.now c.choose_in.new.work c.split_by.new.work c.args.goal.now (Divided c.in_ok-split-in-Some.split) c.choose_in.ensures.grows c.requires.goal c.in_ok-split-in-Some.ensures.split

pub returns-in_ok-split-in-Some-clause-counts : goal.returns-in_ok-split-in-Some-clause-counts
returns-in_ok-split-in-Some-clause-counts c = counts_grown c.choose_in.new.work.bank c.split_by.new.work.bank 2 c.choose_in.new.known c.split_by.ensures.grows.bank c.in_ok-found.ensures.counts
