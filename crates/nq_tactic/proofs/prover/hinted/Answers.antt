use Rattle.std.proofs.Common.{rules, [], ◌∷◌}
use Rattle.nq_bank.specs.Content.{term_at}
use Rattle.nq_kernel.proofs.GrowingLemmas.{WorkGrows-trans}
use Rattle.nq_lines.proofs.TermLemmas.{term_grown}
use Rattle.nq_hinted.specs.Answers.{IsHintedLine}
use Rattle.nq_search.proofs.SearchingLemmas.{ready_grown}
use Rattle.nq_tactic.proofs.ProverLemmas.{none_grown, first_before, told_only}
use Rattle.nq_tactic.proofs.prover.hinted.Goals as goal

pub searched-requires-clause-can : goal.searched-requires-clause-can
searched-requires-clause-can c =
    ready_grown c.args.history.now c.args.work.now c.prove_hinted.new.work c.requires.can.stands c.prove_hinted.ensures.grows.grows c.ready_histories.ensures.grown c.args.hints.now c.requires.can

pub searched-requires-clause-goal : goal.searched-requires-clause-goal
searched-requires-clause-goal c = term_grown c.args.history.now c.args.work.now c.prove_hinted.new.work c.args.goal c.requires.can.stands c.prove_hinted.ensures.grows.grows c.requires.goal

pub searched-requires-clause-none : goal.searched-requires-clause-none
searched-requires-clause-none c = none_grown c.args.history.now c.args.work.now c.prove_hinted.new.work c.requires.can.stands c.prove_hinted.ensures.grows.grows c.args.goal c.requires.goal.stands c.requires.none

pub returns-in-Some-clause-told : goal.returns-in-Some-clause-told
returns-in-Some-clause-told c =
    let found : IsHintedLine c.args.history.now c.args.hints.now c.args.work.now c.prove_hinted.new.work c.args.goal c.in-Some.line = search rules in
    told_only _ _ found.holds

pub returns-in-None-clause-grows : goal.returns-in-None-clause-grows
returns-in-None-clause-grows c = WorkGrows-trans c.args.history.now c.args.work.now c.prove_hinted.new.work c.searched.new.work c.prove_hinted.ensures.grows.grows c.searched.ensures.grows

pub returns-in-None-clause-first : goal.returns-in-None-clause-first
returns-in-None-clause-first c =
    first_before c.args.history.now c.args.work.now c.prove_hinted.new.work c.requires.can.stands c.prove_hinted.ensures.grows.grows c.args.goal c.requires.goal.stands c.searched.result c.searched.ensures.first
