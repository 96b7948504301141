use Rattle.std.proofs.Common.{rules}
use Rattle.nq_bank.specs.Content.{term_at}
use Rattle.nq_history.specs.Events.{events_at}
use Rattle.nq_fragments.specs.Fragments.{IsInNoFragment}
use Rattle.nq_kernel.proofs.GrowingLemmas.{WorkGrows-trans}
use Rattle.nq_lines.proofs.TermLemmas.{term_grown}
use Rattle.nq_quick.specs.Answers.{IsQuickProof}
use Rattle.nq_quick.proofs.FirstPassLemmas.{only_told}
use Rattle.nq_search.proofs.SearchingLemmas.{ready_grown}
use Rattle.nq_tactic.proofs.ProverLemmas.{none_grown, first_before}
use Rattle.nq_tactic.proofs.prover.SearcherProver.prove.Goals as goal

pub hinted-requires-clause-can : goal.hinted-requires-clause-can
hinted-requires-clause-can c =
    ready_grown c.args.history.now c.args.work.now c.quick.new.work c.requires.stands c.quick.ensures.grows c.ready_histories.ensures.grown c.args.hints.now
    (record { stands = c.requires.stands; ready = c.requires.ready; hints_stand = c.requires.hints; hints_in = c.requires.hint_terms })

pub hinted-requires-clause-goal : goal.hinted-requires-clause-goal
hinted-requires-clause-goal c =
    term_grown c.args.history.now c.args.work.now c.quick.new.work c.args.goal c.requires.stands c.quick.ensures.grows (record { stands = c.requires.goal; over = c.requires.over })

pub hinted-requires-clause-none : goal.hinted-requires-clause-none
hinted-requires-clause-none c =
    let none : IsInNoFragment (events_at c.args.work.now.bank c.args.history.now) (term_at c.args.work.now.bank c.args.goal) = search rules in
    none_grown c.args.history.now c.args.work.now c.quick.new.work c.requires.stands c.quick.ensures.grows c.args.goal c.requires.goal none

pub returns-in-Some-clause-told : goal.returns-in-Some-clause-told
returns-in-Some-clause-told c =
    let proof : IsQuickProof c.args.history.now c.args.work.now c.quick.new.work c.args.goal c.in-Some.way c.in-Some.line = search rules in
    only_told _ _ proof.holds

pub returns-in-None-clause-grows : goal.returns-in-None-clause-grows
returns-in-None-clause-grows c = WorkGrows-trans c.args.history.now c.args.work.now c.quick.new.work c.hinted.new.work c.quick.ensures.grows c.hinted.ensures.grows

pub returns-in-None-clause-first : goal.returns-in-None-clause-first
returns-in-None-clause-first c =
    first_before c.args.history.now c.args.work.now c.quick.new.work c.requires.stands c.quick.ensures.grows c.args.goal c.requires.goal c.hinted.result c.hinted.ensures.first
