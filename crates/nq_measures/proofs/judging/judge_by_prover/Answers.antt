use Rattle.std.proofs.Common.{List, sym, subst}
use Rattle.std.specs.Prelude.{IfOk}
use Rattle.nq_logic.specs.Terms.{Term}
use Rattle.nq_logic.specs.Histories.{History}
use Rattle.nq_logic.specs.Shells.{either_of}
use Rattle.nq_bank.specs.Content.{IsIdOf, terms_at}
use Rattle.nq_bank.proofs.Growth.{terms_at-grown}
use Rattle.nq_history.specs.Events.{events_at}
use Rattle.nq_history.proofs.HistoryLemmas.{events_at-grown}
use Rattle.nq_kernel.specs.Ready.{IsReady}
use Rattle.nq_kernel.specs.declared.work.Work.{Work}
use Rattle.nq_kernel.proofs.GrowingLemmas.{WorkGrows-trans}
use Rattle.nq_steps.proofs.NameLemmas.{no_names}
use Rattle.nq_kernel.proofs.GrowingLemmas.{LineHolds-grown}
use Rattle.nq_replay.proofs.UncountedLemmas.{bank_uncounted}
use Rattle.nq_replay.specs.LawClauses.{choice_opens_clause}
use Rattle.nq_measures.specs.Judging.{IsJudged}
use Rattle.nq_measures.proofs.JudgingLemmas.{nest_over}
use Rattle.nq_measures.proofs.judging.judge_by_prover.Goals as goal

pub judge_nest-requires-clause-stands : goal.judge_nest-requires-clause-stands
judge_nest-requires-clause-stands g c = (bank_uncounted c.args.history.now c.args.work.now c.nest_of.new.bank c.requires.stands c.nest_of.ensures.grows (no_names c.args.work.now.bank c.nest_of.new.bank c.nest_of.ensures.names)).grows.stands

pub judge_nest-requires-clause-ready : goal.judge_nest-requires-clause-ready
judge_nest-requires-clause-ready g c = subst (λ (h : History). IsReady h) (sym (events_at-grown c.args.work.now.bank c.nest_of.new.bank c.nest_of.ensures.grows c.args.history.now c.requires.stands.history.entries)) c.requires.ready

pub judge_nest-requires-clause-law : goal.judge_nest-requires-clause-law
judge_nest-requires-clause-law g c =
    let mid : Work = record c.args.work.now { bank = c.nest_of.new.bank } in
    LineHolds-grown c.args.history.now c.args.work.now mid c.args.law choice_opens_clause c.requires.stands (bank_uncounted c.args.history.now c.args.work.now c.nest_of.new.bank c.requires.stands c.nest_of.ensures.grows (no_names c.args.work.now.bank c.nest_of.new.bank c.nest_of.ensures.names)).grows c.requires.law

pub judge_nest-requires-clause-nest : goal.judge_nest-requires-clause-nest
judge_nest-requires-clause-nest g c =
    subst (λ (ts : List Term). IsIdOf c.nest_of.new.bank c.in-Ok.nest (either_of ts)) (sym (terms_at-grown c.args.work.now.bank c.nest_of.new.bank c.args.literals.now c.nest_of.ensures.grows c.requires.stand)) c.in-Ok.ensures.ok

pub judge_nest-requires-clause-over : goal.judge_nest-requires-clause-over
judge_nest-requires-clause-over g c = nest_over c.args.work.now.bank c.nest_of.new.bank c.args.history.now c.in-Ok.nest c.args.literals.now c.nest_of.ensures.grows c.requires.stands.history c.requires.some c.in-Ok.ensures.ok c.requires.over

pub returns-in-Ok-clause-told : goal.returns-in-Ok-clause-told
returns-in-Ok-clause-told g c =
    subst (λ (h : History). IfOk c.judge_nest.result (λ j. IsJudged h c.judge_nest.new.work (terms_at c.args.work.now.bank c.args.literals.now) j)) (events_at-grown c.args.work.now.bank c.nest_of.new.bank c.nest_of.ensures.grows c.args.history.now c.requires.stands.history.entries)
    (subst (λ (ts : List Term). IfOk c.judge_nest.result (λ j. IsJudged (events_at c.nest_of.new.bank c.args.history.now) c.judge_nest.new.work ts j)) (terms_at-grown c.args.work.now.bank c.nest_of.new.bank c.args.literals.now c.nest_of.ensures.grows c.requires.stand) c.judge_nest.ensures.told)

pub returns-in-Ok-clause-grows : goal.returns-in-Ok-clause-grows
returns-in-Ok-clause-grows g c =
    let mid : Work = record c.args.work.now { bank = c.nest_of.new.bank } in
    WorkGrows-trans c.args.history.now c.args.work.now mid c.judge_nest.new.work (bank_uncounted c.args.history.now c.args.work.now c.nest_of.new.bank c.requires.stands c.nest_of.ensures.grows (no_names c.args.work.now.bank c.nest_of.new.bank c.nest_of.ensures.names)).grows c.judge_nest.ensures.grows

pub returns-in-Err-Deep-clause-grows : goal.returns-in-Err-Deep-clause-grows
returns-in-Err-Deep-clause-grows g c = (bank_uncounted c.args.history.now c.args.work.now c.nest_of.new.bank c.requires.stands c.nest_of.ensures.grows (no_names c.args.work.now.bank c.nest_of.new.bank c.nest_of.ensures.names)).grows

pub returns-in-Err-Memory-clause-grows : goal.returns-in-Err-Memory-clause-grows
returns-in-Err-Memory-clause-grows g c = (bank_uncounted c.args.history.now c.args.work.now c.nest_of.new.bank c.requires.stands c.nest_of.ensures.grows (no_names c.args.work.now.bank c.nest_of.new.bank c.nest_of.ensures.names)).grows

pub judge_nest-requires-clause-holds : goal.judge_nest-requires-clause-holds
judge_nest-requires-clause-holds g c = c.held_work.ensures.grown c.args.history.now c.args.work.now (record c.args.work.now { bank = c.nest_of.new.bank }) c.requires.stands c.requires.ready c.requires.holds (bank_uncounted c.args.history.now c.args.work.now c.nest_of.new.bank c.requires.stands c.nest_of.ensures.grows (no_names c.args.work.now.bank c.nest_of.new.bank c.nest_of.ensures.names)).grows

pub returns-in-Err-Deep-clause-holds : goal.returns-in-Err-Deep-clause-holds
returns-in-Err-Deep-clause-holds g c = c.held_work.ensures.grown c.args.history.now c.args.work.now (record c.args.work.now { bank = c.nest_of.new.bank }) c.requires.stands c.requires.ready c.requires.holds (bank_uncounted c.args.history.now c.args.work.now c.nest_of.new.bank c.requires.stands c.nest_of.ensures.grows (no_names c.args.work.now.bank c.nest_of.new.bank c.nest_of.ensures.names)).grows

pub returns-in-Err-Memory-clause-holds : goal.returns-in-Err-Memory-clause-holds
returns-in-Err-Memory-clause-holds g c = c.held_work.ensures.grown c.args.history.now c.args.work.now (record c.args.work.now { bank = c.nest_of.new.bank }) c.requires.stands c.requires.ready c.requires.holds (bank_uncounted c.args.history.now c.args.work.now c.nest_of.new.bank c.requires.stands c.nest_of.ensures.grows (no_names c.args.work.now.bank c.nest_of.new.bank c.nest_of.ensures.names)).grows
