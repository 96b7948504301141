use Rattle.std.proofs.Common.{sym, subst}
use Rattle.nq_logic.specs.Terms.{Term}
use Rattle.nq_logic.specs.Ground.{symbols_of}
use Rattle.nq_logic.specs.Histories.{History}
use Rattle.nq_bank.specs.Content.{term_at}
use Rattle.nq_history.specs.Events.{events_at}
use Rattle.nq_history.proofs.HistoryLemmas.{events_at-grown}
use Rattle.nq_kernel.specs.Over.{IsVariable, IsTermOf}
use Rattle.nq_eval.proofs.LineLemmas.{grown_trans}
use Rattle.nq_hinted.proofs.NestLines.{nest_grown}
use Rattle.nq_hinted.proofs.HintedLemmas.{answer_before, can_grown, denials, goal_grown, nest_in}
use Rattle.nq_hinted.proofs.UnwindLemmas.{grows_bank, with_bank}
use Rattle.nq_hinted.proofs.hinted.prove_few.Goals as goal

pub nest_of-requires-clause-first : goal.nest_of-requires-clause-first
nest_of-requires-clause-first c = c.requires.literals.first_stands

pub nest_of-requires-clause-rest : goal.nest_of-requires-clause-rest
nest_of-requires-clause-rest c = c.requires.literals.rest_stand

pub nest_of-requires-clause-denials : goal.nest_of-requires-clause-denials
nest_of-requires-clause-denials c = denials c.args.history.now c.args.hints.now c.args.work.now c.args.goal c.args.first c.args.rest.now c.requires.literals

pub prove_nest-requires-clause-can : goal.prove_nest-requires-clause-can
prove_nest-requires-clause-can c =
    can_grown c.args.history.now c.args.hints.now c.args.work.now (with_bank c.nest_of.new.bank c.args.work.now) c.args.goal
    (grows_bank c.args.history.now c.args.work.now c.nest_of.new.bank c.requires.can.stands c.in-Ok.ensures.grows c.in-Ok.ensures.names).grows c.requires.can

pub prove_nest-requires-clause-literals : goal.prove_nest-requires-clause-literals
prove_nest-requires-clause-literals c =
    goal_grown c.args.history.now c.args.hints.now c.args.work.now (with_bank c.nest_of.new.bank c.args.work.now) c.args.goal
    (grows_bank c.args.history.now c.args.work.now c.nest_of.new.bank c.requires.can.stands c.in-Ok.ensures.grows c.in-Ok.ensures.names).grows c.args.first c.args.rest.now c.requires.can c.requires.literals

pub prove_nest-requires-clause-whole : goal.prove_nest-requires-clause-whole
prove_nest-requires-clause-whole c = record {
  stands = c.in-Ok.ensures.ok.stands;
  denotes = nest_grown c.args.work.now.bank c.nest_of.new.bank c.in-Ok.ensures.grows c.args.first c.args.rest.now c.requires.literals.first_stands c.requires.literals.rest_stand _ c.in-Ok.ensures.ok.denotes;
}

pub prove_nest-requires-clause-over : goal.prove_nest-requires-clause-over
prove_nest-requires-clause-over c =
    subst (λ (h : History). IsTermOf IsVariable (symbols_of h) (term_at c.nest_of.new.bank c.in-Ok.whole)) (sym (events_at-grown c.args.work.now.bank c.nest_of.new.bank c.in-Ok.ensures.grows c.args.history.now c.requires.can.stands.history.entries))
    (subst (λ (t : Term). IsTermOf IsVariable (symbols_of (events_at c.args.work.now.bank c.args.history.now)) t) (sym c.in-Ok.ensures.ok.denotes) (nest_in c.args.history.now c.args.hints.now c.args.work.now c.args.goal c.args.first c.args.rest.now c.requires.literals c.requires.can))

pub returns-in-Ok-clause-answer : goal.returns-in-Ok-clause-answer
returns-in-Ok-clause-answer c =
    answer_before c.args.history.now c.args.hints.now c.args.work.now (with_bank c.nest_of.new.bank c.args.work.now) c.args.goal
    (grows_bank c.args.history.now c.args.work.now c.nest_of.new.bank c.requires.can.stands c.in-Ok.ensures.grows c.in-Ok.ensures.names).grows c.prove_nest.new.work c.prove_nest.result c.requires.can c.prove_nest.ensures.answer

pub returns-in-Ok-clause-grows : goal.returns-in-Ok-clause-grows
returns-in-Ok-clause-grows c =
    grown_trans c.args.history.now c.args.work.now (with_bank c.nest_of.new.bank c.args.work.now) c.prove_nest.new.work
    (grows_bank c.args.history.now c.args.work.now c.nest_of.new.bank c.requires.can.stands c.in-Ok.ensures.grows c.in-Ok.ensures.names) c.prove_nest.ensures.grows

pub returns-in-Err-clause-grows : goal.returns-in-Err-clause-grows
returns-in-Err-clause-grows c = grows_bank c.args.history.now c.args.work.now c.nest_of.new.bank c.requires.can.stands c.in-Err.ensures.grows c.in-Err.ensures.names
