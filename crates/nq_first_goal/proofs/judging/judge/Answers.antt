use Rattle.std.proofs.Common.{◌∙◌, List, sym, subst}
use Rattle.std.specs.Prelude.{All}
use Rattle.nq_bank.specs.declared.node.TermId.{TermId}
use Rattle.nq_bank.specs.Content.{Stands, terms_at}
use Rattle.nq_bank.proofs.Growth.{Grows-trans}
use Rattle.nq_history.specs.Events.{events_at}
use Rattle.nq_history.proofs.HistoryLemmas.{history_grown}
use Rattle.nq_event.specs.EventsAt.{hints_at}
use Rattle.nq_event.proofs.HintSumLemmas.{hints_keep}
use Rattle.nq_ground_goals.specs.Literals.{IsLiteral}
use Rattle.nq_first_goal.specs.Judging.{IsJudged}
use Rattle.nq_first_goal.proofs.Judgements.{judged_before, literals_are, ready_kept}
use Rattle.nq_first_goal.proofs.judging.judge.Goals as goal

pub told-requires-clause-history : goal.told-requires-clause-history
told-requires-clause-history c = history_grown c.args.bank c.first_goal.new.bank c.in-Ok.ensures.grows c.args.history.now c.requires.history

pub told-requires-clause-ready : goal.told-requires-clause-ready
told-requires-clause-ready c = ready_kept c.args.bank c.first_goal.new.bank c.args.history.now c.args.hints.now c.args.goal c.requires.history c.in-Ok.ensures.grows c.requires.ready

pub told-requires-clause-hints : goal.told-requires-clause-hints
told-requires-clause-hints c = hints_keep c.args.bank c.first_goal.new.bank c.in-Ok.ensures.grows c.args.hints.now c.requires.hints

pub told-requires-clause-stand : goal.told-requires-clause-stand
told-requires-clause-stand c = subst (All (Stands c.first_goal.new.bank)) (sym c.as_slice.ensures.value) c.in-Ok.ensures.stand

pub told-requires-clause-literals : goal.told-requires-clause-literals
told-requires-clause-literals c =
    subst (All (IsLiteral c.first_goal.new.bank c.args.history.now)) (sym c.as_slice.ensures.value)
    (literals_are c.args.bank c.first_goal.new.bank c.args.history.now c.args.hints.now c.args.goal c.requires.history c.in-Ok.ensures.grows c.in-Ok.first.items c.requires.ready c.requires.hint_terms c.requires.over
    c.in-Ok.ensures.stand c.in-Ok.ensures.are)

pub given_back-requires : goal.given_back-requires
given_back-requires c =
    c.mark-mark.ensures.can c.in_ok-judged.judged.bank (Grows-trans c.args.bank c.first_goal.new.bank c.in_ok-judged.judged.bank c.in-Ok.ensures.grows c.in_ok-judged.ensures.grows)

pub returns-clause-bank : goal.returns-clause-bank
returns-clause-bank c =
    c.given_back.ensures.bank
    ∙ c.mark-mark.ensures.returns c.in_ok-judged.judged.bank (Grows-trans c.args.bank c.first_goal.new.bank c.in_ok-judged.judged.bank c.in-Ok.ensures.grows c.in_ok-judged.ensures.grows)

pub returns-clause-told : goal.returns-clause-told
returns-clause-told c =
    let later = c.first_goal.new.bank in
    let ids = c.in-Ok.first.items in
    let told = subst (λ (ts : List TermId). IsJudged (events_at later c.args.history.now) (hints_at later c.args.hints.now) (terms_at later ts) c.in_ok-judged.judged) c.as_slice.ensures.value c.in_ok-judged.ensures.told in
    judged_before c.args.bank later c.args.history.now c.args.hints.now c.args.goal c.requires.history c.in-Ok.ensures.grows ids c.in_ok-judged.judged c.given_back.result c.requires.hints c.in-Ok.ensures.are told
    c.given_back.ensures.text c.given_back.ensures.cause c.given_back.ensures.steps
