use Rattle.std.proofs.Common.{List, sym, subst}
use Rattle.nq_bank.specs.declared.node.TermId.{TermId}
use Rattle.nq_bank.specs.Content.{terms_at}
use Rattle.nq_comment.specs.ReportViews.{steps_of}
use Rattle.nq_history.proofs.HistoryLemmas.{history_grown}
use Rattle.nq_event.proofs.HintSumLemmas.{hints_keep}
use Rattle.nq_logic.specs.Terms.{Term}
use Rattle.nq_first_goal.specs.Falsehoods.{AreNots}
use Rattle.nq_first_goal.proofs.FalsehoodTrees.{literal_kept, variables_kept, free_kept, fails_before, terms_same}
use Rattle.nq_first_goal.proofs.falsehoods.steps_from.Goals as goal

pub steps_over-requires-clause-history : goal.steps_over-requires-clause-history
steps_over-requires-clause-history c = history_grown c.args.bank.now c.nots_of.new.bank c.in_ok-nots.ensures.grows c.args.history.now c.requires.history

pub steps_over-requires-clause-hints : goal.steps_over-requires-clause-hints
steps_over-requires-clause-hints c = hints_keep c.args.bank.now c.nots_of.new.bank c.in_ok-nots.ensures.grows c.args.hints.now c.requires.hints

pub steps_over-requires-clause-free : goal.steps_over-requires-clause-free
steps_over-requires-clause-free c = free_kept c.args.bank.now c.nots_of.new.bank c.in_ok-nots.ensures.grows c.args.history.now c.args.hints.now c.requires.history c.requires.hints c.requires.free

pub steps_over-requires-clause-lemma : goal.steps_over-requires-clause-lemma
steps_over-requires-clause-lemma c = literal_kept c.args.bank.now c.nots_of.new.bank c.in_ok-nots.ensures.grows c.args.history.now c.args.hints.now c.requires.history c.requires.hints c.args.lemma c.requires.lemma

pub steps_over-requires-clause-variables : goal.steps_over-requires-clause-variables
steps_over-requires-clause-variables c =
    variables_kept c.args.bank.now c.nots_of.new.bank c.in_ok-nots.ensures.grows c.args.history.now c.args.hints.now c.requires.history c.requires.hints c.args.lemma c.args.variables.now c.requires.lemma.stands c.requires.variables

pub steps_over-requires-clause-nots : goal.steps_over-requires-clause-nots
steps_over-requires-clause-nots c =
    let old = c.args.bank.now in
    let new = c.nots_of.new.bank in
    let same = terms_same old new c.in_ok-nots.ensures.grows c.args.history.now c.args.hints.now c.requires.history c.requires.hints c.args.variables.now c.requires.variables.stand in
    subst (λ (ids : List TermId). AreNots new (terms_at new c.args.variables.now) ids) (sym c.as_slice.ensures.value)
    (subst (λ (ts : List Term). AreNots new ts c.in_ok-nots.nots.items) (sym same) c.in_ok-nots.ensures.nots)

pub returns-clause-told : goal.returns-clause-told
returns-clause-told c =
    fails_before c.args.bank.now c.nots_of.new.bank c.in_ok-nots.ensures.grows c.args.history.now c.args.hints.now c.requires.history c.requires.hints c.args.lemma (steps_of c.in_ok-steps.steps.items)
    c.requires.lemma.stands c.in_ok-steps.ensures
