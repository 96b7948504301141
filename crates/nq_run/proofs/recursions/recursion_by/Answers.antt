use Rattle.std.proofs.Common.{List, ap, subst, sym, ◌∙◌}
use Rattle.std.specs.Prelude.{All, IfSome, Option}
use Rattle.nq_bank.specs.declared.node.Sym.{Sym}
use Rattle.nq_bank.specs.Content.{term_at, text_at}
use Rattle.nq_bank.specs.Shells.{texts_at}
use Rattle.nq_history.specs.Events.{events_at}
use Rattle.nq_kernel.specs.Meaning.{clause_at}
use Rattle.nq_block.specs.Closings.{CanRecur}
use Rattle.nq_measures.specs.declared.finding.Admitting.{Admitting}
use Rattle.nq_measures.specs.declared.left.Left.{Left}
use Rattle.nq_run.specs.Recursions.{LeftStands, trials_at}
use Rattle.nq_run.proofs.TrialLemmas.{none_so, none_told}
use Rattle.nq_run.proofs.recursions.recursion_by.Goals as goal

pub block_of-requires-clause-closing : goal.block_of-requires-clause-closing
block_of-requires-clause-closing c =
    let r = c.args.recursion in
    let work = c.args.work in
    let a = c.in-Some.admitting in
    let closes = subst (λ (o : Option Admitting). IfSome o (λ a. CanRecur (events_at work.bank c.args.history.now) (clause_at work.bank work.log) (text_at work.bank r.name) (texts_at work.bank r.formals.now) (term_at work.bank r.body) (term_at work.bank a.measure) a.ordinal a.falls.items)) c.in-Some.is c.requires.closes in
    subst (λ (xs : List Sym). CanRecur (events_at work.bank c.args.history.now) (clause_at work.bank work.log) (text_at work.bank r.name) (texts_at work.bank xs) (term_at work.bank r.body) (term_at work.bank a.measure) a.ordinal a.falls.items)
    (sym c.in_ok-formals-in-Some.ensures.items) closes

pub told_trials-requires : goal.told_trials-requires
told_trials-requires c =
    record { left = subst (λ (ls : List Left). All (LeftStands c.args.work.bank) ls) (sym c.as_slice.ensures.value) (none_told c.args.measured.found _ c.in-None.is c.requires.left) }

pub returns-in-None-clause-trials : goal.returns-in-None-clause-trials
returns-in-None-clause-trials c = none_so c.args.measured.found _ (c.in_ok-trials-in-None.ensures ∙ ap (trials_at c.args.work.bank) c.as_slice.ensures.value)
