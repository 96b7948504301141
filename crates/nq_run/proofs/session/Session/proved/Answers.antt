use Rattle.nq_bank.specs.Content.{term_at, text_at}
use Rattle.nq_history.specs.Events.{class_of}
use Rattle.std.proofs.Common.{map}
use Rattle.nq_run.specs.HistoryView.{history_of}
use Rattle.nq_run.proofs.ReadyLemmas.{lemma_ready}
use Rattle.nq_run.proofs.session.Session.proved.Goals as goal

pub added-requires-clause-ready : goal.added-requires-clause-ready
added-requires-clause-ready g c =
    let old = c.args.self in
    lemma_ready (history_of old) (text_at old.bank c.args.lemma.name) c.requires.free (map class_of c.args.classes.items) (term_at old.bank c.args.lemma.goal) c.requires.spelled c.requires.shown

pub returns-clause-after : goal.returns-clause-after
returns-clause-after g c = c.in_ok-session.ensures.added.after

pub returns-clause-stands_after : goal.returns-clause-stands_after
returns-clause-stands_after g c = c.in_ok-session.ensures.added.stands

pub returns-clause-bank : goal.returns-clause-bank
returns-clause-bank g c = c.in_ok-session.ensures.added.bank
