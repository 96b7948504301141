use Rattle.std.proofs.Common.{length, inl}
use Rattle.nq_bank.specs.Content.{text_at, term_at}
use Rattle.nq_bank.specs.Shells.{texts_at}
use Rattle.nq_history.specs.Events.{events_at}
use Rattle.nq_kernel.proofs.GrowingLemmas.{WorkGrows-trans, LineHolds-grown}
use Rattle.nq_replay.specs.LawClauses.{choice_opens_clause}
use Rattle.nq_measures.proofs.GrownLemmas.{all_stand, trial_still, sites_still}
use Rattle.nq_measures.proofs.SearchLemmas.{older_over}
use Rattle.nq_measures.proofs.LeftLemmas.{err_told, ok_told, proof_stops}
use Rattle.nq_measures.proofs.FindingLemmas.{proof_found}
use Rattle.nq_measures.proofs.finding.prove_measure.Goals as goal

pub find_ordinal-requires-clause-over : goal.find_ordinal-requires-clause-over
find_ordinal-requires-clause-over g c =
    let bank = c.args.work.now.bank in
    older_over (events_at bank c.args.history.now) (text_at bank c.args.f) (length (texts_at bank c.args.formals.now)) (term_at bank c.args.measure) c.requires.older c.requires.trial.over

pub find_falls-requires-clause-law : goal.find_falls-requires-clause-law
find_falls-requires-clause-law g c = LineHolds-grown c.args.history.now c.args.work.now c.find_ordinal.new.work c.args.law choice_opens_clause c.requires.searching.stands c.find_ordinal.ensures.grows c.requires.law

pub find_falls-requires-clause-trial : goal.find_falls-requires-clause-trial
find_falls-requires-clause-trial g c =
    let trial = c.requires.trial in
    trial_still c.args.history.now c.args.work.now.bank c.find_ordinal.new.work.bank c.args.f c.args.formals.now c.find_ordinal.ensures.grows.bank c.requires.searching.stands.history trial.function trial.formals_named c.args.measure trial

pub find_falls-requires-clause-sites : goal.find_falls-requires-clause-sites
find_falls-requires-clause-sites g c =
    let trial = c.requires.trial in
    sites_still c.args.history.now c.args.work.now.bank c.find_ordinal.new.work.bank c.args.f c.args.formals.now c.find_ordinal.ensures.grows.bank c.requires.searching.stands.history trial.function trial.formals_named c.args.sites.now c.requires.sites

pub returns-in_err-left-in-Ok-clause-grows : goal.returns-in_err-left-in-Ok-clause-grows
returns-in_err-left-in-Ok-clause-grows g c = WorkGrows-trans c.args.history.now c.args.work.now c.find_ordinal.new.work c.find_falls.new.work c.find_ordinal.ensures.grows c.find_falls.ensures.grows

pub returns-in-Err-2-clause-grows : goal.returns-in-Err-2-clause-grows
returns-in-Err-2-clause-grows g c = WorkGrows-trans c.args.history.now c.args.work.now c.find_ordinal.new.work c.find_falls.new.work c.find_ordinal.ensures.grows c.find_falls.ensures.grows

pub returns-in-Ok-2-clause-found : goal.returns-in-Ok-2-clause-found
returns-in-Ok-2-clause-found g c =
    proof_found c.args.history.now c.args.work.now c.find_ordinal.new.work c.find_falls.new.work c.args.f c.args.formals.now c.args.measure c.args.sites.now c.in-Ok.ordinal c.in-Ok-2.falls c.requires.searching.stands c.find_ordinal.ensures.grows c.find_falls.ensures.grows c.requires.trial c.requires.sites
    c.requires.older (ok_told _ c.in_ok-left.field-0 c.in-Ok.ordinal c.in-Ok.is c.in_ok-left.ensures.found) (ok_told _ c.in_ok-left-in-Ok.field-0 c.in-Ok-2.falls c.in-Ok-2.is c.in_ok-left-in-Ok.ensures.found)

pub returns-in-Ok-2-clause-grows : goal.returns-in-Ok-2-clause-grows
returns-in-Ok-2-clause-grows g c = WorkGrows-trans c.args.history.now c.args.work.now c.find_ordinal.new.work c.find_falls.new.work c.find_ordinal.ensures.grows c.find_falls.ensures.grows

pub returns-in-Err-clause-left : goal.returns-in-Err-clause-left
returns-in-Err-clause-left g c = inl (err_told _ c.in_ok-left.field-0 c.in-Err.left c.in-Err.is c.in_ok-left.ensures.left)

pub returns-in-Err-2-clause-left : goal.returns-in-Err-2-clause-left
returns-in-Err-2-clause-left g c =
    proof_stops c.args.history.now c.args.work.now c.find_ordinal.new.work c.find_falls.new.work c.args.f c.args.formals.now c.args.measure c.args.sites.now c.requires.searching.stands c.find_ordinal.ensures.grows c.find_falls.ensures.grows c.requires.trial
    (all_stand c.args.history.now c.args.work.now.bank c.args.f c.args.formals.now c.args.sites.now c.requires.sites) c.in-Ok.ordinal c.in-Err-2.left c.requires.older
    (ok_told _ c.in_ok-left.field-0 c.in-Ok.ordinal c.in-Ok.is c.in_ok-left.ensures.found) (err_told _ c.in_ok-left-in-Ok.field-0 c.in-Err-2.left c.in-Err-2.is c.in_ok-left-in-Ok.ensures.left)
