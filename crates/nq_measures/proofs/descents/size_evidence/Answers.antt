use Rattle.nq_replay.proofs.UncountedLemmas.{grown_trans}
use Rattle.nq_measures.proofs.FindingLemmas.{match_some, size_found}
use Rattle.nq_measures.proofs.descents.size_evidence.Goals as goal

pub returns-in_err-ordinal-in-Some-clause-grows : goal.returns-in_err-ordinal-in-Some-clause-grows
returns-in_err-ordinal-in-Some-clause-grows c = grown_trans c.args.history.now c.args.work.now c.find_descents.new.work c.size_ordinal.new.work c.find_descents.ensures.grows c.size_ordinal.ensures.grows

pub returns-in_ok-ordinal-in-Some-clause-found : goal.returns-in_ok-ordinal-in-Some-clause-found
returns-in_ok-ordinal-in-Some-clause-found c =
    size_found c.args.history.now c.args.work.now c.find_descents.new.work c.size_ordinal.new.work c.args.f c.args.formals.now c.args.measure c.args.sites.now c.in_ok-ordinal-in-Some.ordinal c.in-Some.falls c.requires.stands c.find_descents.ensures.grows.grows c.size_ordinal.ensures.grows.grows c.requires.trial c.requires.sites
    c.args.x c.requires.size (match_some c.in_ok-find_descents.field-0 c.in-Some.falls _ _ c.in-Some.is c.in_ok-find_descents.ensures.found) c.in_ok-ordinal-in-Some.ensures.line

pub returns-in_ok-ordinal-in-Some-clause-grows : goal.returns-in_ok-ordinal-in-Some-clause-grows
returns-in_ok-ordinal-in-Some-clause-grows c = grown_trans c.args.history.now c.args.work.now c.find_descents.new.work c.size_ordinal.new.work c.find_descents.ensures.grows c.size_ordinal.ensures.grows
