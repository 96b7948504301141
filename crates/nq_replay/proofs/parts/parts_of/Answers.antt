use Rattle.std.proofs.Common.{◌∙◌}
use Rattle.nq_replay.proofs.UncountedLemmas.{grown_trans}
use Rattle.nq_replay.proofs.NameLemmas.{named_grown, texts_grown}
use Rattle.nq_replay.proofs.parts.parts_of.Goals as goal

pub returns-in_err-terms-clause-grows : goal.returns-in_err-terms-clause-grows
returns-in_err-terms-clause-grows c = grown_trans c.args.history.now c.args.work.now c.names_of.new.work c.terms_of.new.work c.names_of.ensures.grows c.terms_of.ensures.grows

pub returns-clause-grows : goal.returns-clause-grows
returns-clause-grows c = grown_trans c.args.history.now c.args.work.now c.names_of.new.work c.terms_of.new.work c.names_of.ensures.grows c.terms_of.ensures.grows

pub returns-clause-parts : goal.returns-clause-parts
returns-clause-parts c =
    let grows = c.terms_of.ensures.grows.grows.bank in
    record {
      named = named_grown c.names_of.new.work.bank c.terms_of.new.work.bank c.in_ok-names.names.items grows c.in_ok-names.ensures.named;
      names = texts_grown c.names_of.new.work.bank c.terms_of.new.work.bank c.in_ok-names.names.items grows c.in_ok-names.ensures.named ∙ c.in_ok-names.ensures.names;
      stand = c.in_ok-terms.ensures.stand;
      terms = c.in_ok-terms.ensures.terms;
    }
