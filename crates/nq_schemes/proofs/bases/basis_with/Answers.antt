use Rattle.nq_lines.proofs.FactLemmas.{own_terms_grown}
use Rattle.nq_schemes.proofs.GrownLemmas.{opened_grown, ready_grown, sized_grown, ordinal_grown}
use Rattle.nq_schemes.proofs.bases.basis_with.Goals as goal

pub returns-clause-basis : goal.returns-clause-basis
returns-clause-basis c = record {
  opened = opened_grown c.args.history.now c.args.work.now c.known_truth.new.work c.requires.stands c.known_truth.ensures.grows c.args.opened.items c.requires.opened;
  sized = sized_grown c.args.history.now c.args.work.now c.known_truth.new.work c.requires.stands c.known_truth.ensures.grows c.args.sized c.requires.sized;
  measure = (ordinal_grown c.args.history.now c.args.work.now c.known_truth.new.work c.requires.stands c.known_truth.ensures.grows c.args.ordinal c.requires.ordinal).term;
  ordinal = (ordinal_grown c.args.history.now c.args.work.now c.known_truth.new.work c.requires.stands c.known_truth.ensures.grows c.args.ordinal c.requires.ordinal).line;
  shown = c.in_ok-shown.ensures.truth;
  ready = ready_grown c.args.history.now c.args.work.now c.known_truth.new.work c.requires.stands c.known_truth.ensures.grows c.requires.ready;
  own = own_terms_grown c.args.history.now c.args.work.now c.known_truth.new.work c.known_truth.ensures.grows c.requires.stands (c.own_terms.ensures c.args.work.now.bank c.args.history.now c.requires.ready);
}

pub returns-clause-grows : goal.returns-clause-grows
returns-clause-grows c = c.known_truth.ensures.grows
