use Rattle.nq_kernel.proofs.GrowingLemmas.{WorkGrows-refl}
use Rattle.nq_lines.proofs.TermLemmas.{term_grown}
use Rattle.nq_schemes.proofs.MadeLemmas.{opened_term}
use Rattle.nq_schemes.proofs.openings.opened_in.Goals as goal

pub returns-then-not-is_within_one-clause-grows : goal.returns-then-not-is_within_one-clause-grows
returns-then-not-is_within_one-clause-grows c = WorkGrows-refl c.args.history.now c.args.work.now c.requires.stands

pub opening-requires-clause-ready : goal.opening-requires-clause-ready
opening-requires-clause-ready c = c.own_terms.ensures c.args.work.now.bank c.args.history.now c.requires.ready

pub opening-requires-clause-term : goal.opening-requires-clause-term
opening-requires-clause-term c = c.is_within_one.ensures c.if-not-is_within_one.false

pub opened_by-requires-clause-call : goal.opened_by-requires-clause-call
opened_by-requires-clause-call c = term_grown c.args.history.now c.args.work.now c.opening.new.work c.args.call c.requires.stands c.opening.ensures.grows (c.is_within_one.ensures c.if-not-is_within_one.false)

pub opened_by-requires-clause-body : goal.opened_by-requires-clause-body
opened_by-requires-clause-body c = opened_term c.args.history.now c.opening.new.work _ c.in_ok-found.found c.in_ok-found.ensures.opening
