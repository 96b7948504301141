use Rattle.std.proofs.Common.{[], subst}
use Rattle.std.specs.Prelude.{IfSome}
use Rattle.nq_bank.specs.Content.{term_at}
use Rattle.nq_kernel.proofs.GrowingLemmas.{WorkGrows-trans}
use Rattle.nq_lines.specs.Lines.{IsTermIn}
use Rattle.nq_lines.proofs.TermLemmas.{term_grown}
use Rattle.nq_reduce.specs.Rewriting.{IsKnown}
use Rattle.nq_elim.proofs.ListLemmas.{all_none}
use Rattle.nq_elim.proofs.KindLemmas.{known_later}
use Rattle.nq_elim.proofs.kinds.known_fact.Goals as goal

pub settled-requires : goal.settled-requires
settled-requires c =
    record { can = record { stands = c.requires.stands; term = c.requires.term; hypotheses = all_none (IsTermIn c.args.history.now c.args.work.now); ready = c.requires.ready } }

pub fact_of-requires-clause-term : goal.fact_of-requires-clause-term
fact_of-requires-clause-term c = term_grown c.args.history.now c.args.work.now c.settled.new.work c.args.t c.requires.stands c.settled.ensures.grows c.requires.term

pub fact_of-requires-clause-known : goal.fact_of-requires-clause-known
fact_of-requires-clause-known c = known_later c.args.history.now c.args.work.now c.settled.new.work c.args.t c.settled.ensures.grows c.requires.term c.in-Some.known (subst (λ o. IfSome o (IsKnown c.settled.new.work [] (term_at c.args.work.now.bank c.args.t))) c.in-Some.is c.in_ok-known.ensures.known)

pub number_fact-requires-clause-term : goal.number_fact-requires-clause-term
number_fact-requires-clause-term c = term_grown c.args.history.now c.args.work.now c.settled.new.work c.args.t c.requires.stands c.settled.ensures.grows c.requires.term

pub returns-in-None-clause-grows : goal.returns-in-None-clause-grows
returns-in-None-clause-grows c = WorkGrows-trans c.args.history.now c.args.work.now c.settled.new.work c.number_fact.new.work c.settled.ensures.grows c.number_fact.ensures.grows
