use Rattle.std.proofs.Common.{rules}
use Rattle.nq_bank.specs.Content.{term_at}
use Rattle.nq_history.specs.Events.{events_at}
use Rattle.nq_fragments.specs.Fragments.{IsInNoFragment}
use Rattle.nq_quick.specs.Answers.{IsQuickProof}
use Rattle.nq_hinted.proofs.hinted.tautology_line.Goals as goal

pub unreachable-requires : goal.unreachable-requires
unreachable-requires c =
    let none : IsInNoFragment (events_at c.args.work.now.bank c.args.history.now) (term_at c.args.work.now.bank c.args.t) = search rules in
    none.no_tautology c.requires.tautology

pub returns-clause-line : goal.returns-clause-line
returns-clause-line c =
    let proof : IsQuickProof c.args.history.now c.args.work.now c.quick.new.work c.args.t c.in-Some.found.0 c.in-Some.found.1 = search rules in
    record { literals = proof.holds.literals; stands = proof.holds.stands; only = proof.holds.only }

pub returns-clause-grows : goal.returns-clause-grows
returns-clause-grows c = record { grows = c.quick.ensures.grows; uncounted = c.quick.ensures.uncounted }
