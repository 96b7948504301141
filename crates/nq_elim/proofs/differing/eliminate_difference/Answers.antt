use Rattle.std.proofs.Common.{sym, subst}
use Rattle.std.specs.Prelude.{All}
use Rattle.nq_lines.specs.Lines.{IsTermIn}
use Rattle.nq_kernel.proofs.GrowingLemmas.{WorkGrows-refl}
use Rattle.nq_elim.proofs.differing.eliminate_difference.Goals as goal

pub returns-in_err-calls-clause-grows : goal.returns-in_err-calls-clause-grows
returns-in_err-calls-clause-grows c = WorkGrows-refl c.args.history.now c.args.work.now c.requires.stands

pub by_calls-requires-clause-ready : goal.by_calls-requires-clause-ready
by_calls-requires-clause-ready c = c.own_terms.ensures c.args.work.now.bank c.args.history.now c.requires.ready

pub by_calls-requires-clause-calls : goal.by_calls-requires-clause-calls
by_calls-requires-clause-calls c = subst (All (IsTermIn c.args.history.now c.args.work.now)) (sym c.as_slice.ensures.value) c.in_ok-calls.ensures.calls
