-- What was found so far is in.
use Rattle.std.specs.Prelude.{All}
use Rattle.nq_elim.specs.Candidates.{CandidateStands}
use Rattle.nq_elim.proofs.candidates.candidates_in.Given as goal

abbrev pub invariant-loop-call : goal.invariant-loop-call
invariant-loop-call l = All (CandidateStands l.history l.work) l.candidates.items
