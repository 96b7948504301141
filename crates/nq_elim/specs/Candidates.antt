-- Variables that may give way.
use Rattle.std.specs.Prelude.{List}
use Rattle.nq_history.specs.declared.entry.Entry.{Entry}
use Rattle.nq_kernel.specs.declared.work.Work.{Work}
use Rattle.nq_lines.specs.Lines.{IsTermIn}
use Rattle.nq_elim.specs.declared.candidates.Candidate.{Candidate}

-- the variable is over the history
pub record CandidateStands (history : List Entry) (work : Work) (c : Candidate) : Type 0 where
  pub variable : IsTermIn history work c.variable
