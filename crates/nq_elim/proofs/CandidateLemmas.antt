-- Candidates, however the work grows.
use Rattle.std.proofs.Common.{List, get_or}
use Rattle.std.specs.Prelude.{All}
use Rattle.nq_history.specs.declared.entry.Entry.{Entry}
use Rattle.nq_kernel.specs.declared.work.Work.{Work}
use Rattle.nq_kernel.specs.Growing.{WorkStands, WorkGrows}
use Rattle.nq_lines.proofs.TermLemmas.{term_grown}
use Rattle.nq_elim.specs.declared.candidates.Candidate.{Candidate}
use Rattle.nq_elim.specs.Candidates.{CandidateStands}

pub candidates_grown : (history : List Entry) (old new : Work) → WorkStands history old → WorkGrows history old new → (candidates : List Candidate) → All (CandidateStands history old) candidates → All (CandidateStands history new) candidates
candidates_grown history old new stands grows candidates h = λ i d below. record { variable = term_grown history old new (get_or candidates i d).variable stands grows (h i d below).variable }
