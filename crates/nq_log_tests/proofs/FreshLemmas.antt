-- Work without a line, of which nothing is known.
use Rattle.std.proofs.Common.{◌≡◌, List, [], ◌∷◌, arith}
use Rattle.std.specs.Prelude.{All}
use Rattle.nq_bank.specs.Content.{Stands}
use Rattle.nq_history.specs.declared.entry.Entry.{Entry}
use Rattle.nq_history.specs.Events.{HistoryStands}
use Rattle.nq_kernel.specs.declared.work.Work.{Work}
use Rattle.nq_kernel.specs.Growing.{PrescriptionStands, WorkStands}

all_none : {A : Type 0} (P : A → Type 0) (xs : List A) → xs ≡ [] → All P xs
all_none P [] none = λ k d below. absurd (omega (arith, below))
all_none P (x ∷ xs) none = absurd cc

pub fresh_stands : (history : List Entry) (work : Work) → HistoryStands work.bank history → work.log ≡ [] → work.known.items ≡ [] → WorkStands history work
fresh_stands history work stands lines known = record {
  log = record { stand = all_none (λ line. All (Stands work.bank) line.clause.items) work.log lines };
  history = stands;
  known = all_none (PrescriptionStands work.bank work.log) work.known.items known;
}
