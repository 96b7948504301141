-- Schemes serve however the work grows.
use Rattle.std.specs.Prelude.{List}
use Rattle.nq_history.specs.declared.entry.Entry.{Entry}
use Rattle.nq_kernel.specs.declared.work.Work.{Work}
use Rattle.nq_kernel.specs.Growing.{WorkStands, WorkGrows}
use Rattle.nq_induct.specs.declared.scheme.Scheme.{Scheme}
use Rattle.nq_induct.specs.Schemes.{IsSchemeIn}

abbrev pub SchemesLast : Type 0
SchemesLast = (history : List Entry) (old new : Work) (s : Scheme) → WorkStands history old → WorkGrows history old new → IsSchemeIn history old s → IsSchemeIn history new s
