use Rattle.std.proofs.Common.{◌≡◌, length}
use Rattle.nq_table.specs.Tables.{table_of, tags_of}
use Rattle.nq_bank.specs.Hashes.{hashes}
use Rattle.nq_bank.proofs.nodes.fill.Given as goal

abbrev pub invariant-loop-id : goal.invariant-loop-id
invariant-loop-id l = (l.places ≡ table_of (length l.fn.places) (hashes l.pages) l.id) × (l.tags ≡ tags_of (hashes l.pages) l.places)
