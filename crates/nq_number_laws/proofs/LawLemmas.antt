-- A table after one line that is known.
use Rattle.std.proofs.Common.{ℕ, [], ◌∷◌, sym, ap, subst}
use Rattle.std.specs.Prelude.{IsSome}
use Rattle.nq_proof.specs.Clauses.{Clause}
use Rattle.nq_kernel.specs.declared.work.Work.{Work}
use Rattle.nq_kernel.specs.Growing.{LineHolds}
use Rattle.nq_kernel.proofs.HeldLines.{holds_held}
use Rattle.nq_replay.specs.declared.table.Law.{Law}
use Rattle.nq_replay.specs.Parts.{lines_held}
use Rattle.nq_replay.specs.Replaying.{law_clause}

pub law_known : (work : Work) (line : ℕ) (law : Law) (c : Clause) → LineHolds work line c → IsSome (law_clause law (c ∷ [])) → IsSome (law_clause law (lines_held work (line ∷ [])))
law_known work line law c h some = subst (λ cs. IsSome (law_clause law cs)) (sym (ap (λ d. d ∷ []) (holds_held work line c h))) some
