-- Summands mean the same in a bank that grew.
use Rattle.std.proofs.Common.{◌≡◌, List, [], ◌∷◌, get_or, refl}
use Rattle.nq_bank.specs.Content.{Content, Grows}
use Rattle.nq_bank.proofs.NodesLemmas.{All-head, All-tail}
use Rattle.nq_bank.proofs.Growth.{Stands-grown, term_at-grown}
use Rattle.nq_linear_rule.specs.declared.summand.Summand.{Summand}
use Rattle.nq_linear_rule.specs.Sums.{summands_at, LiteralStands, LiteralsStand}

pub summands_at-grown : (old new : Content) (summands : List Summand) → Grows old new → LiteralsStand old summands → summands_at new summands ≡ summands_at old summands
summands_at-grown old new [] h k = refl
summands_at-grown old new (s ∷ summands) h k =
    let here : LiteralStands old s = All-head (LiteralStands old) s summands k in
    let term = term_at-grown old new s.literal h here in
    let rest = summands_at-grown old new summands h (All-tail (LiteralStands old) s summands k) in
    rw (term, rest) refl

pub literals_grown : (old new : Content) (summands : List Summand) → Grows old new → LiteralsStand old summands → LiteralsStand new summands
literals_grown old new summands h k = λ i d below. Stands-grown old new (get_or summands i d).literal h (k i d below)
