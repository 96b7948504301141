-- A call of three arguments and more.
use Rattle.std.proofs.Common.{◌≡◌, ℕ, ◌≤◌, List, [], ◌∷◌, length, sym, ◌∙◌, ap, arith}
use Rattle.std.proofs.lemmas.List.{length-map}
use Rattle.nq_logic.specs.Terms.{Term, Function, Applied, applied, call}
use Rattle.nq_bank.specs.declared.node.TermId.{TermId}
use Rattle.nq_bank.specs.Content.{term_from, terms_from}

-- the first three arguments, and the others
abbrev pub IsLonger : Term → List ℕ → Type 0
IsLonger t f = (x : Term) × (y : Term) × (z : Term) × (more : List Term) × (t ≡ applied (Applied (Applied (Applied (Function f) x) y) z) more)

three_and_more : (t : Term) (f : List ℕ) (ts : List Term) → 3 ≤ length ts → t ≡ call f ts → IsLonger t f
three_and_more t f [] h is = absurd (omega arith)
three_and_more t f (x ∷ []) h is = absurd (omega arith)
three_and_more t f (x ∷ y ∷ []) h is = absurd (omega arith)
three_and_more t f (x ∷ y ∷ z ∷ ts) h is = (x, y, z, ts, is)

pub longer : (ts : List Term) (ids : List TermId) (t : Term) (f : List ℕ) (parts : List Term) → 3 ≤ length ids → terms_from ts ids ≡ parts → t ≡ call f parts → IsLonger t f
longer ts ids t f parts h same is =
    let counts : length parts ≡ length ids = sym (ap length same) ∙ length-map ids (term_from ts) in
    three_and_more t f parts (omega (arith, counts)) is
