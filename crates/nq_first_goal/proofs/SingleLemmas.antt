-- Goals of one literal.
use Rattle.std.proofs.Common.{◌≡◌, ◌≤◌, ◌<◌, List, [], ◌∷◌, length, get_or, refl, arith}
use Rattle.nq_bank.specs.declared.node.TermId.{TermId}
use Rattle.nq_bank.specs.Content.{Content, term_at, terms_at}

-- the only literal
pub one_literal : (bank : Content) (ids : List TermId) (d : TermId) → 1 ≤ length ids → length ids < 2 → terms_at bank ids ≡ term_at bank (get_or ids 0 d) ∷ []
one_literal bank [] d some few = absurd (omega (arith, some))
one_literal bank (x ∷ []) d some few = refl
one_literal bank (x ∷ y ∷ ids) d some few = absurd (omega (arith, few))
