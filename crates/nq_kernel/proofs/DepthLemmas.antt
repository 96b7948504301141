-- No clause over a bank has a term that is too deep.
use Rattle.std.proofs.Common.{◌≡◌, ◌≤◌, Option, Some, List, [], ◌∷◌, sym, subst, ◌∙◌, inl, inr, arith}
use Rattle.std.specs.Prelude.{All}
use Rattle.nq_logic.specs.Terms.{Term, Function, IsAmong}
use Rattle.nq_logic.specs.Sizes.{depth_of, depth_limit}
use Rattle.nq_bank.specs.declared.node.TermId.{TermId}
use Rattle.nq_bank.specs.Content.{Content, Stands, terms_at}
use Rattle.nq_bank.specs.Soundness.{IsSound}
use Rattle.nq_bank.proofs.NodesLemmas.{All-head, All-tail}
use Rattle.nq_proof.specs.Clauses.{Clause}
use Rattle.nq_rule.specs.Conclusions.{Concludes, IsDeep}

shallow_among : (bank : Content) (ids : List TermId) (t : Term) → IsSound bank → All (Stands bank) ids → IsAmong t (terms_at bank ids) → depth_of t ≤ depth_limit
shallow_among bank [] t sound stand h = absurd h
shallow_among bank (id ∷ ids) t sound stand (inl h) = subst (λ u. depth_of u ≤ depth_limit) (sym h) (sound.shallow id.0 (Function []) (All-head (Stands bank) id ids stand))
shallow_among bank (id ∷ ids) t sound stand (inr h) = shallow_among bank ids t sound (All-tail (Stands bank) id ids stand) h

-- what was concluded is not too deep
pub concluded_shallow : (bank : Content) (ids : List TermId) (o : Option Clause) → IsSound bank → Concludes bank ids o → IsDeep o → ⊥
concluded_shallow bank ids o sound concludes deep =
    let same : deep.terms ≡ terms_at bank ids = by_some deep.terms (terms_at bank ids) (sym deep.concluded ∙ concludes.concluded) in
    let least = shallow_among bank ids deep.deep.term sound concludes.stand (subst (IsAmong deep.deep.term) same deep.deep.among) in
    let most = deep.deep.deep in
    absurd (omega (arith, least, most))
  where
    by_some : (a b : Clause) → Some a ≡ Some b → a ≡ b
    by_some a b e = cc
