-- Terms joined by a connective.
use Rattle.std.proofs.Common.{◌≡◌, ℕ, Bool, true, false, Option, Some, None, List, refl, ap, ◌∙◌}
use Rattle.std.specs.Prelude.{codes, bytes_eq, if◌then◌else◌}
use Rattle.nq_logic.specs.Terms.{Term, Function, Applied}
use Rattle.nq_logic.specs.Words.{and_term, or_term, implies_term, iff_term}
use Rattle.nq_bank.proofs.Texts.{bytes_eq-true}
use Rattle.nq_fragments.specs.declared.connective.Connective.{Connective}
use Rattle.nq_fragments.specs.declared.connective.Connective.TheVariants.{And, Or, Implies, Iff}
use Rattle.nq_fragments.specs.Propositions.{connective_of}

-- two terms joined
abbrev pub joined_term : Connective → Term → Term → Term
joined_term And p q = and_term p q
joined_term Or p q = or_term p q
joined_term Implies p q = implies_term p q
joined_term Iff p q = iff_term p q

-- the name of a connective makes the joined term
pub named_term : (f : List ℕ) (c : Connective) (p q : Term) → connective_of f ≡ Some c → Applied (Applied (Function f) p) q ≡ joined_term c p q
named_term f c p q e = by_and (bytes_eq f (codes "AND")) refl (bytes_eq f (codes "OR")) refl (bytes_eq f (codes "IMPLIES")) refl (bytes_eq f (codes "IFF")) refl e
  where
    F : List ℕ → Term
    F g = Applied (Applied (Function g) p) q

    found : Bool → Bool → Bool → Bool → Option Connective
    found a b d g = if a then Some And else if b then Some Or else if d then Some Implies else if g then Some Iff else None

    chosen_one : (d : Connective) → Some d ≡ Some c → (g : List ℕ) → f ≡ g → Applied (Applied (Function g) p) q ≡ joined_term d p q → Applied (Applied (Function f) p) q ≡ joined_term c p q
    chosen_one d h g same right = let one : d ≡ c = cc in ap (λ g. Applied (Applied (Function g) p) q) same ∙ right ∙ ap (λ k. joined_term k p q) one

    by_and : (a : Bool) → bytes_eq f (codes "AND") ≡ a → (b : Bool) → bytes_eq f (codes "OR") ≡ b → (d : Bool) → bytes_eq f (codes "IMPLIES") ≡ d → (g : Bool) → bytes_eq f (codes "IFF") ≡ g → (if a then Some And else if b then Some Or else if d then Some Implies else if g then Some Iff else None) ≡ Some c → Applied (Applied (Function f) p) q ≡ joined_term c p q
    by_and true i b j d k g l h = chosen_one And h (codes "AND") (bytes_eq-true f (codes "AND") i) refl
    by_and false i true j d k g l h = chosen_one Or h (codes "OR") (bytes_eq-true f (codes "OR") j) refl
    by_and false i false j true k g l h = chosen_one Implies h (codes "IMPLIES") (bytes_eq-true f (codes "IMPLIES") k) refl
    by_and false i false j false k true l h = chosen_one Iff h (codes "IFF") (bytes_eq-true f (codes "IFF") l) refl
    by_and false i false j false k false l h = absurd cc
