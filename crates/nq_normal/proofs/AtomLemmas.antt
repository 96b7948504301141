-- Literals without their outer NOT.
use Rattle.std.proofs.Common.{◌≡◌, ℕ, zero, suc, ◌≤◌, ◌<◌, Bool, true, false, List, [], ◌∷◌, length, refl, sym, ap, ◌∙◌, arith}
use Rattle.std.specs.Prelude.{bytes_eq, codes, Option, Some, None}
use Rattle.std.proofs.lemmas.Slice.Eq.{bytes_eq-Decides}
use Rattle.nq_bank.proofs.Texts.{same_test}
use Rattle.nq_logic.specs.Terms.{Name, Term, Variable, Function, Applied, applied, call}
use Rattle.nq_logic.specs.Words.{numeral}
use Rattle.nq_bank.specs.declared.node.TermId.{TermId}
use Rattle.nq_bank.specs.Content.{Content, term_at, terms_at}
use Rattle.nq_goals.specs.Occurrences.{atom_or, atom_of}
use Rattle.nq_goals.specs.Normal.{is_reflexive}

pub atom_numeral : (n : ℕ) → atom_of (numeral n) ≡ numeral n
unfolding numeral
atom_numeral zero = refl
atom_numeral (suc n) = refl

-- what a NOT denies, by the test of its name
abbrev denied : Bool → Term → Term → Term
denied b whole p = atom_or whole (elim b as (λ b. Option Term) [ true ↦ Some p | false ↦ None ])

pub turned : (f g : Name) (b : Bool) → bytes_eq f g ≡ b → bytes_eq g f ≡ b
turned f g b e = same_test (bytes_eq g f) (bytes_eq f g) (λ h. (bytes_eq-Decides f g).1 (sym ((bytes_eq-Decides g f).0 h))) (λ h. (bytes_eq-Decides g f).1 (sym ((bytes_eq-Decides f g).0 h))) ∙ e

-- the argument of a NOT
pub atom_of_denial : (f : Name) (p : Term) → bytes_eq f (codes "NOT") ≡ true → atom_of (call f (p ∷ [])) ≡ p
atom_of_denial f p e = ap (λ b. denied b (Applied (Function f) p) p) (turned f (codes "NOT") true e)

pub atom_of_other : (f : Name) (p : Term) → bytes_eq f (codes "NOT") ≡ false → atom_of (call f (p ∷ [])) ≡ call f (p ∷ [])
atom_of_other f p e = ap (λ b. denied b (Applied (Function f) p) p) (turned f (codes "NOT") false e)

atom_more : (t u v : Term) (us : List Term) → atom_of (applied (Applied (Applied t u) v) us) ≡ applied (Applied (Applied t u) v) us
atom_more t u v [] = refl
atom_more t u v (w ∷ us) = atom_more (Applied t u) v w us

pub atom_of_many : (bank : Content) (f : Name) (ids : List TermId) → 2 ≤ length ids → atom_of (call f (terms_at bank ids)) ≡ call f (terms_at bank ids)
atom_of_many bank f [] l = absurd (omega (arith, l))
atom_of_many bank f (i ∷ []) l = absurd (omega (arith, l))
atom_of_many bank f (i ∷ j ∷ ids) l = atom_more (Function f) (term_at bank i) (term_at bank j) (terms_at bank ids)

pub atom_of_one : (bank : Content) (f : Name) (ids : List TermId) → 1 ≤ length ids → length ids < 2 → bytes_eq f (codes "NOT") ≡ false → atom_of (call f (terms_at bank ids)) ≡ call f (terms_at bank ids)
atom_of_one bank f [] l m e = absurd (omega (arith, l))
atom_of_one bank f (i ∷ []) l m e = atom_of_other f (term_at bank i) e
atom_of_one bank f (i ∷ j ∷ ids) l m e = absurd (omega (arith, m))

-- what is its own atom
pub same_atom : (t u : Term) → t ≡ u → atom_of u ≡ u → t ≡ atom_of t
same_atom t u e a = e ∙ (sym a ∙ sym (ap atom_of e))

reflexive_more : (t u v w : Term) (us : List Term) → is_reflexive (applied (Applied (Applied (Applied t u) v) w) us) ≡ false
reflexive_more (Variable x) u v w [] = refl
reflexive_more (Function f) u v w [] = refl
reflexive_more (Applied t s) u v w [] = refl
reflexive_more t u v w (s ∷ us) = reflexive_more (Applied t u) v w s us

pub reflexive_one : (bank : Content) (f : Name) (ids : List TermId) → 1 ≤ length ids → length ids < 2 → is_reflexive (call f (terms_at bank ids)) ≡ false
reflexive_one bank f [] l m = absurd (omega (arith, l))
reflexive_one bank f (i ∷ []) l m = refl
reflexive_one bank f (i ∷ j ∷ ids) l m = absurd (omega (arith, m))

pub reflexive_many : (bank : Content) (f : Name) (ids : List TermId) → 3 ≤ length ids → is_reflexive (call f (terms_at bank ids)) ≡ false
reflexive_many bank f [] l = absurd (omega (arith, l))
reflexive_many bank f (i ∷ []) l = absurd (omega (arith, l))
reflexive_many bank f (i ∷ j ∷ []) l = absurd (omega (arith, l))
reflexive_many bank f (i ∷ j ∷ k ∷ ids) l = reflexive_more (Function f) (term_at bank i) (term_at bank j) (term_at bank k) (terms_at bank ids)

pub reflexive_numeral : (n : ℕ) → is_reflexive (numeral n) ≡ false
unfolding numeral
reflexive_numeral zero = refl
reflexive_numeral (suc n) = refl
