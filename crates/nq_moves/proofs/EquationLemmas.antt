-- Equations of calls and numerals.
use Rattle.std.proofs.Common.{◌≡◌, ℕ, zero, suc, None, List, [], ◌∷◌, ◌++◌, length, get_or, drop, ◌+◌, ◌≤◌, ◌<◌, inl, inr, refl, sym, arith}
use Rattle.std.proofs.lemmas.List.{at_drop_more}
use Rattle.nq_logic.specs.Terms.{Term, Function, Applied, applied, call, IsAmong}
use Rattle.nq_logic.specs.Words.{numeral}
use Rattle.nq_bank.specs.declared.node.TermId.{TermId}
use Rattle.nq_bank.specs.Content.{Content, term_at, terms_at}
use Rattle.nq_goals.specs.Equations.{equation_of, readings}
use Rattle.nq_goals.specs.Substituting.{from_sides, from_readings, from_literals}

pub equation_of-numeral : (n : ℕ) → equation_of (numeral n) ≡ None
unfolding numeral
equation_of-numeral zero = refl
equation_of-numeral (suc n) = refl

pub from_sides-numeral : (l : Term) (n : ℕ) (t : Term) → from_sides l (numeral n) t ≡ []
unfolding numeral
from_sides-numeral l zero t = refl
from_sides-numeral l (suc n) t = refl

-- a call of another number of arguments is no equation
equation_of-more : (f t u v : Term) (ts : List Term) → equation_of (applied (Applied (Applied (Applied f t) u) v) ts) ≡ None
equation_of-more f t u v [] = refl
equation_of-more f t u v (w ∷ ts) = equation_of-more (Applied f t) u v w ts

pub few_sides : (bank : Content) (f : List ℕ) (ids : List TermId) → length ids < 2 → None ≡ equation_of (call f (terms_at bank ids))
few_sides bank f [] below = refl
few_sides bank f (t ∷ []) below = refl
few_sides bank f (t ∷ (u ∷ ids)) below = absurd (omega arith)

pub many_sides : (bank : Content) (f : List ℕ) (ids : List TermId) → 3 ≤ length ids → None ≡ equation_of (call f (terms_at bank ids))
many_sides bank f [] least = absurd (omega arith)
many_sides bank f (t ∷ []) least = absurd (omega arith)
many_sides bank f (t ∷ (u ∷ [])) least = absurd (omega arith)
many_sides bank f (t ∷ (u ∷ (v ∷ ids))) least = sym (equation_of-more (Function f) (term_at bank t) (term_at bank u) (term_at bank v) (terms_at bank ids))

pub both_items : (ids : List TermId) (d : TermId) → 2 ≤ length ids → length ids < 3 → get_or ids 0 d ∷ get_or ids 1 d ∷ [] ≡ ids
both_items [] d least below = absurd (omega arith)
both_items (t ∷ []) d least below = absurd (omega arith)
both_items (t ∷ (u ∷ [])) d least below = refl
both_items (t ∷ (u ∷ (v ∷ ids))) d least below = absurd (omega arith)

pub among_first : {X : Type 0} (x : X) (xs ys : List X) → IsAmong x xs → IsAmong x (xs ++ ys)
among_first x [] ys m = absurd m
among_first x (y ∷ xs) ys (inl e) = inl e
among_first x (y ∷ xs) ys (inr m) = inr (among_first x xs ys m)

-- no candidate in the literals so far
pub literals_more : (bank : Content) (goal : List TermId) (i : ℕ) (d : TermId) → i < length goal → from_literals (terms_at bank (drop i goal)) ≡ from_readings (term_at bank (get_or goal i d)) (readings (term_at bank (get_or goal i d))) ++ from_literals (terms_at bank (drop (i + 1) goal))
literals_more bank goal i d h = at_drop_more (λ ids. from_literals (terms_at bank ids)) goal i d h
