-- Variables in common, argument by argument.
use Rattle.std.proofs.Common.{◌≡◌, ℕ, zero, suc, ◌+◌, ◌<◌, Bool, false, ◌||◌, List, [], ◌∷◌, length, get_or, take, refl, sym, ap, ◌∙◌}
use Rattle.nq_logic.specs.Terms.{Term, Variable, Function}
use Rattle.nq_logic.specs.Words.{numeral}
use Rattle.nq_bank.specs.declared.node.TermId.{TermId}
use Rattle.nq_bank.specs.Parts.{occurs}
use Rattle.nq_bank.specs.Content.{term_from, terms_from}
use Rattle.nq_goals.specs.Dropping.{shares, is_tied}
use Rattle.nq_moves.proofs.AnswerLemmas.{Spreads, any, any_listed}

pub shares-Variable : (x : List ℕ) (u : Term) → shares (Variable x) u ≡ occurs x u
unfolding shares
shares-Variable x u = refl

pub shares-Function : (f : List ℕ) (u : Term) → false ≡ shares (Function f) u
unfolding shares
shares-Function f u = refl

pub shares-numeral : (u : Term) (n : ℕ) → shares (numeral n) u ≡ false
unfolding shares numeral
shares-numeral u zero = refl
shares-numeral u (suc n) = shares-numeral u n

pub shares_spreads : (u : Term) → Spreads (λ x. shares x u)
unfolding shares
shares_spreads u t s = refl

-- the literals that are tied are those with a variable in common
is_tied-any : (c : List Term) (t : Term) → is_tied c t ≡ any (λ u. shares u t) c
is_tied-any [] t = refl
is_tied-any (u ∷ c) t = ap (λ b. shares u t || b) (is_tied-any c t)

pub is_tied-more : (t : Term) (ts : List Term) (ids : List TermId) (i : ℕ) (d : TermId) (before here found : Bool) → i < length ids → before ≡ is_tied (terms_from ts (take i ids)) t → here ≡ shares (term_from ts (get_or ids i d)) t → found ≡ (before || here) → found ≡ is_tied (terms_from ts (take (i + 1) ids)) t
is_tied-more t ts ids i d before here found below was is told =
    any_listed (λ u. shares u t) ts ids i d before here found below (was ∙ is_tied-any (terms_from ts (take i ids)) t) is told ∙ sym (is_tied-any (terms_from ts (take (i + 1) ids)) t)
