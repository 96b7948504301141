-- Runs of numbers, each with its term.
use Rattle.std.proofs.Common.{◌≡◌, ℕ, ◌<◌, List, [], ◌∷◌, ◌++◌, map, refl, sym, ap, ◌∙◌, append_assoc, append-nil}
use Rattle.std.specs.Prelude.{Option, Some, None}
use Rattle.std.specs.List.{flat_map}
use Rattle.nq_logtext.specs.Reading.{◌>>=◌}
use Rattle.nq_logtext.specs.declared.line.Binding.{Binding}
use Rattle.nq_logtext.specs.Views.{one_number, of_binding}
use Rattle.nq_logic.specs.Terms.{Name, Term, Variable, Function, Applied}
use Rattle.nq_logic.specs.Words.{numeral}
use Rattle.nq_logic.specs.Numerals.{number_of, numeral_limit}
use Rattle.nq_bank.proofs.Numerals.{number_of-numeral}
use Rattle.nq_log.specs.States.{Block, term_at, terms_at, variable_at, variable_of, variables_at}
use Rattle.nq_log.specs.RuleLines.{substitution_at}
use Rattle.nq_log.specs.Fields.{numbers_in, pairs_in}
use Rattle.nq_check.specs.Contexts.{pair_of}
use Rattle.nq_check.specs.Pairs.{bound_at}

-- these and then those
abbrev pub with_front : {X : Type 0} → List X → Option (List X) → Option (List X)
with_front xs None = None
with_front xs (Some ys) = Some (xs ++ ys)

pub no_front : {X : Type 0} (o : Option (List X)) → o ≡ with_front [] o
no_front None = refl
no_front (Some ys) = refl

pub front_only : {X : Type 0} (xs : List X) → with_front xs (Some []) ≡ Some xs
front_only xs = ap Some (append-nil xs)

pub by_rest : {X : Type 0} (xs : List X) (t : X) (o : Option (List X)) → with_front xs (o >>= λ ts. Some (t ∷ ts)) ≡ with_front (xs ++ (t ∷ [])) o
by_rest xs t None = refl
by_rest xs t (Some ts) = ap Some (sym (append_assoc xs (t ∷ []) ts))

pub front_more : (block : Block) (n : ℕ) (ns : List ℕ) (xs : List Term) (t : Term) → term_at block n ≡ Some t → with_front xs (terms_at block (n ∷ ns)) ≡ with_front (xs ++ (t ∷ [])) (terms_at block ns)
front_more block n ns xs t e = ap (λ (o : Option Term). with_front xs (o >>= λ t. terms_at block ns >>= λ ts. Some (t ∷ ts))) e ∙ by_rest xs t (terms_at block ns)

pub front_stops : (block : Block) (n : ℕ) (ns : List ℕ) (xs : List Term) → term_at block n ≡ None → with_front xs (terms_at block (n ∷ ns)) ≡ None
front_stops block n ns xs e = ap (λ (o : Option Term). with_front xs (o >>= λ t. terms_at block ns >>= λ ts. Some (t ∷ ts))) e

-- the same of variables
pub names_more : (block : Block) (n : ℕ) (ns : List ℕ) (xs : List Name) (x : Name) → variable_at block n ≡ Some x → with_front xs (variables_at block (n ∷ ns)) ≡ with_front (xs ++ (x ∷ [])) (variables_at block ns)
names_more block n ns xs x e = ap (λ (o : Option Name). with_front xs (o >>= λ x. variables_at block ns >>= λ xs. Some (x ∷ xs))) e ∙ by_rest xs x (variables_at block ns)

pub numbers_again : (ns : List ℕ) → numbers_in (flat_map one_number ns) ≡ Some ns
numbers_again [] = refl
numbers_again (n ∷ ns) = ap (λ (o : Option (List ℕ)). o >>= λ ns. Some (n ∷ ns)) (numbers_again ns)

-- ---- the same of bindings

pub pairs_again : (bindings : List Binding) → pairs_in (flat_map of_binding bindings) ≡ Some (map pair_of bindings)
pairs_again [] = refl
pairs_again (b ∷ bindings) = ap (λ (o : Option (List (ℕ × ℕ))). o >>= λ pairs. Some (pair_of b ∷ pairs)) (pairs_again bindings)

-- one pair, and then the others
by_variable : (block : Block) (pair : ℕ × ℕ) (rest : Option (List (Name × Term))) (x : Option Name) (t : Option Term) →
    (x >>= λ x. t >>= λ t. rest >>= λ s. Some ((x, t) ∷ s)) ≡ ((x >>= λ x. t >>= λ t. Some (x, t)) >>= λ p. rest >>= λ s. Some (p ∷ s))
by_variable block pair rest None t = refl
by_variable block pair rest (Some x) None = refl
by_variable block pair rest (Some x) (Some t) = refl

pub bound_first : (block : Block) (pair : ℕ × ℕ) (pairs : List (ℕ × ℕ)) → substitution_at block (pair ∷ pairs) ≡ (bound_at block pair >>= λ p. substitution_at block pairs >>= λ s. Some (p ∷ s))
bound_first block pair pairs = by_variable block pair (substitution_at block pairs) (variable_at block pair.0) (term_at block pair.1)

pub pairs_more : (block : Block) (pair : ℕ × ℕ) (pairs : List (ℕ × ℕ)) (xs : List (Name × Term)) (p : Name × Term) → bound_at block pair ≡ Some p →
    with_front xs (substitution_at block (pair ∷ pairs)) ≡ with_front (xs ++ (p ∷ [])) (substitution_at block pairs)
pairs_more block pair pairs xs p e =
    ap (with_front xs) (bound_first block pair pairs) ∙ ap (λ (o : Option (Name × Term)). with_front xs (o >>= λ p. substitution_at block pairs >>= λ s. Some (p ∷ s))) e ∙ by_rest xs p (substitution_at block pairs)

pub pairs_stop : (block : Block) (pair : ℕ × ℕ) (pairs : List (ℕ × ℕ)) (xs : List (Name × Term)) → bound_at block pair ≡ None → with_front xs (substitution_at block (pair ∷ pairs)) ≡ None
pairs_stop block pair pairs xs e =
    ap (with_front xs) (bound_first block pair pairs) ∙ ap (λ (o : Option (Name × Term)). with_front xs (o >>= λ p. substitution_at block pairs >>= λ s. Some (p ∷ s))) e

-- ---- terms that are no variables

variable_is_no_numeral : (x : Name) (n : ℕ) → n < numeral_limit → Variable x ≡ numeral n → ⊥
unfolding number_of
variable_is_no_numeral x n below is =
    let told : number_of (numeral n) ≡ Some n = number_of-numeral n below in
    let same : number_of (Variable x) ≡ Some n = ap number_of is ∙ told in
    absurd cc

pub no_variable_numeral : (t : Term) (n : ℕ) → n < numeral_limit → t ≡ numeral n → variable_of t ≡ None
no_variable_numeral (Variable x) n below is = absurd (variable_is_no_numeral x n below is)
no_variable_numeral (Function f) n below is = refl
no_variable_numeral (Applied t u) n below is = refl
