-- What is refused in an abbreviation, in its shape and then in its parts, and its term in a scope.
use Rattle.std.specs.Prelude.{◌≡◌, ℕ, ◌<◌, ◌⊎◌, Option, None, [], ◌∷◌}
use Rattle.nq_logic.specs.Terms.{Name, Term, Substitution}
use Rattle.nq_logic.specs.Words.{equal_term}
use Rattle.nq_logic.specs.Sizes.{depth_of, depth_limit}
use Rattle.nq_form.specs.Form.{Form, Forms, listed, end, next}
use Rattle.nq_language.specs.Abbreviations.{Word, Listing, Conditional, Choice, Binding, Quotation, Nesting, Path, Outside, Plain}
use Rattle.nq_language.specs.Objects.{nil_term, value}
use Rattle.nq_language.specs.Translation.{quoted_term}
use Rattle.nq_language.specs.Refusals.{Met, first, own_met, unless, bad, are_clauses, parts_met, clauses_met, choice_met, keyed_met, binding_met}
use Rattle.nq_language.specs.Scopes.{translated_in, all_translated_in, conditional_term_in, choice_term_in, binding_term_in}
use Rattle.nq_abbrev.specs.Nests.{applied_term}
use Rattle.std.specs.Prelude.{codes}

abbrev pub parts_refused : (Name → Option ℕ) → Word → Name → Forms → Met
parts_refused arity w f fs = first (own_met w (arity f) f fs) (parts_met arity w fs)

abbrev pub conditional_met : (Name → Option ℕ) → Forms → Met
conditional_met arity fs = first (own_met Conditional None [] fs) (clauses_met arity fs)

abbrev pub chosen_met : (Name → Option ℕ) → Forms → Met
chosen_met arity fs = first (own_met Choice None [] fs) (choice_met arity fs)

abbrev pub keyed_refused : (Name → Option ℕ) → Forms → Met
keyed_refused arity fs = first (unless (are_clauses (codes "OTHERWISE") fs) (bad "CASE")) (keyed_met arity fs)

abbrev pub let_met : (Name → Option ℕ) → Forms → Met
let_met arity fs = first (own_met Binding None [] fs) (binding_met arity fs)

-- the term of a call, by the meaning of its name
abbrev pub called_term_in : (Name → Option ℕ) → Substitution → Word → Name → Forms → Term
called_term_in arity s Listing f fs = applied_term Listing f (all_translated_in arity s fs)
called_term_in arity s Conditional f fs = conditional_term_in arity s fs
called_term_in arity s Choice f fs = choice_term_in arity s fs
called_term_in arity s Binding f fs = binding_term_in arity s fs
called_term_in arity s Quotation f fs = quoted_term fs
called_term_in arity s Nesting f fs = applied_term Nesting f (all_translated_in arity s fs)
called_term_in arity s (Path letters) f fs = applied_term (Path letters) f (all_translated_in arity s fs)
called_term_in arity s Outside f fs = nil_term
called_term_in arity s Plain f fs = applied_term Plain f (all_translated_in arity s fs)

abbrev pub test_term_in : (Name → Option ℕ) → Substitution → Form → Term
test_term_in arity s (listed (next t (next v end))) = translated_in arity s t
test_term_in arity s _ = nil_term

abbrev pub value_term_in : (Name → Option ℕ) → Substitution → Form → Term
value_term_in arity s (listed (next t (next v end))) = translated_in arity s v
value_term_in arity s _ = nil_term

-- that a term is the key of a clause
abbrev pub key_term : Term → Form → Term
key_term x (listed (next k (next v end))) = equal_term x (value k)
key_term x _ = nil_term

-- the same term, or two that are too deep
abbrev pub IsSameOrDeep : Term → Term → Type 0
IsSameOrDeep t u = (t ≡ u) ⊎ ((depth_limit < depth_of t) × (depth_limit < depth_of u))

-- the same variables, with terms that are the same or both too deep
abbrev pub IsLike : Substitution → Substitution → Type 0
IsLike [] [] = Unit {0}
IsLike (p ∷ ps) (q ∷ qs) = (p.0 ≡ q.0) × IsSameOrDeep p.1 q.1 × IsLike ps qs
IsLike _ _ = ⊥
