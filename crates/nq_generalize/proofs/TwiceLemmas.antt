-- Literals in which a term stands, one by one.
use Rattle.std.proofs.Common.{◌≡◌, ◌<◌, ◌≤◌, ◌+◌, ℕ, zero, suc, Bool, true, false, ◌||◌, List, [], ◌∷◌, ◌++◌, length, take, get_or, refl, sym, ap, ◌∙◌, arith}
use Rattle.std.specs.Prelude.{if◌then◌else◌}
use Rattle.std.proofs.lemmas.List.{take_all}
use Rattle.nq_logic.specs.Terms.{Term}
use Rattle.nq_bank.specs.declared.node.TermId.{TermId}
use Rattle.nq_bank.specs.Content.{Content, term_at, terms_at}
use Rattle.nq_bank.proofs.ArgumentLemmas.{terms_from-take}
use Rattle.nq_proof.specs.Clauses.{Clause}
use Rattle.nq_goals.specs.Generalizing.{literals_with, is_on_both_sides, is_on_both_sides_of_one}
use Rattle.nq_goals.specs.Occurrences.{atom_of}
use Rattle.nq_goals.specs.Replacing.{stands_in}

abbrev one_more : Bool → ℕ → ℕ
one_more here n = if here then suc n else n

with-push : (a t : Term) (c : Clause) → literals_with a (c ++ t ∷ []) ≡ one_more (stands_in a t) (literals_with a c)
with-push a t [] = refl
with-push a t (u ∷ c) = ap (one_more (stands_in a u)) (with-push a t c) ∙ by_tests (stands_in a u) (stands_in a t)
  where
    by_tests : (x y : Bool) → one_more x (one_more y (literals_with a c)) ≡ one_more y (one_more x (literals_with a c))
    by_tests true true = refl
    by_tests true false = refl
    by_tests false true = refl
    by_tests false false = refl

-- one more literal
pub with-more : (bank : Content) (a : Term) (goal : List TermId) (i : ℕ) (d : TermId) (before now : ℕ) (here : Bool) → i < length goal → before ≡ literals_with a (terms_at bank (take i goal)) → here ≡ stands_in a (term_at bank (get_or goal i d)) → now ≡ one_more here before →
    now ≡ literals_with a (terms_at bank (take (i + 1) goal))
with-more bank a goal i d before now here below was is told =
    told
    ∙ (ap (one_more here) was
    ∙ (ap (λ b. one_more b (literals_with a (terms_at bank (take i goal)))) is
    ∙ sym (ap (literals_with a) (terms_from-take bank.terms goal i d below) ∙ with-push a (term_at bank (get_or goal i d)) (terms_at bank (take i goal)))))

pub no_more_than : (before now i : ℕ) (here : Bool) → before ≤ i → now ≡ one_more here before → now ≤ i + 1
no_more_than before now i true most told = omega (arith, most, told)
no_more_than before now i false most told = omega (arith, most, told)

or_false : (b : Bool) → (b || false) ≡ b
or_false true = refl
or_false false = refl

or_assoc : (a b d : Bool) → ((a || b) || d) ≡ (a || (b || d))
or_assoc true b d = refl
or_assoc false b d = refl

balanced-push : (a t : Term) (c : Clause) → is_on_both_sides_of_one a (c ++ t ∷ []) ≡ (is_on_both_sides_of_one a c || is_on_both_sides a (atom_of t))
balanced-push a t [] = or_false (is_on_both_sides a (atom_of t))
balanced-push a t (u ∷ c) = ap (λ b. is_on_both_sides a (atom_of u) || b) (balanced-push a t c) ∙ sym (or_assoc (is_on_both_sides a (atom_of u)) (is_on_both_sides_of_one a c) (is_on_both_sides a (atom_of t)))

pub balanced-more : (bank : Content) (a : Term) (goal : List TermId) (i : ℕ) (d : TermId) (atom : Term) (before here now : Bool) → i < length goal → before ≡ is_on_both_sides_of_one a (terms_at bank (take i goal)) → atom ≡ atom_of (term_at bank (get_or goal i d)) →
    here ≡ is_on_both_sides a atom → now ≡ (before || here) → now ≡ is_on_both_sides_of_one a (terms_at bank (take (i + 1) goal))
balanced-more bank a goal i d atom before here now below was of is told =
    told
    ∙ (ap (λ b. b || here) was
    ∙ (ap (λ b. is_on_both_sides_of_one a (terms_at bank (take i goal)) || b) (is ∙ ap (is_on_both_sides a) of)
    ∙ sym (ap (is_on_both_sides_of_one a) (terms_from-take bank.terms goal i d below) ∙ balanced-push a (term_at bank (get_or goal i d)) (terms_at bank (take i goal)))))
