-- Calls on distinct variables, from the last argument to the first.
use Rattle.std.proofs.Common.{◌≡◌, ℕ, zero, suc, ◌+◌, ◌-◌, ◌<◌, ◌≤◌, Bool, true, false, ◌&&◌, ◌||◌, List, [], ◌∷◌, ◌++◌, length, get_or, take, drop, refl, sym, ap, ◌∙◌, subst, arith}
use Rattle.std.specs.Prelude.{codes, not, bytes_eq}
use Rattle.std.proofs.lemmas.List.{at_drop_more, take_rest, take_all, drop_all}
use Rattle.nq_rule.proofs.ClauseLemmas.{terms_at-take}
use Rattle.nq_logic.specs.Terms.{Name, Term, Variable, Function, Applied, applied, call}
use Rattle.nq_logic.specs.Words.{numeral}
use Rattle.nq_logic.specs.Names.{has_name}
use Rattle.nq_logic.specs.RuleShapes.{has_distinct_variables}
use Rattle.nq_logic.specs.Histories.{History}
use Rattle.nq_bank.specs.declared.node.TermId.{TermId}
use Rattle.nq_bank.specs.Parts.{parts_of}
use Rattle.nq_bank.specs.Content.{Content, term_at, terms_at}
use Rattle.nq_proof.specs.Clauses.{has_term}
use Rattle.nq_goals.specs.Recursion.{is_recursive, calls_recursive, is_recursive_call}
use Rattle.nq_moves.specs.Dropped.{names_of, is_other_variable}

pub other-numeral : (n : ℕ) (seen : List Term) → false ≡ is_other_variable (numeral n) seen
unfolding numeral
other-numeral zero seen = refl
other-numeral (suc n) seen = refl

-- a name is among those of the variables where the variable is among the terms
has_name-names : (x : Name) (ts : List Term) → has_name x (names_of ts) ≡ has_term (Variable x) ts
has_name-names x [] = refl
has_name-names x (Variable y ∷ ts) = ap (λ b. bytes_eq x y || b) (has_name-names x ts)
has_name-names x (Function f ∷ ts) = has_name-names x ts
has_name-names x (Applied t u ∷ ts) = has_name-names x ts

applied-push : (t : Term) (us : List Term) (u : Term) → applied t (us ++ u ∷ []) ≡ Applied (applied t us) u
applied-push t [] u = refl
applied-push t (v ∷ us) u = applied-push (Applied t v) us u

-- the last argument of a call is looked at first
last_first : (f : Name) (us : List Term) (u : Term) (seen : List Term) → has_distinct_variables (names_of seen) (Applied (call f us) u) ≡ (is_other_variable u seen && has_distinct_variables (names_of (u ∷ seen)) (call f us))
last_first f us (Variable x) seen = ap (λ b. not b && has_distinct_variables (x ∷ names_of seen) (call f us)) (has_name-names x seen)
last_first f us (Function g) seen = refl
last_first f us (Applied v w) seen = refl

pub last_of_call : (f : Name) (us : List Term) (u : Term) (seen : List Term) → has_distinct_variables (names_of seen) (call f (us ++ u ∷ [])) ≡ (is_other_variable u seen && has_distinct_variables (names_of (u ∷ seen)) (call f us))
last_of_call f us u seen = ap (has_distinct_variables (names_of seen)) (applied-push (Function f) us u) ∙ last_first f us u seen

-- the name of a call's function does not matter
same_distinct : (seen : List Name) (t u : Term) (us : List Term) → ((more : List Name) → has_distinct_variables more t ≡ has_distinct_variables more u) → has_distinct_variables seen (applied t us) ≡ has_distinct_variables seen (applied u us)
same_distinct seen t u [] same = same seen
same_distinct seen t u (Variable x ∷ us) same = same_distinct seen (Applied t (Variable x)) (Applied u (Variable x)) us (λ more. ap (λ b. not (has_name x more) && b) (same (x ∷ more)))
same_distinct seen t u (Function f ∷ us) same = same_distinct seen (Applied t (Function f)) (Applied u (Function f)) us (λ more. refl)
same_distinct seen t u (Applied v w ∷ us) same = same_distinct seen (Applied t (Applied v w)) (Applied u (Applied v w)) us (λ more. refl)

pub any_function : (f g : Name) (ts : List Term) → has_distinct_variables [] (call f ts) ≡ has_distinct_variables [] (call g ts)
any_function f g ts = same_distinct [] (Function f) (Function g) ts (λ more. refl)

calls-applied : (h : History) (t : Term) (us : List Term) → calls_recursive h (applied t us) ≡ calls_recursive h t
calls-applied h t [] = refl
calls-applied h t (u ∷ us) = calls-applied h (Applied t u) us

pub calls-call : (h : History) (f : Name) (ts : List Term) → calls_recursive h (call f ts) ≡ is_recursive h f
calls-call h f ts = calls-applied h (Function f) ts

-- a numeral above 0 calls ADD1
pub calls-numeral : (h : History) (n : ℕ) → 1 ≤ n → false ≡ is_recursive_call h (numeral n)
unfolding numeral
calls-numeral h zero least = absurd (omega arith)
calls-numeral h (suc n) least = refl

pub calls-zero : (h : History) → is_recursive_call h (numeral 0) ≡ is_recursive h (codes "ZERO")
unfolding numeral
calls-zero h = by_test (is_recursive h (codes "ZERO"))
  where
    by_test : (b : Bool) → (b && true) ≡ b
    by_test true = refl
    by_test false = refl

-- one argument more, for which the later ones are seen
step_at : (bank : Content) (ids : List TermId) (i : ℕ) (d : TermId) → i < length ids → has_distinct_variables (names_of (terms_at bank (drop (i + 1) ids))) (call [] (terms_at bank (take (i + 1) ids))) ≡ (is_other_variable (term_at bank (get_or ids i d)) (terms_at bank (drop (i + 1) ids)) && has_distinct_variables (names_of (terms_at bank (drop i ids))) (call [] (terms_at bank (take i ids))))
step_at bank ids i d below =
    let u : Term = term_at bank (get_or ids i d) in
    let seen : List Term = terms_at bank (drop (i + 1) ids) in
    ap (λ ts. has_distinct_variables (names_of seen) (call [] ts)) (terms_at-take bank ids i d below) ∙ last_of_call [] (terms_at bank (take i ids)) u seen ∙
    ap (λ b. is_other_variable u seen && b) (sym (at_drop_more (λ xs. has_distinct_variables (names_of (terms_at bank xs)) (call [] (terms_at bank (take i ids)))) ids i d below))

pub distinct_step : (bank : Content) (ids : List TermId) (k : ℕ) (d : TermId) → (k ≡ 0 → ⊥) → k ≤ length ids → has_distinct_variables (names_of (terms_at bank (drop k ids))) (call [] (terms_at bank (take k ids))) ≡ (is_other_variable (term_at bank (get_or ids (k - 1) d)) (terms_at bank (take (length ids - k) (drop k ids))) && has_distinct_variables (names_of (terms_at bank (drop (k - 1) ids))) (call [] (terms_at bank (take (k - 1) ids))))
distinct_step bank ids k d some within =
    let u : Term = term_at bank (get_or ids (k - 1) d) in
    let rest : Bool = has_distinct_variables (names_of (terms_at bank (drop (k - 1) ids))) (call [] (terms_at bank (take (k - 1) ids))) in
    let e : (k - 1) + 1 ≡ k = omega (arith, some) in
    subst (λ n. has_distinct_variables (names_of (terms_at bank (drop n ids))) (call [] (terms_at bank (take n ids))) ≡ (is_other_variable u (terms_at bank (drop n ids)) && rest)) e (step_at bank ids (k - 1) d (omega (arith, some, within))) ∙
    ap (λ xs. is_other_variable u (terms_at bank xs) && rest) (sym (take_rest ids k))

pub both : (a b : Bool) → a ≡ true → b ≡ (a && b)
both a b e = sym (ap (λ x. x && b) e)

pub neither : (a b : Bool) → a ≡ false → a ≡ (a && b)
neither a b e = e ∙ sym (ap (λ x. x && b) e)

-- all arguments
pub all_distinct : (bank : Content) (h : History) (term : Term) (f : Name) (ids : List TermId) → term ≡ call f (parts_of term) → terms_at bank ids ≡ parts_of term → has_distinct_variables (names_of (terms_at bank (drop (length ids) ids))) (call [] (terms_at bank (take (length ids) ids))) ≡ has_distinct_variables [] term
all_distinct bank h term f ids is tells =
    ap (λ xs. has_distinct_variables (names_of (terms_at bank xs)) (call [] (terms_at bank (take (length ids) ids)))) (drop_all (length ids) ids (omega arith)) ∙
    ap (λ xs. has_distinct_variables [] (call [] (terms_at bank xs))) (take_all (length ids) ids (omega arith)) ∙ any_function [] f (terms_at bank ids) ∙ ap (λ ts. has_distinct_variables [] (call f ts)) tells ∙ ap (has_distinct_variables []) (sym is)

pub calls_term : (h : History) (term : Term) (f : Name) → term ≡ call f (parts_of term) → calls_recursive h term ≡ is_recursive h f
calls_term h term f is = ap (calls_recursive h) is ∙ calls-call h f (parts_of term)
