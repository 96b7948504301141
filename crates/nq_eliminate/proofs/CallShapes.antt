-- Calls that are one have one function and the same arguments, and flat calls have variables.
use Rattle.std.proofs.Common.{◌≡◌, Bool, true, false, ◌&&◌, List, [], ◌∷◌, ◌++◌, map, refl, sym, ap, ◌∙◌, subst, inl, inr}
use Rattle.std.specs.Prelude.{not}
use Rattle.nq_logic.specs.Terms.{Name, Term, Variable, Function, Applied, IsAmong, Substitution, applied, call, substituted, value_at}
use Rattle.nq_logic.specs.Names.{has_name}
use Rattle.nq_logic.specs.RuleShapes.{has_distinct_variables, variables_of}
use Rattle.nq_clause.proofs.SubstitutionLemmas.{substituted-call}
use Rattle.nq_stuck.specs.Destructors.{is_variable}
use Rattle.nq_eliminate.specs.Serving.{are_variables, is_flat}
use Rattle.nq_eliminate.proofs.CandidateLemmas.{both_true}
use Rattle.nq_eliminate.proofs.Names.{among_first, among_second}

head_of : Term → Name
head_of (Variable x) = []
head_of (Function f) = f
head_of (Applied t u) = head_of t

arguments_of : Term → List Term
arguments_of (Variable x) = []
arguments_of (Function f) = []
arguments_of (Applied t u) = arguments_of t ++ (u ∷ [])

is_variable_call : Term → Bool
is_variable_call (Variable x) = true
is_variable_call (Function f) = false
is_variable_call (Applied t u) = is_variable_call t

head_applied : (t : Term) (us : List Term) → head_of (applied t us) ≡ head_of t
unfolding head_of
head_applied t [] = refl
head_applied t (u ∷ us) = head_applied (Applied t u) us

assoc : (ts us vs : List Term) → (ts ++ us) ++ vs ≡ ts ++ (us ++ vs)
assoc [] us vs = refl
assoc (t ∷ ts) us vs = ap (λ r. t ∷ r) (assoc ts us vs)

append_none : (ts : List Term) → ts ++ [] ≡ ts
append_none [] = refl
append_none (t ∷ ts) = ap (λ r. t ∷ r) (append_none ts)

arguments_applied : (t : Term) (us : List Term) → arguments_of (applied t us) ≡ arguments_of t ++ us
unfolding arguments_of
arguments_applied t [] = sym (append_none (arguments_of t))
arguments_applied t (u ∷ us) = arguments_applied (Applied t u) us ∙ assoc (arguments_of t) (u ∷ []) us

pub same_names : (f g : Name) (ts us : List Term) → call f ts ≡ call g us → f ≡ g
unfolding head_of
same_names f g ts us e = sym (head_applied (Function f) ts) ∙ (ap head_of e ∙ head_applied (Function g) us)

pub same_arguments : (f g : Name) (ts us : List Term) → call f ts ≡ call g us → ts ≡ us
unfolding arguments_of
same_arguments f g ts us e = sym (arguments_applied (Function f) ts) ∙ (ap arguments_of e ∙ arguments_applied (Function g) us)

variable_applied : (t : Term) (us : List Term) → is_variable_call (applied t us) ≡ is_variable_call t
unfolding is_variable_call
variable_applied t [] = refl
variable_applied t (u ∷ us) = variable_applied (Applied t u) us

pub call_no_variable : (f x : Name) (ts : List Term) → call f ts ≡ Variable x → ⊥
unfolding is_variable_call
call_no_variable f x ts e = let same : false ≡ true = sym (variable_applied (Function f) ts) ∙ ap is_variable_call e in absurd (cc)

-- what a substitution makes of calls
pub made_names : (s : Substitution) (f g : Name) (ts us : List Term) → substituted s (call f ts) ≡ substituted s (call g us) → f ≡ g
made_names s f g ts us e = same_names f g (map (substituted s) ts) (map (substituted s) us) (sym (substituted-call s f ts) ∙ (e ∙ substituted-call s g us))

pub made_arguments : (s : Substitution) (f g : Name) (ts us : List Term) → substituted s (call f ts) ≡ substituted s (call g us) → map (substituted s) ts ≡ map (substituted s) us
made_arguments s f g ts us e = same_arguments f g (map (substituted s) ts) (map (substituted s) us) (sym (substituted-call s f ts) ∙ (e ∙ substituted-call s g us))

-- ---- variables

pub both : (a b : Bool) → a ≡ true → b ≡ true → (a && b) ≡ true
both true b e k = k
both false b e k = absurd (cc)

pub flat : (seen : List Name) (d : Term) → has_distinct_variables seen d ≡ true → is_flat d ≡ true
flat seen (Variable x) e = absurd (cc)
flat seen (Function f) e = refl
flat seen (Applied t (Variable x)) e = flat (x ∷ seen) t (both_true (not (has_name x seen)) (has_distinct_variables (x ∷ seen) t) e).1
flat seen (Applied t (Function g)) e = absurd (cc)
flat seen (Applied t (Applied u v)) e = absurd (cc)

pub flat_applied : (t : Term) (us : List Term) → is_flat (applied t us) ≡ true → (is_flat t ≡ true) × (are_variables us ≡ true)
flat_applied t [] e = (e, refl)
flat_applied t (u ∷ us) e =
    let rest = flat_applied (Applied t u) us e in
    let here = both_true (is_variable u) (is_flat t) rest.0 in
    (here.1, both (is_variable u) (are_variables us) here.0 rest.1)

pub put_variable : (s : Substitution) → ((x : Name) → is_variable (value_at s x) ≡ true) → (t : Term) → is_variable t ≡ true → is_variable (substituted s t) ≡ true
put_variable s each (Variable x) e = each x
put_variable s each (Function f) e = absurd (cc)
put_variable s each (Applied t u) e = absurd (cc)

pub put_variables : (s : Substitution) → ((x : Name) → is_variable (value_at s x) ≡ true) → (ts : List Term) → are_variables ts ≡ true → are_variables (map (substituted s) ts) ≡ true
put_variables s each [] e = refl
put_variables s each (t ∷ ts) e =
    let parts = both_true (is_variable t) (are_variables ts) e in
    both (is_variable (substituted s t)) (are_variables (map (substituted s) ts)) (put_variable s each t parts.0) (put_variables s each ts parts.1)

-- a variable among the arguments is one of the call
variables_applied : (x : Name) (t : Term) (us : List Term) → IsAmong x (variables_of t) → IsAmong x (variables_of (applied t us))
variables_applied x t [] m = m
variables_applied x t (u ∷ us) m = variables_applied x (Applied t u) us (among_first x (variables_of t) (variables_of u) m)

pub variable_among : (x : Name) (t : Term) (us : List Term) → IsAmong (Variable x) us → IsAmong x (variables_of (applied t us))
variable_among x t [] m = absurd m
variable_among x t (u ∷ us) (inl is) = variables_applied x (Applied t u) us (among_second x (variables_of t) (variables_of u) (subst (λ v. IsAmong x (variables_of v)) is (inl refl)))
variable_among x t (u ∷ us) (inr m) = variable_among x (Applied t u) us m

pub among_variables : (t : Term) (us : List Term) → are_variables us ≡ true → IsAmong t us → is_variable t ≡ true
among_variables t [] e m = absurd m
among_variables t (u ∷ us) e (inl is) = ap is_variable is ∙ (both_true (is_variable u) (are_variables us) e).0
among_variables t (u ∷ us) e (inr m) = among_variables t us (both_true (is_variable u) (are_variables us) e).1 m
