-- Instances: a term is one of another exactly where some substitution says so.
use Rattle.std.proofs.Common.{◌≡◌, Bool, true, false, ◌&&◌, List, [], ◌∷◌, ◌++◌, map, append-nil, append_assoc, refl, sym, ap, subst, ◌∙◌}
use Rattle.std.specs.Prelude.{bytes_eq, codes, if◌then◌else◌}
use Rattle.std.proofs.lemmas.List.{map-append}
use Rattle.nq_logic.specs.Terms.{Name, Term, Variable, Function, Applied, Substitution, value_at, substituted}
use Rattle.nq_logic.specs.RuleShapes.{variables_of, is_function_named}
use Rattle.nq_proof.specs.Clauses.{same_term}
use Rattle.nq_bank.specs.declared.node.TermId.{TermId}
use Rattle.nq_bank.specs.Content.{Content, term_at}
use Rattle.nq_bank.proofs.Texts.{bytes_eq-true, eq-bytes_eq}
use Rattle.nq_rules.specs.Heads.{IsTwoOf, IsNotTwoOf}
use Rattle.nq_rule_table.specs.Rules.{values_within, is_instance, permutes}
use Rattle.nq_proof.proofs.Tests.{same_true}
use Rattle.nq_clause.specs.declared.binding.Binding.{Binding}
use Rattle.nq_clause.specs.Binding.{bindings_at, MatchesNone, TellsMatch}

same_as_itself : (t : Term) → same_term t t ≡ true
same_as_itself (Variable x) = eq-bytes_eq x x refl
same_as_itself (Function f) = eq-bytes_eq f f refl
same_as_itself (Applied t u) = ap (λ b. elim b as (λ c. Bool) [ true ↦ same_term u u | false ↦ false ]) (same_as_itself t) ∙ same_as_itself u

-- what a substitution gives each of these variables
module _ (s : Substitution) where
  abbrev given : List Name → Substitution
  given xs = map (λ x. (x, value_at s x)) xs

  value_here : (zs ws : List Name) (y : Name) → value_at (given (zs ++ y ∷ ws)) y ≡ value_at s y
  value_here [] ws y = ap (λ b. if b then value_at s y else value_at (given ws) y) (eq-bytes_eq y y refl)
  value_here (z ∷ zs) ws y = by_name (bytes_eq y z) refl (value_here zs ws y)
    where
      by_name : (b : Bool) → bytes_eq y z ≡ b → value_at (given (zs ++ y ∷ ws)) y ≡ value_at s y → (if b then value_at s z else value_at (given (zs ++ y ∷ ws)) y) ≡ value_at s y
      by_name true e rest = ap (value_at s) (sym (bytes_eq-true y z e))
      by_name false e rest = rest

  given_here : (zs : List Name) (l : Term) (ws : List Name) → substituted (given (zs ++ (variables_of l ++ ws))) l ≡ substituted s l
  given_here zs (Variable y) ws = value_here zs ws y
  given_here zs (Function f) ws = refl
  given_here zs (Applied t u) ws =
      let vt = variables_of t in
      let vu = variables_of u in
      ap (λ xs. Applied (substituted (given (zs ++ xs)) t) (substituted (given (zs ++ xs)) u)) (append_assoc vt vu ws)
      ∙ ap (λ a. Applied a (substituted (given (zs ++ (vt ++ (vu ++ ws)))) u)) (given_here zs t (vu ++ ws))
      ∙ ap (λ xs. Applied (substituted s t) (substituted (given xs) u)) (sym (append_assoc zs vt (vu ++ ws)))
      ∙ ap (λ b. Applied (substituted s t) b) (given_here (zs ++ vt) u ws)

  within : (l : Term) → values_within l (substituted s l) ≡ given (variables_of l)
  within (Variable x) = refl
  within (Function f) = refl
  within (Applied t u) =
      ap (λ ps. ps ++ values_within u (substituted s u)) (within t) ∙ ap (λ ps. given (variables_of t) ++ ps) (within u)
      ∙ sym (map-append (λ x. (x, value_at s x)) (variables_of t) (variables_of u))

  -- an instance of a term is told to be one
  pub instance_told : (l r : Term) → substituted s l ≡ r → is_instance l r ≡ true
  instance_told l r is =
      ap (λ t. same_term (substituted (values_within l t) l) t) (sym is)
      ∙ ap (λ ps. same_term (substituted ps l) (substituted s l)) (within l)
      ∙ ap (λ t. same_term t (substituted s l)) (ap (λ xs. substituted (given xs) l) (sym (append-nil (variables_of l))) ∙ given_here [] l [])
      ∙ same_as_itself (substituted s l)

-- what a match tells
module _ (bank : Content) (l r : TermId) where
  no_match_told : MatchesNone [] (term_at bank l) (term_at bank r) → false ≡ is_instance (term_at bank l) (term_at bank r)
  no_match_told none = by_test (is_instance (term_at bank l) (term_at bank r)) refl
    where
      by_test : (b : Bool) → is_instance (term_at bank l) (term_at bank r) ≡ b → false ≡ b
      by_test true e =
          let s = values_within (term_at bank l) (term_at bank r) in
          absurd (none.none s (record { same = λ x among. absurd among }) (same_true (substituted s (term_at bank l)) (term_at bank r) e))
      by_test false e = refl

  pub match_told : (answer : Bool) (old new : List Binding) → old ≡ [] → TellsMatch answer bank (term_at bank l) (term_at bank r) old new → answer ≡ is_instance (term_at bank l) (term_at bank r)
  match_told true old new empty told = sym (instance_told (bindings_at bank new) (term_at bank l) (term_at bank r) told.fits)
  match_told false old new empty told =
      let IsSo : List Binding → Type 0 = λ bs. MatchesNone (bindings_at bank bs) (term_at bank l) (term_at bank r) in
      no_match_told (subst IsSo empty told)

-- a part that is an equation, and one that is none
module _ (bank : Content) (t : TermId) where
  pub equation_permutes : (p q : TermId) (answer : Bool) → IsTwoOf bank (codes "EQUAL") t p q → answer ≡ is_instance (term_at bank p) (term_at bank q) → answer ≡ permutes (term_at bank t)
  equation_permutes p q answer is told = told ∙ sym (ap permutes is.whole)

  pub other_permutes : IsNotTwoOf bank (codes "EQUAL") t → false ≡ permutes (term_at bank t)
  other_permutes none = by_term (term_at bank t) refl
    where
      not_true : (b : Bool) → (b ≡ true → ⊥) → b ≡ false
      not_true true h = absurd (h refl)
      not_true false h = refl

      by_head : (f p q : Term) → term_at bank t ≡ Applied (Applied f p) q → is_function_named (codes "EQUAL") f ≡ false
      by_head (Variable x) p q e = refl
      by_head (Function k) p q e = not_true (bytes_eq (codes "EQUAL") k) (λ h. none.none p q (e ∙ ap (λ g. Applied (Applied (Function g) p) q) (sym (bytes_eq-true (codes "EQUAL") k h))))
      by_head (Applied a b) p q e = refl

      by_term : (u : Term) → term_at bank t ≡ u → false ≡ permutes u
      by_term (Variable x) e = refl
      by_term (Function f) e = refl
      by_term (Applied (Variable x) u) e = refl
      by_term (Applied (Function f) u) e = refl
      by_term (Applied (Applied f p) q) e = sym (ap (λ b. b && is_instance p q) (by_head f p q e))
