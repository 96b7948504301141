-- Each candidate of ELIM has one in the list, and what the list has are candidates.
use Rattle.std.proofs.Common.{◌≡◌, Bool, true, false, ◌||◌, ◌&&◌, if◌then◌else◌, List, [], ◌∷◌, map, refl, sym, ap, ◌∙◌, inl, inr}
use Rattle.std.specs.Prelude.{bytes_eq, not, ◌⊎◌}
use Rattle.nq_logic.specs.Terms.{Name, Term, IsAmong}
use Rattle.nq_logic.specs.RuleShapes.{has_argument, has_distinct_variables, is_destructor_call, variables_of}
use Rattle.nq_bank.proofs.Texts.{bytes_eq-true, eq-bytes_eq}
use Rattle.nq_proof.specs.Clauses.{Clause, has_term, same_term}
use Rattle.nq_proof.proofs.Tests.{same_true}
use Rattle.nq_rule.proofs.LiteralLemmas.{true_same}
use Rattle.nq_lines.proofs.LineLemmas.{from_distinct}
use Rattle.nq_goals.specs.Eliminating.{ElimRule, destructors, distinct_names, no_copies, one_stands, other_variables, without_name}
use Rattle.nq_goals.specs.Generalizing.{chosen_from}
use Rattle.nq_goals.specs.NewVariables.{clause_variables}
use Rattle.nq_goals.specs.Replacing.{parts_in, stands_in_one}
use Rattle.nq_stuck.proofs.StandingLemmas.{one_of}
use Rattle.nq_eliminate.proofs.Names.{among_first, part_variables}

-- names without one of them
pub apart_from : (x v : Name) (ys : List Name) → IsAmong x (without_name v ys) → bytes_eq x v ≡ false
apart_from x v [] m = absurd m
apart_from x v (y ∷ ys) m = by_test (λ n. apart_from x v ys n) (bytes_eq v y) refl m
  where
    turned : bytes_eq v y ≡ false → x ≡ y → (b : Bool) → bytes_eq x v ≡ b → b ≡ false
    turned k is false e = refl
    turned k is true e = let here : bytes_eq v y ≡ true = eq-bytes_eq v y (sym (bytes_eq-true x v e) ∙ is) in absurd (cc)

    by_test : (IsAmong x (without_name v ys) → bytes_eq x v ≡ false) → (b : Bool) → bytes_eq v y ≡ b → IsAmong x (if b then without_name v ys else y ∷ without_name v ys) → bytes_eq x v ≡ false
    by_test later true k n = later n
    by_test later false k (inl is) = turned k is (bytes_eq x v) refl
    by_test later false k (inr n) = later n

pub still_among : (x v : Name) (ys : List Name) → bytes_eq x v ≡ false → IsAmong x ys → IsAmong x (without_name v ys)
still_among x v [] apart m = absurd m
still_among x v (y ∷ ys) apart m = by_test (λ n. still_among x v ys apart n) (bytes_eq v y) refl m
  where
    by_test : (IsAmong x ys → IsAmong x (without_name v ys)) → (b : Bool) → bytes_eq v y ≡ b → IsAmong x (y ∷ ys) → IsAmong x (if b then without_name v ys else y ∷ without_name v ys)
    by_test later true k (inl is) = let here : bytes_eq x v ≡ true = eq-bytes_eq x v (is ∙ sym (bytes_eq-true v y k)) in absurd (cc)
    by_test later true k (inr n) = later n
    by_test later false k (inl is) = inl is
    by_test later false k (inr n) = inr (later n)

pub once_among : (x : Name) (ys : List Name) → IsAmong x ys → IsAmong x (distinct_names ys)
once_among x [] m = absurd m
once_among x (y ∷ ys) (inl is) = inl is
once_among x (y ∷ ys) (inr m) = by_test (once_among x ys m) (bytes_eq x y) refl
  where
    by_test : IsAmong x (distinct_names ys) → (b : Bool) → bytes_eq x y ≡ b → IsAmong x (y ∷ without_name y (distinct_names ys))
    by_test later true k = inl (bytes_eq-true x y k)
    by_test later false k = inr (still_among x y (distinct_names ys) k later)

-- destructor calls of a rule
chosen_in : (test : Term → Bool) (d : Term) (ts : List Term) → IsAmong d (chosen_from test ts) → IsAmong d ts × (test d ≡ true)
chosen_in test d [] m = absurd m
chosen_in test d (t ∷ ts) m = by_test (λ n. chosen_in test d ts n) (test t) refl m
  where
    by_test : (IsAmong d (chosen_from test ts) → IsAmong d ts × (test d ≡ true)) → (b : Bool) → test t ≡ b →
        IsAmong d (elim b as (λ b. List Term) [ true ↦ t ∷ chosen_from test ts | false ↦ chosen_from test ts ]) → IsAmong d (t ∷ ts) × (test d ≡ true)
    by_test later true e (inl is) = (inl is, ap test is ∙ e)
    by_test later true e (inr n) = (inr (later n).0, (later n).1)
    by_test later false e n = (inr (later n).0, (later n).1)

pub both_true : (a b : Bool) → (a && b) ≡ true → (a ≡ true) × (b ≡ true)
both_true true b e = (refl, e)
both_true false b e = absurd (cc)

pub record IsDestructor (rule : ElimRule) (d : Term) : Type 0 where
  pub flat : has_distinct_variables [] d ≡ true
  pub argument : has_argument rule.variable d ≡ true
  pub part : IsAmong d (parts_in rule.made_of)

pub destructor_is : (rule : ElimRule) (d : Term) → IsAmong d (destructors rule) → IsDestructor rule d
destructor_is rule d m =
    let test = is_destructor_call rule.variable in
    let chosen = chosen_in test d (parts_in rule.made_of) (from_distinct d (chosen_from test (parts_in rule.made_of)) m) in
    let both = both_true (has_distinct_variables [] d) (has_argument rule.variable d) chosen.1 in
    record { flat = both.0; argument = both.1; part = chosen.0 }

-- its variables are the rule's
abbrev pub IsOfRule : ElimRule → Name → Type 0
IsOfRule rule x = (x ≡ rule.variable) ⊎ IsAmong x (other_variables rule)

pub of_rule : (rule : ElimRule) (d : Term) (x : Name) → IsDestructor rule d → IsAmong x (variables_of d) → IsOfRule rule x
of_rule rule d x is m = by_test (bytes_eq x rule.variable) refl
  where
    all : List Name
    all = clause_variables (rule.made_of ∷ rule.hypotheses)

    by_test : (b : Bool) → bytes_eq x rule.variable ≡ b → IsOfRule rule x
    by_test true k = inl (bytes_eq-true x rule.variable k)
    by_test false k =
        let there : IsAmong x all = among_first x (variables_of rule.made_of) (clause_variables rule.hypotheses) (part_variables x rule.made_of d is.part m) in
        inr (still_among x rule.variable (distinct_names all) k (once_among x all there))

-- images of a list
pub record HasImage (f : Term → Term) (t : Term) (ds : List Term) : Type 0 where
  pub element : Term
  pub among : IsAmong element ds
  pub is : t ≡ f element

has_image : (f : Term → Term) (t : Term) (ds : List Term) → has_term t (map f ds) ≡ true → HasImage f t ds
has_image f t [] e = absurd (cc)
has_image f t (d ∷ ds) e =
    elim (one_of (same_term t (f d)) (has_term t (map f ds)) e) [
      | inl here ↦ record { element = d; among = inl refl; is = same_true t (f d) here }
      | inr there ↦ let rest = has_image f t ds there in record { element = rest.element; among = inr rest.among; is = rest.is }
    ]

image_has : (f : Term → Term) (t d : Term) (ds : List Term) → IsAmong d ds → t ≡ f d → has_term t (map f ds) ≡ true
image_has f t d [] m e = absurd m
image_has f t d (u ∷ ds) (inl is) e = ap (λ b. b || has_term t (map f ds)) (true_same t (f u) (e ∙ ap f is))
image_has f t d (u ∷ ds) (inr m) e = ap (λ b. same_term t (f u) || b) (image_has f t d ds m e) ∙ or_true (same_term t (f u))
  where
    or_true : (b : Bool) → (b || true) ≡ true
    or_true true = refl
    or_true false = refl

not_true : (b : Bool) → not b ≡ true → b ≡ true → ⊥
not_true true e k = absurd (cc)
not_true false e k = absurd (cc)

-- where one map tells apart what the other does, it makes no copies where the other makes none
pub apart_too : (fine coarse : Term → Term) (ds : List Term) → ((d e : Term) → IsAmong d ds → IsAmong e ds → fine d ≡ fine e → coarse d ≡ coarse e) → no_copies (map coarse ds) ≡ true → no_copies (map fine ds) ≡ true
apart_too fine coarse [] each none = refl
apart_too fine coarse (d ∷ ds) each none =
    let both = both_true (not (has_term (coarse d) (map coarse ds))) (no_copies (map coarse ds)) none in
    let rest = apart_too fine coarse ds (λ a b m n same. each a b (inr m) (inr n) same) both.1 in
    by_test (has_term (fine d) (map fine ds)) refl both.0 ∙ rest
  where
    by_test : (b : Bool) → has_term (fine d) (map fine ds) ≡ b → not (has_term (coarse d) (map coarse ds)) ≡ true → (not b && no_copies (map fine ds)) ≡ no_copies (map fine ds)
    by_test false e k = refl
    by_test true e k =
        let image = has_image fine (fine d) ds e in
        absurd (not_true (has_term (coarse d) (map coarse ds)) k (image_has coarse (coarse d) image.element ds image.among (each d image.element (inl refl) (inr image.among) image.is)))

-- an element whose image stands in the goal
pub record Standing (f : Term → Term) (ds : List Term) (goal : Clause) : Type 0 where
  pub element : Term
  pub among : IsAmong element ds
  pub stands : stands_in_one (f element) goal ≡ true

pub standing : (f : Term → Term) (ds : List Term) (goal : Clause) → one_stands (map f ds) goal ≡ true → Standing f ds goal
standing f [] goal e = absurd (cc)
standing f (d ∷ ds) goal e =
    elim (one_of (stands_in_one (f d) goal) (one_stands (map f ds) goal) e) [
      | inl here ↦ record { element = d; among = inl refl; stands = here }
      | inr there ↦ let rest = standing f ds goal there in record { element = rest.element; among = inr rest.among; stands = rest.stands }
    ]

pub stands_there : (f : Term → Term) (d : Term) (ds : List Term) (goal : Clause) → IsAmong d ds → stands_in_one (f d) goal ≡ true → one_stands (map f ds) goal ≡ true
stands_there f d [] goal m e = absurd m
stands_there f d (u ∷ ds) goal (inl is) e = ap (λ b. b || one_stands (map f ds) goal) (ap (λ v. stands_in_one (f v) goal) (sym is) ∙ e)
stands_there f d (u ∷ ds) goal (inr m) e = ap (λ b. stands_in_one (f u) goal || b) (stands_there f d ds goal m e) ∙ or_true (stands_in_one (f u) goal)
  where
    or_true : (b : Bool) → (b || true) ≡ true
    or_true true = refl
    or_true false = refl
