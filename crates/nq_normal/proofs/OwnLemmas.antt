-- Whether the variables of a call are all an owner's.
use Rattle.std.proofs.Common.{◌≡◌, ℕ, zero, suc, ◌+◌, ◌<◌, ◌≤◌, Bool, true, false, ◌||◌, ◌&&◌, Some, List, [], ◌∷◌, ◌++◌, length, get_or, take, refl, sym, ap, ap₂, ◌∙◌, inl, inr}
use Rattle.std.specs.Prelude.{nat_eq, bytes_eq, IsTrue, ◌↔◌}
use Rattle.std.specs.List.{list_all}
use Rattle.std.proofs.lemmas.List.{take_all}
use Rattle.std.specs.HashMap.{Updates}
use Rattle.nq_logic.specs.Terms.{Name, Term, Variable, Function, Applied, applied, call}
use Rattle.nq_logic.specs.Words.{numeral}
use Rattle.nq_logic.specs.Names.{has_name}
use Rattle.nq_logic.specs.Admissible.{has_variables}
use Rattle.nq_logic.specs.RuleShapes.{variables_of}
use Rattle.nq_bank.specs.declared.node.TermId.{TermId}
use Rattle.nq_bank.specs.Parts.{occurs, parts_of}
use Rattle.nq_bank.specs.Content.{Content, term_at, terms_at, term_from, terms_from}
use Rattle.nq_bank.proofs.ArgumentLemmas.{terms_from-take}
use Rattle.nq_clause.proofs.Lookups.{kept_or_stood}
use Rattle.nq_proof.specs.Clauses.{Clause}
use Rattle.nq_goals.specs.NewVariables.{clause_variables}
use Rattle.nq_goals.specs.Normal.{is_without}
use Rattle.nq_goals.specs.Spent.{IsGround}
use Rattle.nq_normal.specs.Sought.{Answers}
use Rattle.nq_normal.specs.Variables.{HasOwn}
use Rattle.nq_normal.proofs.Names.{has_joined}

or_false : (b : Bool) → (b || false) ≡ b
or_false true = refl
or_false false = refl

and_true : (b : Bool) → (b && true) ≡ b
and_true true = refl
and_true false = refl

and_assoc : (a b d : Bool) → ((a && b) && d) ≡ (a && (b && d))
and_assoc true b d = refl
and_assoc false b d = refl

pub named_occurs : (x : Name) (t : Term) → occurs x t ≡ has_name x (variables_of t)
unfolding occurs
named_occurs x (Variable y) = sym (or_false (bytes_eq x y))
named_occurs x (Function f) = refl
named_occurs x (Applied t u) = ap₂ (λ a b. a || b) (named_occurs x t) (named_occurs x u) ∙ sym (has_joined x (variables_of t) (variables_of u))

pub own_numeral : (xs : List Name) (n : ℕ) → has_variables xs (numeral n) ≡ true
unfolding numeral
own_numeral xs zero = refl
own_numeral xs (suc n) = own_numeral xs n

module _ (xs : List Name) where
  abbrev pub all_own : List Term → Bool
  all_own [] = true
  all_own (t ∷ ts) = has_variables xs t && all_own ts

  own_applied : (t : Term) (us : List Term) → has_variables xs (applied t us) ≡ (has_variables xs t && all_own us)
  own_applied t [] = sym (and_true (has_variables xs t))
  own_applied t (u ∷ us) = own_applied (Applied t u) us ∙ and_assoc (has_variables xs t) (has_variables xs u) (all_own us)

  all_push : (ts : List Term) (t : Term) → all_own (ts ++ t ∷ []) ≡ (all_own ts && has_variables xs t)
  all_push [] t = and_true (has_variables xs t)
  all_push (u ∷ ts) t = ap (λ b. has_variables xs u && b) (all_push ts t) ∙ sym (and_assoc (has_variables xs u) (all_own ts) (has_variables xs t))

  -- one more argument
  pub own_more : (ts : List Term) (ids : List TermId) (i : ℕ) (d : TermId) (before here : Bool) → i < length ids → before ≡ all_own (terms_from ts (take i ids)) →
      here ≡ has_variables xs (term_from ts (get_or ids i d)) → (before && here) ≡ all_own (terms_from ts (take (i + 1) ids))
  own_more ts ids i d before here below was is =
      ap₂ (λ a b. a && b) was is ∙ sym (ap all_own (terms_from-take ts ids i d below) ∙ all_push (terms_from ts (take i ids)) (term_from ts (get_or ids i d)))

  -- all arguments
  pub own_whole : (bank : Content) (t : Term) (f : Name) (ids : List TermId) (i : ℕ) (answer : Bool) → t ≡ call f (parts_of t) → terms_at bank ids ≡ parts_of t → length ids ≤ i →
      answer ≡ all_own (terms_at bank (take i ids)) → answer ≡ has_variables xs t
  own_whole bank t f ids i answer is tells all so_far =
      so_far ∙ (ap (λ ys. all_own (terms_at bank ys)) (take_all i ids all) ∙ (ap all_own tells ∙ sym (ap (has_variables xs) is ∙ own_applied (Function f) (parts_of t))))

-- an answer that is kept is right
pub own_kept : (bank : Content) (names : List Name) (old new : Answers) (t : TermId) (answer : Bool) → HasOwn bank names old → Updates nat_eq old new t.0 (Some answer) →
    answer ≡ has_variables names (term_at bank t) → HasOwn bank names new
own_kept bank names old new t answer h updates is =
    record {
      right = λ q b found.
          elim (kept_or_stood old new t.0 q.0 answer b updates found) [
            | inl here ↦ sym here.1 ∙ is ∙ ap (λ k. has_variables names (term_at bank (record { 0 = k }))) here.0
            | inr there ↦ h.right q b there
          ];
    }

-- a term without variables
without_joined : {X : Type 0} (xs ys : List X) → is_without (xs ++ ys) ≡ (is_without xs && is_without ys)
without_joined [] ys = refl
without_joined (x ∷ xs) ys = refl

ground_told : (t : Term) → has_variables [] t ≡ is_without (variables_of t)
ground_told (Variable x) = refl
ground_told (Function f) = refl
ground_told (Applied t u) = ap₂ (λ a b. a && b) (ground_told t) (ground_told u) ∙ sym (without_joined (variables_of t) (variables_of u))

clause_told : (c : Clause) → list_all (has_variables []) c ≡ is_without (clause_variables c)
clause_told [] = refl
clause_told (t ∷ c) = ap₂ (λ a b. a && b) (ground_told t) (clause_told c) ∙ sym (without_joined (variables_of t) (clause_variables c))

pub without_is : {X : Type 0} (xs : List X) → (is_without xs ≡ true) ↔ (xs ≡ [])
without_is [] = ((λ e. refl), (λ e. refl))
without_is (x ∷ xs) = ((λ e. cc), (λ e. cc))

pub is_ground_told : (answer : Bool) (c : Clause) → answer ≡ list_all (has_variables []) c → IsTrue answer ↔ IsGround c
is_ground_told answer c e =
    let told : answer ≡ is_without (clause_variables c) = e ∙ clause_told c in
    let both = without_is (clause_variables c) in
    ((λ t. both.0 (sym told ∙ t)), (λ g. told ∙ both.1 g))
