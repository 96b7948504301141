-- Which equation of a goal is chosen.
use Rattle.std.proofs.Common.{◌≡◌, ℕ, zero, suc, Bool, true, false, ◌&&◌, not, List, [], ◌∷◌, ◌++◌, ◌≤◌, ◌-◌, length, get_or, take, drop, refl, sym, ap, ◌∙◌, subst, inl, arith}
use Rattle.std.proofs.lemmas.List.{take_all}
use Rattle.nq_bank.specs.declared.node.TermId.{TermId}
use Rattle.nq_logic.specs.Terms.{Term, Function, Applied, applied, call, IsAmong}
use Rattle.nq_logic.specs.RuleShapes.{is_call}
use Rattle.nq_logic.specs.Values.{is_value}
use Rattle.nq_logic.specs.Words.{numeral}
use Rattle.nq_logic.proofs.Lists.{among_left, among_right}
use Rattle.nq_bank.specs.Content.{Content, term_at, terms_at}
use Rattle.nq_proof.specs.Clauses.{Clause, without}
use Rattle.nq_goals.specs.Equations.{Equation}
use Rattle.nq_goals.specs.Fertilizing.{Fertilizing, can_fertilize, from_readings}
use Rattle.nq_goals.specs.Replacing.{stands_in_one}
use Rattle.nq_moves.specs.declared.readings.Reading.{Reading}
use Rattle.nq_moves.specs.declared.weighing.Choice.{Choice}
use Rattle.nq_moves.specs.Fertilized.{equation_read, fertilizing_at, ReadingStands, IsChosen}

pub called : (t : Term) (f : List ℕ) (ts : List Term) → t ≡ call f ts → true ≡ is_call t
called t f ts is = sym (ap is_call is ∙ of_applied (Function f) ts)
  where
    of_applied : (t : Term) (us : List Term) → is_call (applied t us) ≡ is_call t
    of_applied t [] = refl
    of_applied t (u ∷ us) = of_applied (Applied t u) us

numeral_is : (n : ℕ) → is_call (numeral n) ≡ true
unfolding numeral
numeral_is zero = refl
numeral_is (suc n) = refl

pub numeral_called : (t : Term) (n : ℕ) → t ≡ numeral n → true ≡ is_call t
numeral_called t n is = sym (ap is_call is ∙ numeral_is n)

-- what is chosen from one of two lists is chosen from both
pub chosen_left : (bank : Content) (xs ys : List Fertilizing) (c : Choice) → IsChosen bank xs c → IsChosen bank (xs ++ ys) c
chosen_left bank xs ys c h = record { stands = h.stands; among = among_left (fertilizing_at bank c.reading) xs ys h.among }

pub chosen_right : (bank : Content) (xs ys : List Fertilizing) (c : Choice) → IsChosen bank ys c → IsChosen bank (xs ++ ys) c
chosen_right bank xs ys c h = record { stands = h.stands; among = among_right (fertilizing_at bank c.reading) xs ys h.among }

second_false : (a : Bool) → (a && false) ≡ false
second_false true = refl
second_false false = refl

-- the equation serves exactly where its one side is a call and no value, and stands in another literal
module _ (bank : Content) (goal : Clause) (r : Reading) where
  abbrev pub side : Term
  side = term_at bank r.from

  abbrev pub stands : Bool
  stands = stands_in_one side (without (term_at bank r.literal) goal)

  abbrev pub found : Bool → List Fertilizing
  found b = elim b as (λ b. List Fertilizing) [ true ↦ fertilizing_at bank r ∷ [] | false ↦ [] ]

  pub no_call : is_call side ≡ false → from_readings goal (term_at bank r.literal) (equation_read bank r ∷ []) ≡ []
  no_call e = ap (λ a. found ((a && not (is_value side)) && stands)) e

  pub only_value : is_value side ≡ true → from_readings goal (term_at bank r.literal) (equation_read bank r ∷ []) ≡ []
  only_value e = ap (λ v. found ((is_call side && not v) && stands)) e ∙ ap (λ a. found (a && stands)) (second_false (is_call side))

  pub stands_nowhere : stands ≡ false → from_readings goal (term_at bank r.literal) (equation_read bank r ∷ []) ≡ []
  stands_nowhere e = ap (λ d. found ((is_call side && not (is_value side)) && d)) e ∙ ap found (second_false (is_call side && not (is_value side)))

  pub serves : is_call side ≡ true → is_value side ≡ false → stands ≡ true → from_readings goal (term_at bank r.literal) (equation_read bank r ∷ []) ≡ fertilizing_at bank r ∷ []
  serves a v d =
      ap (λ x. found ((x && not (is_value side)) && stands)) a ∙
      ap (λ x. found ((true && not x) && stands)) v ∙ ap (λ x. found ((true && true) && x)) d

  pub one_chosen : (choice : Choice) → is_call side ≡ true → is_value side ≡ false → stands ≡ true → ReadingStands bank r → choice.reading ≡ r → IsChosen bank (from_readings goal (term_at bank r.literal) (equation_read bank r ∷ [])) choice
  one_chosen choice a v d there is =
      record {
        stands = subst (ReadingStands bank) (sym is) there;
        among = subst (IsAmong (fertilizing_at bank choice.reading)) (sym (serves a v d)) (inl (ap (fertilizing_at bank) is));
      }

-- of both orders comes what comes of each
pub of_both : (goal : Clause) (l : Term) (e f : Equation) → from_readings goal l (e ∷ f ∷ []) ≡ from_readings goal l (e ∷ []) ++ from_readings goal l (f ∷ [])
of_both goal l e f = by_test (can_fertilize goal l e)
  where
    by_test : (b : Bool) → elim b as (λ b. List Fertilizing) [ true ↦ record { literal = l; from = e.left; into = e.right } ∷ from_readings goal l (f ∷ []) | false ↦ from_readings goal l (f ∷ []) ] ≡ (elim b as (λ b. List Fertilizing) [ true ↦ record { literal = l; from = e.left; into = e.right } ∷ [] | false ↦ [] ]) ++ from_readings goal l (f ∷ [])
    by_test true = refl
    by_test false = refl

-- a list of ids that is not empty
pub apart : (bank : Content) (ids : List TermId) (d : TermId) → 1 ≤ length ids → terms_at bank ids ≡ term_at bank (get_or ids 0 d) ∷ terms_at bank (take (length ids - 1) (drop 1 ids))
apart bank [] d least = absurd (omega arith)
apart bank (t ∷ ids) d least = ap (λ xs. term_at bank t ∷ terms_at bank xs) (sym (take_all (length (t ∷ ids) - 1) ids (omega arith)))
