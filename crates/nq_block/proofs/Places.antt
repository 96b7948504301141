-- The places of a path at which a term is replaced count from 1.
use Rattle.std.proofs.Common.{◌≡◌, ◌<◌, ◌≤◌, ◌^◌, ◌==◌, Bool, true, false, ℕ, suc, Option, Some, None, List, [], ◌∷◌, ◌++◌, refl, arith}
use Rattle.std.proofs.lemmas.Bool.Decides.{Decides-eqb}
use Rattle.std.specs.Prelude.{All}
use Rattle.std.specs.List.{AllByRecursion}
use Rattle.nq_logtext.specs.Fields.{IsPlace}
use Rattle.nq_logic.specs.Terms.{Term, Variable, Function, Applied}
use Rattle.nq_logic.specs.Numerals.{is_numeral}
use Rattle.nq_logic.specs.Histories.{History}
use Rattle.nq_bank.proofs.NodesLemmas.{All-head, All-tail}
use Rattle.nq_proof.specs.Clauses.{Clause, distinct, in_place, literal_at}
use Rattle.nq_proof.specs.Paths.{argument_count, around, in_argument, replaced_at}
use Rattle.nq_proof.specs.Rules.{Side, Replace, conclusion, given, used_equation}
use Rattle.nq_proof.proofs.Tests.{given_some}

around_some : (whole : Term → Term) (o : Option (Term × Term)) (r : Term × Term) → around whole o ≡ Some r → (x : Term × Term) × (o ≡ Some x)
around_some whole None r e = absurd cc
around_some whole (Some x) r e = (x, refl)

-- a change in an argument is one at a place from 1
found_in : (place : ℕ) (change : Term → Option (Term × Term)) (t : Term) (r : Term × Term) → in_argument place change t ≡ Some r → (1 ≤ place) × ((u : Term) × (x : Term × Term) × (change u ≡ Some x))
found_in place change (Variable x) r e = absurd cc
found_in place change (Function f) r e = absurd cc
found_in place change (Applied t u) r e = by_test (suc (argument_count t) == place) refl (λ x f. found_in place change t x f) e
  where
    by_test : (b : Bool) → (suc (argument_count t) == place) ≡ b →
        ((x : Term × Term) → in_argument place change t ≡ Some x → (1 ≤ place) × ((u : Term) × (x : Term × Term) × (change u ≡ Some x))) →
        elim b as (λ b. Option (Term × Term)) [ true ↦ around (λ v. Applied t v) (change u) | false ↦ around (λ v. Applied v u) (in_argument place change t) ] ≡ Some r →
        (1 ≤ place) × ((u : Term) × (x : Term × Term) × (change u ≡ Some x))
    by_test true is again f =
        let same : suc (argument_count t) ≡ place = (Decides-eqb (suc (argument_count t)) place).0 is in
        let inner = around_some (λ v. Applied t v) (change u) r f in
        (omega (arith, same), (u, inner.0, inner.1))
    by_test false is again f =
        let inner = around_some (λ v. Applied v u) (in_argument place change t) r f in
        again inner.0 inner.1

path_places : (path : List ℕ) (t whole : Term) (r : Term × Term) → replaced_at path t whole ≡ Some r → All (λ p. p < 2 ^ 64) path → AllByRecursion IsPlace path
path_places [] t whole r e fit = tt
path_places (place ∷ path) t whole r e fit = by_test (is_numeral whole) (λ u x f. path_places path t u x f (All-tail (λ p. p < 2 ^ 64) place path fit)) e
  where
    by_test : (b : Bool) → ((u : Term) (x : Term × Term) → replaced_at path t u ≡ Some x → AllByRecursion IsPlace path) → elim b as (λ b. Option (Term × Term)) [ true ↦ None | false ↦ in_argument place (replaced_at path t) whole ] ≡ Some r → AllByRecursion IsPlace (place ∷ path)
    by_test true again f = absurd cc
    by_test false again f =
        let inner = found_in place (replaced_at path t) whole r f in (
          (inner.0, All-head (λ p. p < 2 ^ 64) place path fit),
          again inner.1.0 inner.1.1 inner.1.2,
        )

pub places_spelled : (lines : ℕ → Option Clause) (h : History) (l k : ℕ) (path : List ℕ) (t : Term) (side : Side) (c : Clause) → All (λ p. p < 2 ^ 64) path →
    conclusion h lines (Replace l k path t side) ≡ Some c → AllByRecursion IsPlace path
places_spelled lines h l k path t side c fit e =
    let last : Clause → Term × Term → Option Clause = λ c change. Some (distinct (in_place k (change.1 ∷ []) c ++ (used_equation side change.0 t ∷ []))) in
    let a = given_some (lines l) (λ c. given (literal_at k c) (λ a. given (replaced_at path t a) (last c))) c e in
    let b = given_some (literal_at k a.0) (λ u. given (replaced_at path t u) (last a.0)) c a.2 in
    let d = given_some (replaced_at path t b.0) (last a.0) c b.2 in
    path_places path t b.0 d.0 d.1 fit
