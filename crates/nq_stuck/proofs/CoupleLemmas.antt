-- Calls of two arguments, and other terms.
use Rattle.std.proofs.Common.{◌≡◌, ℕ, zero, suc, ◌+◌, ◌<◌, ◌≤◌, List, [], ◌∷◌, length, ap, arith}
use Rattle.nq_logic.specs.Terms.{Term, Function, Applied, applied, call}
use Rattle.nq_logic.specs.Words.{numeral}
use Rattle.nq_bank.specs.declared.node.TermId.{TermId}
use Rattle.nq_bank.specs.Content.{Content, terms_at}
use Rattle.nq_proof.specs.Paths.{argument_count}
use Rattle.nq_stuck.specs.Pairs.{HasNoCouple}

count_applied : (t : Term) (us : List Term) → argument_count (applied t us) ≡ argument_count t + length us
count_applied t [] = omega arith
count_applied t (u ∷ us) = let rest = count_applied (Applied t u) us in omega (arith, rest)

count_at : (bank : Content) (ids : List TermId) → length (terms_at bank ids) ≡ length ids
count_at bank [] = omega arith
count_at bank (t ∷ ids) = let rest = count_at bank ids in omega (arith, rest)

two_arguments : (f : List ℕ) (a b t : Term) → t ≡ Applied (Applied (Function f) a) b → argument_count t ≡ 2
two_arguments f a b t e = ap argument_count e

arguments_counted : (bank : Content) (f : List ℕ) (ids : List TermId) → argument_count (call f (terms_at bank ids)) ≡ length ids
arguments_counted bank f ids =
    let all = count_applied (Function f) (terms_at bank ids) in
    let each = count_at bank ids in
    omega (arith, all, each)

pub few_couple : (bank : Content) (f : List ℕ) (ids : List TermId) → length ids < 2 → HasNoCouple (call f (terms_at bank ids))
few_couple bank f ids few =
    record {
      none = λ g a b e.
          let two = two_arguments g a b (call f (terms_at bank ids)) e in
          let all = arguments_counted bank f ids in
          absurd (omega (arith, two, all, few));
    }

pub many_couple : (bank : Content) (f : List ℕ) (ids : List TermId) → 3 ≤ length ids → HasNoCouple (call f (terms_at bank ids))
many_couple bank f ids many =
    record {
      none = λ g a b e.
          let two = two_arguments g a b (call f (terms_at bank ids)) e in
          let all = arguments_counted bank f ids in
          absurd (omega (arith, two, all, many));
    }

count_numeral : (n : ℕ) → argument_count (numeral n) ≤ 1
unfolding numeral
count_numeral zero = omega arith
count_numeral (suc n) = omega arith

pub numeral_couple : (n : ℕ) (t : Term) → t ≡ numeral n → HasNoCouple t
numeral_couple n t is =
    record {
      none = λ g a b e.
          let two = two_arguments g a b t e in
          let few = count_numeral n in
          let same = ap argument_count is in
          absurd (omega (arith, two, few, same));
    }
