-- How long a sample is: no line has more than 64 bytes.
use Rattle.std.proofs.Common.{ℕ, zero, suc, ◌+◌, ◌*◌, ◌%◌, ◌==◌, ◌<◌, ◌≤◌, true, false, if◌then◌else◌, length, arith, length-append}
use Rattle.std.specs.Fmt.{decimal}
use Rattle.std.proofs.lemmas.Fmt.{length-decimal-le}
use Rattle.nq_sample.specs.declared.event.EventKind.{EventKind}
use Rattle.nq_sample.specs.declared.event.EventKind.TheVariants.{Plain, Tautology, Sum, Recursive}
use Rattle.nq_sample.specs.Sample.{draw, kind_by, kind_from, event_line, x_after, sample_of}

-- the numbers of an event have at most two digits
HasShortNumbers : EventKind → Type 0
HasShortNumbers (Plain a) = a < 100
HasShortNumbers Tautology = Unit {0}
HasShortNumbers (Sum a b) = (a < 100) × (b < 100)
HasShortNumbers (Recursive a) = a < 100

kind_by_is_short : (d a b : ℕ) → HasShortNumbers (kind_by d a b)
unfolding HasShortNumbers
kind_by_is_short d a b =
    elim (d % 4 == 0) as (λ t. HasShortNumbers (if t then Plain (a % 100) else if d % 4 == 1 then Tautology
    else if d % 4 == 2 then Sum (a % 100) (b % 100) else Recursive (a % 100))) [
      | true ↦ omega arith
      | false ↦ elim (d % 4 == 1) as (λ t. HasShortNumbers (if t then Tautology
          else if d % 4 == 2 then Sum (a % 100) (b % 100) else Recursive (a % 100))) [
            | true ↦ tt
            | false ↦ elim (d % 4 == 2) as (λ t. HasShortNumbers (if t then Sum (a % 100) (b % 100) else Recursive (a % 100))) [
              | true ↦ (omega arith, omega arith)
              | false ↦ omega arith
            ]
          ]
    ]

length-decimal-of_two : (a : ℕ) → a < 100 → length (decimal a) ≤ 2
length-decimal-of_two a small = length-decimal-le 2 a (omega arith) small (omega arith)

length-event_line-le : (i : ℕ) (kind : EventKind) → i < 10000 → HasShortNumbers kind → length (event_line i kind) ≤ 64
unfolding HasShortNumbers
length-event_line-le i (Plain a) h small =
    let i_is : length (decimal i) ≤ 4 = length-decimal-le 4 i (omega arith) h (omega arith) in
    simp length-append (omega (arith, i_is, length-decimal-of_two a small))
length-event_line-le i Tautology h small =
    let i_is : length (decimal i) ≤ 4 = length-decimal-le 4 i (omega arith) h (omega arith) in
    simp length-append (omega (arith, i_is))
length-event_line-le i (Sum a b) h small =
    let i_is : length (decimal i) ≤ 4 = length-decimal-le 4 i (omega arith) h (omega arith) in
    let sum_is : length (decimal (a + b)) ≤ 3 = length-decimal-le 3 (a + b) (omega arith) (omega arith) (omega arith) in
    simp length-append (omega (arith, i_is, sum_is, length-decimal-of_two a small.0, length-decimal-of_two b small.1))
length-event_line-le i (Recursive a) h small =
    let i_is : length (decimal i) ≤ 4 = length-decimal-le 4 i (omega arith) h (omega arith) in
    simp length-append (omega (arith, i_is, length-decimal-of_two a small))

pub length-sample_of-le : (seed size : ℕ) → size ≤ 2000 → length (sample_of seed size) ≤ 19 + 65 * size
length-sample_of-le seed zero h = omega arith
length-sample_of-le seed (suc size) h =
    let before : length (sample_of seed size) ≤ 19 + 65 * size = length-sample_of-le seed size (omega arith) in
    let line : length (event_line (suc size) (kind_from (x_after seed size))) ≤ 64 =
    length-event_line-le (suc size) (kind_from (x_after seed size)) (omega arith)
    (kind_by_is_short (draw (x_after seed size)) (draw (draw (x_after seed size))) (draw (draw (draw (x_after seed size))))) in
    simp length-append (omega (arith, before, line))
