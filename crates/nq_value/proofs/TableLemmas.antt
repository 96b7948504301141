-- Which functions have rows, and of how many arguments.
use Prim.Native.String.{String as Text}
use Rattle.std.proofs.Common.{◌≡◌, ℕ, Bool, true, false, ◌&&◌, ◌||◌, Option, Some, None, List, [], ◌∷◌, ◌++◌, length, map, refl, sym, ap, ◌∙◌}
use Rattle.std.specs.Prelude.{All, bytes_eq, codes, nat_lt}
use Rattle.std.proofs.lemmas.List.Elements.{All-cons, All-nil}
use Rattle.std.proofs.lemmas.Bool.{ltb-true}
use Rattle.nq_logic.specs.Terms.{Term, Function, Applied, applied, call}
use Rattle.nq_logic.specs.Names.{has_name}
use Rattle.nq_logic.specs.Values.{is_value}
use Rattle.nq_bank.specs.declared.node.Sym.{Sym}
use Rattle.nq_bank.specs.declared.node.TermId.{TermId}
use Rattle.nq_bank.specs.GroundNames.{ground_count}
use Rattle.nq_bank.specs.Soundness.{ground_text}
use Rattle.nq_bank.specs.Content.{Content, term_at, terms_at}
use Rattle.nq_bank.proofs.Texts.{bytes_eq-true, eq-bytes_eq, same_test}
use Rattle.nq_proof.proofs.Tests.{and_left, and_right}
use Rattle.nq_proof.specs.Values.{value_of, row_named, rows_of_one, rows_of_two, rows_of_three}
use Rattle.nq_value.specs.declared.row.Row.{Row}
use Rattle.nq_value.specs.declared.row.Accessor.{Accessor}
use Rattle.nq_value.specs.declared.row.Accessor.TheVariants.{Car, Cdr, Unpack, NegativeGuts}
use Rattle.nq_value.specs.declared.row.Test.TheVariants.{Truep, Falsep, Numberp, Listp, Litatom, Negativep, Not, Nlistp, Zerop}
use Rattle.nq_value.specs.declared.row.RowOfOne.{RowOfOne}
use Rattle.nq_value.specs.declared.row.RowOfOne.TheVariants as one
use Rattle.nq_value.specs.declared.row.Connective.TheVariants.{And, Or, Implies, Iff}
use Rattle.nq_value.specs.declared.row.Comparison.TheVariants.{Lessp, Greaterp, Leq, Geq}
use Rattle.nq_value.specs.declared.row.Arithmetic.TheVariants.{Plus, Times, Difference, Quotient, Remainder}
use Rattle.nq_value.specs.declared.row.RowOfTwo.{RowOfTwo}
use Rattle.nq_value.specs.declared.row.RowOfTwo.TheVariants as two
use Rattle.nq_value.specs.declared.found.Found.TheVariants.{NotBuiltIn}
use Rattle.nq_value.specs.RowNames.{accessor_name, name_of_one, name_of_two, row_name}
use Rattle.nq_value.specs.Rows.{table_names, IsNamedRow, are_named}
use Rattle.nq_value.specs.Passing.{passes}
use Rattle.nq_value.specs.Answers.{IsFound}

-- a test of all rows holds of each
pub rows_named : (rows : List (Sym × Row)) → are_named rows ≡ true → All IsNamedRow rows
rows_named [] h = All-nil IsNamedRow
rows_named (r ∷ rows) h =
    let first = and_left (nat_lt r.0.0 ground_count && bytes_eq (ground_text r.0) (row_name r.1)) (are_named rows) h in
    let rest = and_right (nat_lt r.0.0 ground_count && bytes_eq (ground_text r.0) (row_name r.1)) (are_named rows) h in
    All-cons IsNamedRow r rows
    (ltb-true r.0.0 ground_count (and_left (nat_lt r.0.0 ground_count) (bytes_eq (ground_text r.0) (row_name r.1)) first), bytes_eq-true (ground_text r.0) (row_name r.1) (and_right (nat_lt r.0.0 ground_count) (bytes_eq (ground_text r.0) (row_name r.1)) first))
    (rows_named rows rest)

-- the function has no row of one argument, of two, of three
abbrev pub NoOne : List ℕ → Type 0
NoOne f = (row_named (Function f) rows_of_one ≡ None) × (bytes_eq f (codes "ADD1") ≡ false)

abbrev pub NoTwo : List ℕ → Type 0
NoTwo f = (row_named (Function f) rows_of_two ≡ None) × (bytes_eq f (codes "PLUS") ≡ false) × (bytes_eq f (codes "TIMES") ≡ false)

abbrev pub NoThree : List ℕ → Type 0
NoThree f = row_named (Function f) rows_of_three ≡ None

none_at : {X : Type 0} (b : Bool) (o : Option X) (value : X → Option Term) → o ≡ None →
    elim b as (λ b. Option Term) [ false ↦ None | true ↦ elim o as (λ o. Option Term) [ None ↦ None | Some row ↦ value row ] ] ≡ None
none_at b (Some row) value e = absurd cc
none_at false None value e = refl
none_at true None value e = refl

pub value_of-many : (t a b d e : Term) (ts : List Term) → value_of (applied (Applied (Applied (Applied (Applied t a) b) d) e) ts) ≡ None
value_of-many t a b d e [] = none_at (is_value b && is_value d && is_value e) (row_named (Applied t a) rows_of_three) (λ row. row b d e) refl
value_of-many t a b d e (u ∷ ts) = value_of-many (Applied t a) b d e u ts

passes-many : (t a b d : Term) (ts : List Term) → passes (applied (Applied (Applied (Applied t a) b) d) ts) ≡ false
passes-many t a b d [] = refl
passes-many t a b d (u ∷ ts) = passes-many (Applied t a) b d u ts

passes-one : (f : List ℕ) (a : Term) → bytes_eq f (codes "ADD1") ≡ false → passes (call f (a ∷ [])) ≡ false
passes-one f a fails = rw fails refl

passes-two : (f : List ℕ) (a b : Term) → bytes_eq f (codes "PLUS") ≡ false → bytes_eq f (codes "TIMES") ≡ false → passes (call f (a ∷ (b ∷ []))) ≡ false
passes-two f a b plus times = rw (plus, times) refl

-- nothing is found where the function has no row of so many arguments
pub nothing : (bank : Content) (f : List ℕ) (ids : List TermId) → (length ids ≡ 1 → NoOne f) → (length ids ≡ 2 → NoTwo f) → (length ids ≡ 3 → NoThree f) → IsFound bank NotBuiltIn (call f (terms_at bank ids))
nothing bank f [] h k l = record { stands = tt; value = refl; passes_is = refl }
nothing bank f (a ∷ []) h k l =
    record {
      stands = tt;
      value = none_at (is_value (term_at bank a)) (row_named (Function f) rows_of_one) (λ row. row (term_at bank a)) (h refl).0;
      passes_is = passes-one f (term_at bank a) (h refl).1;
    }
nothing bank f (a ∷ (b ∷ [])) h k l =
    record {
      stands = tt;
      value = none_at (is_value (term_at bank a) && is_value (term_at bank b)) (row_named (Function f) rows_of_two) (λ row. row (term_at bank a) (term_at bank b)) (k refl).0;
      passes_is = passes-two f (term_at bank a) (term_at bank b) (k refl).1 (k refl).2;
    }
nothing bank f (a ∷ (b ∷ (d ∷ []))) h k l =
    record {
      stands = tt;
      value = none_at (is_value (term_at bank a) && is_value (term_at bank b) && is_value (term_at bank d)) (row_named (Function f) rows_of_three) (λ row. row (term_at bank a) (term_at bank b) (term_at bank d)) (l refl);
      passes_is = refl;
    }
nothing bank f (a ∷ (b ∷ (d ∷ (e ∷ ids)))) h k l =
    record {
      stands = tt;
      value = value_of-many (Function f) (term_at bank a) (term_at bank b) (term_at bank d) (term_at bank e) (terms_at bank ids);
      passes_is = passes-many (Function f) (term_at bank a) (term_at bank b) (term_at bank d) (term_at bank e ∷ terms_at bank ids);
    }

-- a function of one argument has no row of two or three
pub one_is_no_two : (row : RowOfOne) → NoTwo (name_of_one row)
one_is_no_two (one.Test Truep) = (refl, refl, refl)
one_is_no_two (one.Test Falsep) = (refl, refl, refl)
one_is_no_two (one.Test Numberp) = (refl, refl, refl)
one_is_no_two (one.Test Listp) = (refl, refl, refl)
one_is_no_two (one.Test Litatom) = (refl, refl, refl)
one_is_no_two (one.Test Negativep) = (refl, refl, refl)
one_is_no_two (one.Test Not) = (refl, refl, refl)
one_is_no_two (one.Test Nlistp) = (refl, refl, refl)
one_is_no_two (one.Test Zerop) = (refl, refl, refl)
one_is_no_two (one.Accessor Car) = (refl, refl, refl)
one_is_no_two (one.Accessor Cdr) = (refl, refl, refl)
one_is_no_two (one.Accessor Unpack) = (refl, refl, refl)
one_is_no_two (one.Accessor NegativeGuts) = (refl, refl, refl)
one_is_no_two one.Sub1 = (refl, refl, refl)
one_is_no_two one.Fix = (refl, refl, refl)
one_is_no_two one.Add1 = (refl, refl, refl)
one_is_no_two one.Minus = (refl, refl, refl)
one_is_no_two one.Identity = (refl, refl, refl)
one_is_no_two one.Count = (refl, refl, refl)

pub one_is_no_three : (row : RowOfOne) → NoThree (name_of_one row)
one_is_no_three (one.Test Truep) = refl
one_is_no_three (one.Test Falsep) = refl
one_is_no_three (one.Test Numberp) = refl
one_is_no_three (one.Test Listp) = refl
one_is_no_three (one.Test Litatom) = refl
one_is_no_three (one.Test Negativep) = refl
one_is_no_three (one.Test Not) = refl
one_is_no_three (one.Test Nlistp) = refl
one_is_no_three (one.Test Zerop) = refl
one_is_no_three (one.Accessor Car) = refl
one_is_no_three (one.Accessor Cdr) = refl
one_is_no_three (one.Accessor Unpack) = refl
one_is_no_three (one.Accessor NegativeGuts) = refl
one_is_no_three one.Sub1 = refl
one_is_no_three one.Fix = refl
one_is_no_three one.Add1 = refl
one_is_no_three one.Minus = refl
one_is_no_three one.Identity = refl
one_is_no_three one.Count = refl

-- a function of two arguments has no row of one or three
pub two_is_no_one : (row : RowOfTwo) → NoOne (name_of_two row)
two_is_no_one two.Equal = (refl, refl)
two_is_no_one (two.Connective And) = (refl, refl)
two_is_no_one (two.Connective Or) = (refl, refl)
two_is_no_one (two.Connective Implies) = (refl, refl)
two_is_no_one (two.Connective Iff) = (refl, refl)
two_is_no_one (two.Comparison Lessp) = (refl, refl)
two_is_no_one (two.Comparison Greaterp) = (refl, refl)
two_is_no_one (two.Comparison Leq) = (refl, refl)
two_is_no_one (two.Comparison Geq) = (refl, refl)
two_is_no_one (two.Arithmetic Plus) = (refl, refl)
two_is_no_one (two.Arithmetic Times) = (refl, refl)
two_is_no_one (two.Arithmetic Difference) = (refl, refl)
two_is_no_one (two.Arithmetic Quotient) = (refl, refl)
two_is_no_one (two.Arithmetic Remainder) = (refl, refl)
two_is_no_one two.Max = (refl, refl)

pub two_is_no_three : (row : RowOfTwo) → NoThree (name_of_two row)
two_is_no_three two.Equal = refl
two_is_no_three (two.Connective And) = refl
two_is_no_three (two.Connective Or) = refl
two_is_no_three (two.Connective Implies) = refl
two_is_no_three (two.Connective Iff) = refl
two_is_no_three (two.Comparison Lessp) = refl
two_is_no_three (two.Comparison Greaterp) = refl
two_is_no_three (two.Comparison Leq) = refl
two_is_no_three (two.Comparison Geq) = refl
two_is_no_three (two.Arithmetic Plus) = refl
two_is_no_three (two.Arithmetic Times) = refl
two_is_no_three (two.Arithmetic Difference) = refl
two_is_no_three (two.Arithmetic Quotient) = refl
two_is_no_three (two.Arithmetic Remainder) = refl
two_is_no_three two.Max = refl

-- IF has no row of one or two
pub if_is_no_one : NoOne (codes "IF")
if_is_no_one = (refl, refl)

pub if_is_no_two : NoTwo (codes "IF")
if_is_no_two = (refl, refl, refl)

-- an accessor makes no number that passes
pub accessor_keeps : (accessor : Accessor) (t : Term) → passes (call (accessor_name accessor) (t ∷ [])) ≡ false
accessor_keeps Car t = refl
accessor_keeps Cdr t = refl
accessor_keeps Unpack t = refl
accessor_keeps NegativeGuts t = refl

-- a function that is not in the table has no row
or_none : (a b : Bool) → a || b ≡ false → (a ≡ false) × (b ≡ false)
or_none true b h = absurd cc
or_none false b h = (refl, h)

bytes_eq-sym : (f g : List ℕ) → bytes_eq f g ≡ bytes_eq g f
bytes_eq-sym f g =
    same_test (bytes_eq f g) (bytes_eq g f) (λ e. eq-bytes_eq g f (sym (bytes_eq-true f g e))) (λ e. eq-bytes_eq f g (sym (bytes_eq-true g f e)))

has_name-first : (f : List ℕ) (xs ys : List (List ℕ)) → has_name f (xs ++ ys) ≡ false → has_name f xs ≡ false
has_name-first f [] ys h = refl
has_name-first f (x ∷ xs) ys h =
    let parts = or_none (bytes_eq f x) (has_name f (xs ++ ys)) h in
    rw (parts.0, has_name-first f xs ys parts.1) refl

has_name-second : (f : List ℕ) (xs ys : List (List ℕ)) → has_name f (xs ++ ys) ≡ false → has_name f ys ≡ false
has_name-second f [] ys h = h
has_name-second f (x ∷ xs) ys h = has_name-second f xs ys (or_none (bytes_eq f x) (has_name f (xs ++ ys)) h).1

no_row : {X : Type 0} (f : List ℕ) (rows : List (Text × X)) → has_name f (map (λ r. codes r.0) rows) ≡ false → row_named (Function f) rows ≡ None
no_row f [] h = refl
no_row {X = X} f (r ∷ rows) h =
    let parts = or_none (bytes_eq f (codes r.0)) (has_name f (map (λ r. codes r.0) rows)) h in
    by_test (bytes_eq (codes r.0) f) (bytes_eq-sym (codes r.0) f ∙ parts.0) (no_row f rows parts.1)
  where
    by_test : (b : Bool) → b ≡ false → row_named (Function f) rows ≡ None → elim b as (λ b. Option X) [ true ↦ Some r.1 | false ↦ row_named (Function f) rows ] ≡ None
    by_test true e none = absurd cc
    by_test false e none = none

differs : (f g : List ℕ) (names : List (List ℕ)) → has_name g names ≡ true → has_name f names ≡ false → bytes_eq f g ≡ false
differs f g names has none = by_test (bytes_eq f g) refl
  where
    by_test : (b : Bool) → bytes_eq f g ≡ b → bytes_eq f g ≡ false
    by_test true e = absurd (let same : f ≡ g = bytes_eq-true f g e in let k : false ≡ true = sym none ∙ ap (λ x. has_name x names) same ∙ has in cc)
    by_test false e = e

module _ (f : List ℕ) (none : has_name f table_names ≡ false) where
  pub unknown_is_no_one : NoOne f
  unknown_is_no_one = (
    no_row f rows_of_one (has_name-first f (map (λ r. codes r.0) rows_of_one) (map (λ r. codes r.0) rows_of_two ++ map (λ r. codes r.0) rows_of_three) none),
    differs f (codes "ADD1") table_names refl none,
  )

  rest_none : has_name f (map (λ r. codes r.0) rows_of_two ++ map (λ r. codes r.0) rows_of_three) ≡ false
  rest_none = has_name-second f (map (λ r. codes r.0) rows_of_one) (map (λ r. codes r.0) rows_of_two ++ map (λ r. codes r.0) rows_of_three) none

  pub unknown_is_no_two : NoTwo f
  unknown_is_no_two = (
    no_row f rows_of_two (has_name-first f (map (λ r. codes r.0) rows_of_two) (map (λ r. codes r.0) rows_of_three) rest_none),
    differs f (codes "PLUS") table_names refl none,
    differs f (codes "TIMES") table_names refl none,
  )

  pub unknown_is_no_three : NoThree f
  unknown_is_no_three = no_row f rows_of_three (has_name-second f (map (λ r. codes r.0) rows_of_two) (map (λ r. codes r.0) rows_of_three) rest_none)
