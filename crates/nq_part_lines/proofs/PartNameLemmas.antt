-- The variables of a shell's parts are distinct, and stand for the parts of X.
use Rattle.std.proofs.Common.{◌≡◌, ◌+◌, ◌*◌, ◌-◌, ◌/◌, ◌%◌, ◌<◌, ◌≤◌, ◌∙◌, ℕ, zero, suc, nat_lt, Bool, true, false, if◌then◌else◌, List, [], ◌∷◌, ◌++◌, map, refl, sym, ap, ap₂, subst, arith}
use Rattle.std.specs.Prelude.{bytes_eq}
use Rattle.std.proofs.lemmas.Bool.Decides.{nat_tests}
use Rattle.std.proofs.lemmas.Slice.Eq.{bytes_eq-Decides}
use Rattle.nq_logic.specs.Terms.{Term, Applied, Function, Substitution, call, substituted, value_at}
use Rattle.nq_logic.specs.Histories.{Part, Shell}
use Rattle.nq_logic.specs.Shells.{accessed, digits_of, made, part_variables, remade, whole}
use Rattle.nq_clause.proofs.SubstitutionLemmas.{substituted-call}
use Rattle.nq_proof.proofs.Tests.{names_same}
use Rattle.nq_part_lines.specs.Wholes.{part_name, part_pairs}

-- digits read back
read_back : ℕ → List ℕ → ℕ
read_back n [] = n
read_back n (d ∷ ds) = read_back (n * 10 + (d - 48)) ds

read_last : (n d : ℕ) (ds : List ℕ) → read_back n (ds ++ (d ∷ [])) ≡ read_back n ds * 10 + (d - 48)
unfolding read_back
read_last n d [] = refl
read_last n d (c ∷ ds) = read_last (n * 10 + (c - 48)) d ds

digits_read : (places n : ℕ) → n ≤ places → read_back 0 (digits_of places n) ≡ n
unfolding read_back
digits_read zero n l = omega arith
digits_read (suc places) n l = by_size (λ m. digits_read places (n / 10) m) (nat_lt n 10) refl
  where
    by_size : (n / 10 ≤ places → read_back 0 (digits_of places (n / 10)) ≡ n / 10) → (b : Bool) → nat_lt n 10 ≡ b → read_back 0 (if b then (48 + n) ∷ [] else digits_of places (n / 10) ++ ((48 + n % 10) ∷ [])) ≡ n
    by_size again true e = omega arith
    by_size again false e =
        let more : 10 ≤ n = grind (arith, nat_tests) in
        let fewer : n / 10 ≤ places = omega arith in
        let rest = again fewer in
        let last = read_last 0 (48 + n % 10) (digits_of places (n / 10)) in
        subst (λ m. m ≡ n) (sym last) (subst (λ m. m * 10 + (48 + n % 10 - 48) ≡ n) (sym rest) (omega arith))

tail_same : (x : ℕ) (xs ys : List ℕ) → ◌≡◌ {A = List ℕ} (x ∷ xs) (x ∷ ys) → xs ≡ ys
tail_same x xs ys e = cc

-- two places have one name only where they are one
names_apart : (i j : ℕ) → part_name i ≡ part_name j → i ≡ j
names_apart i j e =
    let same = tail_same 88 (digits_of (i + 1) (i + 1)) (digits_of (j + 1) (j + 1)) e in
    let li : i + 1 ≤ i + 1 = omega arith in
    let lj : j + 1 ≤ j + 1 = omega arith in
    let numbers : i + 1 ≡ j + 1 = sym (digits_read (i + 1) (i + 1) li) ∙ ap (read_back 0) same ∙ digits_read (j + 1) (j + 1) lj in
    omega (arith, numbers)

pub name_differs : (i j : ℕ) → (i ≡ j → ⊥) → bytes_eq (part_name i) (part_name j) ≡ false
name_differs i j other = by_test (bytes_eq (part_name i) (part_name j)) refl
  where
    by_test : (b : Bool) → bytes_eq (part_name i) (part_name j) ≡ b → b ≡ false
    by_test false e = refl
    by_test true e = absurd (other (names_apart i j (names_same (part_name i) (part_name j) e)))

-- the substitution gives each part, of which the first stands at place k
abbrev Gives : Substitution → ℕ → List Part → Type 0
Gives s k [] = Unit {0}
Gives s k (p ∷ parts) = (value_at s (part_name k) ≡ Applied (Function p.accessor) whole) × Gives s (suc k) parts

name_itself : (xs : List ℕ) → bytes_eq xs xs ≡ true
name_itself xs = (bytes_eq-Decides xs xs).1 refl

gives_more : (s : Substitution) (k : ℕ) (t : Term) (j : ℕ) (parts : List Part) → k < j → Gives s j parts → Gives ((part_name k, t) ∷ s) j parts
gives_more s k t j [] l g = tt
gives_more s k t j (p ∷ parts) l g =
    let more : k < suc j = omega (arith, l) in
    let other : (j ≡ k → ⊥) = λ e. absurd (omega (arith, l, e)) in
    (subst (λ b. (if b then t else value_at s (part_name j)) ≡ Applied (Function p.accessor) whole) (sym (name_differs j k other)) g.0, gives_more s k t (suc j) parts more g.1)

gives_all : (k : ℕ) (parts : List Part) → Gives (part_pairs k parts) k parts
gives_all k [] = tt
gives_all k (p ∷ parts) =
    let more : k < suc k = omega arith in
    (subst (λ b. (if b then Applied (Function p.accessor) whole else value_at (part_pairs (suc k) parts) (part_name k)) ≡ Applied (Function p.accessor) whole) (sym (name_itself (part_name k))) refl, gives_more (part_pairs (suc k) parts) k (Applied (Function p.accessor) whole) (suc k) parts more (gives_all (suc k) parts))

variables_given : (s : Substitution) (k : ℕ) (parts : List Part) → Gives s k parts → map (substituted s) (part_variables k parts) ≡ accessed whole parts
variables_given s k [] g = refl
variables_given s k (p ∷ parts) g = ap₂ ◌∷◌ g.0 (variables_given s (suc k) parts g.1)

-- the object with the parts of X in the place of its variables
pub made_at : (s : Shell) → substituted (part_pairs 0 s.parts) (made s) ≡ remade s
made_at s =
    substituted-call (part_pairs 0 s.parts) s.constructor (part_variables 0 s.parts)
    ∙ ap (λ (ts : List Term). call s.constructor ts) (variables_given (part_pairs 0 s.parts) 0 s.parts (gives_all 0 s.parts))
