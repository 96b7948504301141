-- Linear forms, as two sums of products: of the positive factors, and of the negative ones.
use Rattle.std.proofs.Common.{◌≡◌, ℕ, zero, suc, ◌+◌, ◌*◌, ◌^◌, ◌-◌, true, ◌&&◌, ◌⊎◌, List, [], ◌∷◌, inl, inr, refl, sym, ap₂, subst, arith}
use Rattle.std.specs.Prelude.{ℤ, pos, negsuc, neg_ℤ, ◌+ℤ◌, ◌*ℤ◌, int_le, Option, Some, None}
use Rattle.std.proofs.lemmas.Int.{ints}
use Rattle.nq_logic.specs.Words.{call2, zero_term, numeral}
use Rattle.nq_logic.specs.Terms.{Term, IsTerm, Each}
use Rattle.nq_logic.specs.Ground.{symbols_of}
use Rattle.nq_logic.specs.Histories.{History}
use Rattle.nq_logic.proofs.Symbols.{zero_symbol, plus_symbol, times_symbol}
use Rattle.nq_proof.specs.Clauses.{same_term}
use Rattle.nq_proof.specs.Linear.{Form, and_then, bounded, with_atom, with_atoms, added, scaled_atoms, scaled}
use Rattle.nq_proof.proofs.Tests.{chosen_some, none_is_not_some, some_same, same_true}
use Rattle.nq_laws.proofs.AtomSums.{atoms_after_atom_at, form_after_form_at}
use Rattle.nq_laws.proofs.Atoms.{atom_is_new_at, no_atom_more_at, atom_is_known_at, atom_is_further_at}
use Rattle.nq_laws.proofs.Balanced.{equal_through_at, sum_on_the_left_at, sum_on_the_right_at, equation_turns_at}
use Rattle.nq_laws.proofs.Balances.{sum_balances_at, multiple_balances_at, multiple_of_atom_at, multiple_of_constant_at}
use Rattle.nq_laws.proofs.Products.{product_with_zero_at}
use Rattle.nq_arith.proofs.Numerals.{numeral_over, sum, product}
use Rattle.nq_arith.proofs.ValueRows.{Equals}

abbrev pub plus_part : ℤ → ℕ
plus_part (pos n) = n
plus_part (negsuc n) = 0

abbrev pub minus_part : ℤ → ℕ
minus_part (pos n) = 0
minus_part (negsuc n) = suc n

parts_of_sum : (x y z : ℤ) → x +ℤ y ≡ z → (plus_part x + plus_part y) + minus_part z ≡ plus_part z + (minus_part x + minus_part y)
parts_of_sum (pos a) (pos b) (pos c) e = omega (arith, ints)
parts_of_sum (pos a) (pos b) (negsuc c) e = omega (arith, ints)
parts_of_sum (pos a) (negsuc b) (pos c) e = omega (arith, ints)
parts_of_sum (pos a) (negsuc b) (negsuc c) e = omega (arith, ints)
parts_of_sum (negsuc a) (pos b) (pos c) e = omega (arith, ints)
parts_of_sum (negsuc a) (pos b) (negsuc c) e = omega (arith, ints)
parts_of_sum (negsuc a) (negsuc b) (pos c) e = omega (arith, ints)
parts_of_sum (negsuc a) (negsuc b) (negsuc c) e = omega (arith, ints)

plus_of_negated : (n : ℕ) → plus_part (neg_ℤ (pos n)) ≡ 0
plus_of_negated zero = refl
plus_of_negated (suc n) = refl

minus_of_negated : (n : ℕ) → minus_part (neg_ℤ (pos n)) ≡ n
minus_of_negated zero = refl
minus_of_negated (suc n) = refl

plus_of_multiple : (k : ℕ) (z : ℤ) → plus_part (pos k *ℤ z) ≡ k * plus_part z
plus_of_multiple k (pos n) = refl
plus_of_multiple k (negsuc n) = let e : 0 ≡ k * 0 = omega arith in subst (λ m. plus_part (neg_ℤ (pos (k * suc n))) ≡ m) e (plus_of_negated (k * suc n))

minus_of_multiple : (k : ℕ) (z : ℤ) → minus_part (pos k *ℤ z) ≡ k * minus_part z
minus_of_multiple k (pos n) = omega arith
minus_of_multiple k (negsuc n) = minus_of_negated (k * suc n)

plus_of_negative : (z : ℤ) → plus_part (neg_ℤ (pos 1) *ℤ z) ≡ minus_part z
plus_of_negative (pos n) = plus_of_negated (1 * n)
plus_of_negative (negsuc n) = omega arith

minus_of_negative : (z : ℤ) → minus_part (neg_ℤ (pos 1) *ℤ z) ≡ plus_part z
minus_of_negative (pos n) = let e : 1 * n ≡ n = omega arith in subst (λ m. minus_part (neg_ℤ (pos (1 * n))) ≡ m) e (minus_of_negated (1 * n))
minus_of_negative (negsuc n) = refl

pub and_then_some : {X Y : Type 0} (o : Option X) (next : X → Option Y) (y : Y) → and_then o next ≡ Some y → (x : X) × (o ≡ Some x) × (next x ≡ Some y)
and_then_some None next y e = absurd (none_is_not_some y e)
and_then_some (Some x) next y e = (x, refl, e)

pub bounded_is : (z n : ℤ) → bounded z ≡ Some n → z ≡ n
bounded_is z n e = by_test (chosen_some (int_le (neg_ℤ (pos (2 ^ 127 - 1))) z && int_le z (pos (2 ^ 127 - 1))) (Some z) None n e)
  where
    by_test : ((int_le (neg_ℤ (pos (2 ^ 127 - 1))) z && int_le z (pos (2 ^ 127 - 1)) ≡ true) × (Some z ≡ Some n)) ⊎ (None ≡ Some n) → z ≡ n
    by_test (inl p) = some_same z n p.1
    by_test (inr p) = absurd (none_is_not_some n p)

abbrev pub Atoms : Type 0
Atoms = List (Term × ℤ)

abbrev pub plus : Term → Term → Term
plus a b = call2 "PLUS" a b

abbrev pub times : Term → Term → Term
times a b = call2 "TIMES" a b

-- the sum of the atoms, each as many times as this part of its factor says
abbrev pub weighed : (ℤ → ℕ) → Atoms → Term
weighed part [] = zero_term
weighed part (a ∷ atoms) = plus (times (numeral (part a.1)) a.0) (weighed part atoms)

-- this part of a form
abbrev pub part_of_form : (ℤ → ℕ) → Form → Term
part_of_form part f = plus (numeral (part f.constant)) (weighed part f.atoms)

module _ (h : History) where
  abbrev pub Right : Term → Type 0
  Right t = IsTerm (symbols_of h) t

  abbrev Same : Term → Term → Type 0
  Same t u = Equals h t u

  abbrev pub AtomsRight : Atoms → Type 0
  AtomsRight atoms = Each (λ a. IsTerm (symbols_of h) a.0) atoms

  pub plus_over : (a b : Term) → Right a → Right b → Right (plus a b)
  plus_over a b oa ob = ((plus_symbol h, oa), ob)

  pub times_over : (a b : Term) → Right a → Right b → Right (times a b)
  times_over a b oa ob = ((times_symbol h, oa), ob)

  pub product_over : (n : ℕ) (t : Term) → Right t → Right (times (numeral n) t)
  product_over n t o = times_over (numeral n) t (numeral_over h n) o

  pub weighed_over : (part : ℤ → ℕ) (atoms : Atoms) → AtomsRight atoms → Right (weighed part atoms)
  weighed_over part [] over = zero_symbol h
  weighed_over part (a ∷ atoms) over = plus_over (times (numeral (part a.1)) a.0) (weighed part atoms) (product_over (part a.1) a.0 over.0) (weighed_over part atoms over.1)

  pub form_over : (part : ℤ → ℕ) (f : Form) → AtomsRight f.atoms → Right (part_of_form part f)
  form_over part f over = plus_over (numeral (part f.constant)) (weighed part f.atoms) (numeral_over h (part f.constant)) (weighed_over part f.atoms over)

  -- an equation of numbers, as one of numerals
  numerals_agree : (a b c d e f : ℕ) → (a + b) + c ≡ d + (e + f) → Same (plus (plus (numeral a) (numeral b)) (numeral c)) (plus (numeral d) (plus (numeral e) (numeral f)))
  numerals_agree a b c d e f s =
      let left =
      sum_on_the_left_at h (numeral a) (numeral b) (numeral (a + b)) (numeral c) (numeral ((a + b) + c)) (numeral_over h a) (numeral_over h b) (numeral_over h (a + b)) (numeral_over h c) (numeral_over h ((a + b) + c)) (sum h a b) (sum h (a + b) c)
      in
      let right =
      sum_on_the_right_at h (numeral d) (numeral e) (numeral f) (numeral (e + f)) (numeral (d + (e + f))) (numeral_over h d) (numeral_over h e) (numeral_over h f) (numeral_over h (e + f)) (numeral_over h (d + (e + f))) (sum h e f) (sum h d (e + f))
      in
      equal_through_at h (plus (plus (numeral a) (numeral b)) (numeral c)) (plus (numeral d) (plus (numeral e) (numeral f))) (numeral (d + (e + f)))
      (plus_over (plus (numeral a) (numeral b)) (numeral c) (plus_over (numeral a) (numeral b) (numeral_over h a) (numeral_over h b)) (numeral_over h c))
      (plus_over (numeral d) (plus (numeral e) (numeral f)) (numeral_over h d) (plus_over (numeral e) (numeral f) (numeral_over h e) (numeral_over h f))) (numeral_over h (d + (e + f)))
      (subst (λ n. Same (plus (plus (numeral a) (numeral b)) (numeral c)) (numeral n)) s left) right

  integers_agree : (x y z : ℤ) → x +ℤ y ≡ z →
      Same (plus (plus (numeral (plus_part x)) (numeral (plus_part y))) (numeral (minus_part z))) (plus (numeral (plus_part z)) (plus (numeral (minus_part x)) (numeral (minus_part y))))
  integers_agree x y z e = numerals_agree (plus_part x) (plus_part y) (minus_part z) (plus_part z) (minus_part x) (minus_part y) (parts_of_sum x y z e)

  -- What has these two parts, and what has those, make what has these: first the positive part and then the negative one of
  -- each, the result last.
  abbrev Adds : Term → Term → Term → Term → Term → Term → Type 0
  Adds p n p2 n2 p3 n3 = Same (plus (plus p p2) n3) (plus p3 (plus n n2))

  abbrev AddsAtom : Term → ℤ → Atoms → Atoms → Type 0
  AddsAtom t z atoms result =
      AtomsRight result × Adds (weighed plus_part atoms) (weighed minus_part atoms) (times (numeral (plus_part z)) t) (times (numeral (minus_part z)) t) (weighed plus_part result) (weighed minus_part result)

  known_atom_adds : (t : Term) (z : ℤ) (a : Term × ℤ) (atoms result : Atoms) → AtomsRight (a ∷ atoms) → t ≡ a.0 → and_then (bounded (a.1 +ℤ z)) (λ n. Some ((a.0, n) ∷ atoms)) ≡ Some result →
      AddsAtom t z (a ∷ atoms) result
  known_atom_adds t z a atoms result over same e =
      let found = and_then_some (bounded (a.1 +ℤ z)) (λ n. Some ((a.0, n) ∷ atoms)) result e in
      let n = found.0 in
      let r = weighed plus_part atoms in
      let s = weighed minus_part atoms in
      let d =
      atom_is_known_at h a.0 (numeral (minus_part a.1)) (numeral (minus_part z)) (numeral (minus_part n)) (numeral (plus_part a.1)) (numeral (plus_part z)) (numeral (plus_part n)) r s over.0 (numeral_over h (minus_part a.1)) (numeral_over h (minus_part z)) (numeral_over h (minus_part n)) (numeral_over h (plus_part a.1)) (numeral_over h (plus_part z)) (numeral_over h (plus_part n)) (weighed_over plus_part atoms over.1) (weighed_over minus_part atoms over.1) (integers_agree a.1 z n (bounded_is (a.1 +ℤ z) n found.1))
      in
      subst (AddsAtom t z (a ∷ atoms)) (some_same ((a.0, n) ∷ atoms) result found.2) (subst (λ u. AddsAtom u z (a ∷ atoms) ((a.0, n) ∷ atoms)) (sym same) ((over.0, over.1), d))

  further_atom_adds : (t : Term) (z : ℤ) (a : Term × ℤ) (atoms rest : Atoms) → Right t → AtomsRight (a ∷ atoms) → AddsAtom t z atoms rest → AddsAtom t z (a ∷ atoms) (a ∷ rest)
  further_atom_adds t z a atoms rest ot over found = (
    (over.0, found.0),
    atom_is_further_at h (weighed minus_part atoms) (weighed plus_part rest) (weighed plus_part atoms) (weighed minus_part rest) (times (numeral (plus_part a.1)) a.0) (times (numeral (minus_part a.1)) a.0) (times (numeral (plus_part z)) t) (times (numeral (minus_part z)) t) (weighed_over minus_part atoms over.1) (weighed_over plus_part rest found.0) (weighed_over plus_part atoms over.1) (weighed_over minus_part rest found.0) (product_over (plus_part a.1) a.0 over.0) (product_over (minus_part a.1) a.0 over.0) (product_over (plus_part z) t ot) (product_over (minus_part z) t ot) found.1,
  )

  with_atom_adds : (t : Term) (z : ℤ) (atoms result : Atoms) → Right t → AtomsRight atoms → with_atom t z atoms ≡ Some result → AddsAtom t z atoms result
  with_atom_adds t z [] result ot over e =
      subst (AddsAtom t z []) (some_same ((t, z) ∷ []) result e)
      ((ot, tt), atom_is_new_at h (times (numeral (plus_part z)) t) (times (numeral (minus_part z)) t) (product_over (plus_part z) t ot) (product_over (minus_part z) t ot))
  with_atom_adds t z (a ∷ atoms) result ot over e =
      by_test (λ rest f. with_atom_adds t z atoms rest ot over.1 f)
      (chosen_some (same_term t a.0) (and_then (bounded (a.1 +ℤ z)) (λ n. Some ((a.0, n) ∷ atoms))) (and_then (with_atom t z atoms) (λ rest. Some (a ∷ rest))) result e)
    where
      by_test : ((rest : Atoms) → with_atom t z atoms ≡ Some rest → AddsAtom t z atoms rest) →
          ((same_term t a.0 ≡ true) × (and_then (bounded (a.1 +ℤ z)) (λ n. Some ((a.0, n) ∷ atoms)) ≡ Some result)) ⊎ (and_then (with_atom t z atoms) (λ rest. Some (a ∷ rest)) ≡ Some result) → AddsAtom t z (a ∷ atoms) result
      by_test again (inl p) = known_atom_adds t z a atoms result over (same_true t a.0 p.0) p.1
      by_test again (inr p) =
          let found = and_then_some (with_atom t z atoms) (λ rest. Some (a ∷ rest)) result p in
          subst (AddsAtom t z (a ∷ atoms)) (some_same (a ∷ found.0) result found.2) (further_atom_adds t z a atoms found.0 ot over (again found.0 found.1))

  abbrev AddsAtoms : Atoms → Atoms → Atoms → Type 0
  AddsAtoms atoms more result =
      AtomsRight result × Adds (weighed plus_part atoms) (weighed minus_part atoms) (weighed plus_part more) (weighed minus_part more) (weighed plus_part result) (weighed minus_part result)

  with_atoms_adds : (atoms more result : Atoms) → AtomsRight atoms → AtomsRight more → with_atoms atoms more ≡ Some result → AddsAtoms atoms more result
  with_atoms_adds atoms [] result over further e =
      subst (AddsAtoms atoms []) (some_same atoms result e)
      (over, no_atom_more_at h (weighed plus_part atoms) (weighed minus_part atoms) (weighed_over plus_part atoms over) (weighed_over minus_part atoms over))
  with_atoms_adds atoms (a ∷ more) result over further e =
      let found = and_then_some (with_atom a.0 a.1 atoms) (λ sum. with_atoms sum more) result e in
      let sum = found.0 in
      let one = with_atom_adds a.0 a.1 atoms sum further.0 over found.1 in
      let rest = with_atoms_adds sum more result one.0 further.1 found.2 in (
        rest.0,
        atoms_after_atom_at h (weighed plus_part atoms) (weighed minus_part atoms) (weighed minus_part sum) (weighed plus_part result) (weighed minus_part result) (weighed plus_part more) (weighed minus_part more) (weighed plus_part sum) (times (numeral (plus_part a.1)) a.0) (times (numeral (minus_part a.1)) a.0) (weighed_over plus_part atoms over) (weighed_over minus_part atoms over) (weighed_over minus_part sum one.0) (weighed_over plus_part result rest.0) (weighed_over minus_part result rest.0) (weighed_over plus_part more further.1) (weighed_over minus_part more further.1) (weighed_over plus_part sum one.0) (product_over (plus_part a.1) a.0 further.0) (product_over (minus_part a.1) a.0 further.0) one.1 rest.1,
      )

  abbrev AddsForm : Form → Form → Form → Type 0
  AddsForm f g k = AtomsRight k.atoms × Adds (part_of_form plus_part f) (part_of_form minus_part f) (part_of_form plus_part g) (part_of_form minus_part g) (part_of_form plus_part k) (part_of_form minus_part k)

  added_adds : (f g k : Form) → AtomsRight f.atoms → AtomsRight g.atoms → added f g ≡ Some k → AddsForm f g k
  added_adds f g k over further e =
      let constant = and_then_some (bounded (f.constant +ℤ g.constant)) (λ n. and_then (with_atoms f.atoms g.atoms) (λ atoms. Some (record { constant = n; atoms = atoms }))) k e in
      let n = constant.0 in
      let found = and_then_some (with_atoms f.atoms g.atoms) (λ atoms. Some (record { constant = n; atoms = atoms })) k constant.2 in
      let atoms = found.0 in
      let rest = with_atoms_adds f.atoms g.atoms atoms over further found.1 in
      subst (AddsForm f g) (some_same (record { constant = n; atoms = atoms }) k found.2) (
        rest.0,
        form_after_form_at h (weighed plus_part f.atoms) (weighed minus_part f.atoms) (weighed plus_part atoms) (weighed minus_part atoms) (weighed minus_part g.atoms) (weighed plus_part g.atoms) (numeral (minus_part f.constant)) (numeral (minus_part g.constant)) (numeral (minus_part n)) (numeral (plus_part f.constant)) (numeral (plus_part g.constant)) (numeral (plus_part n)) (weighed_over plus_part f.atoms over) (weighed_over minus_part f.atoms over) (weighed_over plus_part atoms rest.0) (weighed_over minus_part atoms rest.0) (weighed_over minus_part g.atoms further) (weighed_over plus_part g.atoms further) (numeral_over h (minus_part f.constant)) (numeral_over h (minus_part g.constant)) (numeral_over h (minus_part n)) (numeral_over h (plus_part f.constant)) (numeral_over h (plus_part g.constant)) (numeral_over h (plus_part n)) (integers_agree f.constant g.constant n (bounded_is (f.constant +ℤ g.constant) n constant.1)) rest.1,
      )

  -- The form stands for the first less the second: the first with the form's negative part is the second with its positive
  -- part.
  abbrev pub StandsFor : Term → Term → Form → Type 0
  StandsFor a b f = Right a × Right b × AtomsRight f.atoms × Same (plus a (part_of_form minus_part f)) (plus b (part_of_form plus_part f))

  pub added_stands : (a b c d : Term) (f g k : Form) → StandsFor a b f → StandsFor c d g → added f g ≡ Some k → StandsFor (plus a c) (plus b d) k
  added_stands a b c d f g k sf sg e =
      let adds = added_adds f g k sf.2 sg.2 e in (
        plus_over a c sf.0 sg.0,
        plus_over b d sf.1 sg.1,
        adds.0,
        sum_balances_at h a b c d (part_of_form minus_part f) (part_of_form minus_part g) (part_of_form minus_part k) (part_of_form plus_part f) (part_of_form plus_part g) (part_of_form plus_part k) sf.0 sf.1 sg.0 sg.1 (form_over minus_part f sf.2) (form_over minus_part g sg.2) (form_over minus_part k adds.0) (form_over plus_part f sf.2) (form_over plus_part g sg.2) (form_over plus_part k adds.0) sf.3 sg.3 adds.1,
      )

  -- multiples
  scaled_right : (z : ℤ) (atoms result : Atoms) → AtomsRight atoms → scaled_atoms z atoms ≡ Some result → AtomsRight result
  scaled_right z [] result over e = subst AtomsRight (some_same [] result e) tt
  scaled_right z (a ∷ atoms) result over e =
      let one = and_then_some (bounded (z *ℤ a.1)) (λ n. and_then (scaled_atoms z atoms) (λ rest. Some ((a.0, n) ∷ rest))) result e in
      let found = and_then_some (scaled_atoms z atoms) (λ rest. Some ((a.0, one.0) ∷ rest)) result one.2 in
      subst AtomsRight (some_same ((a.0, one.0) ∷ found.0) result found.2) (over.0, scaled_right z atoms found.0 over.1 found.1)

  module _ (k : ℕ) (part : ℤ → ℕ) (multiplies : (z : ℤ) → part (pos k *ℤ z) ≡ k * part z) where
    product_here : (z n : ℤ) → bounded (pos k *ℤ z) ≡ Some n → Same (times (numeral k) (numeral (part z))) (numeral (part n))
    product_here z n e = subst (λ m. Same (times (numeral k) (numeral (part z))) (numeral (part m))) (bounded_is (pos k *ℤ z) n e) (subst (λ m. Same (times (numeral k) (numeral (part z))) (numeral m)) (sym (multiplies z)) (product h k (part z)))

    weighed_multiple : (atoms result : Atoms) → AtomsRight atoms → scaled_atoms (pos k) atoms ≡ Some result → Same (times (numeral k) (weighed part atoms)) (weighed part result)
    weighed_multiple [] result over e = subst (λ r. Same (times (numeral k) zero_term) (weighed part r)) (some_same [] result e) (product_with_zero_at h (numeral k) (numeral_over h k))
    weighed_multiple (a ∷ atoms) result over e =
        let one = and_then_some (bounded (pos k *ℤ a.1)) (λ n. and_then (scaled_atoms (pos k) atoms) (λ rest. Some ((a.0, n) ∷ rest))) result e in
        let found = and_then_some (scaled_atoms (pos k) atoms) (λ rest. Some ((a.0, one.0) ∷ rest)) result one.2 in
        subst (λ r. Same (times (numeral k) (weighed part (a ∷ atoms))) (weighed part r)) (some_same ((a.0, one.0) ∷ found.0) result found.2)
        (multiple_of_atom_at h (numeral (part a.1)) a.0 (numeral k) (numeral (part one.0)) (weighed part atoms) (weighed part found.0) (numeral_over h (part a.1)) over.0 (numeral_over h k) (numeral_over h (part one.0)) (weighed_over part atoms over.1) (weighed_over part found.0 (scaled_right (pos k) atoms found.0 over.1 found.1)) (product_here a.1 one.0 one.1) (weighed_multiple atoms found.0 over.1 found.1))

    form_multiple : (f : Form) (n : ℤ) (atoms : Atoms) → AtomsRight f.atoms → bounded (pos k *ℤ f.constant) ≡ Some n → scaled_atoms (pos k) f.atoms ≡ Some atoms →
        Same (times (numeral k) (part_of_form part f)) (plus (numeral (part n)) (weighed part atoms))
    form_multiple f n atoms over e g =
        multiple_of_constant_at h (numeral (part f.constant)) (numeral k) (numeral (part n)) (weighed part f.atoms) (weighed part atoms) (numeral_over h (part f.constant)) (numeral_over h k) (numeral_over h (part n)) (weighed_over part f.atoms over) (weighed_over part atoms (scaled_right (pos k) f.atoms atoms over g)) (product_here f.constant n e) (weighed_multiple f.atoms atoms over g)

  pub multiple_stands : (k : ℕ) (a b : Term) (f g : Form) → StandsFor a b f → scaled (pos k) f ≡ Some g → StandsFor (times (numeral k) a) (times (numeral k) b) g
  multiple_stands k a b f g s e =
      let constant = and_then_some (bounded (pos k *ℤ f.constant)) (λ n. and_then (scaled_atoms (pos k) f.atoms) (λ atoms. Some (record { constant = n; atoms = atoms }))) g e in
      let n = constant.0 in
      let found = and_then_some (scaled_atoms (pos k) f.atoms) (λ atoms. Some (record { constant = n; atoms = atoms })) g constant.2 in
      let atoms = found.0 in
      let over = scaled_right (pos k) f.atoms atoms s.2 found.1 in
      let ok = numeral_over h k in
      subst (StandsFor (times (numeral k) a) (times (numeral k) b)) (some_same (record { constant = n; atoms = atoms }) g found.2) (
        times_over (numeral k) a ok s.0,
        times_over (numeral k) b ok s.1,
        over,
        multiple_balances_at h a b (numeral k) (part_of_form minus_part f) (plus (numeral (minus_part n)) (weighed minus_part atoms)) (part_of_form plus_part f) (plus (numeral (plus_part n)) (weighed plus_part atoms)) s.0 s.1 ok (form_over minus_part f s.2) (plus_over (numeral (minus_part n)) (weighed minus_part atoms) (numeral_over h (minus_part n)) (weighed_over minus_part atoms over)) (form_over plus_part f s.2) (plus_over (numeral (plus_part n)) (weighed plus_part atoms) (numeral_over h (plus_part n)) (weighed_over plus_part atoms over)) s.3 (form_multiple k minus_part (minus_of_multiple k) f n atoms s.2 constant.1 found.1) (form_multiple k plus_part (plus_of_multiple k) f n atoms s.2 constant.1 found.1),
      )

  -- the negative of a form has its parts the other way round
  module _ (part other : ℤ → ℕ) (turns : (z : ℤ) → part (neg_ℤ (pos 1) *ℤ z) ≡ other z) where
    turned_part : (z n : ℤ) → bounded (neg_ℤ (pos 1) *ℤ z) ≡ Some n → part n ≡ other z
    turned_part z n e = subst (λ m. part m ≡ other z) (bounded_is (neg_ℤ (pos 1) *ℤ z) n e) (turns z)

    weighed_turned : (atoms result : Atoms) → scaled_atoms (neg_ℤ (pos 1)) atoms ≡ Some result → weighed part result ≡ weighed other atoms
    weighed_turned [] result e = subst (λ r. weighed part r ≡ zero_term) (some_same [] result e) refl
    weighed_turned (a ∷ atoms) result e =
        let one = and_then_some (bounded (neg_ℤ (pos 1) *ℤ a.1)) (λ n. and_then (scaled_atoms (neg_ℤ (pos 1)) atoms) (λ rest. Some ((a.0, n) ∷ rest))) result e in
        let found = and_then_some (scaled_atoms (neg_ℤ (pos 1)) atoms) (λ rest. Some ((a.0, one.0) ∷ rest)) result one.2 in
        subst (λ r. weighed part r ≡ weighed other (a ∷ atoms)) (some_same ((a.0, one.0) ∷ found.0) result found.2)
        (ap₂ (λ m w. plus (times (numeral m) a.0) w) (turned_part a.1 one.0 one.1) (weighed_turned atoms found.0 found.1))

    form_turned : (f g : Form) → scaled (neg_ℤ (pos 1)) f ≡ Some g → part_of_form part g ≡ part_of_form other f
    form_turned f g e =
        let constant = and_then_some (bounded (neg_ℤ (pos 1) *ℤ f.constant)) (λ n. and_then (scaled_atoms (neg_ℤ (pos 1)) f.atoms) (λ atoms. Some (record { constant = n; atoms = atoms }))) g e in
        let n = constant.0 in
        let found = and_then_some (scaled_atoms (neg_ℤ (pos 1)) f.atoms) (λ atoms. Some (record { constant = n; atoms = atoms })) g constant.2 in
        subst (λ k. part_of_form part k ≡ part_of_form other f) (some_same (record { constant = n; atoms = found.0 }) g found.2)
        (ap₂ (λ m w. plus (numeral m) w) (turned_part f.constant n constant.1) (weighed_turned f.atoms found.0 found.1))

  turned_right : (f g : Form) → AtomsRight f.atoms → scaled (neg_ℤ (pos 1)) f ≡ Some g → AtomsRight g.atoms
  turned_right f g over e =
      let constant = and_then_some (bounded (neg_ℤ (pos 1) *ℤ f.constant)) (λ n. and_then (scaled_atoms (neg_ℤ (pos 1)) f.atoms) (λ atoms. Some (record { constant = n; atoms = atoms }))) g e in
      let n = constant.0 in
      let found = and_then_some (scaled_atoms (neg_ℤ (pos 1)) f.atoms) (λ atoms. Some (record { constant = n; atoms = atoms })) g constant.2 in
      subst (λ k. AtomsRight k.atoms) (some_same (record { constant = n; atoms = found.0 }) g found.2) (scaled_right (neg_ℤ (pos 1)) f.atoms found.0 over found.1)

  pub turned_stands : (a b : Term) (f g : Form) → StandsFor a b f → scaled (neg_ℤ (pos 1)) f ≡ Some g → StandsFor b a g
  turned_stands a b f g s e =
      let left = plus a (part_of_form minus_part f) in
      let right = plus b (part_of_form plus_part f) in
      let turned = equation_turns_at h left right (plus_over a (part_of_form minus_part f) s.0 (form_over minus_part f s.2)) (plus_over b (part_of_form plus_part f) s.1 (form_over plus_part f s.2)) s.3 in (
        s.1,
        s.0,
        turned_right f g s.2 e,
        subst (λ t. Same (plus b t) (plus a (part_of_form plus_part g))) (sym (form_turned minus_part plus_part minus_of_negative f g e))
            (subst (λ t. Same (plus b (part_of_form plus_part f)) (plus a t)) (sym (form_turned plus_part minus_part plus_of_negative f g e)) turned),
      )
