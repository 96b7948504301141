-- A term that is true whatever the values of its other terms are is derivable.
use Rattle.std.proofs.Common.{◌≡◌, ℕ, zero, suc, Bool, true, false, List, [], ◌∷◌, length, refl, subst}
use Rattle.nq_logic.specs.Terms.{Each, Term, IsTerm}
use Rattle.nq_logic.specs.Words.{true_term, false_term, if_term, not_term, and_term, or_term, implies_term, iff_term}
use Rattle.nq_logic.specs.Formulas.{Formula, Equation, Not, Or, IsFormula, implies, holds}
use Rattle.nq_logic.specs.Histories.{History}
use Rattle.nq_logic.specs.Ground.{symbols_of}
use Rattle.nq_logic.specs.Derivations.{Derivable}
use Rattle.nq_logic.specs.Shapes.{Shape, Other, Truth, Falsity, Choice, Negation, Conjunction, Disjunction, Implication, Equivalence, term_in, shaped, chosen, truth_of, Tautology}
use Rattle.nq_logic.proofs.Basic.{well_formed, detached, expanded}
use Rattle.nq_logic.proofs.Contexts.{Under, then_also, then_under}
use Rattle.nq_logic.proofs.Patterns.{Part, No, signed, value_in, always, both_of, Settled, concluded, truth_equation, follows1}
use Rattle.nq_logic.proofs.Equality.{If, same, falsity_over, truth_over, if_over, truth_is_no_falsity, holds_back, holds_on}
use Rattle.nq_logic.proofs.Values.{not_holds, not_fails, and_opened, or_opened, implies_opened, iff_opened, if_holds_first, if_holds_second, first_holds, second_holds}

always_true : (n : ℕ) (test : List Bool → Bool) → ((bs : List Bool) → test bs ≡ true) → always n test ≡ true
always_true zero test f = f []
always_true (suc n) test f =
    both_true (always n (λ bs. test (true ∷ bs))) (always n (λ bs. test (false ∷ bs))) (always_true n (λ bs. test (true ∷ bs)) (λ bs. f (true ∷ bs))) (always_true n (λ bs. test (false ∷ bs)) (λ bs. f (false ∷ bs)))
  where
    both_true : (a b : Bool) → a ≡ true → b ≡ true → both_of a b ≡ true
    both_true true b e e' = e'
    both_true false b e e' = e

module _ (h : History) where
  abbrev literals : List Term → List Formula
  literals [] = []
  literals (t ∷ ts) = holds t ∷ literals ts

  literals_over : (ts : List Term) → Each (IsTerm (symbols_of h)) ts → Each (IsFormula (symbols_of h)) (literals ts)
  literals_over [] os = tt
  literals_over (t ∷ ts) os = ((os.0, falsity_over h), literals_over ts os.1)

  -- where p does not hold, neither does what equals it
  fails_back : (a b : Term) → IsTerm (symbols_of h) a → IsTerm (symbols_of h) b → Derivable h (implies (Equation a b) (implies (Not (holds b)) (Not (holds a))))
  fails_back a b oa ob =
      let f = falsity_over h in
      follows1 h (Equation a b ∷ holds a ∷ holds b ∷ []) ((oa, ob), ((oa, f), ((ob, f), tt)))
      (If (Part 0) (If (Part 1) (Part 2))) (If (Part 0) (If (No (Part 2)) (No (Part 1)))) refl (holds_on h a b oa ob)

  module _ (d : Formula) (od : IsFormula (symbols_of h) d) where
    -- what is known of the truth of t beside d
    abbrev pub Known : Bool → Term → Type 0
    Known b t = Under h d (signed b (holds t))

    known_over : (b : Bool) (t : Term) → Known b t → IsTerm (symbols_of h) t
    known_over true t k = (well_formed h (Or d (holds t)) k).1.0
    known_over false t k = (well_formed h (Or d (Not (holds t))) k).1.0

    known_equal : (b : Bool) (s t : Term) → IsTerm (symbols_of h) s → IsTerm (symbols_of h) t → Derivable h (Equation s t) → Known b t → Known b s
    known_equal true s t os ot e k =
        then_under h d (holds t) (holds s) k (then_also h d (Equation s t) (implies (holds t) (holds s)) (expanded h d (Equation s t) od e) (holds_back h s t os ot))
    known_equal false s t os ot e k =
        then_under h d (Not (holds t)) (Not (holds s)) k (then_also h d (Equation s t) (implies (Not (holds t)) (Not (holds s))) (expanded h d (Equation s t) od e) (fails_back s t os ot))

    pub known_truth : Known true true_term
    known_truth = expanded h d (holds true_term) od (truth_is_no_falsity h)

    pub known_falsity : Known false false_term
    known_falsity =
        let f = falsity_over h in
        expanded h d (Not (holds false_term)) od
        (follows1 h (Equation false_term false_term ∷ []) ((f, f), tt) (Part 0) (No (No (Part 0))) refl (same h false_term f))

    known_choice : (a b c : Bool) (p x y : Term) → Known a p → Known b x → Known c y → Known (chosen a b c) (if_term p x y)
    known_choice true true c p x y k l m =
        let op = known_over true p k in
        let ox = known_over true x l in
        let oy = known_over c y m in
        then_under h d (holds x) (holds (if_term p x y)) l (then_also h d (holds p) _ k (if_holds_first h p x y op ox oy))
    known_choice true false c p x y k l m =
        let op = known_over true p k in
        let ox = known_over false x l in
        let oy = known_over c y m in
        let f = falsity_over h in
        let oc = if_over h p x y op ox oy in
        then_under h d (Not (holds x)) (Not (holds (if_term p x y))) l (then_also h d (holds p) _ k
        (follows1 h (holds p ∷ holds x ∷ holds (if_term p x y) ∷ []) ((op, f), ((ox, f), ((oc, f), tt)))
        (If (Part 0) (If (Part 2) (Part 1))) (If (Part 0) (If (No (Part 1)) (No (Part 2)))) refl (first_holds h p x y op ox oy)))
    known_choice false b true p x y k l m =
        let op = known_over false p k in
        let ox = known_over b x l in
        let oy = known_over true y m in
        then_under h d (holds y) (holds (if_term p x y)) m (then_also h d (Not (holds p)) _ k (if_holds_second h p x y op ox oy))
    known_choice false b false p x y k l m =
        let op = known_over false p k in
        let ox = known_over b x l in
        let oy = known_over false y m in
        let f = falsity_over h in
        let oc = if_over h p x y op ox oy in
        then_under h d (Not (holds y)) (Not (holds (if_term p x y))) m (then_also h d (Not (holds p)) _ k
        (follows1 h (holds p ∷ holds y ∷ holds (if_term p x y) ∷ []) ((op, f), ((oy, f), ((oc, f), tt)))
        (If (No (Part 0)) (If (Part 2) (Part 1))) (If (No (Part 0)) (If (No (Part 1)) (No (Part 2)))) refl (second_holds h p x y op ox oy)))

    pub known_not : (a : Bool) (p : Term) → Known a p → Known (chosen a false true) (not_term p)
    known_not true p k = then_also h d (holds p) (Not (holds (not_term p))) k (not_fails h p (known_over true p k))
    known_not false p k = then_also h d (Not (holds p)) (holds (not_term p)) k (not_holds h p (known_over false p k))

    chosen_same : (a : Bool) → chosen a true false ≡ a
    chosen_same true = refl
    chosen_same false = refl

    -- (IF q T F) is as true as q
    known_test : (b : Bool) (q : Term) → Known b q → Known b (if_term q true_term false_term)
    known_test b q k = subst (λ c. Known c (if_term q true_term false_term)) (chosen_same b) (known_choice b true false q true_term false_term k known_truth known_falsity)

    known_and : (a b : Bool) (p q : Term) → Known a p → Known b q → Known (chosen a b false) (and_term p q)
    known_and a b p q k l =
        let op = known_over a p k in
        let oq = known_over b q l in
        let e = and_opened h p q op oq in
        let o = well_formed h (Equation (and_term p q) (if_term p (if_term q true_term false_term) false_term)) e in
        known_equal (chosen a b false) (and_term p q) (if_term p (if_term q true_term false_term) false_term) o.0 o.1 e
        (known_choice a b false p (if_term q true_term false_term) false_term k (known_test b q l) known_falsity)

    pub known_or : (a b : Bool) (p q : Term) → Known a p → Known b q → Known (chosen a true b) (or_term p q)
    known_or a b p q k l =
        let op = known_over a p k in
        let oq = known_over b q l in
        let e = or_opened h p q op oq in
        let o = well_formed h (Equation (or_term p q) (if_term p true_term (if_term q true_term false_term))) e in
        known_equal (chosen a true b) (or_term p q) (if_term p true_term (if_term q true_term false_term)) o.0 o.1 e
        (known_choice a true b p true_term (if_term q true_term false_term) k known_truth (known_test b q l))

    known_implies : (a b : Bool) (p q : Term) → Known a p → Known b q → Known (chosen a b true) (implies_term p q)
    known_implies a b p q k l =
        let op = known_over a p k in
        let oq = known_over b q l in
        let e = implies_opened h p q op oq in
        let o = well_formed h (Equation (implies_term p q) (if_term p (if_term q true_term false_term) true_term)) e in
        known_equal (chosen a b true) (implies_term p q) (if_term p (if_term q true_term false_term) true_term) o.0 o.1 e
        (known_choice a b true p (if_term q true_term false_term) true_term k (known_test b q l) known_truth)

    known_iff : (a b : Bool) (p q : Term) → Known a p → Known b q → Known (chosen a b (chosen b false true)) (iff_term p q)
    known_iff a b p q k l =
        let op = known_over a p k in
        let oq = known_over b q l in
        let e = iff_opened h p q op oq in
        let o = well_formed h (Equation (iff_term p q) (if_term p (if_term q true_term false_term) (if_term q false_term true_term))) e in
        known_equal (chosen a b (chosen b false true)) (iff_term p q) (if_term p (if_term q true_term false_term) (if_term q false_term true_term)) o.0 o.1 e
        (known_choice a b (chosen b false true) p (if_term q true_term false_term) (if_term q false_term true_term) k (known_test b q l)
        (known_choice b false true q false_term true_term l known_falsity known_truth))

    known_other : (bs : List Bool) (ts : List Term) → Settled h d bs (literals ts) → (i : ℕ) → Known (value_in bs i) (term_in ts i)
    known_other [] [] s i = known_truth
    known_other [] (t ∷ ts) s i = absurd s
    known_other (b ∷ bs) [] s i = absurd s
    known_other (b ∷ bs) (t ∷ ts) s zero = s.0
    known_other (b ∷ bs) (t ∷ ts) s (suc i) = known_other bs ts s.1 i

    known_shape : (bs : List Bool) (ts : List Term) → Settled h d bs (literals ts) → (shape : Shape) → Known (truth_of (value_in bs) shape) (shaped ts shape)
    known_shape bs ts s (Other i) = known_other bs ts s i
    known_shape bs ts s Truth = known_truth
    known_shape bs ts s Falsity = known_falsity
    known_shape bs ts s (Choice p x y) = known_choice _ _ _ _ _ _ (known_shape bs ts s p) (known_shape bs ts s x) (known_shape bs ts s y)
    known_shape bs ts s (Negation p) = known_not _ _ (known_shape bs ts s p)
    known_shape bs ts s (Conjunction p q) = known_and _ _ _ _ (known_shape bs ts s p) (known_shape bs ts s q)
    known_shape bs ts s (Disjunction p q) = known_or _ _ _ _ (known_shape bs ts s p) (known_shape bs ts s q)
    known_shape bs ts s (Implication p q) = known_implies _ _ _ _ (known_shape bs ts s p) (known_shape bs ts s q)
    known_shape bs ts s (Equivalence p q) = known_iff _ _ _ _ (known_shape bs ts s p) (known_shape bs ts s q)

pub tautology_law : Tautology
tautology_law h ts shape os e =
    let same_truth = Equation true_term true_term in
    let goal = holds (shaped ts shape) in
    detached h same_truth goal (truth_equation h)
    (concluded h (literals h ts) (literals_over h ts os) (Not same_truth) goal (truth_over h, truth_over h) (λ bs. truth_of (value_in bs) shape)
    (always_true (length (literals h ts)) (λ bs. truth_of (value_in bs) shape) (λ bs. e (value_in bs)))
    (λ bs d od below s t. subst (λ b. Under h d (signed b goal)) t (known_shape h d od bs ts s shape)))
