-- What is known of the truth of a proposition beside a formula, by what is known of its other terms.
use Rattle.std.proofs.Common.{◌≡◌, Bool, true, false, List, [], ◌∷◌, ◌++◌, Option, Some, None, refl, sym, subst, ap, inl}
use Rattle.std.specs.Prelude.{codes, bytes_eq, if◌then◌else◌}
use Rattle.nq_logic.specs.Terms.{Name, Term, Variable, Function, Applied, IsTerm, IsAmong}
use Rattle.nq_logic.specs.Words.{true_term, false_term, if_term, and_term, or_term, implies_term, iff_term}
use Rattle.nq_logic.specs.Formulas.{Formula, Equation, Not, Or, IsFormula, implies, holds}
use Rattle.nq_logic.specs.Histories.{History}
use Rattle.nq_logic.specs.Ground.{symbols_of}
use Rattle.nq_logic.specs.Derivations.{Derivable}
use Rattle.nq_logic.specs.Shapes.{chosen}
use Rattle.nq_logic.proofs.Basic.{well_formed, expanded}
use Rattle.nq_logic.proofs.Contexts.{then_also, then_under}
use Rattle.nq_logic.proofs.Lists.{among_left, among_right}
use Rattle.nq_logic.proofs.Patterns.{Part, No, follows1}
use Rattle.nq_logic.proofs.Equality.{If, falsity_over, if_over, holds_back, holds_on}
use Rattle.nq_logic.proofs.Values.{and_opened, implies_opened, iff_opened, if_holds_first, if_holds_second, first_holds, second_holds}
use Rattle.nq_logic.proofs.Tautologies.{Known, known_truth, known_falsity, known_not, known_or}
use Rattle.nq_bank.proofs.Texts.{bytes_eq-true}
use Rattle.nq_fragments.specs.declared.connective.Connective.{Connective}
use Rattle.nq_fragments.specs.declared.connective.Connective.TheVariants.{And, Or as Either, Implies, Iff}
use Rattle.nq_fragments.specs.Propositions.{Other, Truth, Falsity, Choice, Denial, Joined, proposition_of, others_in, truth_of, joined_truth, connective_of, joined_by}

-- two terms joined
abbrev joined_term : Connective → Term → Term → Term
joined_term And p q = and_term p q
joined_term Either p q = or_term p q
joined_term Implies p q = implies_term p q
joined_term Iff p q = iff_term p q

named_as : (f : Name) (c : Connective) (a b d g : Bool) → bytes_eq f (codes "AND") ≡ a → bytes_eq f (codes "OR") ≡ b → bytes_eq f (codes "IMPLIES") ≡ d → bytes_eq f (codes "IFF") ≡ g →
    (if a then Some And else if b then Some Either else if d then Some Implies else if g then Some Iff else None) ≡ Some c → (p q : Term) → joined_term c p q ≡ Applied (Applied (Function f) p) q
named_as f c true b d g i j k l e p q = let one : And ≡ c = cc in subst (λ (c : Connective). joined_term c p q ≡ Applied (Applied (Function f) p) q) one (ap (λ (x : Name). Applied (Applied (Function x) p) q) (sym (bytes_eq-true f (codes "AND") i)))
named_as f c false true d g i j k l e p q = let one : Either ≡ c = cc in subst (λ (c : Connective). joined_term c p q ≡ Applied (Applied (Function f) p) q) one (ap (λ (x : Name). Applied (Applied (Function x) p) q) (sym (bytes_eq-true f (codes "OR") j)))
named_as f c false false true g i j k l e p q = let one : Implies ≡ c = cc in subst (λ (c : Connective). joined_term c p q ≡ Applied (Applied (Function f) p) q) one (ap (λ (x : Name). Applied (Applied (Function x) p) q) (sym (bytes_eq-true f (codes "IMPLIES") k)))
named_as f c false false false true i j k l e p q = let one : Iff ≡ c = cc in subst (λ (c : Connective). joined_term c p q ≡ Applied (Applied (Function f) p) q) one (ap (λ (x : Name). Applied (Applied (Function x) p) q) (sym (bytes_eq-true f (codes "IFF") l)))
named_as f c false false false false i j k l e p q = absurd cc

module _ (h : History) (d : Formula) (od : IsFormula (symbols_of h) d) where
  abbrev Is : Bool → Term → Type 0
  Is = Known h d od

  is_over : (b : Bool) (t : Term) → Is b t → IsTerm (symbols_of h) t
  is_over true t k = (well_formed h (Or d (holds t)) k).1.0
  is_over false t k = (well_formed h (Or d (Not (holds t))) k).1.0

  -- a term that equals another is as true
  is_equal : (b : Bool) (s t : Term) → Derivable h (Equation s t) → Is b t → Is b s
  is_equal true s t e k =
      let o = well_formed h (Equation s t) e in
      then_under h d (holds t) (holds s) k (then_also h d (Equation s t) (implies (holds t) (holds s)) (expanded h d (Equation s t) od e) (holds_back h s t o.0 o.1))
  is_equal false s t e k =
      let o = well_formed h (Equation s t) e in
      let f = falsity_over h in
      let back : Derivable h (implies (Equation s t) (implies (Not (holds t)) (Not (holds s)))) =
      follows1 h (Equation s t ∷ holds s ∷ holds t ∷ []) (o, ((o.0, f), ((o.1, f), tt))) (If (Part 0) (If (Part 1) (Part 2))) (If (Part 0) (If (No (Part 2)) (No (Part 1)))) refl (holds_on h s t o.0 o.1) in
      then_under h d (Not (holds t)) (Not (holds s)) k (then_also h d (Equation s t) (implies (Not (holds t)) (Not (holds s))) (expanded h d (Equation s t) od e) back)

  is_choice : (a b c : Bool) (p x y : Term) → Is a p → Is b x → Is c y → Is (chosen a b c) (if_term p x y)
  is_choice true true c p x y k l m =
      then_under h d (holds x) (holds (if_term p x y)) l (then_also h d (holds p) _ k (if_holds_first h p x y (is_over true p k) (is_over true x l) (is_over c y m)))
  is_choice true false c p x y k l m =
      let op = is_over true p k in
      let ox = is_over false x l in
      let oy = is_over c y m in
      let f = falsity_over h in
      then_under h d (Not (holds x)) (Not (holds (if_term p x y))) l (then_also h d (holds p) _ k
      (follows1 h (holds p ∷ holds x ∷ holds (if_term p x y) ∷ []) ((op, f), ((ox, f), ((if_over h p x y op ox oy, f), tt)))
      (If (Part 0) (If (Part 2) (Part 1))) (If (Part 0) (If (No (Part 1)) (No (Part 2)))) refl (first_holds h p x y op ox oy)))
  is_choice false b true p x y k l m =
      then_under h d (holds y) (holds (if_term p x y)) m (then_also h d (Not (holds p)) _ k (if_holds_second h p x y (is_over false p k) (is_over b x l) (is_over true y m)))
  is_choice false b false p x y k l m =
      let op = is_over false p k in
      let ox = is_over b x l in
      let oy = is_over false y m in
      let f = falsity_over h in
      then_under h d (Not (holds y)) (Not (holds (if_term p x y))) m (then_also h d (Not (holds p)) _ k
      (follows1 h (holds p ∷ holds y ∷ holds (if_term p x y) ∷ []) ((op, f), ((oy, f), ((if_over h p x y op ox oy, f), tt)))
      (If (No (Part 0)) (If (Part 2) (Part 1))) (If (No (Part 0)) (If (No (Part 1)) (No (Part 2)))) refl (second_holds h p x y op ox oy)))

  -- (IF q T F) is as true as q
  is_test : (b : Bool) (q : Term) → Is b q → Is b (if_term q true_term false_term)
  is_test true q k = is_choice true true false q true_term false_term k (known_truth h d od) (known_falsity h d od)
  is_test false q k = is_choice false true false q true_term false_term k (known_truth h d od) (known_falsity h d od)

  is_joined : (c : Connective) (a b : Bool) (p q : Term) → Is a p → Is b q → Is (joined_truth c a b) (joined_term c p q)
  is_joined And a b p q k l =
      is_equal (chosen a b false) (and_term p q) (if_term p (if_term q true_term false_term) false_term) (and_opened h p q (is_over a p k) (is_over b q l))
      (is_choice a b false p (if_term q true_term false_term) false_term k (is_test b q l) (known_falsity h d od))
  is_joined Either a b p q k l = known_or h d od a b p q k l
  is_joined Implies a b p q k l =
      is_equal (chosen a b true) (implies_term p q) (if_term p (if_term q true_term false_term) true_term) (implies_opened h p q (is_over a p k) (is_over b q l))
      (is_choice a b true p (if_term q true_term false_term) true_term k (is_test b q l) (known_truth h d od))
  is_joined Iff a b p q k l =
      is_equal (chosen a b (chosen b false true)) (iff_term p q) (if_term p (if_term q true_term false_term) (if_term q false_term true_term)) (iff_opened h p q (is_over a p k) (is_over b q l))
      (is_choice a b (chosen b false true) p (if_term q true_term false_term) (if_term q false_term true_term) k (is_test b q l)
      (is_choice b false true q false_term true_term l (known_falsity h d od) (known_truth h d od)))

  module _ (values : Term → Bool) where
    -- each of these terms is as true as the values say
    abbrev AreAs : List Term → Type 0
    AreAs us = (u : Term) → IsAmong u us → Is (values u) u

    of_left : (us vs : List Term) → AreAs (us ++ vs) → AreAs us
    of_left us vs are u m = are u (among_left u us vs m)

    of_right : (us vs : List Term) → AreAs (us ++ vs) → AreAs vs
    of_right us vs are u m = are u (among_right u us vs m)

    other_is : (t : Term) → AreAs (t ∷ []) → Is (values t) t
    other_is t are = are t (inl refl)

    constant_is : (f : Name) (b c : Bool) → bytes_eq f (codes "TRUE") ≡ b → bytes_eq f (codes "FALSE") ≡ c → AreAs (others_in (if b then Truth else if c then Falsity else Other (Function f))) →
        Is (truth_of values (if b then Truth else if c then Falsity else Other (Function f))) (Function f)
    constant_is f true c e k are = subst (λ (g : Name). Is true (Function g)) (sym (bytes_eq-true f (codes "TRUE") e)) (known_truth h d od)
    constant_is f false true e k are = subst (λ (g : Name). Is false (Function g)) (sym (bytes_eq-true f (codes "FALSE") k)) (known_falsity h d od)
    constant_is f false false e k are = other_is (Function f) are

    -- a proposition is as true as the values of its other terms say
    pub proposition_is : (t : Term) → AreAs (others_in (proposition_of t)) → Is (truth_of values (proposition_of t)) t
    unfolding proposition_of
    proposition_is (Variable x) are = other_is (Variable x) are
    proposition_is (Function f) are = constant_is f (bytes_eq f (codes "TRUE")) (bytes_eq f (codes "FALSE")) refl refl are
    proposition_is (Applied (Variable z) p) are = other_is (Applied (Variable z) p) are
    proposition_is (Applied (Function f) p) are = by_test (proposition_is p) (bytes_eq f (codes "NOT")) refl are
      where
        by_test : (AreAs (others_in (proposition_of p)) → Is (truth_of values (proposition_of p)) p) → (b : Bool) → bytes_eq f (codes "NOT") ≡ b →
            AreAs (others_in (if b then Denial (proposition_of p) else Other (Applied (Function f) p))) →
            Is (truth_of values (if b then Denial (proposition_of p) else Other (Applied (Function f) p))) (Applied (Function f) p)
        by_test rest true e are =
            subst (λ (g : Name). Is (truth_of values (Denial (proposition_of p))) (Applied (Function g) p)) (sym (bytes_eq-true f (codes "NOT") e))
            (known_not h d od (truth_of values (proposition_of p)) p (rest are))
        by_test rest false e are = other_is (Applied (Function f) p) are
    proposition_is (Applied (Applied (Variable z) p) q) are = other_is (Applied (Applied (Variable z) p) q) are
    proposition_is (Applied (Applied (Function f) p) q) are = by_name (proposition_is p) (proposition_is q) (connective_of f) refl are
      where
        whole : Term
        whole = Applied (Applied (Function f) p) q

        by_name : (AreAs (others_in (proposition_of p)) → Is (truth_of values (proposition_of p)) p) → (AreAs (others_in (proposition_of q)) → Is (truth_of values (proposition_of q)) q) →
            (o : Option Connective) → connective_of f ≡ o → AreAs (others_in (joined_by o whole (proposition_of p) (proposition_of q))) →
            Is (truth_of values (joined_by o whole (proposition_of p) (proposition_of q))) whole
        by_name left right None e are = other_is whole are
        by_name left right (Some c) e are =
            let first = left (of_left (others_in (proposition_of p)) (others_in (proposition_of q)) are) in
            let second = right (of_right (others_in (proposition_of p)) (others_in (proposition_of q)) are) in
            subst (λ (u : Term). Is (truth_of values (Joined c (proposition_of p) (proposition_of q))) u)
            (named_as f c (bytes_eq f (codes "AND")) (bytes_eq f (codes "OR")) (bytes_eq f (codes "IMPLIES")) (bytes_eq f (codes "IFF")) refl refl refl refl e p q)
            (is_joined c (truth_of values (proposition_of p)) (truth_of values (proposition_of q)) p q first second)
    proposition_is (Applied (Applied (Applied (Variable z) p) q) r) are = other_is (Applied (Applied (Applied (Variable z) p) q) r) are
    proposition_is (Applied (Applied (Applied (Applied t o) p) q) r) are = other_is (Applied (Applied (Applied (Applied t o) p) q) r) are
    proposition_is (Applied (Applied (Applied (Function f) p) q) r) are = by_test (proposition_is p) (proposition_is q) (proposition_is r) (bytes_eq f (codes "IF")) refl are
      where
        whole : Term
        whole = Applied (Applied (Applied (Function f) p) q) r

        by_test : (AreAs (others_in (proposition_of p)) → Is (truth_of values (proposition_of p)) p) → (AreAs (others_in (proposition_of q)) → Is (truth_of values (proposition_of q)) q) →
            (AreAs (others_in (proposition_of r)) → Is (truth_of values (proposition_of r)) r) → (b : Bool) → bytes_eq f (codes "IF") ≡ b →
            AreAs (others_in (if b then Choice (proposition_of p) (proposition_of q) (proposition_of r) else Other whole)) →
            Is (truth_of values (if b then Choice (proposition_of p) (proposition_of q) (proposition_of r) else Other whole)) whole
        by_test test first second false e are = other_is whole are
        by_test test first second true e are =
            let branches = of_right (others_in (proposition_of p)) (others_in (proposition_of q) ++ others_in (proposition_of r)) are in
            let one = test (of_left (others_in (proposition_of p)) (others_in (proposition_of q) ++ others_in (proposition_of r)) are) in
            let two = first (of_left (others_in (proposition_of q)) (others_in (proposition_of r)) branches) in
            let three = second (of_right (others_in (proposition_of q)) (others_in (proposition_of r)) branches) in
            subst (λ (g : Name). Is (truth_of values (Choice (proposition_of p) (proposition_of q) (proposition_of r))) (Applied (Applied (Applied (Function g) p) q) r)) (sym (bytes_eq-true f (codes "IF") e))
            (is_choice (truth_of values (proposition_of p)) (truth_of values (proposition_of q)) (truth_of values (proposition_of r)) p q r one two three)
