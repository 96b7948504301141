-- What is derivable in one history is derivable in another that has its symbols and its axioms.
use Rattle.std.proofs.Common.{◌≡◌, ℕ, zero, suc, List, [], ◌∷◌, ◌++◌, sym, ap, ◌∙◌, subst}
use Rattle.nq_logic.specs.Terms.{Name, IsAmong, Symbol, Term, Variable, Function, Applied, Takes}
use Rattle.nq_logic.specs.Formulas.{Formula, Equation, Not, Or, IsFormula}
use Rattle.nq_logic.specs.Histories.{RuleClass, History, Axiom, events_definitions, events_shells}
use Rattle.nq_logic.specs.Ground.{symbols_of, ground_definitions, ground_shells}
use Rattle.nq_logic.specs.Derivations.{Derivable, IsDerivation, Inference, excluded_middle, reflexive, congruent, equal_ends, axiom_of, expansion, contraction, associativity, cut, instantiation, induction, IsAxiom, truth_is_not_falsity, equal_of_same, equal_of_different, if_false, if_true, size_is_number, one_less_is_less, definition, shell, added}

pub takes_grows : (s s' : List Symbol) → ((x : Symbol) → IsAmong x s → IsAmong x s') → (t : Term) (n : ℕ) → Takes s t n → Takes s' t n
takes_grows s s' f (Variable x) zero o = tt
takes_grows s s' f (Variable x) (suc n) o = absurd o
takes_grows s s' f (Function g) n o = f (g, n) o
takes_grows s s' f (Applied t u) n o = (takes_grows s s' f t (suc n) o.0, takes_grows s s' f u zero o.1)

formula_grows : (s s' : List Symbol) → ((x : Symbol) → IsAmong x s → IsAmong x s') → (a : Formula) → IsFormula s a → IsFormula s' a
formula_grows s s' f (Equation a b) o = (takes_grows s s' f a zero o.0, takes_grows s s' f b zero o.1)
formula_grows s s' f (Not a) o = formula_grows s s' f a o
formula_grows s s' f (Or a b) o = (formula_grows s s' f a o.0, formula_grows s s' f b o.1)

module _ (h h' : History) (symbols : (x : Symbol) → IsAmong x (symbols_of h) → IsAmong x (symbols_of h')) (axioms : (f : Formula) → IsAxiom h f → IsAxiom h' f) where
  inference_carried : {premises : List Formula} {f : Formula} → Inference h premises f → Inference h' premises f
  inference_carried (excluded_middle a) = excluded_middle a
  inference_carried (reflexive t) = reflexive t
  inference_carried (congruent f pairs) = congruent f pairs
  inference_carried (equal_ends a b c d) = equal_ends a b c d
  inference_carried (axiom_of a x) = axiom_of a (axioms a x)
  inference_carried (expansion a b) = expansion a b
  inference_carried (contraction a) = contraction a
  inference_carried (associativity a b c) = associativity a b c
  inference_carried (cut a b c) = cut a b c
  inference_carried (instantiation a s) = instantiation a s
  inference_carried (induction p m cases) = induction p m cases

  derivation_carried : (list : List Formula) → IsDerivation h list → IsDerivation h' list
  derivation_carried [] d = tt
  derivation_carried (f ∷ earlier) d =
      (formula_grows (symbols_of h) (symbols_of h') symbols f d.0, d.1, inference_carried d.2, d.3, derivation_carried earlier d.4)

  pub derivable_carried : (f : Formula) → Derivable h f → Derivable h' f
  unfolding Derivable
  derivable_carried f d = (d.0, derivation_carried (f ∷ d.0) d.1)

-- the axioms of a history are those of another with the same definitions and shells and the same added axioms
pub axiom_kept :
    (h h' : History) → events_definitions h' ≡ events_definitions h → events_shells h' ≡ events_shells h →
    ((n : Name) (classes : List RuleClass) (t : Term) → IsAmong (Axiom n classes t) h → (others : List RuleClass) × IsAmong (Axiom n others t) h') →
    (f : Formula) → IsAxiom h f → IsAxiom h' f
axiom_kept h h' definitions shells axioms f truth_is_not_falsity = truth_is_not_falsity
axiom_kept h h' definitions shells axioms f equal_of_same = equal_of_same
axiom_kept h h' definitions shells axioms f equal_of_different = equal_of_different
axiom_kept h h' definitions shells axioms f if_false = if_false
axiom_kept h h' definitions shells axioms f if_true = if_true
axiom_kept h h' definitions shells axioms f size_is_number = size_is_number
axiom_kept h h' definitions shells axioms f one_less_is_less = one_less_is_less
axiom_kept h h' definitions shells axioms f (definition d m) = definition d (subst (λ all. IsAmong d (ground_definitions ++ all)) (sym definitions) m)
axiom_kept h h' definitions shells axioms f (shell earlier later s row part literals e c) =
    shell earlier later s row part literals (ap (λ all. ground_shells ++ all) shells ∙ e) c
axiom_kept h h' definitions shells axioms f (added n classes t m) = let other = axioms n classes t m in added n other.0 t other.1
