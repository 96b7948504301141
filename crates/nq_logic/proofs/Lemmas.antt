-- Lemmas, toggles and declarations add no axioms.
use Rattle.std.proofs.Common.{◌≡◌, ℕ, List, [], ◌∷◌, ◌++◌, inl, inr, refl, sym, ap, subst}
use Rattle.nq_logic.specs.Terms.{Name, Term, IsAmong}
use Rattle.nq_logic.specs.Formulas.{Formula}
use Rattle.nq_logic.specs.Histories.{RuleClass, History, AddShell, Declaration, Defines, Axiom, Lemma, Toggle, event_symbols, events_symbols, events_shells, events_definitions}
use Rattle.nq_logic.specs.Ground.{symbols_of, ground_symbols}
use Rattle.nq_logic.specs.Derivations.{IsAxiom}
use Rattle.nq_logic.specs.Additions.{without_lemmas, LemmasAddNothing, DeclarationsAddNoAxiom}
use Rattle.nq_logic.proofs.Carrying.{axiom_kept, derivable_carried}

all_symbols_same : (h : History) → events_symbols (without_lemmas h) ≡ events_symbols h
all_symbols_same [] = refl
all_symbols_same (AddShell s ∷ h) = ap (λ rest. event_symbols (AddShell s) ++ rest) (all_symbols_same h)
all_symbols_same (Declaration f n ∷ h) = ap (λ rest. (f, n) ∷ rest) (all_symbols_same h)
all_symbols_same (Defines d ∷ h) = ap (λ rest. event_symbols (Defines d) ++ rest) (all_symbols_same h)
all_symbols_same (Axiom n classes t ∷ h) = all_symbols_same h
all_symbols_same (Lemma n classes t ∷ h) = all_symbols_same h
all_symbols_same (Toggle n old disabled ∷ h) = all_symbols_same h

all_shells_same : (h : History) → events_shells (without_lemmas h) ≡ events_shells h
all_shells_same [] = refl
all_shells_same (AddShell s ∷ h) = ap (λ rest. s ∷ rest) (all_shells_same h)
all_shells_same (Declaration f n ∷ h) = all_shells_same h
all_shells_same (Defines d ∷ h) = all_shells_same h
all_shells_same (Axiom n classes t ∷ h) = all_shells_same h
all_shells_same (Lemma n classes t ∷ h) = all_shells_same h
all_shells_same (Toggle n old disabled ∷ h) = all_shells_same h

definitions_same : (h : History) → events_definitions (without_lemmas h) ≡ events_definitions h
definitions_same [] = refl
definitions_same (AddShell s ∷ h) = definitions_same h
definitions_same (Declaration f n ∷ h) = definitions_same h
definitions_same (Defines d ∷ h) = ap (λ rest. d ∷ rest) (definitions_same h)
definitions_same (Axiom n classes t ∷ h) = definitions_same h
definitions_same (Lemma n classes t ∷ h) = definitions_same h
definitions_same (Toggle n old disabled ∷ h) = definitions_same h

symbols_same : (h : History) → symbols_of (without_lemmas h) ≡ symbols_of h
unfolding symbols_of
symbols_same h = ap (λ rest. ground_symbols ++ rest) (all_symbols_same h)

module _ (n : Name) (classes : List RuleClass) (t : Term) where
  -- an axiom is left among the events
  kept_axiom : (h : History) → IsAmong (Axiom n classes t) h → IsAmong (Axiom n classes t) (without_lemmas h)
  kept_axiom [] m = absurd m
  kept_axiom (AddShell s ∷ h) (inl e) = absurd cc
  kept_axiom (AddShell s ∷ h) (inr m) = inr (kept_axiom h m)
  kept_axiom (Declaration f k ∷ h) (inl e) = absurd cc
  kept_axiom (Declaration f k ∷ h) (inr m) = inr (kept_axiom h m)
  kept_axiom (Defines d ∷ h) (inl e) = absurd cc
  kept_axiom (Defines d ∷ h) (inr m) = inr (kept_axiom h m)
  kept_axiom (Axiom name others u ∷ h) (inl e) = inl e
  kept_axiom (Axiom name others u ∷ h) (inr m) = inr (kept_axiom h m)
  kept_axiom (Lemma name others u ∷ h) (inl e) = absurd cc
  kept_axiom (Lemma name others u ∷ h) (inr m) = kept_axiom h m
  kept_axiom (Toggle name old disabled ∷ h) (inl e) = absurd cc
  kept_axiom (Toggle name old disabled ∷ h) (inr m) = kept_axiom h m

  found_axiom : (h : History) → IsAmong (Axiom n classes t) (without_lemmas h) → IsAmong (Axiom n classes t) h
  found_axiom [] m = absurd m
  found_axiom (AddShell s ∷ h) (inl e) = inl e
  found_axiom (AddShell s ∷ h) (inr m) = inr (found_axiom h m)
  found_axiom (Declaration f k ∷ h) (inl e) = inl e
  found_axiom (Declaration f k ∷ h) (inr m) = inr (found_axiom h m)
  found_axiom (Defines d ∷ h) (inl e) = inl e
  found_axiom (Defines d ∷ h) (inr m) = inr (found_axiom h m)
  found_axiom (Axiom name others u ∷ h) (inl e) = inl e
  found_axiom (Axiom name others u ∷ h) (inr m) = inr (found_axiom h m)
  found_axiom (Lemma name others u ∷ h) m = inr (found_axiom h m)
  found_axiom (Toggle name old disabled ∷ h) m = inr (found_axiom h m)

module _ (h : History) where
  axiom_onto : (f : Formula) → IsAxiom h f → IsAxiom (without_lemmas h) f
  axiom_onto = axiom_kept h (without_lemmas h) (definitions_same h) (all_shells_same h) (λ n classes t m. (classes, kept_axiom n classes t h m))

  axiom_back : (f : Formula) → IsAxiom (without_lemmas h) f → IsAxiom h f
  axiom_back = axiom_kept (without_lemmas h) h (sym (definitions_same h)) (sym (all_shells_same h)) (λ n classes t m. (classes, found_axiom n classes t h m))

pub lemmas_add_nothing_law : LemmasAddNothing
lemmas_add_nothing_law h = record {
  symbols = symbols_same h;
  axioms = λ f. (axiom_back h f, axiom_onto h f);
  derivable = λ f. (
    derivable_carried (without_lemmas h) h (λ x m. subst (IsAmong x) (symbols_same h) m) (axiom_back h) f,
    derivable_carried h (without_lemmas h) (λ x m. subst (IsAmong x) (sym (symbols_same h)) m) (axiom_onto h) f,
  );
}

declared_no_axiom : (f : Name) (k : ℕ) (h : History) (n : Name) (classes : List RuleClass) (t : Term) → IsAmong (Axiom n classes t) (Declaration f k ∷ h) → IsAmong (Axiom n classes t) h
declared_no_axiom f k h n classes t (inl e) = absurd cc
declared_no_axiom f k h n classes t (inr m) = m

pub declarations_add_no_axiom_law : DeclarationsAddNoAxiom
declarations_add_no_axiom_law f k h = axiom_kept (Declaration f k ∷ h) h refl refl (λ n classes t m. (classes, declared_no_axiom f k h n classes t m))
