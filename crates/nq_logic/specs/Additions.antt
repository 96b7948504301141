-- What events add to a history: lemmas, toggles and declarations add no axioms.
use Rattle.std.specs.Prelude.{◌≡◌, ◌↔◌, ℕ, List, [], ◌∷◌}
use Rattle.nq_logic.specs.Formulas.{Formula}
use Rattle.nq_logic.specs.Histories.{History, AddShell, Declaration, Defines, Axiom, Lemma, Toggle}
use Rattle.nq_logic.specs.Ground.{symbols_of}
use Rattle.nq_logic.specs.Derivations.{Derivable, IsAxiom}

-- the history without its lemmas and toggles
abbrev pub without_lemmas : History → History
without_lemmas [] = []
without_lemmas (AddShell s ∷ h) = AddShell s ∷ without_lemmas h
without_lemmas (Declaration f n ∷ h) = Declaration f n ∷ without_lemmas h
without_lemmas (Defines d ∷ h) = Defines d ∷ without_lemmas h
without_lemmas (Axiom n classes t ∷ h) = Axiom n classes t ∷ without_lemmas h
without_lemmas (Lemma n classes t ∷ h) = without_lemmas h
without_lemmas (Toggle n old disabled ∷ h) = without_lemmas h

-- lemmas and toggles add nothing: what is derivable from a history is derivable without them
pub record IsSameWithoutLemmas (h : History) : Type 0 where
  pub symbols : symbols_of (without_lemmas h) ≡ symbols_of h
  pub axioms : (f : Formula) → IsAxiom (without_lemmas h) f ↔ IsAxiom h f
  pub derivable : (f : Formula) → Derivable (without_lemmas h) f ↔ Derivable h f

abbrev pub LemmasAddNothing : Type 0
LemmasAddNothing = (h : History) → IsSameWithoutLemmas h

-- a declaration adds a function, and no axiom
abbrev pub DeclarationsAddNoAxiom : Type 0
DeclarationsAddNoAxiom = (f : List ℕ) (n : ℕ) (h : History) (a : Formula) → IsAxiom (Declaration f n ∷ h) a → IsAxiom h a
