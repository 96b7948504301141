-- Rule classes tell how axioms and lemmas are used, and nothing of what follows from them.
use Rattle.std.specs.Prelude.{◌≡◌, ◌↔◌, [], ◌∷◌, ◌++◌, length}
use Rattle.nq_logic.specs.Terms.{Name}
use Rattle.nq_logic.specs.Formulas.{Formula}
use Rattle.nq_logic.specs.Histories.{History, Event, AddShell, Declaration, Defines, Axiom, Lemma, Toggle, Shell, Definition, events_definitions}
use Rattle.nq_logic.specs.Ground.{symbols_of}
use Rattle.nq_logic.specs.Names.{is_in_use, is_enabled, before_event}
use Rattle.nq_logic.specs.Derivations.{Derivable}
use Rattle.nq_logic.specs.Admissible.{IsAdmissible}
use Rattle.nq_logic.specs.ShellPrinciple.{shells_of, IsShellAcceptedIn}

-- the event, an axiom or a lemma without its classes
abbrev pub without_class : Event → Event
without_class (AddShell s) = AddShell s
without_class (Declaration f n) = Declaration f n
without_class (Defines d) = Defines d
without_class (Axiom n classes t) = Axiom n [] t
without_class (Lemma n classes t) = Lemma n [] t
without_class (Toggle n old disabled) = Toggle n old disabled

-- the history, each axiom and lemma without its classes
abbrev pub without_classes : History → History
without_classes [] = []
without_classes (e ∷ h) = without_class e ∷ without_classes h

-- what the classes of a history leave as it is
pub record IsSameWithoutClasses (h : History) : Type 0 where
  pub symbols : symbols_of (without_classes h) ≡ symbols_of h
  pub shells : shells_of (without_classes h) ≡ shells_of h
  pub definitions : events_definitions (without_classes h) ≡ events_definitions h
  pub names : (n : Name) → is_in_use n (without_classes h) ≡ is_in_use n h
  pub enabled : (n : Name) → is_enabled n (without_classes h) ≡ is_enabled n h
  pub derivable : (f : Formula) → Derivable (without_classes h) f ↔ Derivable h f
  pub admissible : (d : Definition) → IsAdmissible (without_classes h) d ↔ IsAdmissible h d
  pub events : length (without_classes h) ≡ length h
  pub appended : (more : History) → without_classes (h ++ more) ≡ without_classes h ++ without_classes more
  pub undone : (n : Name) → before_event n (without_classes h) ≡ without_classes (before_event n h)
  pub accepted : (s : Shell) → IsShellAcceptedIn (without_classes h) s ↔ IsShellAcceptedIn h s

-- rule classes change nothing of what follows from a history
abbrev pub ClassesChangeNothing : Type 0
ClassesChangeNothing = (h : History) → IsSameWithoutClasses h
