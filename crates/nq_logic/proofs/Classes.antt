-- Rule classes change nothing of what follows from a history.
use Rattle.std.proofs.Common.{◌≡◌, suc, Bool, true, false, List, [], ◌∷◌, ◌++◌, length, inl, inr, refl, sym, ap, ◌∙◌, subst}
use Rattle.std.specs.Prelude.{Option, Some, None, ◌||◌, bytes_eq, if◌then◌else◌}
use Rattle.nq_logic.specs.Terms.{Name, Term, IsAmong, IsTerm}
use Rattle.nq_logic.specs.Formulas.{Formula}
use Rattle.nq_logic.specs.Histories.{RuleClass, History, Event, AddShell, Declaration, Defines, Axiom, Lemma, Toggle, Shell, Definition, event_symbols, events_symbols, event_shells, events_shells, event_definitions, events_definitions}
use Rattle.nq_logic.specs.Ground.{symbols_of, ground_symbols, ground_shells, ground_history}
use Rattle.nq_logic.specs.Names.{event_name, before_event, event_names, events_names, has_name, is_reserved, is_in_use, enabled_after}
use Rattle.nq_logic.specs.Derivations.{Derivable}
use Rattle.nq_logic.specs.Admissible.{IsAdmissible, IsMeasured, IsMeasure, FallsAt, Call, calls_of, mentions}
use Rattle.nq_logic.specs.ShellPrinciple.{shells_of, IsShellAccepted, IsShellAcceptedIn, shell_names}
use Rattle.nq_logic.specs.Classes.{without_class, without_classes, ClassesChangeNothing}
use Rattle.nq_logic.proofs.Lists.{each_mono}
use Rattle.nq_logic.proofs.Carrying.{axiom_kept, derivable_carried}

same_symbols : (e : Event) → event_symbols (without_class e) ≡ event_symbols e
same_symbols (AddShell s) = refl
same_symbols (Declaration f n) = refl
same_symbols (Defines d) = refl
same_symbols (Axiom n classes t) = refl
same_symbols (Lemma n classes t) = refl
same_symbols (Toggle n old disabled) = refl

same_shells : (e : Event) → event_shells (without_class e) ≡ event_shells e
same_shells (AddShell s) = refl
same_shells (Declaration f n) = refl
same_shells (Defines d) = refl
same_shells (Axiom n classes t) = refl
same_shells (Lemma n classes t) = refl
same_shells (Toggle n old disabled) = refl

same_definitions : (e : Event) → event_definitions (without_class e) ≡ event_definitions e
same_definitions (AddShell s) = refl
same_definitions (Declaration f n) = refl
same_definitions (Defines d) = refl
same_definitions (Axiom n classes t) = refl
same_definitions (Lemma n classes t) = refl
same_definitions (Toggle n old disabled) = refl

same_names : (e : Event) → event_names (without_class e) ≡ event_names e
same_names (AddShell s) = refl
same_names (Declaration f n) = refl
same_names (Defines d) = refl
same_names (Axiom n classes t) = refl
same_names (Lemma n classes t) = refl
same_names (Toggle n old disabled) = refl

-- two lists joined are equal where their parts are
same_joined : {X : Type 0} {a a' b b' : List X} → a ≡ a' → b ≡ b' → a ++ b ≡ a' ++ b'
same_joined e f = cc

all_symbols_same : (h : History) → events_symbols (without_classes h) ≡ events_symbols h
all_symbols_same [] = refl
all_symbols_same (e ∷ h) = same_joined (same_symbols e) (all_symbols_same h)

pub all_shells_same : (h : History) → events_shells (without_classes h) ≡ events_shells h
all_shells_same [] = refl
all_shells_same (e ∷ h) = same_joined (same_shells e) (all_shells_same h)

pub definitions_same : (h : History) → events_definitions (without_classes h) ≡ events_definitions h
definitions_same [] = refl
definitions_same (e ∷ h) = same_joined (same_definitions e) (definitions_same h)

all_names_same : (h : History) → events_names (without_classes h) ≡ events_names h
all_names_same [] = refl
all_names_same (e ∷ h) = same_joined (same_names e) (all_names_same h)

symbols_same : (h : History) → symbols_of (without_classes h) ≡ symbols_of h
unfolding symbols_of
symbols_same h = ap (λ rest. ground_symbols ++ rest) (all_symbols_same h)

shells_same : (h : History) → shells_of (without_classes h) ≡ shells_of h
shells_same h = ap (λ rest. ground_shells ++ rest) (all_shells_same h)

in_use_same : (n : Name) (h : History) → is_in_use n (without_classes h) ≡ is_in_use n h
in_use_same n h = ap (λ names. is_reserved n || has_name n (events_names ground_history ++ names)) (all_names_same h)

enabled_same : (n : Name) (h : History) (before : Bool) → enabled_after n before (without_classes h) ≡ enabled_after n before h
enabled_same n [] before = refl
enabled_same n (AddShell s ∷ h) before = enabled_same n h before
enabled_same n (Declaration f k ∷ h) before = enabled_same n h before
enabled_same n (Defines d ∷ h) before = enabled_same n h before
enabled_same n (Axiom name classes t ∷ h) before = enabled_same n h before
enabled_same n (Lemma name classes t ∷ h) before = enabled_same n h before
enabled_same n (Toggle name old disabled ∷ h) before = enabled_same n h _

event_name_same : (e : Event) → event_name (without_class e) ≡ event_name e
event_name_same (AddShell s) = refl
event_name_same (Declaration f n) = refl
event_name_same (Defines d) = refl
event_name_same (Axiom n classes t) = refl
event_name_same (Lemma n classes t) = refl
event_name_same (Toggle n old disabled) = refl

length_same : (h : History) → length (without_classes h) ≡ length h
length_same [] = refl
length_same (e ∷ h) = ap suc (length_same h)

appended_same : (h more : History) → without_classes (h ++ more) ≡ without_classes h ++ without_classes more
appended_same [] more = refl
appended_same (e ∷ h) more = ap (λ rest. without_class e ∷ rest) (appended_same h more)

-- the named event is left out in both, or the first one kept in both
undone_after : (here : Bool) (e : Event) (rest rest' : History) → rest' ≡ without_classes rest → (if here then [] else (without_class e ∷ rest')) ≡ without_classes (if here then [] else (e ∷ rest))
undone_after true e rest rest' same = refl
undone_after false e rest rest' same = ap (λ r. without_class e ∷ r) same

undone_same : (h : History) (n : Name) → before_event n (without_classes h) ≡ without_classes (before_event n h)
undone_same [] n = refl
undone_same (e ∷ h) n =
    ap (λ name. if bytes_eq n name then [] else (without_class e ∷ before_event n (without_classes h))) (event_name_same e)
    ∙ undone_after (bytes_eq n (event_name e)) e (before_event n h) (before_event n (without_classes h)) (undone_same h n)

-- an axiom that was added is one of the history without classes, and the other way round
kept_axiom : (n : Name) (classes : List RuleClass) (t : Term) (h : History) → IsAmong (Axiom n classes t) h → IsAmong (Axiom n [] t) (without_classes h)
kept_axiom n classes t [] m = absurd m
kept_axiom n classes t (e ∷ h) (inl same) = inl (ap without_class same)
kept_axiom n classes t (e ∷ h) (inr m) = inr (kept_axiom n classes t h m)

-- the event is an axiom of this name and term
IsAxiomEvent : Name → Term → Event → Type 0
IsAxiomEvent n t e = (classes : List RuleClass) × (Axiom n classes t ≡ e)

its_classes : (n : Name) (classes : List RuleClass) (t : Term) (e : Event) → Axiom n classes t ≡ without_class e → IsAxiomEvent n t e
unfolding IsAxiomEvent
its_classes n classes t (AddShell s) same = absurd cc
its_classes n classes t (Declaration f k) same = absurd cc
its_classes n classes t (Defines d) same = absurd cc
its_classes n classes t (Axiom name others u) same = (others, cc)
its_classes n classes t (Lemma name others u) same = absurd cc
its_classes n classes t (Toggle name old disabled) same = absurd cc

found_axiom : (n : Name) (classes : List RuleClass) (t : Term) (h : History) → IsAmong (Axiom n classes t) (without_classes h) → (others : List RuleClass) × IsAmong (Axiom n others t) h
unfolding IsAxiomEvent
found_axiom n classes t [] m = absurd m
found_axiom n classes t (e ∷ h) (inl same) = let event = its_classes n classes t e same in (event.0, inl event.1)
found_axiom n classes t (e ∷ h) (inr m) = let later = found_axiom n classes t h m in (later.0, inr later.1)

-- Two histories with the same symbols and names in use, of which the one derives what the other does.
module _ (h h' : History) (symbols : symbols_of h' ≡ symbols_of h) (names : (n : Name) → is_in_use n h' ≡ is_in_use n h) (carried : (f : Formula) → Derivable h f → Derivable h' f) where
  falls_kept : (d : Definition) (m : Term) (c : Call) → FallsAt h d m c → FallsAt h' d m c
  falls_kept d m c falls = record { older = falls.older; less = carried _ falls.less }

  measure_kept : (d : Definition) (m : Term) → IsMeasure h d m → IsMeasure h' d m
  measure_kept d m measure = record {
    over = subst (λ s. IsTerm s m) (sym symbols) measure.over;
    of_formals = measure.of_formals;
    ordinal = carried _ measure.ordinal;
    falls = each_mono (FallsAt h d m) (FallsAt h' d m) (falls_kept d m) (calls_of d.function d.body) measure.falls;
  }

  measured_kept : (d : Definition) (calls : Bool) (m : Option Term) → IsMeasured h d calls m → IsMeasured h' d calls m
  measured_kept d false None measured = tt
  measured_kept d false (Some m) measured = absurd measured
  measured_kept d true None measured = absurd measured
  measured_kept d true (Some m) measured = measure_kept d m measured

  pub admissible_kept : (d : Definition) → IsAdmissible h d → IsAdmissible h' d
  admissible_kept d a = record {
    unused = names d.function ∙ a.unused;
    distinct = a.distinct;
    closed = a.closed;
    over = subst (λ s. IsTerm ((d.function, length d.formals) ∷ s) d.body) (sym symbols) a.over;
    measured = measured_kept d (mentions d.function d.body) d.measure a.measured;
  }

-- The same of shells.
module _ (h h' : History) (shells : shells_of h' ≡ shells_of h) (names : (n : Name) → is_in_use n h' ≡ is_in_use n h) where
  shell_kept : (s : Shell) → IsShellAcceptedIn h s → IsShellAcceptedIn h' s
  shell_kept s accepted = subst (λ earlier. IsShellAccepted (λ name. is_in_use name h') earlier s) (sym shells) (record {
    unused = each_mono (λ n. is_in_use n h ≡ false) (λ n. is_in_use n h' ≡ false) (λ n e. names n ∙ e) (shell_names s) accepted.unused;
    distinct = accepted.distinct;
    known = accepted.known;
    defaults = accepted.defaults;
  })

module _ (h : History) where
  abbrev h' : History
  h' = without_classes h

  onto : (f : Formula) → Derivable h f → Derivable h' f
  onto = derivable_carried h h' (λ x m. subst (IsAmong x) (sym (symbols_same h)) m)
      (axiom_kept h h' (definitions_same h) (all_shells_same h) (λ n classes t m. ([], kept_axiom n classes t h m)))

  back : (f : Formula) → Derivable h' f → Derivable h f
  back = derivable_carried h' h (λ x m. subst (IsAmong x) (symbols_same h) m)
      (axiom_kept h' h (sym (definitions_same h)) (sym (all_shells_same h)) (λ n classes t m. found_axiom n classes t h m))

pub classes_change_nothing_law : ClassesChangeNothing
classes_change_nothing_law h =
    let h' = without_classes h in
    let names = λ (n : Name). in_use_same n h in
    let names_back = λ (n : Name). sym (in_use_same n h) in
    record {
      symbols = symbols_same h;
      shells = shells_same h;
      definitions = definitions_same h;
      names = names;
      enabled = λ n. enabled_same n h true;
      derivable = λ f. (back h f, onto h f);
      admissible = λ d. (admissible_kept h' h (sym (symbols_same h)) names_back (back h) d, admissible_kept h h' (symbols_same h) names (onto h) d);
      events = length_same h;
      appended = appended_same h;
      undone = undone_same h;
      accepted = λ s. (shell_kept h' h (sym (shells_same h)) names_back s, shell_kept h h' (shells_same h) names s);
    }
