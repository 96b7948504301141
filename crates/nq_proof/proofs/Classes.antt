-- Rule classes change nothing of what the rules of the log allow.
use Rattle.std.proofs.Common.{◌≡◌, ℕ, List, [], ◌∷◌, ◌++◌, refl, sym, ap, ap₂, ◌∙◌}
use Rattle.std.specs.Prelude.{Option, Some, bytes_eq}
use Rattle.nq_logic.specs.Terms.{Name, Term}
use Rattle.nq_logic.specs.Histories.{History, AddShell, Declaration, Defines, Axiom, Lemma, Toggle, Shell, Definition}
use Rattle.nq_logic.specs.Ground.{ground_definitions, ground_shells}
use Rattle.nq_proof.specs.Clauses.{Clause, distinct}
use Rattle.nq_proof.specs.Rows.{ground_rows, row_found, definition_found, opening_at, shell_found, without_part, first_found}
use Rattle.nq_proof.specs.Rules.{Rule, Taut, AxiomRow, EventTerm, Weaken, Cut, Instance, Reflexive, Replace, Join, SplitFirst, SplitSecond, NotNot, Value, Linear, Induct, term_if, event_term, given, conclusion}
use Rattle.nq_logic.specs.Classes.{without_classes}
use Rattle.nq_logic.proofs.Classes.{all_shells_same, definitions_same}
use Rattle.nq_proof.specs.Laws.{ClassesChangeNothing}

same_event : (name : Name) (h : History) → event_term name (without_classes h) ≡ event_term name h
same_event name [] = refl
same_event name (AddShell s ∷ h) = same_event name h
same_event name (Declaration f n ∷ h) = same_event name h
same_event name (Defines d ∷ h) = same_event name h
same_event name (Axiom n classes t ∷ h) = ap (term_if (bytes_eq name n) t) (same_event name h)
same_event name (Lemma n classes t ∷ h) = ap (term_if (bytes_eq name n) t) (same_event name h)
same_event name (Toggle n old b ∷ h) = same_event name h

-- the clause under a name, by the definitions and the shells
abbrev clause_among : Name → ℕ → ℕ → List Definition → List Shell → Option Clause
clause_among name row i definitions shells =
    first_found (without_part i (row_found name row ground_rows))
    (first_found (without_part i (opening_at row (definition_found name (ground_definitions ++ definitions)))) (shell_found name row i [] (ground_shells ++ shells)))

without_any : (h : History) (lines : ℕ → Option (List Term)) (rule : Rule) → conclusion (without_classes h) lines rule ≡ conclusion h lines rule
without_any h lines (Taut ts) = refl
without_any h lines (AxiomRow name row i) = ap₂ (λ ds ss. given (clause_among name row i ds ss) (λ c. Some (distinct c))) (definitions_same h) (all_shells_same h)
without_any h lines (EventTerm name) = ap (λ o. given o (λ t. Some (t ∷ []))) (same_event name h)
without_any h lines (Weaken l ts) = refl
without_any h lines (Cut l m t) = refl
without_any h lines (Instance l s) = refl
without_any h lines (Reflexive t) = refl
without_any h lines (Replace l k path t side) = refl
without_any h lines (Join l m p x y) = refl
without_any h lines (SplitFirst l k) = refl
without_any h lines (SplitSecond l k) = refl
without_any h lines (NotNot l k) = refl
without_any h lines (Value t) = refl
without_any h lines (Linear summands) = refl
without_any h lines (Induct p m o b cases) = refl

pub classes_law : ClassesChangeNothing
classes_law h g lines rule e = sym (without_any h lines rule) ∙ (ap (λ k. conclusion k lines rule) e ∙ without_any g lines rule)
