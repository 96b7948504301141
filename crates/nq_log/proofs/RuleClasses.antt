-- Rule classes change nothing of what a line leads to.
use Rattle.std.proofs.Common.{◌≡◌, Bool, true, false, ◌^◌, ◌==◌, List, [], ◌∷◌, ◌++◌, ◌&&◌, ◌||◌, length, nat_lt, nat_le, if◌then◌else◌, refl, ap, ◌∙◌}
use Rattle.std.specs.Prelude.{Option, Some, is_none, is_some, not, bytes_eq}
use Rattle.nq_logtext.specs.Reading.{◌>>=◌}
use Rattle.nq_logtext.specs.Fields.{Field, number, name}
use Rattle.nq_logtext.specs.declared.word.Word.{Word}
use Rattle.nq_logtext.specs.declared.word.Word.TheVariants as word
use Rattle.nq_logic.specs.Terms.{Name, call}
use Rattle.nq_logic.specs.Histories.{History, Event, AddShell, Declaration, Defines, Axiom, Lemma, Toggle}
use Rattle.nq_logic.specs.Ground.{ground_history}
use Rattle.nq_logic.specs.Names.{event_name, event_in, looked_up}
use Rattle.nq_logic.specs.ShellPrinciple.{shell_refusal}
use Rattle.nq_logic.specs.Classes.{without_class, without_classes, IsSameWithoutClasses}
use Rattle.nq_logic.proofs.Classes.{classes_change_nothing_law}
use Rattle.nq_proof.specs.Rules.{Rule, conclusion, rule_terms, has_only}
use Rattle.nq_proof.specs.Logs.{has_symbol}
use Rattle.nq_proof.proofs.Classes.{classes_law}
use Rattle.nq_log.specs.Sizes.{is_shallow, are_shallow, is_small}
use Rattle.nq_log.specs.States.{is_empty, Block, State, Adds, Undoes, introduced_symbols, term_at, terms_at, variables_at, clause_at, is_untouched, only_when}
use Rattle.nq_log.specs.Fields.{numbers_in}
use Rattle.nq_log.specs.TermLines.{with_term, function_line, call_line}
use Rattle.nq_log.specs.RuleLines.{are_without, with_clause, taut_rule, axiom_rule, event_rule, weaken_rule, cut_rule, instance_rule, reflexive_rule, replace_rule, join_rule, split_rule, not_not_rule, value_rule, linear_rule, induct_rule, rule_line}
use Rattle.nq_log.specs.ClosingLines.{is_plain, is_free, added_shell, are_short, shell_claim, declaration_claim, axiom_claim, lemma_claim, toggle_claim, undo_claim, new_definition, is_definition, definition_claim}
use Rattle.nq_log.specs.Logs.{continued, claimed, step_by, is_definition_word}
use Rattle.nq_log.specs.Laws.{StepsIgnoreClasses}

bare_again : (e : Event) → without_class (without_class e) ≡ without_class e
bare_again (AddShell s) = refl
bare_again (Declaration f n) = refl
bare_again (Defines d) = refl
bare_again (Axiom n classes t) = refl
bare_again (Lemma n classes t) = refl
bare_again (Toggle n old disabled) = refl

all_bare_again : (h : History) → without_classes (without_classes h) ≡ without_classes h
all_bare_again [] = refl
all_bare_again (e ∷ h) = λ i. bare_again e i ∷ all_bare_again h i

name_stays : (e : Event) → event_name (without_class e) ≡ event_name e
name_stays (AddShell s) = refl
name_stays (Declaration f n) = refl
name_stays (Defines d) = refl
name_stays (Axiom n classes t) = refl
name_stays (Lemma n classes t) = refl
name_stays (Toggle n old disabled) = refl

-- an event of this name stands with or without its classes
found_stays : (n : Name) (h : History) → is_some (event_in n (without_classes h)) ≡ is_some (event_in n h)
found_stays n [] = refl
found_stays n (e ∷ h) = ap (λ (m : Name). is_some (if bytes_eq n m then Some (without_class e) else event_in n (without_classes h))) (name_stays e) ∙ by_name (bytes_eq n (event_name e)) (found_stays n h)
  where
    by_name : (same : Bool) → is_some (event_in n (without_classes h)) ≡ is_some (event_in n h) →
        is_some (if same then Some (without_class e) else event_in n (without_classes h)) ≡ is_some (if same then Some e else event_in n h)
    by_name true rest = refl
    by_name false rest = rest

found_behind : (n : Name) (l h : History) → is_some (event_in n (l ++ without_classes h)) ≡ is_some (event_in n (l ++ h))
found_behind n [] h = found_stays n h
found_behind n (e ∷ l) h = by_name (bytes_eq n (event_name e)) (found_behind n l h)
  where
    by_name : (same : Bool) → is_some (event_in n (l ++ without_classes h)) ≡ is_some (event_in n (l ++ h)) →
        is_some (if same then Some e else event_in n (l ++ without_classes h)) ≡ is_some (if same then Some e else event_in n (l ++ h))
    by_name true rest = refl
    by_name false rest = rest

module _ (h : History) (block : Block) where
  abbrev here : History → State
  here k = record { history = k; block = block }

  same : IsSameWithoutClasses h
  same = classes_change_nothing_law h

  looked : (n : Name) → is_some (looked_up n (without_classes h)) ≡ is_some (looked_up n h)
  looked n = found_behind n ground_history h

  concluded : (rule : Rule) → conclusion (without_classes h) (clause_at block) rule ≡ conclusion h (clause_at block) rule
  concluded rule = classes_law (without_classes h) h (clause_at block) rule (all_bare_again h)

  free : (n : Name) → is_free (here (without_classes h)) n ≡ is_free (here h) n
  free n = λ i. is_plain block && nat_lt (same.events i) 10000 && not (same.names n i)

  function_same : (fields : List Field) → function_line (here (without_classes h)) fields ≡ function_line (here h) fields
  function_same (name f ∷ number k ∷ []) = λ i. only_when (is_untouched block && not (same.names f i) && nat_lt k (2 ^ 32)) (record block { introduced = Some (f, k) })
  function_same fields = refl

  call_same : (fields : List Field) → call_line (here (without_classes h)) fields ≡ call_line (here h) fields
  call_same (name f ∷ fields) = λ i.
      numbers_in fields >>= λ ns. terms_at block ns >>= λ ts.
      only_when (has_symbol f (length ts) (introduced_symbols block.introduced ++ same.symbols i) && is_shallow (call f ts)) (with_term block (call f ts))
  call_same fields = refl

  rule_same : (rule : Option Rule) → rule_line (here (without_classes h)) rule ≡ rule_line (here h) rule
  rule_same rule = λ i. rule >>= λ r. only_when (are_without block.introduced (rule_terms r)) r >>= λ r. concluded r i >>= λ c. only_when (are_shallow c) (with_clause block c)

  shell_same : (fields : List Field) → shell_claim (here (without_classes h)) fields ≡ shell_claim (here h) fields
  shell_same (name c ∷ name b ∷ name r ∷ []) = λ i.
      let s = added_shell block c b r in
      only_when (is_none block.introduced && is_empty block.cases && nat_lt (same.events i) 10000
      && (is_none (shell_refusal (λ n. same.names n i) (same.shells i) s) && nat_le (length s.parts) 20 && are_short s.parts)) (Adds (AddShell s))
  shell_same fields = refl

  declaration_same : (fields : List Field) → declaration_claim (here (without_classes h)) fields ≡ declaration_claim (here h) fields
  declaration_same (name f ∷ number k ∷ []) = λ i. only_when (free f i && nat_lt k (2 ^ 32)) (Adds (Declaration f k))
  declaration_same fields = refl

  axiom_same : (fields : List Field) → axiom_claim (here (without_classes h)) fields ≡ axiom_claim (here h) fields
  axiom_same (name n ∷ number t ∷ []) = λ i. term_at block t >>= λ t. only_when (free n i && is_small t) (Adds (Axiom n [] t))
  axiom_same fields = refl

  lemma_same : (fields : List Field) → lemma_claim (here (without_classes h)) fields ≡ lemma_claim (here h) fields
  lemma_same (name n ∷ number t ∷ number l ∷ []) = λ i. term_at block t >>= λ t. only_when (free n i && is_small t && has_only (clause_at block l) (t ∷ [])) (Adds (Lemma n [] t))
  lemma_same fields = refl

  toggle_same : (fields : List Field) → toggle_claim (here (without_classes h)) fields ≡ toggle_claim (here h) fields
  toggle_same (name n ∷ name old ∷ number d ∷ []) = λ i. only_when (free n i && looked old i && nat_lt d 2) (Adds (Toggle n old (d == 1)))
  toggle_same fields = refl

  undo_same : (fields : List Field) → undo_claim (here (without_classes h)) fields ≡ undo_claim (here h) fields
  undo_same (name n ∷ []) = λ i. only_when (is_plain block && found_stays n h i) (Undoes n)
  undo_same fields = refl

  definition_same : (fields : List Field) → definition_claim (here (without_classes h)) fields ≡ definition_claim (here h) fields
  definition_same (name f ∷ number b ∷ fields) = λ i.
      term_at block b >>= λ body. numbers_in fields >>= λ ns. variables_at block ns >>= λ xs.
      only_when (is_empty block.parts && is_empty block.cases && nat_lt (same.events i) 10000 && not (same.names f i)
      && nat_lt (length xs) (2 ^ 32) && is_small body && is_definition (here h) f xs body)
      (Adds (Defines (new_definition block f xs body)))
  definition_same fields = refl

  ruled : (rule : Option Rule) → continued (rule_line (here (without_classes h)) rule) ≡ continued (rule_line (here h) rule)
  ruled rule = ap continued (rule_same rule)

  step_by_same : (fields : List Field) (w : Word) → step_by (here (without_classes h)) fields w ≡ step_by (here h) fields w
  step_by_same fields word.Function = ap continued (function_same fields)
  step_by_same fields word.Call = ap continued (call_same fields)
  step_by_same fields word.Taut = ruled (taut_rule block fields)
  step_by_same fields word.Axiom = ruled (axiom_rule fields)
  step_by_same fields word.Event = ruled (event_rule fields)
  step_by_same fields word.Weaken = ruled (weaken_rule block fields)
  step_by_same fields word.Cut = ruled (cut_rule block fields)
  step_by_same fields word.Inst = ruled (instance_rule block fields)
  step_by_same fields word.Refl = ruled (reflexive_rule block fields)
  step_by_same fields word.Replace = ruled (replace_rule block fields)
  step_by_same fields word.Join = ruled (join_rule block fields)
  step_by_same fields word.Split = ruled (split_rule fields)
  step_by_same fields word.NotNot = ruled (not_not_rule fields)
  step_by_same fields word.Value = ruled (value_rule block fields)
  step_by_same fields word.Linear = ruled (linear_rule block fields)
  step_by_same fields word.Induct = λ i. continued (rule_same (induct_rule block fields) i >>= λ b. Some (record b { cases = [] }))
  step_by_same fields word.Shell = ap claimed (shell_same fields)
  step_by_same fields word.Dcl = ap claimed (declaration_same fields)
  step_by_same fields word.Axiomatize = ap claimed (axiom_same fields)
  step_by_same fields word.Lemma = ap claimed (lemma_same fields)
  step_by_same fields word.Defn = ap claimed (definition_same fields)
  step_by_same fields word.Toggle = ap claimed (toggle_same fields)
  step_by_same fields word.Undo = ap claimed (undo_same fields)
  step_by_same fields w = refl

pub steps_ignore_classes_law : StepsIgnoreClasses
steps_ignore_classes_law h block line = λ i. only_when (is_none block.measure || is_definition_word line.word) line >>= λ line. step_by_same h block line.fields line.word i
