-- Schemes and goals, however the work grows.
use Rattle.std.proofs.Common.{◌≡◌, ◌∙◌, ℕ, List, [], ◌∷◌, ◌++◌, map, get_or, refl, sym, ap, ap₂, subst}
use Rattle.std.specs.Prelude.{All}
use Rattle.nq_logic.specs.Terms.{Term, Substitution, substituted}
use Rattle.nq_logic.specs.Words.{not_term, call1, call2, true_term}
use Rattle.nq_logic.specs.Laws.{denied}
use Rattle.nq_bank.specs.declared.node.TermId.{TermId}
use Rattle.nq_bank.specs.Content.{Stands, IsIdOf, term_at, terms_at}
use Rattle.nq_bank.proofs.Growth.{terms_at-grown}
use Rattle.nq_bank.proofs.NodesLemmas.{All-head, All-tail}
use Rattle.nq_bank.proofs.Standing.{id_grown}
use Rattle.nq_clause.specs.declared.substitution.Pair.{Pair}
use Rattle.nq_clause.specs.Substitution.{substitution_at}
use Rattle.nq_clause.proofs.SubstitutionLemmas.{substitution_at-grown}
use Rattle.nq_rule.specs.declared.induction.InductionStep.{InductionStep}
use Rattle.nq_rule.specs.declared.induction.CaseOfInduction.{CaseOfInduction}
use Rattle.nq_rule.specs.Inductions.{fall_literals, substitutions_at}
use Rattle.nq_history.specs.declared.entry.Entry.{Entry}
use Rattle.nq_kernel.specs.declared.work.Work.{Work}
use Rattle.nq_kernel.specs.Growing.{WorkStands, WorkGrows}
use Rattle.nq_lines.specs.Lines.{IsTermIn, LineHasOnly}
use Rattle.nq_lines.specs.Instances.{ArePairsIn}
use Rattle.nq_lines.specs.declared.facts.Fact.{Fact}
use Rattle.nq_lines.proofs.LineLemmas.{only_grown}
use Rattle.nq_lines.proofs.TermLemmas.{term_grown, same_term_grown, id_in}
use Rattle.nq_lines.proofs.FactLemmas.{substituted_over}
use Rattle.nq_history.specs.Events.{events_at}
use Rattle.nq_history.proofs.HistoryLemmas.{events_at-grown}
use Rattle.nq_logic.specs.Ground.{symbols_of}
use Rattle.nq_kernel.specs.Over.{IsVariable, IsTermOf}
use Rattle.nq_lines.proofs.InstanceLemmas.{pairs_in_grown}
use Rattle.nq_induct.specs.declared.scheme.Case.{Case}
use Rattle.nq_induct.specs.declared.scheme.Scheme.{Scheme}
use Rattle.nq_induct.specs.Claims.{any_of, IsTruth, IsShownTruth}
use Rattle.nq_induct.specs.Schemes.{IsStepIn, IsCaseIn, IsSchemeIn}
use Rattle.nq_induct.specs.Goals.{AreTermsIn, AreShown, IsShownCase, tests_at, step_goal, goals_at}

module _ (history : List Entry) (old new : Work) (stands : WorkStands history old) (grows : WorkGrows history old new) where
  pub terms_in_grown : (ts : List TermId) → AreTermsIn history old ts → AreTermsIn history new ts
  terms_in_grown ts h = λ k d below. term_grown history old new (get_or ts k d) stands grows (h k d below)

  terms_stand : (ts : List TermId) → AreTermsIn history old ts → All (Stands old.bank) ts
  terms_stand ts h = λ k d below. (h k d below).stands

  pub same_terms : (ts : List TermId) → AreTermsIn history old ts → terms_at new.bank ts ≡ terms_at old.bank ts
  same_terms ts h = terms_at-grown old.bank new.bank ts grows.bank (terms_stand ts h)

  pub truth_grown : (t : TermId) → IsTruth history old t → IsTruth history new t
  truth_grown t h = record { term = term_grown history old new t stands grows h.term; is = id_grown old.bank new.bank t true_term grows.bank h.is }

  pub shown_truth_grown : (f : Fact) → IsShownTruth history old f → IsShownTruth history new f
  shown_truth_grown f h = record { truth = truth_grown f.term h.truth; line = only_grown history old new f.line (true_term ∷ []) stands grows h.line }

  pub same_pairs : (pairs : List Pair) → ArePairsIn history old pairs → substitution_at new.bank pairs ≡ substitution_at old.bank pairs
  same_pairs pairs h = substitution_at-grown old.bank new.bank pairs grows.bank h.stand

  pub same_substitutions : (steps : List InductionStep) → All (λ s. ArePairsIn history old s.pairs.items) steps → substitutions_at new.bank steps ≡ substitutions_at old.bank steps
  same_substitutions [] h = refl
  same_substitutions (s ∷ steps) h =
      let P : InductionStep → Type 0 = λ r. ArePairsIn history old r.pairs.items in
      ap₂ (λ (r : Substitution) (rest : List Substitution). r ∷ rest) (same_pairs s.pairs.items (All-head P s steps h)) (same_substitutions steps (All-tail P s steps h))

  pub all_pairs_grown : (steps : List InductionStep) → All (λ s. ArePairsIn history old s.pairs.items) steps → All (λ s. ArePairsIn history new s.pairs.items) steps
  all_pairs_grown steps h = λ k d below. pairs_in_grown history old new (get_or steps k d).pairs.items stands grows (h k d below)

  pub same_falls : (measure test : TermId) (pairs : List Pair) → IsTermIn history old measure → IsTermIn history old test → ArePairsIn history old pairs → fall_literals new.bank measure test pairs ≡ fall_literals old.bank measure test pairs
  same_falls measure test pairs m q ps =
      ap₂ (λ (t : Term) (rest : List Term). not_term t ∷ rest) (same_term_grown history old new test grows q)
      (ap₂ (λ (s : Substitution) (u : Term). call2 "ORD-LESSP" (substituted s u) u ∷ []) (same_pairs pairs ps) (same_term_grown history old new measure grows m))

  pub step_grown : (measure test : TermId) (s : InductionStep) → IsTermIn history old measure → IsTermIn history old test → IsStepIn history old measure test s → IsStepIn history new measure test s
  step_grown measure test s m q h =
      record {
        pairs = pairs_in_grown history old new s.pairs.items stands grows h.pairs;
        falls = subst (λ ls. LineHasOnly new s.line ls) (sym (same_falls measure test s.pairs.items m q h.pairs)) (only_grown history old new s.line (fall_literals old.bank measure test s.pairs.items) stands grows h.falls);
      }

  pub case_grown : (measure : TermId) (c : Case) → IsTermIn history old measure → IsCaseIn history old measure c → IsCaseIn history new measure c
  case_grown measure c m h =
      record {
        test = term_grown history old new c.test stands grows h.test;
        steps = λ k d below. step_grown measure c.test (get_or c.steps.items k d) m h.test (h.steps k d below);
      }

  pub scheme_grown : (s : Scheme) → IsSchemeIn history old s → IsSchemeIn history new s
  scheme_grown s h =
      record {
        measure = term_grown history old new s.measure stands grows h.measure;
        ordinal = subst (λ (t : Term). LineHasOnly new s.ordinal (call1 "ORDINALP" t ∷ [])) (sym (same_term_grown history old new s.measure grows h.measure)) (only_grown history old new s.ordinal _ stands grows h.ordinal);
        cases = λ k d below. case_grown s.measure (get_or s.cases.items k d) h.measure (h.cases k d below);
      }

  pub pairs_of_case : (measure : TermId) (c : Case) → IsCaseIn history old measure c → All (λ s. ArePairsIn history old s.pairs.items) c.steps.items
  pairs_of_case measure c h = λ k d below. (h.steps k d below).pairs

  pub same_step_goal : (measure : TermId) (goal : List Term) (c : Case) → IsCaseIn history old measure c → step_goal new.bank goal c ≡ step_goal old.bank goal c
  same_step_goal measure goal c h =
      ap₂ (λ (t : Term) (ss : List Substitution). not_term t ∷ (goal ++ denied (any_of goal) ss)) (same_term_grown history old new c.test grows h.test) (same_substitutions c.steps.items (pairs_of_case measure c h))

  pub same_tests : (measure : TermId) (cases : List Case) → All (IsCaseIn history old measure) cases → tests_at new.bank cases ≡ tests_at old.bank cases
  same_tests measure [] h = refl
  same_tests measure (c ∷ cases) h =
      let P : Case → Type 0 = IsCaseIn history old measure in
      ap₂ (λ (t : Term) (ts : List Term). t ∷ ts) (same_term_grown history old new c.test grows (All-head P c cases h).test) (same_tests measure cases (All-tail P c cases h))

  pub same_step_goals : (measure : TermId) (goal : List Term) (cases : List Case) → All (IsCaseIn history old measure) cases → map (step_goal new.bank goal) cases ≡ map (step_goal old.bank goal) cases
  same_step_goals measure goal [] h = refl
  same_step_goals measure goal (c ∷ cases) h =
      let P : Case → Type 0 = IsCaseIn history old measure in
      ap₂ (λ (t : List Term) (ts : List (List Term)). t ∷ ts) (same_step_goal measure goal c (All-head P c cases h)) (same_step_goals measure goal cases (All-tail P c cases h))

  -- the goals of an induction stay
  pub same_goals : (s : Scheme) (goal : List TermId) → IsSchemeIn history old s → AreTermsIn history old goal → goals_at new.bank s goal ≡ goals_at old.bank s goal
  same_goals s goal h g =
      ap (λ (ts : List Term). (tests_at new.bank s.cases.items ++ ts) ∷ map (step_goal new.bank ts) s.cases.items) (same_terms goal g) ∙
      ap₂ (λ (qs : List Term) (rest : List (List Term)). (qs ++ terms_at old.bank goal) ∷ rest) (same_tests s.measure s.cases.items h.cases) (same_step_goals s.measure (terms_at old.bank goal) s.cases.items h.cases)

  -- and so do lines of them
  pub shown_grown : (clauses : List (List Term)) (lines : List ℕ) → AreShown old clauses lines → AreShown new clauses lines
  shown_grown clauses lines h = record { count = h.count; each = λ k below. only_grown history old new (get_or lines k 0) (get_or clauses k []) stands grows (h.each k below) }

  pub shown_case_grown : (measure : TermId) (claim : Term) (c : CaseOfInduction) → IsTermIn history old measure → IsShownCase history old measure claim c → IsShownCase history new measure claim c
  shown_case_grown measure claim c m h =
      let pairs : All (λ s. ArePairsIn history old s.pairs.items) c.steps.items = λ k d below. (h.steps k d below).pairs in
      record {
        test = term_grown history old new c.test stands grows h.test;
        steps = λ k d below. step_grown measure c.test (get_or c.steps.items k d) m h.test (h.steps k d below);
        line =
            subst (λ ls. LineHasOnly new c.line ls)
            (sym (ap₂ (λ (t : Term) (ss : List Substitution). not_term t ∷ (denied claim ss ++ (claim ∷ []))) (same_term_grown history old new c.test grows h.test) (same_substitutions c.steps.items pairs)))
            (only_grown history old new c.line _ stands grows h.line);
      }

  -- an instance of a term is over the history
  pub instance_over : (t : TermId) (pairs : List Pair) (id : TermId) → IsTermIn history old t → ArePairsIn history old pairs → IsIdOf new.bank id (substituted (substitution_at old.bank pairs) (term_at old.bank t)) → IsTermIn history new id
  instance_over t pairs id there ps is =
      id_in history new id _ is (
      subst (λ es. IsTermOf IsVariable (symbols_of es) (substituted (substitution_at old.bank pairs) (term_at old.bank t))) (sym (events_at-grown old.bank new.bank grows.bank history stands.history.entries)) (
      substituted_over IsVariable (symbols_of (events_at old.bank history)) (substitution_at old.bank pairs) (term_at old.bank t) ps.terms there.over))
