-- Rules and clauses mean the same in a bank that grew.
use Rattle.std.proofs.Common.{◌≡◌, ℕ, Option, Some, None, List, refl, ap, ◌∙◌}
use Rattle.std.specs.Option.{option_map}
use Rattle.std.proofs.Math.Path.{fun_ext}
use Rattle.nq_bank.specs.declared.node.TermId.{TermId}
use Rattle.nq_bank.specs.Content.{Content, Grows, term_at, terms_at}
use Rattle.nq_bank.proofs.Growth.{Stands-grown, IsNamed-grown, text_at-grown, term_at-grown, terms_at-grown}
use Rattle.nq_clause.proofs.SubstitutionLemmas.{pairs_grown, substitution_at-grown}
use Rattle.nq_bank.proofs.Standing.{stand_grown}
use Rattle.nq_proof.specs.Rules as tree
use Rattle.nq_proof.specs.Rules.{conclusion}
use Rattle.nq_kernel.specs.declared.rule.Rule.{Rule}
use Rattle.nq_kernel.specs.declared.rule.Rule.TheVariants.{Taut, AxiomRow, EventTerm, Weaken, Cut, Instance, Reflexive, Replace, Join, SplitFirst, SplitSecond, NotNot, Value, Linear, Induct}
use Rattle.nq_kernel.specs.declared.rule.Line.{Line}
use Rattle.nq_history.specs.declared.entry.Entry.{Entry}
use Rattle.nq_kernel.specs.Lines.{ids_at}
use Rattle.nq_history.specs.Events.{events_at, HistoryStands}
use Rattle.nq_history.proofs.HistoryLemmas.{events_at-grown, history_grown}
use Rattle.nq_rule.specs.Sides.{side_of}
use Rattle.nq_rule.specs.Inductions.{cases_at}
use Rattle.nq_linear_rule.proofs.GrownSums.{summands_at-grown, literals_grown}
use Rattle.nq_rule.proofs.GrownLemmas.{cases_at-grown, cases_stand}
use Rattle.nq_kernel.specs.Meaning.{rule_at, RuleStands, IsOver, clause_at, conclusion_at}
use Rattle.nq_kernel.specs.Growing.{Fits}
use Rattle.nq_kernel.proofs.LogLemmas.{ids_stand, over_grown}

module _ (old new : Content) (h : Grows old new) where
  pub rule_at-grown : (rule : Rule) → RuleStands old rule → rule_at new rule ≡ rule_at old rule
  rule_at-grown (Taut terms) k = ap tree.Taut (terms_at-grown old new terms.items h k)
  rule_at-grown (AxiomRow name row part) k = ap (λ x. tree.AxiomRow x row part) (text_at-grown old new name h k)
  rule_at-grown (EventTerm name) k = ap tree.EventTerm (text_at-grown old new name h k)
  rule_at-grown (Weaken line terms) k = ap (tree.Weaken line) (terms_at-grown old new terms.items h k)
  rule_at-grown (Cut first second t) k = ap (tree.Cut first second) (term_at-grown old new t h k)
  rule_at-grown (Instance line pairs) k = ap (tree.Instance line) (substitution_at-grown old new pairs.items h k)
  rule_at-grown (Reflexive t) k = ap tree.Reflexive (term_at-grown old new t h k)
  rule_at-grown (Replace line place path t side) k = ap (λ u. tree.Replace line place path.items u (side_of side)) (term_at-grown old new t h k)
  rule_at-grown (Join first second parts) k =
      let test = term_at-grown old new parts.test h k.test in
      let left = term_at-grown old new parts.first h k.first in
      let right = term_at-grown old new parts.second h k.second in
      ap (λ t. tree.Join first second t (term_at new parts.first) (term_at new parts.second)) test ∙
      ap (λ t. tree.Join first second (term_at old parts.test) t (term_at new parts.second)) left ∙
      ap (tree.Join first second (term_at old parts.test) (term_at old parts.first)) right
  rule_at-grown (SplitFirst line place) k = refl
  rule_at-grown (SplitSecond line place) k = refl
  rule_at-grown (NotNot line place) k = refl
  rule_at-grown (Value t) k = ap tree.Value (term_at-grown old new t h k)
  rule_at-grown (Linear summands) k = ap tree.Linear (summands_at-grown old new summands.items h k)
  rule_at-grown (Induct claim measure ordinal base cases) k =
      let p = term_at-grown old new claim h k.claim in
      let m = term_at-grown old new measure h k.measure in
      let cs = cases_at-grown old new h cases.items k.cases in
      ap (λ t. tree.Induct t (term_at new measure) ordinal base (cases_at new cases.items)) p ∙
      ap (λ t. tree.Induct (term_at old claim) t ordinal base (cases_at new cases.items)) m ∙
      ap (tree.Induct (term_at old claim) (term_at old measure) ordinal base) cs

  pub RuleStands-grown : (rule : Rule) → RuleStands old rule → RuleStands new rule
  RuleStands-grown (Taut terms) k = stand_grown old new terms.items h k
  RuleStands-grown (AxiomRow name row part) k = IsNamed-grown old new name h k
  RuleStands-grown (EventTerm name) k = IsNamed-grown old new name h k
  RuleStands-grown (Weaken line terms) k = stand_grown old new terms.items h k
  RuleStands-grown (Cut first second t) k = Stands-grown old new t h k
  RuleStands-grown (Instance line pairs) k = pairs_grown old new pairs.items h k
  RuleStands-grown (Reflexive t) k = Stands-grown old new t h k
  RuleStands-grown (Replace line place path t side) k = Stands-grown old new t h k
  RuleStands-grown (Join first second parts) k = record { test = Stands-grown old new parts.test h k.test; first = Stands-grown old new parts.first h k.first; second = Stands-grown old new parts.second h k.second }
  RuleStands-grown (SplitFirst line place) k = tt
  RuleStands-grown (SplitSecond line place) k = tt
  RuleStands-grown (NotNot line place) k = tt
  RuleStands-grown (Value t) k = Stands-grown old new t h k
  RuleStands-grown (Linear summands) k = literals_grown old new summands.items h k
  RuleStands-grown (Induct claim measure ordinal base cases) k = record { claim = Stands-grown old new claim h k.claim; measure = Stands-grown old new measure h k.measure; cases = cases_stand old new h cases.items k.cases }

  pub clause_at-grown : (log : List Line) (n : ℕ) → IsOver old log → clause_at new log n ≡ clause_at old log n
  clause_at-grown log n over = by_ids (ids_at log n) refl
    where
      by_ids : (o : Option (List TermId)) → ids_at log n ≡ o → option_map (terms_at new) o ≡ option_map (terms_at old) o
      by_ids None e = refl
      by_ids (Some ids) e = ap Some (terms_at-grown old new ids h (ids_stand old log n ids over e))

  -- a rule gives the same in a bank that grew
  pub conclusion_at-grown : (history : List Entry) (log : List Line) (rule : Rule) → HistoryStands old history → IsOver old log → RuleStands old rule → conclusion_at new history log rule ≡ conclusion_at old history log rule
  unfolding conclusion_at
  conclusion_at-grown history log rule entries over stands =
      let lines : clause_at new log ≡ clause_at old log = fun_ext (λ n. clause_at-grown log n over) in
      ap (λ es. conclusion es (clause_at new log) (rule_at new rule)) (events_at-grown old new h history entries.entries) ∙
      ap (λ f. conclusion (events_at old history) f (rule_at new rule)) lines ∙
      ap (conclusion (events_at old history) (clause_at old log)) (rule_at-grown rule stands)

  pub Fits-grown : (history : List Entry) (log : List Line) → Fits old history log → Fits new history log
  Fits-grown history log fits = record { log = over_grown old new log h fits.log; history = history_grown old new h history fits.history }
