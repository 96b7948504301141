-- The terms of a rule line are the block's.
use Rattle.std.proofs.Common.{◌≡◌, Bool, true, false, ℕ, ◌==◌, List, [], ◌∷◌, map, if◌then◌else◌, subst}
use Rattle.std.specs.Prelude.{Some, None}
use Rattle.nq_logtext.specs.Fields.{Field, number, name, path, sign}
use Rattle.nq_logtext.specs.Reading.{◌>>=◌}
use Rattle.nq_logic.specs.Terms.{Term, IsTerm, Each, Substitution}
use Rattle.nq_logic.proofs.Lists.{each_append}
use Rattle.nq_proof.specs.Rules.{Rule, Taut, AxiomRow, EventTerm, Weaken, Cut, Instance, Reflexive, Replace, Join, SplitFirst, SplitSecond, NotNot, Value, Linear, Induct, Summand, Hypothesis, CaseLines, pair_terms, hypothesis_terms, case_terms, rule_terms}
use Rattle.nq_log.specs.States.{is_empty, CaseLine, CaseOf, HypothesisOf, State, block_symbols, term_at, terms_at, variable_at, only_when}
use Rattle.nq_log.specs.Fields.{numbers_in, pairs_in, Multiple, multiples_in}
use Rattle.nq_log.specs.RuleLines.{substitution_at, side_of, summands_at, grouped, cases_at, taut_rule, axiom_rule, event_rule, weaken_rule, cut_rule, instance_rule, reflexive_rule, replace_rule, join_rule, split_rule, not_not_rule, value_rule, linear_rule, induct_rule}
use Rattle.nq_log.proofs.Options.{nothing_found, found_same, bound, allowed}
use Rattle.nq_log.proofs.TermSteps.{IsRight, term_over, terms_over}

module _ (s : State) (w : IsRight s) where
  -- the terms of the rule are over the functions that the block's terms may have
  abbrev Over : Rule → Type 0
  Over r = Each (IsTerm (block_symbols s)) (rule_terms r)

  abbrev Terms : List Term → Type 0
  Terms ts = Each (IsTerm (block_symbols s)) ts

  substitution_over : (pairs : List (ℕ × ℕ)) (sub : Substitution) → substitution_at s.block pairs ≡ Some sub → Terms (pair_terms sub)
  substitution_over [] sub e = subst (λ sub. Terms (pair_terms sub)) (found_same [] sub e) tt
  substitution_over (pair ∷ pairs) sub e =
      let a = bound (variable_at s.block pair.0) (λ x. term_at s.block pair.1 >>= λ t. substitution_at s.block pairs >>= λ rest. Some ((x, t) ∷ rest)) sub e in
      let b = bound (term_at s.block pair.1) (λ t. substitution_at s.block pairs >>= λ rest. Some ((a.0, t) ∷ rest)) sub a.2 in
      let d = bound (substitution_at s.block pairs) (λ rest. Some ((a.0, b.0) ∷ rest)) sub b.2 in
      subst (λ sub. Terms (pair_terms sub)) (found_same ((a.0, b.0) ∷ d.0) sub d.2) (term_over s w pair.1 b.0 b.1, substitution_over pairs d.0 d.1)

  summands_over : (ms : List Multiple) (summands : List Summand) → summands_at s.block ms ≡ Some summands → Terms (map (λ s. s.literal) summands)
  summands_over [] summands e = subst (λ (l : List Summand). Terms (map (λ s. s.literal) l)) (found_same [] summands e) tt
  summands_over (m ∷ ms) summands e =
      let one = λ (t : Term). let x : Summand = record { factor = m.factor; literal = t; side = side_of m.sign } in x in
      let a = bound (term_at s.block m.term) (λ t. summands_at s.block ms >>= λ rest. Some (one t ∷ rest)) summands e in
      let b = bound (summands_at s.block ms) (λ rest. Some (one a.0 ∷ rest)) summands a.2 in
      subst (λ (l : List Summand). Terms (map (λ s. s.literal) l)) (found_same (one a.0 ∷ b.0) summands b.2) (term_over s w m.term a.0 a.1, summands_over ms b.0 b.1)

  -- the hypotheses before the first case, and the cases
  abbrev Group : List Hypothesis × List CaseLines → Type 0
  Group g = Terms (hypothesis_terms g.0) × Terms (case_terms g.1)

  grouped_over : (lines : List CaseLine) (g : List Hypothesis × List CaseLines) → grouped s.block lines ≡ Some g → Group g
  grouped_over [] g e = subst Group (found_same ([], []) g e) (tt, tt)
  grouped_over (CaseOf q l ∷ rest) g e =
      let new = λ (t : Term) (g : List Hypothesis × List CaseLines). let c : CaseLines = record { test = t; step = l; hypotheses = g.0 } in let r : List Hypothesis × List CaseLines = ([], c ∷ g.1) in r in
      let a = bound (term_at s.block q) (λ t. grouped s.block rest >>= λ g. Some (new t g)) g e in
      let b = bound (grouped s.block rest) (λ g. Some (new a.0 g)) g a.2 in
      let inner = grouped_over rest b.0 b.1 in
      subst Group (found_same (new a.0 b.0) g b.2) (tt, (term_over s w q a.0 a.1, each_append (IsTerm (block_symbols s)) (hypothesis_terms b.0.0) (case_terms b.0.1) inner.0 inner.1))
  grouped_over (HypothesisOf r pairs ∷ rest) g e =
      let new = λ (sub : Substitution) (g : List Hypothesis × List CaseLines). let x : Hypothesis = record { line = r; pairs = sub } in let r : List Hypothesis × List CaseLines = (x ∷ g.0, g.1) in r in
      let a = bound (substitution_at s.block pairs) (λ sub. grouped s.block rest >>= λ g. Some (new sub g)) g e in
      let b = bound (grouped s.block rest) (λ g. Some (new a.0 g)) g a.2 in
      let inner = grouped_over rest b.0 b.1 in
      subst Group (found_same (new a.0 b.0) g b.2) (each_append (IsTerm (block_symbols s)) (pair_terms a.0) (hypothesis_terms b.0.0) (substitution_over pairs a.0 a.1) inner.0, inner.1)

  pub taut_over : (fields : List Field) (r : Rule) → taut_rule s.block fields ≡ Some r → Over r
  taut_over fields r e =
      let a = bound (numbers_in fields) (λ ns. terms_at s.block ns >>= λ ts. Some (Taut ts)) r e in
      let b = bound (terms_at s.block a.0) (λ ts. Some (Taut ts)) r a.2 in
      subst Over (found_same (Taut b.0) r b.2) (terms_over s w a.0 b.0 b.1)

  pub axiom_over : (fields : List Field) (r : Rule) → axiom_rule fields ≡ Some r → Over r
  axiom_over (name n ∷ number row ∷ number i ∷ []) r e = subst Over (found_same (AxiomRow n row i) r e) tt
  axiom_over fields r e = absurd (nothing_found r e)

  pub event_over : (fields : List Field) (r : Rule) → event_rule fields ≡ Some r → Over r
  event_over (name n ∷ []) r e = subst Over (found_same (EventTerm n) r e) tt
  event_over fields r e = absurd (nothing_found r e)

  pub weaken_over : (fields : List Field) (r : Rule) → weaken_rule s.block fields ≡ Some r → Over r
  weaken_over (number l ∷ fields) r e =
      let a = bound (numbers_in fields) (λ ns. terms_at s.block ns >>= λ ts. Some (Weaken l ts)) r e in
      let b = bound (terms_at s.block a.0) (λ ts. Some (Weaken l ts)) r a.2 in
      subst Over (found_same (Weaken l b.0) r b.2) (terms_over s w a.0 b.0 b.1)
  weaken_over fields r e = absurd (nothing_found r e)

  pub cut_over : (fields : List Field) (r : Rule) → cut_rule s.block fields ≡ Some r → Over r
  cut_over (number l ∷ number m ∷ number t ∷ []) r e =
      let a = bound (term_at s.block t) (λ t. Some (Cut l m t)) r e in subst Over (found_same (Cut l m a.0) r a.2) (term_over s w t a.0 a.1, tt)
  cut_over fields r e = absurd (nothing_found r e)

  pub instance_over : (fields : List Field) (r : Rule) → instance_rule s.block fields ≡ Some r → Over r
  instance_over (number l ∷ fields) r e =
      let a = bound (pairs_in fields) (λ pairs. substitution_at s.block pairs >>= λ sub. Some (Instance l sub)) r e in
      let b = bound (substitution_at s.block a.0) (λ sub. Some (Instance l sub)) r a.2 in
      subst Over (found_same (Instance l b.0) r b.2) (substitution_over a.0 b.0 b.1)
  instance_over fields r e = absurd (nothing_found r e)

  pub reflexive_over : (fields : List Field) (r : Rule) → reflexive_rule s.block fields ≡ Some r → Over r
  reflexive_over (number t ∷ []) r e = let a = bound (term_at s.block t) (λ t. Some (Reflexive t)) r e in subst Over (found_same (Reflexive a.0) r a.2) (term_over s w t a.0 a.1, tt)
  reflexive_over fields r e = absurd (nothing_found r e)

  pub replace_over : (fields : List Field) (r : Rule) → replace_rule s.block fields ≡ Some r → Over r
  replace_over (number l ∷ number k ∷ path p ∷ number t ∷ sign d ∷ []) r e =
      let a = bound (term_at s.block t) (λ t. Some (Replace l k p t (side_of d))) r e in subst Over (found_same (Replace l k p a.0 (side_of d)) r a.2) (term_over s w t a.0 a.1, tt)
  replace_over fields r e = absurd (nothing_found r e)

  pub join_over : (fields : List Field) (r : Rule) → join_rule s.block fields ≡ Some r → Over r
  join_over (number l ∷ number m ∷ number p ∷ number x ∷ number y ∷ []) r e =
      let a = bound (term_at s.block p) (λ p. term_at s.block x >>= λ x. term_at s.block y >>= λ y. Some (Join l m p x y)) r e in
      let b = bound (term_at s.block x) (λ x. term_at s.block y >>= λ y. Some (Join l m a.0 x y)) r a.2 in
      let d = bound (term_at s.block y) (λ y. Some (Join l m a.0 b.0 y)) r b.2 in
      subst Over (found_same (Join l m a.0 b.0 d.0) r d.2) (term_over s w p a.0 a.1, (term_over s w x b.0 b.1, (term_over s w y d.0 d.1, tt)))
  join_over fields r e = absurd (nothing_found r e)

  split_side_over : (l k : ℕ) (one two : Bool) (r : Rule) → (if one then Some (SplitFirst l k) else (if two then Some (SplitSecond l k) else None)) ≡ Some r → Over r
  split_side_over l k true two r e = subst Over (found_same (SplitFirst l k) r e) tt
  split_side_over l k false true r e = subst Over (found_same (SplitSecond l k) r e) tt
  split_side_over l k false false r e = absurd (nothing_found r e)

  pub split_over : (fields : List Field) (r : Rule) → split_rule fields ≡ Some r → Over r
  split_over (number l ∷ number k ∷ number i ∷ []) r e = split_side_over l k (i == 1) (i == 2) r e
  split_over fields r e = absurd (nothing_found r e)

  pub not_not_over : (fields : List Field) (r : Rule) → not_not_rule fields ≡ Some r → Over r
  not_not_over (number l ∷ number k ∷ []) r e = subst Over (found_same (NotNot l k) r e) tt
  not_not_over fields r e = absurd (nothing_found r e)

  pub value_over : (fields : List Field) (r : Rule) → value_rule s.block fields ≡ Some r → Over r
  value_over (number t ∷ []) r e = let a = bound (term_at s.block t) (λ t. Some (Value t)) r e in subst Over (found_same (Value a.0) r a.2) (term_over s w t a.0 a.1, tt)
  value_over fields r e = absurd (nothing_found r e)

  pub linear_over : (fields : List Field) (r : Rule) → linear_rule s.block fields ≡ Some r → Over r
  linear_over fields r e =
      let a = bound (multiples_in fields) (λ ms. summands_at s.block ms >>= λ summands. Some (Linear summands)) r e in
      let b = bound (summands_at s.block a.0) (λ summands. Some (Linear summands)) r a.2 in
      subst Over (found_same (Linear b.0) r b.2) (summands_over a.0 b.0 b.1)

  pub induct_over : (fields : List Field) (r : Rule) → induct_rule s.block fields ≡ Some r → Over r
  induct_over (number p ∷ number m ∷ number o ∷ number b ∷ []) r e =
      let x = bound (term_at s.block p) (λ p. term_at s.block m >>= λ m. cases_at s.block s.block.cases >>= λ cases. Some (Induct p m o b cases)) r e in
      let y = bound (term_at s.block m) (λ m. cases_at s.block s.block.cases >>= λ cases. Some (Induct x.0 m o b cases)) r x.2 in
      let z = bound (cases_at s.block s.block.cases) (λ cases. Some (Induct x.0 y.0 o b cases)) r y.2 in
      let g = bound (grouped s.block s.block.cases) (λ g. only_when (is_empty g.0) g.1) z.0 z.1 in
      let c = allowed (is_empty g.0.0) g.0.1 z.0 g.2 in
      let over = (grouped_over s.block.cases g.0 g.1).1 in
      subst Over (found_same (Induct x.0 y.0 o b z.0) r z.2) (term_over s w p x.0 x.1, (term_over s w m y.0 y.1, subst (λ cases. Terms (case_terms cases)) c.1 over))
  induct_over fields r e = absurd (nothing_found r e)
