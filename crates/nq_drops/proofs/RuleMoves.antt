-- A rule line leads to the same clause where the lines that it cites stand.
use Rattle.std.proofs.Common.{◌≡◌, ◌==◌, ℕ, Bool, true, false, ◌++◌, Option, Some, None, List, [], ◌∷◌, refl, sym, ap, ◌∙◌, subst, if◌then◌else◌}
use Rattle.nq_logtext.specs.Reading.{◌>>=◌}
use Rattle.nq_logtext.specs.Fields.{Field, number, name, path, sign}
use Rattle.nq_logtext.specs.declared.word.Word.{Word}
use Rattle.nq_logtext.specs.declared.word.Word.TheVariants as word
use Rattle.nq_logic.specs.Terms.{Each}
use Rattle.nq_proof.specs.Clauses.{Clause}
use Rattle.nq_proof.specs.Rules.{Rule, Taut, AxiomRow, EventTerm, Weaken, Cut, Instance, Reflexive, Replace, Join, SplitFirst, SplitSecond, NotNot, Value, Linear, Induct, conclusion, rule_terms}
use Rattle.nq_log.specs.Sizes.{are_shallow}
use Rattle.nq_log.specs.States.{Block, State, Step, Continues, only_when, clause_at, term_at, terms_at}
use Rattle.nq_log.specs.Fields.{numbers_in, pairs_in, multiples_in}
use Rattle.nq_log.specs.RuleLines.{side_of, substitution_at, summands_at, cases_at, taut_rule, axiom_rule, event_rule, weaken_rule, cut_rule, instance_rule, reflexive_rule, replace_rule, join_rule, split_rule, not_not_rule, value_rule, linear_rule, induct_rule, are_without, with_clause, rule_line}
use Rattle.nq_log.specs.Logs.{continued, step_by}
use Rattle.nq_log.proofs.Options.{nothing_found, found_same, bound, allowed}
use Rattle.nq_drops.specs.Uses.{cited_by, is_rule, is_induction}
use Rattle.nq_drops.proofs.Cited.{rule_cited, IsKept, conclusion_kept}
use Rattle.nq_drops.proofs.SameTerms.{with_lines, taut_same, weaken_same, cut_same, instance_same, reflexive_same, replace_same, join_same, value_same, linear_same, induct_same, waiting_cited, cases_at_cited}

-- ---- the lines that a rule cites are those of its line

taut_cited : (block : Block) (fields : List Field) (r : Rule) → taut_rule block fields ≡ Some r → rule_cited r ≡ []
taut_cited block fields r e =
    let a = bound (numbers_in fields) (λ ns. terms_at block ns >>= λ ts. Some (Taut ts)) r e in
    let b = bound (terms_at block a.0) (λ ts. Some (Taut ts)) r a.2 in
    ap rule_cited (sym (found_same (Taut b.0) r b.2))

axiom_cited : (fields : List Field) (r : Rule) → axiom_rule fields ≡ Some r → rule_cited r ≡ []
axiom_cited (name n ∷ number row ∷ number i ∷ []) r e = ap rule_cited (sym (found_same (AxiomRow n row i) r e))
axiom_cited fields r e = absurd (nothing_found r e)

event_cited : (fields : List Field) (r : Rule) → event_rule fields ≡ Some r → rule_cited r ≡ []
event_cited (name n ∷ []) r e = ap rule_cited (sym (found_same (EventTerm n) r e))
event_cited fields r e = absurd (nothing_found r e)

weaken_cited : (block : Block) (fields : List Field) (r : Rule) → weaken_rule block fields ≡ Some r → rule_cited r ≡ cited_by fields word.Weaken
weaken_cited block (number l ∷ fields) r e =
    let a = bound (numbers_in fields) (λ ns. terms_at block ns >>= λ ts. Some (Weaken l ts)) r e in
    let b = bound (terms_at block a.0) (λ ts. Some (Weaken l ts)) r a.2 in
    ap rule_cited (sym (found_same (Weaken l b.0) r b.2))
weaken_cited block fields r e = absurd (nothing_found r e)

cut_cited : (block : Block) (fields : List Field) (r : Rule) → cut_rule block fields ≡ Some r → rule_cited r ≡ cited_by fields word.Cut
cut_cited block (number l ∷ number m ∷ number t ∷ []) r e =
    let a = bound (term_at block t) (λ t. Some (Cut l m t)) r e in ap rule_cited (sym (found_same (Cut l m a.0) r a.2))
cut_cited block fields r e = absurd (nothing_found r e)

instance_cited : (block : Block) (fields : List Field) (r : Rule) → instance_rule block fields ≡ Some r → rule_cited r ≡ cited_by fields word.Inst
instance_cited block (number l ∷ fields) r e =
    let a = bound (pairs_in fields) (λ pairs. substitution_at block pairs >>= λ s. Some (Instance l s)) r e in
    let b = bound (substitution_at block a.0) (λ s. Some (Instance l s)) r a.2 in
    ap rule_cited (sym (found_same (Instance l b.0) r b.2))
instance_cited block fields r e = absurd (nothing_found r e)

reflexive_cited : (block : Block) (fields : List Field) (r : Rule) → reflexive_rule block fields ≡ Some r → rule_cited r ≡ []
reflexive_cited block (number t ∷ []) r e = let a = bound (term_at block t) (λ t. Some (Reflexive t)) r e in ap rule_cited (sym (found_same (Reflexive a.0) r a.2))
reflexive_cited block fields r e = absurd (nothing_found r e)

replace_cited : (block : Block) (fields : List Field) (r : Rule) → replace_rule block fields ≡ Some r → rule_cited r ≡ cited_by fields word.Replace
replace_cited block (number l ∷ number k ∷ path p ∷ number t ∷ sign s ∷ []) r e =
    let a = bound (term_at block t) (λ t. Some (Replace l k p t (side_of s))) r e in ap rule_cited (sym (found_same (Replace l k p a.0 (side_of s)) r a.2))
replace_cited block fields r e = absurd (nothing_found r e)

join_cited : (block : Block) (fields : List Field) (r : Rule) → join_rule block fields ≡ Some r → rule_cited r ≡ cited_by fields word.Join
join_cited block (number l ∷ number m ∷ number p ∷ number x ∷ number y ∷ []) r e =
    let a = bound (term_at block p) (λ p. term_at block x >>= λ x. term_at block y >>= λ y. Some (Join l m p x y)) r e in
    let b = bound (term_at block x) (λ x. term_at block y >>= λ y. Some (Join l m a.0 x y)) r a.2 in
    let c = bound (term_at block y) (λ y. Some (Join l m a.0 b.0 y)) r b.2 in
    ap rule_cited (sym (found_same (Join l m a.0 b.0 c.0) r c.2))
join_cited block fields r e = absurd (nothing_found r e)

split_cited : (fields : List Field) (r : Rule) → split_rule fields ≡ Some r → rule_cited r ≡ cited_by fields word.Split
split_cited (number l ∷ number k ∷ number s ∷ []) r e = by_side (s == 1) (s == 2) e
  where
    by_side : (a b : Bool) → (if a then Some (SplitFirst l k) else (if b then Some (SplitSecond l k) else None)) ≡ Some r → rule_cited r ≡ l ∷ []
    by_side true b f = ap rule_cited (sym (found_same (SplitFirst l k) r f))
    by_side false true f = ap rule_cited (sym (found_same (SplitSecond l k) r f))
    by_side false false f = absurd (nothing_found r f)
split_cited fields r e = absurd (nothing_found r e)

not_not_cited : (fields : List Field) (r : Rule) → not_not_rule fields ≡ Some r → rule_cited r ≡ cited_by fields word.NotNot
not_not_cited (number l ∷ number k ∷ []) r e = ap rule_cited (sym (found_same (NotNot l k) r e))
not_not_cited fields r e = absurd (nothing_found r e)

value_cited : (block : Block) (fields : List Field) (r : Rule) → value_rule block fields ≡ Some r → rule_cited r ≡ []
value_cited block (number t ∷ []) r e = let a = bound (term_at block t) (λ t. Some (Value t)) r e in ap rule_cited (sym (found_same (Value a.0) r a.2))
value_cited block fields r e = absurd (nothing_found r e)

linear_cited : (block : Block) (fields : List Field) (r : Rule) → linear_rule block fields ≡ Some r → rule_cited r ≡ []
linear_cited block fields r e =
    let a = bound (multiples_in fields) (λ ms. summands_at block ms >>= λ summands. Some (Linear summands)) r e in
    let b = bound (summands_at block a.0) (λ summands. Some (Linear summands)) r a.2 in
    ap rule_cited (sym (found_same (Linear b.0) r b.2))

induct_cited : (block : Block) (fields : List Field) (r : Rule) → induct_rule block fields ≡ Some r → rule_cited r ≡ waiting_cited block.cases ++ cited_by fields word.Induct
induct_cited block (number p ∷ number m ∷ number o ∷ number b ∷ []) r e =
    let x = bound (term_at block p) (λ p. term_at block m >>= λ m. cases_at block block.cases >>= λ cases. Some (Induct p m o b cases)) r e in
    let y = bound (term_at block m) (λ m. cases_at block block.cases >>= λ cases. Some (Induct x.0 m o b cases)) r x.2 in
    let z = bound (cases_at block block.cases) (λ cases. Some (Induct x.0 y.0 o b cases)) r y.2 in
    ap rule_cited (sym (found_same (Induct x.0 y.0 o b z.0) r z.2)) ∙ ap (λ ls. ls ++ (o ∷ b ∷ [])) (cases_at_cited block block.cases z.0 z.1)
induct_cited block fields r e = absurd (nothing_found r e)

-- ---- what a rule line leads to

-- the block with the clause of such a rule line; an induction uses up what waits
abbrev pub after_rule : Word → Block → Clause → Block
after_rule w block c = if is_induction w then record (with_clause block c) { cases = [] } else with_clause block c

-- the lines that such a rule line uses
abbrev pub used_by : Word → List ℕ → List Field → List ℕ
used_by w waiting fields = if is_induction w then waiting ++ cited_by fields w else cited_by fields w

pub record RuleMoves (s : State) (lines : List (Option Clause)) (fields : List Field) (w : Word) (taken : Step) : Type 0 where
  pub clause : Clause
  pub here : taken ≡ Continues (after_rule w s.block clause)
  pub there : step_by (record s { block = with_lines s.block lines }) fields w ≡ Some (Continues (after_rule w (with_lines s.block lines) clause))

module _ (s : State) (lines : List (Option Clause)) where
  abbrev other : State
  other = record s { block = with_lines s.block lines }

  abbrev Kept : ℕ → Type 0
  Kept = IsKept (clause_at s.block) (clause_at other.block)

  -- the clause of a rule that is read from a line
  ruled : (here there : Option Rule) (ls : List ℕ) → there ≡ here → ((r : Rule) → here ≡ Some r → rule_cited r ≡ ls) → Each Kept ls → (block : Block) → rule_line s here ≡ Some block →
      (c : Clause) × (block ≡ with_clause s.block c) × (rule_line other there ≡ Some (with_clause other.block c))
  ruled here there ls same cites kept block e =
      let rest = λ (state : State) (r : Rule). conclusion state.history (clause_at state.block) r >>= λ c. only_when (are_shallow c) (with_clause state.block c) in
      let a = bound here (λ r. only_when (are_without s.block.introduced (rule_terms r)) r >>= λ r. rest s r) block e in
      let b = bound (only_when (are_without s.block.introduced (rule_terms a.0)) a.0) (λ r. rest s r) block a.2 in
      let without = allowed (are_without s.block.introduced (rule_terms a.0)) a.0 b.0 b.1 in
      let c = bound (conclusion s.history (clause_at s.block) b.0) (λ c. only_when (are_shallow c) (with_clause s.block c)) block b.2 in
      let low = allowed (are_shallow c.0) (with_clause s.block c.0) block c.2 in
      let all : Each Kept (rule_cited b.0) = subst (λ r. Each Kept (rule_cited r)) without.1 (subst (Each Kept) (sym (cites a.0 a.1)) kept) in
      let concluded = conclusion_kept (clause_at s.block) (clause_at other.block) s.history b.0 c.0 all c.1 in (
        c.0,
        sym low.1,
        ap (rule_line other) (same ∙ a.1)
            ∙ ap (λ (o : Option Rule). o >>= λ r. rest other r) b.1
            ∙ ap (λ (o : Option Clause). o >>= λ c. only_when (are_shallow c) (with_clause other.block c)) concluded
            ∙ ap (λ b. only_when b (with_clause other.block c.0)) low.0,
      )

  moved : (here there : Option Rule) (ls : List ℕ) (taken : Step) → there ≡ here → ((r : Rule) → here ≡ Some r → rule_cited r ≡ ls) → Each Kept ls → continued (rule_line s here) ≡ Some taken →
      (c : Clause) × (taken ≡ Continues (with_clause s.block c)) × (continued (rule_line other there) ≡ Some (Continues (with_clause other.block c)))
  moved here there ls taken same cites kept e = by_block (rule_line s here) refl e
    where
      by_block : (o : Option Block) → rule_line s here ≡ o → continued o ≡ Some taken →
          (c : Clause) × (taken ≡ Continues (with_clause s.block c)) × (continued (rule_line other there) ≡ Some (Continues (with_clause other.block c)))
      by_block None is f = absurd (nothing_found taken f)
      by_block (Some block) is f =
          let a = ruled here there ls same cites kept block is in
          (a.0, sym (found_same (Continues block) taken f) ∙ ap Continues a.1, ap continued a.2)

  inducted : (fields : List Field) (taken : Step) → Each Kept (waiting_cited s.block.cases ++ cited_by fields word.Induct) → step_by s fields word.Induct ≡ Some taken → RuleMoves s lines fields word.Induct taken
  inducted fields taken kept e = by_block (rule_line s (induct_rule s.block fields)) refl e
    where
      by_block : (o : Option Block) → rule_line s (induct_rule s.block fields) ≡ o → continued (o >>= λ block. Some (record block { cases = [] })) ≡ Some taken → RuleMoves s lines fields word.Induct taken
      by_block None is f = absurd (nothing_found taken f)
      by_block (Some block) is f =
          let a = ruled (induct_rule s.block fields) (induct_rule other.block fields) (waiting_cited s.block.cases ++ cited_by fields word.Induct) (induct_same s.block lines fields) (induct_cited s.block fields) kept block is in
          record {
            clause = a.0;
            here = sym (found_same (Continues (record block { cases = [] })) taken f) ∙ ap (λ (b : Block). Continues (record b { cases = [] })) a.1;
            there = ap (λ (o : Option Block). continued (o >>= λ block. Some (record block { cases = [] }))) a.2;
          }

  plain : (fields : List Field) (w : Word) (taken : Step) (here there : Option Rule) (ls : List ℕ) → is_induction w ≡ false → there ≡ here → ((r : Rule) → here ≡ Some r → rule_cited r ≡ ls) → Each Kept ls →
      step_by s fields w ≡ continued (rule_line s here) → step_by other fields w ≡ continued (rule_line other there) → step_by s fields w ≡ Some taken → RuleMoves s lines fields w taken
  plain fields w taken here there ls not_induct same cites kept of_s of_other e =
      let a = moved here there ls taken same cites kept (sym of_s ∙ e) in
      record {
        clause = a.0;
        here = a.1 ∙ ap (λ b. Continues (if b then record (with_clause s.block a.0) { cases = [] } else with_clause s.block a.0)) (sym not_induct);
        there = of_other ∙ a.2 ∙ ap (λ b. Some (Continues (if b then record (with_clause other.block a.0) { cases = [] } else with_clause other.block a.0))) (sym not_induct);
      }

  pub rule_moves : (fields : List Field) (w : Word) (taken : Step) → is_rule w ≡ true → Each Kept (used_by w (waiting_cited s.block.cases) fields) → step_by s fields w ≡ Some taken → RuleMoves s lines fields w taken
  rule_moves fields word.Taut taken r kept e = plain fields word.Taut taken (taut_rule s.block fields) (taut_rule other.block fields) [] refl (taut_same s.block lines fields) (taut_cited s.block fields) kept refl refl e
  rule_moves fields word.Axiom taken r kept e = plain fields word.Axiom taken (axiom_rule fields) (axiom_rule fields) [] refl refl (axiom_cited fields) kept refl refl e
  rule_moves fields word.Event taken r kept e = plain fields word.Event taken (event_rule fields) (event_rule fields) [] refl refl (event_cited fields) kept refl refl e
  rule_moves fields word.Weaken taken r kept e = plain fields word.Weaken taken (weaken_rule s.block fields) (weaken_rule other.block fields) (cited_by fields word.Weaken) refl (weaken_same s.block lines fields) (weaken_cited s.block fields) kept refl refl e
  rule_moves fields word.Cut taken r kept e = plain fields word.Cut taken (cut_rule s.block fields) (cut_rule other.block fields) (cited_by fields word.Cut) refl (cut_same s.block lines fields) (cut_cited s.block fields) kept refl refl e
  rule_moves fields word.Inst taken r kept e = plain fields word.Inst taken (instance_rule s.block fields) (instance_rule other.block fields) (cited_by fields word.Inst) refl (instance_same s.block lines fields) (instance_cited s.block fields) kept refl refl e
  rule_moves fields word.Refl taken r kept e = plain fields word.Refl taken (reflexive_rule s.block fields) (reflexive_rule other.block fields) [] refl (reflexive_same s.block lines fields) (reflexive_cited s.block fields) kept refl refl e
  rule_moves fields word.Replace taken r kept e = plain fields word.Replace taken (replace_rule s.block fields) (replace_rule other.block fields) (cited_by fields word.Replace) refl (replace_same s.block lines fields) (replace_cited s.block fields) kept refl refl e
  rule_moves fields word.Join taken r kept e = plain fields word.Join taken (join_rule s.block fields) (join_rule other.block fields) (cited_by fields word.Join) refl (join_same s.block lines fields) (join_cited s.block fields) kept refl refl e
  rule_moves fields word.Split taken r kept e = plain fields word.Split taken (split_rule fields) (split_rule fields) (cited_by fields word.Split) refl refl (split_cited fields) kept refl refl e
  rule_moves fields word.NotNot taken r kept e = plain fields word.NotNot taken (not_not_rule fields) (not_not_rule fields) (cited_by fields word.NotNot) refl refl (not_not_cited fields) kept refl refl e
  rule_moves fields word.Value taken r kept e = plain fields word.Value taken (value_rule s.block fields) (value_rule other.block fields) [] refl (value_same s.block lines fields) (value_cited s.block fields) kept refl refl e
  rule_moves fields word.Linear taken r kept e = plain fields word.Linear taken (linear_rule s.block fields) (linear_rule other.block fields) [] refl (linear_same s.block lines fields) (linear_cited s.block fields) kept refl refl e
  rule_moves fields word.Induct taken r kept e = inducted fields taken kept e
  rule_moves fields w taken r kept e = absurd cc
