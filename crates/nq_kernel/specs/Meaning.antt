-- What rules and lines of ids mean over a bank.
use Rattle.std.specs.Prelude.{◌≡◌, ◌+◌, ◌⊎◌, ◌++◌, ◌∷◌, [], ℕ, Bool, true, false, List, Option, length, All, ⊤}
use Rattle.std.specs.Option.{option_map}
use Rattle.nq_bank.specs.declared.node.TermId.{TermId}
use Rattle.nq_bank.specs.Content.{Content, Stands, IsNamed, text_at, term_at, terms_at}
use Rattle.nq_clause.specs.Substitution.{substitution_at, PairStands}
use Rattle.nq_proof.specs.Clauses.{Clause}
use Rattle.nq_proof.specs.Rules as tree
use Rattle.nq_history.specs.declared.entry.Entry.{Entry}
use Rattle.nq_history.specs.Events.{events_at}
use Rattle.nq_rule.specs.Branches.{BranchesStand}
use Rattle.nq_rule.specs.Conclusions.{Concludes}
use Rattle.nq_rule.specs.declared.induction.CaseOfInduction.{CaseOfInduction}
use Rattle.nq_rule.specs.Inductions.{cases_at, CaseStands}
use Rattle.nq_rule.specs.Sides.{side_of}
use Rattle.nq_linear_rule.specs.Sums.{summands_at, LiteralsStand}
use Rattle.nq_kernel.specs.declared.rule.Rule.{Rule}
use Rattle.nq_kernel.specs.declared.rule.Rule.TheVariants.{Taut, AxiomRow, EventTerm, Weaken, Cut, Instance, Reflexive, Replace, Join, SplitFirst, SplitSecond, NotNot, Value, Linear, Induct}
use Rattle.nq_kernel.specs.declared.rule.Line.{Line}
use Rattle.nq_kernel.specs.Lines.{ids_at}

-- the rule, with terms in place of ids
abbrev pub rule_at : Content → Rule → tree.Rule
rule_at bank (Taut terms) = tree.Taut (terms_at bank terms.items)
rule_at bank (AxiomRow name row part) = tree.AxiomRow (text_at bank name) row part
rule_at bank (EventTerm name) = tree.EventTerm (text_at bank name)
rule_at bank (Weaken line terms) = tree.Weaken line (terms_at bank terms.items)
rule_at bank (Cut first second t) = tree.Cut first second (term_at bank t)
rule_at bank (Instance line pairs) = tree.Instance line (substitution_at bank pairs.items)
rule_at bank (Reflexive t) = tree.Reflexive (term_at bank t)
rule_at bank (Replace line place path t side) = tree.Replace line place path.items (term_at bank t) (side_of side)
rule_at bank (Join first second parts) = tree.Join first second (term_at bank parts.test) (term_at bank parts.first) (term_at bank parts.second)
rule_at bank (SplitFirst line place) = tree.SplitFirst line place
rule_at bank (SplitSecond line place) = tree.SplitSecond line place
rule_at bank (NotNot line place) = tree.NotNot line place
rule_at bank (Value t) = tree.Value (term_at bank t)
rule_at bank (Linear summands) = tree.Linear (summands_at bank summands.items)
rule_at bank (Induct claim measure ordinal base cases) = tree.Induct (term_at bank claim) (term_at bank measure) ordinal base (cases_at bank cases.items)

-- the ids and names of an induction stand in the bank
pub record InductionStands (bank : Content) (p m : TermId) (cs : List CaseOfInduction) : Type 0 where
  pub claim : Stands bank p
  pub measure : Stands bank m
  pub cases : All (CaseStands bank) cs

-- the ids and names of the rule stand in the bank
abbrev pub RuleStands : Content → Rule → Type 0
RuleStands bank (Taut terms) = All (Stands bank) terms.items
RuleStands bank (AxiomRow name row part) = IsNamed bank name
RuleStands bank (EventTerm name) = IsNamed bank name
RuleStands bank (Weaken line terms) = All (Stands bank) terms.items
RuleStands bank (Cut first second t) = Stands bank t
RuleStands bank (Instance line pairs) = All (PairStands bank) pairs.items
RuleStands bank (Reflexive t) = Stands bank t
RuleStands bank (Replace line place path t side) = Stands bank t
RuleStands bank (Join first second parts) = BranchesStand bank parts
RuleStands bank (SplitFirst line place) = ⊤
RuleStands bank (SplitSecond line place) = ⊤
RuleStands bank (NotNot line place) = ⊤
RuleStands bank (Value t) = Stands bank t
RuleStands bank (Linear summands) = LiteralsStand bank summands.items
RuleStands bank (Induct claim measure ordinal base cases) = InductionStands bank claim measure cases.items

-- whether the rule is the row of an axiom
abbrev pub is_axiom_row : Rule → Bool
is_axiom_row (AxiomRow name row part) = true
is_axiom_row rule = false

-- the ids of each line's clause stand in the bank
pub record IsOver (bank : Content) (log : List Line) : Type 0 where
  pub stand : All (λ line. All (Stands bank) line.clause.items) log

-- the clause of line n, counted from 1, where it stands
abbrev pub clause_at : Content → List Line → ℕ → Option Clause
clause_at bank log n = option_map (terms_at bank) (ids_at log n)

-- the clause that a rule gives after the lines of a log; none where it is not allowed
unfoldable pub conclusion_at : Content → List Entry → List Line → Rule → Option Clause
conclusion_at bank history log rule = tree.conclusion (events_at bank history) (clause_at bank log) (rule_at bank rule)

-- a line of this rule was added, with the clause that the rule gives, and has the number n
pub record Adds (before after : Content) (history : List Entry) (old new : List Line) (rule : Rule) (n : ℕ) : Type 0 where
  pub line : Line
  pub whole : new ≡ old ++ line ∷ []
  pub number : n ≡ length old + 1
  pub rule_is : line.rule ≡ rule
  pub stands_is : line.stands ≡ true
  pub clause : Concludes after line.clause.items (conclusion_at before history old rule)

-- the number n is of a line with the clause that the rule gives: of one that stood, or of one that was added
abbrev pub Places : Content → Content → List Entry → List Line → List Line → Rule → ℕ → Type 0
Places before after history old new rule n =
    ((new ≡ old) × (clause_at after old n ≡ conclusion_at before history old rule)) ⊎ Adds before after history old new rule n
