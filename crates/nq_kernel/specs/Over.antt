-- What the rules of a log's lines speak of: terms over the functions of the history, with variables of one kind.
use Rattle.std.specs.Prelude.{◌≡◌, ◌≤◌, ◌++◌, ℕ, ⊤, IsTrue, false, List, [], ◌∷◌, map, Some, slice_get}
use Rattle.nq_logtext.specs.Symbols.{is_symbol}
use Rattle.nq_logic.specs.Terms.{Name, Symbol, Term, Variable, Function, Applied, Substitution, IsTerm, Each}
use Rattle.nq_logic.specs.Names.{has_name, constant_names}
use Rattle.nq_logic.specs.Ground.{symbols_of}
use Rattle.nq_bank.specs.declared.node.TermId.{TermId}
use Rattle.nq_bank.specs.Content.{Content, term_at}
use Rattle.nq_proof.specs.Rules as tree
use Rattle.nq_proof.specs.Rules.{Hypothesis, CaseLines, Instance, Induct, rule_terms}
use Rattle.nq_history.specs.declared.entry.Entry.{Entry}
use Rattle.nq_history.specs.Events.{events_at}
use Rattle.nq_kernel.specs.declared.rule.Rule.{Rule}
use Rattle.nq_kernel.specs.declared.rule.Line.{Line}
use Rattle.nq_kernel.specs.Meaning.{rule_at}

-- a variable that a log can spell: a symbol, and none of the constants T, F and NIL
pub record IsVariable (x : Name) : Type 0 where
  pub symbol : IsTrue (is_symbol x)
  pub other : has_name x constant_names ≡ false

-- each variable of the term is of this kind
abbrev pub VariablesAre : (Name → Type 0) → Term → Type 0
VariablesAre P (Variable x) = P x
VariablesAre P (Function f) = ⊤
VariablesAre P (Applied t u) = VariablesAre P t × VariablesAre P u

-- a term over these functions, with variables of this kind
pub record IsTermOf (P : Name → Type 0) (symbols : List Symbol) (t : Term) : Type 0 where
  pub over : IsTerm symbols t
  pub variables : VariablesAre P t

-- the variables in whose place a rule puts terms
abbrev pub pair_names : Substitution → List Name
pair_names s = map (λ pair. pair.0) s

abbrev pub hypothesis_names : List Hypothesis → List Name
hypothesis_names [] = []
hypothesis_names (s ∷ rest) = pair_names s.pairs ++ hypothesis_names rest

abbrev pub case_names : List CaseLines → List Name
case_names [] = []
case_names (c ∷ cases) = hypothesis_names c.hypotheses ++ case_names cases

abbrev pub replaced_names : tree.Rule → List Name
replaced_names (Instance l s) = pair_names s
replaced_names (Induct p m o b cases) = case_names cases
replaced_names rule = []

-- the terms of a rule are over these functions, and its variables are of this kind
pub record RuleIsOver (P : Name → Type 0) (symbols : List Symbol) (rule : tree.Rule) : Type 0 where
  pub terms : Each (IsTermOf P symbols) (rule_terms rule)
  pub names : Each P (replaced_names rule)

-- the rules of the lines from this place on, counted from 0, are over the functions of the history, with variables of this kind
pub record RulesAreOver (P : Name → Type 0) (bank : Content) (history : List Entry) (first : ℕ) (log : List Line) : Type 0 where
  pub each : (k : ℕ) (line : Line) → first ≤ k → slice_get log k ≡ Some line → RuleIsOver P (symbols_of (events_at bank history)) (rule_at bank line.rule)

-- the term is over the functions of the history, and its variables are such as a log can spell
abbrev pub TermIsIn : Content → List Entry → TermId → Type 0
TermIsIn bank history t = IsTermOf IsVariable (symbols_of (events_at bank history)) (term_at bank t)

-- so are the terms of the rule, and the variables in whose place it puts terms
abbrev pub RuleIsIn : Content → List Entry → Rule → Type 0
RuleIsIn bank history rule = RuleIsOver IsVariable (symbols_of (events_at bank history)) (rule_at bank rule)
