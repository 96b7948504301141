-- Connectives over the variables P and Q, and the openings of their definitions.
use Rattle.std.specs.Prelude.{ℕ, Bool, List, [], ◌∷◌}
use Rattle.nq_logic.specs.Terms.{Term}
use Rattle.nq_logic.specs.Words.{equal_term}
use Rattle.nq_logic.specs.Ground.{p_term, q_term}
use Rattle.nq_proof.specs.Rows.{opening}
use Rattle.nq_bank.specs.Content.{Content, Stands, NamesText, IsIdOf}
use Rattle.nq_kernel.specs.declared.work.Work.{Work}
use Rattle.nq_kernel.specs.Growing.{LineHolds}
use Rattle.nq_fragments.specs.declared.connective.Connective.{Connective}
use Rattle.nq_clause.specs.declared.substitution.Pair.{Pair}
use Rattle.nq_quick.specs.declared.patterns.Case.{Case}
use Rattle.nq_quick.specs.declared.patterns.Pattern.{Pattern}
use Rattle.nq_quick.specs.declared.patterns.Opening.{Opening}
use Rattle.nq_fragments.specs.Propositions.{joined_truth}
use Rattle.nq_quick.specs.Heads.{joined_term}
use Rattle.nq_quick.specs.Lines.{signed, denial, definition_of}

-- the connective of P and Q
abbrev pub pattern_term : Connective → Term
pattern_term c = joined_term c p_term q_term

-- P, Q and the connective of them
pub record IsPattern (bank : Content) (c : Connective) (pattern : Pattern) : Type 0 where
  pub left : IsIdOf bank pattern.left p_term
  pub right : IsIdOf bank pattern.right q_term
  pub whole : IsIdOf bank pattern.whole (pattern_term c)

-- the line of the equation that opens the connective, with the ids of the equation and of its right side
pub record IsOpening (work : Work) (c : Connective) (opened : Opening) : Type 0 where
  pub line : LineHolds work opened.line (opening (definition_of c))
  pub equation : IsIdOf work.bank opened.equation (equal_term (pattern_term c) (definition_of c).body)
  pub body : IsIdOf work.bank opened.body (definition_of c).body

-- the truth of the connective
abbrev pub case_truth : Case → Bool
case_truth case = joined_truth case.connective case.left case.right

-- the connective of two terms or its NOT, and the literals that are false where the terms are true or false
abbrev pub instance_literals : Case → Term → Term → List Term
instance_literals case p q = signed (case_truth case) (joined_term case.connective p q) ∷ denial case.left p ∷ denial case.right q ∷ []

-- the same for P and Q
abbrev pub case_literals : Case → List Term
case_literals case = instance_literals case p_term q_term

-- the pair has a term for the variable of this text
pub record IsPair (bank : Content) (pair : Pair) (text : List ℕ) : Type 0 where
  pub name : NamesText bank pair.variable text
  pub term : Stands bank pair.term
