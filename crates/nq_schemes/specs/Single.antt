-- The scheme of one case, whose test says that the measure falls.
use Rattle.std.specs.Prelude.{◌<◌, List, length}
use Rattle.nq_logic.specs.Terms.{Term, substituted}
use Rattle.nq_logic.specs.Words.{call2}
use Rattle.nq_bank.specs.declared.node.TermId.{TermId}
use Rattle.nq_bank.specs.Content.{Content, term_at}
use Rattle.nq_clause.specs.declared.substitution.Pair.{Pair}
use Rattle.nq_clause.specs.Substitution.{substitution_at}
use Rattle.nq_induct.specs.declared.scheme.Case.{Case}
use Rattle.nq_induct.specs.declared.scheme.Scheme.{Scheme}

-- that the measure falls where the pairs take it
abbrev pub fall_of : Content → TermId → List Pair → Term
fall_of bank measure pairs = call2 "ORD-LESSP" (substituted (substitution_at bank pairs) (term_at bank measure)) (term_at bank measure)

-- the goal is used at a substitution, at least one
abbrev pub HasSteps : Case → Type 0
HasSteps c = 0 < length c.steps.items

-- the scheme has a case, at least one
abbrev pub HasCases : Scheme → Type 0
HasCases s = 0 < length s.cases.items
