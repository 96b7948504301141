-- What stands at the head of a term.
use Rattle.std.specs.Prelude.{◌≡◌, ℕ, List, map, None}
use Rattle.nq_logic.specs.Terms.{Term, Variable, call}
use Rattle.nq_logic.specs.Words.{if_term}
use Rattle.nq_bank.specs.declared.node.TermId.{TermId}
use Rattle.nq_bank.specs.declared.node.Sym.{Sym}
use Rattle.nq_bank.specs.Content.{Content, Stands, IsNamed, text_at, term_at}
use Rattle.nq_bank.specs.Parts.{parts_of}
use Rattle.nq_rule.specs.declared.branching.Branches.{Branches}
use Rattle.nq_fragments.specs.Evaluation.{Way, choice_of}
use Rattle.nq_eval.specs.declared.heads.Head.{Head}
use Rattle.nq_eval.specs.declared.heads.Head.TheVariants as head

-- t is a variable
pub record IsVariableTerm (bank : Content) (t : TermId) : Type 0 where
  pub name : List ℕ
  pub is : term_at bank t ≡ Variable name

-- t is IF of these terms
pub record IsChoice (bank : Content) (t : TermId) (parts : Branches) : Type 0 where
  pub is : term_at bank t ≡ if_term (term_at bank parts.test) (term_at bank parts.first) (term_at bank parts.second)
  pub test : Stands bank parts.test
  pub first : Stands bank parts.first
  pub second : Stands bank parts.second

-- t is a call of f that is no choice
pub record IsOtherCall (bank : Content) (t : TermId) (f : Sym) : Type 0 where
  pub name : IsNamed bank f
  pub is : term_at bank t ≡ call (text_at bank f) (parts_of (term_at bank t))
  pub other : (way : Term → Way) → choice_of (text_at bank f) (map way (parts_of (term_at bank t))) ≡ None

abbrev pub HasHead : Content → TermId → Head → Type 0
HasHead bank t head.Variable = IsVariableTerm bank t
HasHead bank t (head.Choice parts) = IsChoice bank t parts
HasHead bank t (head.Call f) = IsOtherCall bank t f
