-- New variables, and terms in whose places they stand.
use Rattle.std.specs.Prelude.{◌≡◌, false, Bool, ◌||◌, List, [], ◌∷◌, map, All}
use Rattle.nq_logic.specs.Terms.{Name, Substitution}
use Rattle.nq_logic.specs.Admissible.{AreDistinct}
use Rattle.nq_bank.specs.declared.node.TermId.{TermId}
use Rattle.nq_bank.specs.declared.node.Sym.{Sym}
use Rattle.nq_bank.specs.Content.{IsNamed, text_at, terms_at}
use Rattle.nq_bank.specs.Parts.{occurs}
use Rattle.nq_clause.specs.declared.substitution.Pair.{Pair}
use Rattle.nq_clause.specs.Substitution.{substitution_at}
use Rattle.nq_proof.specs.Clauses.{Clause}
use Rattle.nq_proof.specs.Rules.{pair_terms}
use Rattle.nq_history.specs.declared.entry.Entry.{Entry}
use Rattle.nq_kernel.specs.declared.work.Work.{Work}
use Rattle.nq_kernel.specs.Over.{IsVariable, pair_names}
use Rattle.nq_lines.specs.Lines.{IsTermIn}
use Rattle.nq_lines.specs.Instances.{ArePairsIn}
use Rattle.nq_goals.specs.Replacing.{Exchange, exchanged}
use Rattle.nq_goals.specs.Generalizing.{exchange_of}
use Rattle.nq_moves.specs.Renamed.{AreNewIn}
use Rattle.nq_moves.specs.declared.naming.Renaming.{Renaming}

-- whether the variable stands in one of the literals
abbrev pub occurs_in_one : Name → Clause → Bool
occurs_in_one x [] = false
occurs_in_one x (t ∷ c) = occurs x t || occurs_in_one x c

-- the name is that of a variable that a log can spell and that stands in none of the literals
pub record IsNewName (work : Work) (literals : List TermId) (s : Sym) : Type 0 where
  pub named : IsNamed work.bank s
  pub plain : IsVariable (text_at work.bank s)
  pub free : occurs_in_one (text_at work.bank s) (terms_at work.bank literals) ≡ false

-- a new variable for a term
pub record IsNaming (history : List Entry) (work : Work) (literals : List TermId) (p : Pair) : Type 0 where
  pub name : IsNewName work literals p.variable
  pub term : IsTermIn history work p.term

-- the variables in the places of their terms
abbrev pub exchange_by : Substitution → Exchange
exchange_by s = exchange_of (pair_terms s) (pair_names s)

-- the literals with new variables in the places of terms
pub record IsRenaming (history : List Entry) (work : Work) (literals : List TermId) (r : Renaming) : Type 0 where
  pub over : ArePairsIn history work r.pairs.items
  pub apart : AreDistinct (pair_names (substitution_at work.bank r.pairs.items))
  pub new : AreNewIn (pair_names (substitution_at work.bank r.pairs.items)) (terms_at work.bank literals)
  pub renamed : terms_at work.bank r.literals.items ≡ map (exchanged (exchange_by (substitution_at work.bank r.pairs.items))) (terms_at work.bank literals)
  pub literals_in : All (IsTermIn history work) r.literals.items
