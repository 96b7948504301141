-- Terms that are known to be over the history.
use Rattle.std.specs.Prelude.{◌≡◌, List, [], ◌∷◌, ◌++◌, Option, Some, None}
use Rattle.nq_logic.specs.Terms.{Variable}
use Rattle.nq_bank.specs.declared.node.Sym.{Sym}
use Rattle.nq_bank.specs.declared.node.TermId.{TermId}
use Rattle.nq_bank.specs.Content.{IsNamed, text_at, term_at}
use Rattle.nq_clause.specs.declared.substitution.Pair.{Pair}
use Rattle.nq_clause.specs.Substitution.{PairStands}
use Rattle.nq_history.specs.declared.entry.Entry.{Entry}
use Rattle.nq_kernel.specs.declared.work.Work.{Work}
use Rattle.nq_kernel.specs.Hints.{PairIsIn}
use Rattle.nq_lines.specs.Lines.{IsTermIn}
use Rattle.nq_schemes.specs.declared.opened.Opened.{Opened}

-- the call and its body are over the history
pub record IsOpenedIn (history : List Entry) (work : Work) (o : Opened) : Type 0 where
  pub call : IsTermIn history work o.call
  pub body : IsTermIn history work o.body

-- the term is the variable of this name, over the history
pub record IsNameOf (history : List Entry) (work : Work) (t : TermId) (x : Sym) : Type 0 where
  pub term : IsTermIn history work t
  pub named : IsNamed work.bank x
  pub names : term_at work.bank t ≡ Variable (text_at work.bank x)

-- a variable that a log can spell, and a term over the history
pub record IsPairIn (history : List Entry) (work : Work) (p : Pair) : Type 0 where
  pub stands : PairStands work.bank p
  pub over : PairIsIn work.bank history p

-- and one more, if there is one
abbrev pub with_some : {X : Type 0} → List X → Option X → List X
with_some xs None = xs
with_some xs (Some x) = xs ++ x ∷ []
