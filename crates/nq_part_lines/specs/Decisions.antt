-- Terms that lines decide, and what is told of T and F.
use Rattle.std.specs.Prelude.{◌≡◌, Bool, true, false, List, [], ◌∷◌}
use Rattle.nq_logic.specs.Terms.{Name, Term, Function, Applied, IsAmong}
use Rattle.nq_logic.specs.Words.{not_term, or_term}
use Rattle.nq_logic.specs.Histories.{Shell}
use Rattle.nq_bank.specs.declared.node.Sym.{Sym}
use Rattle.nq_bank.specs.Content.{Content, IsNamed, term_at, text_at}
use Rattle.nq_history.specs.declared.entry.Entry.{Entry}
use Rattle.nq_kernel.specs.declared.work.Work.{Work}
use Rattle.nq_lines.specs.Lines.{LineHasOnly}
use Rattle.nq_shell_parts.specs.LawClauses.{first_of_choice_clause, second_of_choice_clause, neither_of_choice_clause}
use Rattle.nq_part_lines.specs.Defaults.{truth_term}
use Rattle.nq_part_lines.specs.Small.{IsSmallIn}
use Rattle.nq_part_lines.specs.declared.kinds.Decided.{Decided}

-- that T, or F, is of a kind
abbrev pub is_of : Name → Bool → Term
is_of r value = Applied (Function r) (truth_term value)

-- that a term holds, or else that it does not
abbrev pub told : Bool → Term → Term
told true t = t
told false t = not_term t

-- the id is that of the term, and the line tells that it holds, or else that it does not
pub record IsDecided (history : List Entry) (work : Work) (t : Term) (holds : Bool) (d : Decided) : Type 0 where
  pub small : IsSmallIn history work d.term
  pub term_is : term_at work.bank d.term ≡ t
  pub holds_is : d.holds ≡ holds
  pub line : LineHasOnly work d.line (told holds t ∷ [])

-- the constructor of one of the shells, with this recognizer
pub record HasThisKind (bank : Content) (shells : List Shell) (r : Name) (constructor : Sym) : Type 0 where
  pub named : IsNamed bank constructor
  pub shell : Shell
  pub among : IsAmong shell shells
  pub constructor_is : shell.constructor ≡ text_at bank constructor
  pub recognizer_is : shell.recognizer ≡ r

-- the law of a choice of which the first holds, or the second, or neither
abbrev pub choice_clause : Bool → Bool → List Term
choice_clause true second = first_of_choice_clause
choice_clause false true = second_of_choice_clause
choice_clause false false = neither_of_choice_clause

-- its literals at two terms
abbrev pub choice_literals : Bool → Bool → Term → Term → List Term
choice_literals true second x y = not_term x ∷ or_term x y ∷ []
choice_literals false true x y = not_term y ∷ or_term x y ∷ []
choice_literals false false x y = y ∷ x ∷ not_term (or_term x y) ∷ []
