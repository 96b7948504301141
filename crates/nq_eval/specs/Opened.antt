-- Openings over ids.
use Rattle.std.specs.Prelude.{◌≡◌, ◌≤◌, List, [], ◌∷◌, Some, None, false, All, ℕ, bytes_eq, codes}
use Rattle.nq_logic.specs.Terms.{Term, Each, substituted}
use Rattle.nq_logic.specs.Words.{equal_term}
use Rattle.nq_logic.specs.Sizes.{depth_of}
use Rattle.nq_logic.specs.Ground.{symbols_of}
use Rattle.nq_logic.specs.Histories.{History, Definition, Defines}
use Rattle.nq_logic.specs.Names.{looked_up}
use Rattle.nq_logic.specs.Values.{is_value}
use Rattle.nq_proof.specs.Values.{value_of}
use Rattle.nq_proof.specs.Rules.{pair_terms}
use Rattle.nq_value.specs.Passing.{passes}
use Rattle.nq_bank.specs.declared.node.TermId.{TermId}
use Rattle.nq_bank.specs.declared.node.Sym.{Sym}
use Rattle.nq_bank.specs.Content.{Content, IsNamed, text_at, term_at}
use Rattle.nq_bank.specs.Shells.{texts_at}
use Rattle.nq_clause.specs.Substitution.{substitution_at}
use Rattle.nq_history.specs.declared.entry.Entry.{Entry}
use Rattle.nq_history.specs.Events.{events_at}
use Rattle.nq_kernel.specs.declared.work.Work.{Work}
use Rattle.nq_kernel.specs.Over.{IsVariable, IsTermOf}
use Rattle.nq_kernel.specs.Growing.{LineHolds}
use Rattle.nq_fragments.specs.Outcomes.{value_depth}
use Rattle.nq_fragments.specs.Openings.{Opening as OpeningOfTexts, opening_of, body_of}
use Rattle.nq_eval.specs.Known.{AreEqual}
use Rattle.nq_kernel.specs.Ready.{body_depth}
use Rattle.nq_eval.specs.Lines.{IsUsable}
use Rattle.nq_eval.specs.Rows.{row_at, ArePairsIn}
use Rattle.nq_eval.specs.declared.openings.Opening.{Opening}
use Rattle.nq_eval.specs.declared.openings.Opened.{Opened}

-- the call has no row, is no value, and does not pass
pub record Opens (bank : Content) (history : List Entry) (u : TermId) : Type 0 where
  pub row : value_of (term_at bank u) ≡ None
  pub value : is_value (term_at bank u) ≡ false
  pub passes_not : passes (term_at bank u) ≡ false

-- The axiom opens the call: its row is an equation of which the left side becomes the call, and the right side what the call
-- opens to.
pub record IsOpening (bank : Content) (history : List Entry) (u : TermId) (o : Opening) : Type 0 where
  pub opening : OpeningOfTexts
  pub is : opening_of (events_at bank history) (term_at bank u) ≡ Some opening
  pub name : IsNamed bank o.name
  pub pairs : ArePairsIn bank history o.pairs.items
  pub reads : substitution_at bank o.pairs.items ≡ opening.pairs
  pub left : Term
  pub row : row_at bank history o.name o.row ≡ Some (equal_term left opening.body ∷ [])
  pub left_is : substituted opening.pairs left ≡ term_at bank u
  pub left_shallow : depth_of left ≤ 3
  pub body_over : IsTermOf IsVariable (symbols_of (events_at bank history)) opening.body
  pub body_shallow : depth_of opening.body ≤ body_depth
  pub small : Each (λ t. depth_of t ≤ value_depth) (pair_terms opening.pairs)

-- nothing opens the call
pub record IsUnopened (history : List Entry) (work : Work) (u : TermId) : Type 0 where
  pub opens : Opens work.bank history u
  pub is : opening_of (events_at work.bank history) (term_at work.bank u) ≡ None

-- a history's definition of the function has these formals
pub record IsDefinedBy (bank : Content) (h : History) (f : Sym) (formals : List Sym) : Type 0 where
  pub definition : Definition
  pub event : looked_up (text_at bank f) h ≡ Some (Defines definition)
  pub reads : texts_at bank formals ≡ definition.formals
  pub stand : All (IsNamed bank) formals

-- the call was opened to the body, and the line has their equation
pub record IsOpenedTo (history : List Entry) (work : Work) (u : TermId) (o : Opened) : Type 0 where
  pub opens : Opens work.bank history u
  pub opening : OpeningOfTexts
  pub is : opening_of (events_at work.bank history) (term_at work.bank u) ≡ Some opening
  pub body : IsUsable work.bank history o.body
  pub denotes : term_at work.bank o.body ≡ body_of opening
  pub line : AreEqual work o.line u o.body

-- the function isn't COUNT
abbrev pub IsOtherName : Content → Sym → Type 0
IsOtherName bank f = bytes_eq (text_at bank f) (codes "COUNT") ≡ false

-- the line has an equation of the call and a term, and nothing else
pub record IsOpeningLine (work : Work) (line : ℕ) (u : TermId) : Type 0 where
  pub body : Term
  pub holds : LineHolds work line (equal_term (term_at work.bank u) body ∷ [])
