-- What a rewriting shows.
use Rattle.std.specs.Prelude.{◌≡◌, ℕ, Bool, true, false, List, [], ◌∷◌, All, Option, Some, None}
use Rattle.nq_logic.specs.Terms.{Term, IsAmong}
use Rattle.nq_logic.specs.Words.{not_term, equal_term}
use Rattle.nq_bank.specs.declared.node.TermId.{TermId}
use Rattle.nq_proof.specs.Clauses.{literal_at}
use Rattle.nq_bank.specs.Parts.{parts_of}
use Rattle.nq_bank.specs.Content.{term_at, terms_at}
use Rattle.nq_history.specs.declared.entry.Entry.{Entry}
use Rattle.nq_history.specs.Events.{events_at}
use Rattle.nq_lines.specs.OwnTerms.{HasOwnTerms}
use Rattle.nq_instances.specs.Parts.{IsIfOf}
use Rattle.nq_rule.specs.declared.branching.Branches.{Branches}
use Rattle.nq_kernel.specs.declared.work.Work.{Work}
use Rattle.nq_kernel.specs.Growing.{WorkStands}
use Rattle.nq_lines.specs.Lines.{IsTermIn, LineHasOnly}
use Rattle.nq_reduce.specs.declared.results.Rewritten.{Rewritten}
use Rattle.nq_reduce.specs.declared.knowledge.Known.{Known}

-- the NOT of each
abbrev pub denials : List Term → List Term
denials [] = []
denials (a ∷ assumed) = not_term a ∷ denials assumed

-- line n shows that the old term is the new one where these are assumed
abbrev pub ShowsEqual : Work → ℕ → List Term → Term → Term → Type 0
ShowsEqual work n assumed old new = LineHasOnly work n (equal_term old new ∷ denials assumed)

-- the line shows it, or without a line the terms are one
abbrev pub IsShown : Work → List Term → Term → Term → Option ℕ → Type 0
IsShown work assumed old new None = new ≡ old
IsShown work assumed old new (Some n) = ShowsEqual work n assumed old new

-- the old term is rewritten to this one, where these are assumed
pub record IsRewritten (history : List Entry) (work : Work) (assumed : List Term) (old : Term) (r : Rewritten) : Type 0 where
  pub new : IsTermIn history work r.term
  pub shown : IsShown work assumed old (term_at work.bank r.term) r.line

-- the term can be rewritten where these are assumed
pub record CanRewrite (history : List Entry) (work : Work) (assumed : List TermId) (t : TermId) : Type 0 where
  pub stands : WorkStands history work
  pub term : IsTermIn history work t
  pub hypotheses : All (IsTermIn history work) assumed
  pub ready : HasOwnTerms (events_at work.bank history)

-- the branch that a true or a false test chooses
abbrev pub branch_of : Branches → Bool → TermId
branch_of parts true = parts.first
branch_of parts false = parts.second

-- the term or its NOT, as it is true or false
abbrev pub signed : Bool → Term → Term
signed true t = t
signed false t = not_term t

-- the line shows that the term is true, or that it is false, where these are assumed
pub record IsKnown (work : Work) (assumed : List Term) (t : Term) (known : Known) : Type 0 where
  pub shown : LineHasOnly work known.line (signed known.value t ∷ denials assumed)

-- the argument at a place of a call, counted from 1
pub record IsArgument (history : List Entry) (work : Work) (t : TermId) (place : ℕ) (a : TermId) : Type 0 where
  pub argument : IsTermIn history work a
  pub at : literal_at place (parts_of (term_at work.bank t)) ≡ Some (term_at work.bank a)

-- an assumption is the NOT of t
pub record IsAssumedFalse (history : List Entry) (work : Work) (assumed : List TermId) (t a : TermId) : Type 0 where
  pub among : IsAmong (term_at work.bank a) (terms_at work.bank assumed)
  pub denies : term_at work.bank a ≡ not_term (term_at work.bank t)
  pub over : IsTermIn history work a

-- In a case in which the test of an IF is known, its branch is rewritten, and the other IF has the new test and the new branch.
pub record IsCase (history : List Entry) (work : Work) (all : List TermId) (t : TermId) (parts : Branches) (test : Rewritten) (known : Known) (branch : Rewritten) (other : TermId) (news : Branches) : Type 0 where
  pub can : CanRewrite history work all t
  pub whole : IsIfOf history work t parts
  pub tested : IsRewritten history work (terms_at work.bank all) (term_at work.bank parts.test) test
  pub told : IsKnown work (terms_at work.bank all) (term_at work.bank test.term) known
  pub rewritten : IsRewritten history work (terms_at work.bank all) (term_at work.bank (branch_of parts known.value)) branch
  pub there : IsTermIn history work other
  pub new : IsIfOf history work other news
  pub same_test : news.test ≡ test.term
  pub same_branch : branch_of news known.value ≡ branch.term

-- Where one more term is assumed, which says what the test of an IF is, its branch is rewritten, and the other IF has the new test
-- and the new branch.
pub record IsBranch (history : List Entry) (work : Work) (hyps : List TermId) (more : TermId) (value : Bool) (t : TermId) (parts : Branches) (test branch : Rewritten) (other : TermId) (news : Branches) : Type 0 where
  pub can : CanRewrite history work hyps t
  pub more_there : IsTermIn history work more
  pub says : term_at work.bank more ≡ signed value (term_at work.bank test.term)
  pub whole : IsIfOf history work t parts
  pub tested : IsRewritten history work (terms_at work.bank hyps) (term_at work.bank parts.test) test
  pub rewritten : IsRewritten history work (terms_at work.bank (more ∷ hyps)) (term_at work.bank (branch_of parts value)) branch
  pub there : IsTermIn history work other
  pub new : IsIfOf history work other news
  pub same_test : news.test ≡ test.term
  pub same_branch : branch_of news value ≡ branch.term
