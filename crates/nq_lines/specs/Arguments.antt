-- Calls with several arguments replaced by equals.
use Rattle.std.specs.Prelude.{◌≡◌, ◌<◌, ◌+◌, ℕ, ⊤, List, [], ◌∷◌, ◌++◌, Option, Some, None, IfSome, length}
use Rattle.nq_logic.specs.Terms.{Name, Term, call}
use Rattle.nq_logic.specs.Words.{not_term, equal_term}
use Rattle.nq_logic.specs.Numerals.{number_of}
use Rattle.nq_bank.specs.Content.{Content, IsIdOf, term_at}
use Rattle.nq_bank.specs.Parts.{parts_of}
use Rattle.nq_proof.specs.Clauses.{literal_at}
use Rattle.nq_rule.specs.Results.{with_argument}
use Rattle.nq_history.specs.declared.entry.Entry.{Entry}
use Rattle.nq_kernel.specs.declared.work.Work.{Work}
use Rattle.nq_kernel.specs.Growing.{LineStands}
use Rattle.nq_lines.specs.Lines.{IsTermIn, LineHasOnly, LineLeads}
use Rattle.nq_lines.specs.declared.calls.Equated.{Equated}

-- the term is in, and the line stands
pub record EquatedStands (history : List Entry) (work : Work) (e : Equated) : Type 0 where
  pub term : IsTermIn history work e.term
  pub line : LineStands work e.line

abbrev pub ChangeStands : List Entry → Work → Option Equated → Type 0
ChangeStands history work change = IfSome change (EquatedStands history work)

-- the arguments after the changes; where there is none, an argument stays
abbrev pub changed_terms : Content → List Term → List (Option Equated) → List Term
changed_terms bank [] changes = []
changed_terms bank (a ∷ later) [] = a ∷ later
changed_terms bank (a ∷ later) (None ∷ changes) = a ∷ changed_terms bank later changes
changed_terms bank (a ∷ later) (Some e ∷ changes) = term_at bank e.term ∷ changed_terms bank later changes

-- the line of each change has only the equation of the argument and the term in its place, and these
abbrev pub AreShown : Work → List Term → List Term → List (Option Equated) → Type 0
AreShown work these [] changes = ⊤
AreShown work these (a ∷ later) [] = ⊤
AreShown work these (a ∷ later) (None ∷ changes) = AreShown work these later changes
AreShown work these (a ∷ later) (Some e ∷ changes) = LineHasOnly work e.line (equal_term a (term_at work.bank e.term) ∷ these) × AreShown work these later changes

-- the line has only the equation of a call and the call after the changes, from the lines of the changes
abbrev pub CarriesAll : Work → Work → Term → List (Option Equated) → Equated → Type 0
CarriesAll old new t changes e = (these : List Term) → AreShown old these (parts_of t) changes → LineHasOnly new e.line (equal_term t (term_at new.bank e.term) ∷ these)

-- the term is the call after the changes
abbrev pub IsChangedCall : Work → Work → Term → List (Option Equated) → Equated → Type 0
IsChangedCall old new t changes e = (f : Name) → t ≡ call f (parts_of t) → IsIdOf new.bank e.term (call f (changed_terms old.bank (parts_of t) changes))

-- the first literal of the line is an equation with t later its second side
pub record HasEquation (work : Work) (line : ℕ) (t : Term) : Type 0 where
  pub left : Term
  pub these : List Term
  pub leads : LineLeads work line (equal_term left t) these

-- the line begins with another's equation after a change in an argument of the second side, and uses the equation of the change
abbrev pub ReplacesArgument : Work → Work → ℕ → ℕ → Term → Term → ℕ → Type 0
ReplacesArgument old new line place t u n =
    (left a : Term) (these : List Term) → literal_at place (parts_of t) ≡ Some a → LineLeads old line (equal_term left t) these →
    LineLeads new n (equal_term left (with_argument place u t)) (not_term (equal_term a u) ∷ these)

-- t is a call of f; the arguments before the place are done, and the others are later many later the changes
pub record CallAt (f : Name) (done others : List Term) (place : ℕ) (changes : List (Option Equated)) (t : Term) : Type 0 where
  pub whole : t ≡ call f (done ++ others)
  pub at : place ≡ length done + 1
  pub count : length others ≡ length changes
  pub plain : 0 < length others → number_of t ≡ None

pub record IsCallAt (place : ℕ) (changes : List (Option Equated)) (t : Term) : Type 0 where
  pub function : Name
  pub done : List Term
  pub others : List Term
  pub is : CallAt function done others place changes t

-- the line of the call after the changes from a place on, and the call
abbrev pub CarriesOn : Work → Work → ℕ → List (Option Equated) → Term → ℕ → Equated → Type 0
CarriesOn old new place changes t line e =
    (f : Name) (done others : List Term) → CallAt f done others place changes t → (left : Term) (so_far these : List Term) → LineLeads old line (equal_term left t) so_far → AreShown old these others changes →
    LineHasOnly new e.line (equal_term left (call f (done ++ changed_terms old.bank others changes)) ∷ (so_far ++ these))

abbrev pub MakesOn : Work → Work → ℕ → List (Option Equated) → Term → Equated → Type 0
MakesOn old new place changes t e =
    (f : Name) (done others : List Term) → CallAt f done others place changes t → IsIdOf new.bank e.term (call f (done ++ changed_terms old.bank others changes))
