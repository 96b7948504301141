-- Goals that follow where one side of an equation, which a literal denies, takes the other's place.
use Rattle.std.specs.Prelude.{◌≡◌, ℕ, false, List, [], ◌∷◌, ◌++◌, map, Option, Some, None, IfSome, IsSome, unwrap_or, if◌then◌else◌}
use Rattle.nq_logic.specs.Terms.{Term, IsAmong}
use Rattle.nq_logic.specs.Values.{is_value}
use Rattle.nq_bank.specs.declared.node.TermId.{TermId}
use Rattle.nq_bank.specs.Content.{Content, Stands, term_at, terms_at}
use Rattle.nq_bank.specs.Parts.{parts_of}
use Rattle.nq_proof.specs.Clauses.{Clause, literal_at, without, distinct, same_term}
use Rattle.nq_rule.specs.Results.{with_argument}
use Rattle.nq_history.specs.declared.entry.Entry.{Entry}
use Rattle.nq_kernel.specs.declared.work.Work.{Work}
use Rattle.nq_lines.specs.Lines.{IsTermIn, LineHasOnly, AreAmong}
use Rattle.nq_goals.specs.Replacing.{Exchange, exchanged}
use Rattle.nq_moves.specs.declared.moved.Moved.{Moved}
use Rattle.nq_moves.specs.declared.moved.Crossing.{Crossing}
use Rattle.nq_moves.specs.declared.readings.Reading.{Reading}
use Rattle.nq_moves.specs.declared.equal.Swap.{Swap}
use Rattle.nq_moves.specs.Equal.{swap_at}
use Rattle.nq_moves.specs.Back.{Denies}
use Rattle.nq_moves.specs.Found.{goals_at, GoalsStand}

-- the one side in the other's place
abbrev pub reading_at : Content → Reading → Exchange
reading_at bank r = (term_at bank r.from, term_at bank r.into) ∷ []

-- a literal of the goal denies the equation of the two sides
pub record IsReading (history : List Entry) (work : Work) (goal : List TermId) (r : Reading) : Type 0 where
  pub literal : Stands work.bank r.literal
  pub among : IsAmong (term_at work.bank r.literal) (terms_at work.bank goal)
  pub from : IsTermIn history work r.from
  pub into : IsTermIn history work r.into
  pub denies : Denies (term_at work.bank r.literal) (term_at work.bank r.from) (term_at work.bank r.into)

-- the argument at a place
abbrev pub part_at : ℕ → Term → Term
part_at place t = unwrap_or (literal_at place (parts_of t)) t

-- the call with terms in others' places in the one argument
abbrev pub crossed : Exchange → ℕ → Term → Term
crossed es place t = with_argument place (exchanged es (part_at place t)) t

abbrev pub crossings_at : Content → Exchange → Option Crossing → List Term
crossings_at bank es None = []
crossings_at bank es (Some x) = crossed es x.place (term_at bank x.whole) ∷ []

-- a literal with the one side in the other's place: in one argument alone where it is the crossed one
abbrev pub swapped_literal : Content → Exchange → Option Crossing → Term → Term
swapped_literal bank es None t = exchanged es t
swapped_literal bank es (Some x) t = if same_term (term_at bank x.whole) t then crossed es x.place (term_at bank x.whole) else exchanged es t

-- the goal without the denied equation, with the one side in the other's place
abbrev pub swapped_goal : Content → Reading → Option Crossing → List TermId → Clause
swapped_goal bank r crossing goal = distinct (map (swapped_literal bank (reading_at bank r) crossing) (without (term_at bank r.literal) (terms_at bank goal)))

-- a literal of the goal has an argument at this place
pub record CrossingStands (history : List Entry) (work : Work) (goal : List TermId) (x : Crossing) : Type 0 where
  pub whole : IsTermIn history work x.whole
  pub among : IsAmong (term_at work.bank x.whole) (terms_at work.bank goal)
  pub place : IsSome (literal_at x.place (parts_of (term_at work.bank x.whole)))

-- Each literal of the child is the crossed one, or one of the goal, but for the denied equation, with the one side in the other's
-- place, or one of the goal.
pub record IsSwapping (history : List Entry) (work : Work) (goal : List TermId) (r : Reading) (crossing : Option Crossing) (child : Clause) : Type 0 where
  pub reading : IsReading history work goal r
  pub no_value : is_value (term_at work.bank r.from) ≡ false
  pub crossing_stands : IfSome crossing (CrossingStands history work goal)
  pub within : AreAmong child (crossings_at work.bank (reading_at work.bank r) crossing ++ (map (exchanged (reading_at work.bank r)) (without (term_at work.bank r.literal) (terms_at work.bank goal)) ++ terms_at work.bank goal))

-- the move led to one such child
pub record IsSwapped (history : List Entry) (work : Work) (goal : List TermId) (moved : Moved) : Type 0 where
  pub reading : Reading
  pub child : Clause
  pub swapping : IsSwapping history work goal reading moved.why.crossing child
  pub leads : goals_at work.bank moved.children.items ≡ child ∷ []
  pub stand : GoalsStand work.bank moved.children.items
  pub literals : moved.why.literals.items ≡ reading.literal ∷ reading.from ∷ reading.into ∷ []

-- such a child, and its line
pub record HasSwapped (history : List Entry) (work : Work) (goal : List TermId) (r : Reading) (crossing : Option Crossing) (line : ℕ) : Type 0 where
  pub child : Clause
  pub swapping : IsSwapping history work goal r crossing child
  pub has : LineHasOnly work line child

-- line n has the call for the call with one term in the other's place in one argument, beside the hypothesis
abbrev pub CrossesBack : Work → Work → Swap → ℕ → TermId → ℕ → ℕ → Type 0
CrossesBack old new w place whole line n =
    (these : List Term) → IsAmong (term_at old.bank w.hypothesis) these →
    LineHasOnly old line (crossed (swap_at old.bank w) place (term_at old.bank whole) ∷ these) → LineHasOnly new n (term_at old.bank whole ∷ these)
