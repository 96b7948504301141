-- What may be a candidate of ELIM.
use Rattle.std.specs.Prelude.{Bool, true, false, ◌&&◌, List}
use Rattle.nq_logic.specs.Terms.{Term, Variable, Function, Applied}
use Rattle.nq_logic.specs.Histories.{History, Shell, Event, AddShell, Declaration, Defines, Axiom, Lemma, Toggle}
use Rattle.nq_logic.specs.Names.{has_name}
use Rattle.nq_events.specs.Events.{Hints}
use Rattle.nq_goals.specs.Eliminating.{has_elim, Eliminating, EliminateCandidate}
use Rattle.nq_goals.specs.Functions.{accessors}

-- an axiom or a lemma of the class ELIM
abbrev pub is_elim_event : Event → Bool
is_elim_event (AddShell s) = false
is_elim_event (Declaration f n) = false
is_elim_event (Defines d) = false
is_elim_event (Axiom n classes t) = has_elim classes
is_elim_event (Lemma n classes t) = has_elim classes
is_elim_event (Toggle n old disabled) = false

abbrev pub is_variable : Term → Bool
is_variable (Variable x) = true
is_variable (Function f) = false
is_variable (Applied t u) = false

-- the call of an accessor of these shells on a variable
abbrev pub is_accessor_call : List Shell → Term → Bool
is_accessor_call shells (Variable x) = false
is_accessor_call shells (Function f) = false
is_accessor_call shells (Applied (Variable x) u) = false
is_accessor_call shells (Applied (Function f) u) = is_variable u && has_name f (accessors shells)
is_accessor_call shells (Applied (Applied s t) u) = false

-- the goal has no candidate of ELIM, whatever the hints are
pub record EliminatesNone (h : History) (goal : List Term) : Type 0 where
  pub none : (hints : Hints) (e : Eliminating) → EliminateCandidate h hints goal e → ⊥
