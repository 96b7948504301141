-- Which equation of a goal is used up, over ids.
use Rattle.std.specs.Prelude.{◌≡◌, List, [], Option, MatchOption}
use Rattle.nq_logic.specs.Terms.{IsAmong}
use Rattle.nq_bank.specs.Content.{Content, Stands, term_at}
use Rattle.nq_goals.specs.Equations.{Equation}
use Rattle.nq_goals.specs.Fertilizing.{Fertilizing}
use Rattle.nq_moves.specs.declared.readings.Reading.{Reading}
use Rattle.nq_moves.specs.declared.weighing.Choice.{Choice}

-- the equation of a reading
abbrev pub equation_read : Content → Reading → Equation
equation_read bank r = record { left = term_at bank r.from; right = term_at bank r.into }

-- a candidate of FERT over ids
abbrev pub fertilizing_at : Content → Reading → Fertilizing
fertilizing_at bank r = record { literal = term_at bank r.literal; from = term_at bank r.from; into = term_at bank r.into }

pub record ReadingStands (bank : Content) (r : Reading) : Type 0 where
  pub literal : Stands bank r.literal
  pub from : Stands bank r.from
  pub into : Stands bank r.into

pub record IsChosen (bank : Content) (list : List Fertilizing) (c : Choice) : Type 0 where
  pub stands : ReadingStands bank c.reading
  pub among : IsAmong (fertilizing_at bank c.reading) list

-- a candidate is chosen exactly where there is one
abbrev pub ChoosesOne : Content → List Fertilizing → Option Choice → Type 0
ChoosesOne bank list found = MatchOption found (list ≡ []) (IsChosen bank list)
