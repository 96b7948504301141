-- The goals of an induction by one case.
use Rattle.std.specs.Prelude.{◌≡◌, List, [], ◌∷◌, Vec}
use Rattle.std.specs.declared.alloc.Global.{Global}
use Rattle.nq_bank.specs.declared.node.TermId.{TermId}
use Rattle.nq_tracer.specs.declared.nexts.Nexts.{Nexts}

-- the goals are the base case and the step case, each as one literal
pub record AreNexts (goals : List (Vec TermId Global)) (n : Nexts) : Type 0 where
  pub base : Vec TermId Global
  pub step : Vec TermId Global
  pub are : goals ≡ base ∷ step ∷ []
  pub base_is : base.items ≡ n.base ∷ []
  pub step_is : step.items ≡ n.step ∷ []
