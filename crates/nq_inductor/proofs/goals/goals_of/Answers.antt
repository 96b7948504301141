use Rattle.std.proofs.Common.{◌≡◌, [], ◌∷◌}
use Rattle.std.proofs.lemmas.Result.{IfOk-weaker}
use Rattle.nq_inductor.specs.Goals.{AreNexts}
use Rattle.nq_inductor.proofs.goals.goals_of.Goals as goal

pub returns : goal.returns
returns c =
    IfOk-weaker c.two_of.result (λ v. v.items ≡ c.in_ok-base.base ∷ c.in_ok-step.step ∷ []) (λ v. AreNexts v.items c.args.nexts)
    (λ v is. record { base = c.in_ok-base.base; step = c.in_ok-step.step; are = is; base_is = c.in_ok-base.ensures; step_is = c.in_ok-step.ensures }) c.two_of.ensures
