use Rattle.std.proofs.Common.{[], ◌∷◌, ◌≡◌, Option, subst}
use Rattle.std.specs.Prelude.{IfSome}
use Rattle.std.proofs.lemmas.Result.{IfOk-weaker}
use Rattle.nq_bank.specs.Content.{term_at, terms_at}
use Rattle.nq_history.specs.Events.{events_at}
use Rattle.nq_waterfall.specs.Trails.{goals_at}
use Rattle.nq_tracer.specs.declared.nexts.Nexts.{Nexts}
use Rattle.nq_tracer.specs.Leads as traced
use Rattle.nq_legal.specs.Inducting.{IsInductionBy}
use Rattle.nq_inductor.proofs.GoalLemmas.{induction_told}
use Rattle.nq_inductor.proofs.inducting.inducted_by.Goals as goal

pub own_goals-requires : goal.own_goals-requires
own_goals-requires c = record { stands = c.counted_by.ensures.grows.stands }

pub returns-in-Some-clause-leads : goal.returns-in-Some-clause-leads
returns-in-Some-clause-leads c =
    let bank = c.counted_by.new.work.bank in
    let h = events_at bank c.args.history.now in
    let here = terms_at bank c.args.goal.now in
    let call = term_at bank c.args.call in
    let n = c.in-Some.nexts in
    let leads = subst (λ (o : Option Nexts). IfSome o (λ n. traced.IsInductionBy h (call ∷ []) here (term_at bank n.base) (term_at bank n.step))) c.in-Some.is c.in_ok-found.ensures.leads in
    IfOk-weaker c.own_goals.result (λ told. IfSome told (λ goals. goals_at bank goals.items ≡ (term_at bank n.base ∷ []) ∷ (term_at bank n.step ∷ []) ∷ [])) (λ told. IfSome told (λ nexts. IsInductionBy h (call ∷ []) here (goals_at bank nexts.items)))
    (λ told is. induction_told h bank (call ∷ []) here n told leads is) c.own_goals.ensures.goals
