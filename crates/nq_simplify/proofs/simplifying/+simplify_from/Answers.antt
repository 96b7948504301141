use Rattle.std.proofs.Common.{◌<◌, ◌-◌, refl, sym, subst, arith}
use Rattle.nq_bank.specs.Content.{terms_at}
use Rattle.nq_rule.proofs.Made.{for_ok}
use Rattle.nq_kernel.specs.declared.work.Work.{Work}
use Rattle.nq_kernel.specs.Growing.{WorkGrows}
use Rattle.nq_kernel.proofs.GrowingLemmas.{WorkGrows-refl, WorkGrows-trans}
use Rattle.nq_lines.specs.Lines.{LineHasOnly}
use Rattle.nq_lines.proofs.FactLemmas.{own_terms_grown}
use Rattle.nq_simplify.specs.declared.steps.Turn.{Turn}
use Rattle.nq_simplify.specs.declared.steps.Split.{Split}
use Rattle.nq_simplify.specs.Simplified.{AreTermsIn, IsTurn, IsDivided, IsSimplified}
use Rattle.nq_simplify.proofs.BasisLemmas.{basis_grown}
use Rattle.nq_simplify.proofs.SimplifiedLemmas.{goal_grown, goal_in, simplified_grown, simplified_before}
use Rattle.nq_simplify.proofs.OutcomeLemmas.{outcome_closed, outcome_turned, outcome_divided, turn_after, divided_after, rest_after}
use Rattle.nq_simplify.proofs.simplifying.+simplify_from.Goals as goal

pub returns-then-rounds-eq0-clause-grows : goal.returns-then-rounds-eq0-clause-grows
returns-then-rounds-eq0-clause-grows g t c = WorkGrows-refl c.args.history.now c.args.work.now c.requires.stands

pub leave-requires-in-Same-clause-basis : goal.leave-requires-in-Same-clause-basis
leave-requires-in-Same-clause-basis g t c = basis_grown c.args.history.now c.args.work.now c.next_outcome.new.work c.args.basis.now c.requires.stands c.next_outcome.ensures.grows c.requires.basis

pub leave-requires-in-Same-clause-goal : goal.leave-requires-in-Same-clause-goal
leave-requires-in-Same-clause-goal g t c = goal_in c.args.history.now c.args.work.now c.next_outcome.new.work c.args.goal.now c.requires.stands c.next_outcome.ensures.grows c.requires.goal

pub returns-in-Same-clause-simplified : goal.returns-in-Same-clause-simplified
returns-in-Same-clause-simplified g t c =
    let h = c.args.history.now in
    let w0 : Work = c.args.work.now in
    let w1 : Work = c.next_outcome.new.work in
    for_ok c.leave-in-Same.result (IsSimplified h w1 (terms_at w1.bank c.args.goal.now)) (IsSimplified h w1 (terms_at w0.bank c.args.goal.now))
    (λ s there. simplified_before h w0 w1 c.requires.stands c.next_outcome.ensures.grows c.args.goal.now s c.requires.goal there) c.leave-in-Same.ensures.simplified

pub closed_by-requires : goal.closed_by-requires
closed_by-requires g t c =
    let h = c.args.history.now in
    let w0 : Work = c.args.work.now in
    let w1 : Work = c.next_outcome.new.work in
    record {
      line =
          subst (λ ts. LineHasOnly w1 c.in-Closed.line ts) (sym (goal_grown h w0 w1 c.args.goal.now c.next_outcome.ensures.grows c.requires.goal))
          (outcome_closed h w1 (terms_at w0.bank c.args.goal.now) c.in_ok-outcome.outcome c.in_ok-outcome.ensures.outcome c.in-Closed.line c.in-Closed.is);
    }

pub returns-in-Closed-clause-simplified : goal.returns-in-Closed-clause-simplified
returns-in-Closed-clause-simplified g t c =
    simplified_before c.args.history.now c.args.work.now c.next_outcome.new.work c.requires.stands c.next_outcome.ensures.grows c.args.goal.now c.closed_by.result c.requires.goal c.closed_by.ensures

pub simplify_from-requires : goal.simplify_from-requires
simplify_from-requires g t c =
    let h = c.args.history.now in
    let w0 : Work = c.args.work.now in
    let w1 : Work = c.next_outcome.new.work in
    let turn : Turn = c.in-Turned.turn in
    let it : IsTurn h w1 (terms_at w0.bank c.args.goal.now) turn = outcome_turned h w1 (terms_at w0.bank c.args.goal.now) c.in_ok-outcome.outcome c.in_ok-outcome.ensures.outcome turn c.in-Turned.is in
    let falls : c.args.rounds - 1 < t = omega (arith, c.decreases) in
    λ κs within. (falls, (within, (c.next_outcome.ensures.grows.stands, (own_terms_grown h w0 w1 c.next_outcome.ensures.grows c.requires.stands c.requires.ready, (basis_grown h w0 w1 c.args.basis.now c.requires.stands c.next_outcome.ensures.grows c.requires.basis, subst (AreTermsIn h w1) (sym c.as_slice.ensures.value) it.next)))))

pub returns-in_err-rest-in-Turned-clause-grows : goal.returns-in_err-rest-in-Turned-clause-grows
returns-in_err-rest-in-Turned-clause-grows g t c = WorkGrows-trans c.args.history.now c.args.work.now c.next_outcome.new.work c.simplify_from.new.work c.next_outcome.ensures.grows c.simplify_from.ensures.grows

pub turned-requires-clause-turn : goal.turned-requires-clause-turn
turned-requires-clause-turn g t c =
    let h = c.args.history.now in
    let w0 : Work = c.args.work.now in
    let w1 : Work = c.next_outcome.new.work in
    let turn : Turn = c.in-Turned.turn in
    let it : IsTurn h w1 (terms_at w0.bank c.args.goal.now) turn = outcome_turned h w1 (terms_at w0.bank c.args.goal.now) c.in_ok-outcome.outcome c.in_ok-outcome.ensures.outcome turn c.in-Turned.is in
    turn_after h w0 w1 c.simplify_from.new.work c.next_outcome.ensures.grows.stands c.next_outcome.ensures.grows c.simplify_from.ensures.grows c.args.goal.now c.requires.goal turn it

pub turned-requires-clause-rest : goal.turned-requires-clause-rest
turned-requires-clause-rest g t c =
    let h = c.args.history.now in
    let w0 : Work = c.args.work.now in
    let w1 : Work = c.next_outcome.new.work in
    let turn : Turn = c.in-Turned.turn in
    let it : IsTurn h w1 (terms_at w0.bank c.args.goal.now) turn = outcome_turned h w1 (terms_at w0.bank c.args.goal.now) c.in_ok-outcome.outcome c.in_ok-outcome.ensures.outcome turn c.in-Turned.is in
    rest_after h w1 c.simplify_from.new.work c.as_slice.result.now turn.next.items c.in_ok-rest-in-Turned.rest c.next_outcome.ensures.grows.stands c.simplify_from.ensures.grows it.next c.as_slice.ensures.value c.in_ok-rest-in-Turned.ensures.simplified

pub returns-in_ok-rest-in-Turned-clause-grows : goal.returns-in_ok-rest-in-Turned-clause-grows
returns-in_ok-rest-in-Turned-clause-grows g t c = WorkGrows-trans c.args.history.now c.args.work.now c.next_outcome.new.work c.simplify_from.new.work c.next_outcome.ensures.grows c.simplify_from.ensures.grows

pub returns-in_ok-rest-in-Turned-clause-simplified : goal.returns-in_ok-rest-in-Turned-clause-simplified
returns-in_ok-rest-in-Turned-clause-simplified g t c =
    let h = c.args.history.now in
    let w0 : Work = c.args.work.now in
    let w1 : Work = c.next_outcome.new.work in
    let w2 : Work = c.simplify_from.new.work in
    for_ok c.turned.result (IsSimplified h w2 (terms_at w2.bank c.args.goal.now)) (IsSimplified h w2 (terms_at w0.bank c.args.goal.now))
    (λ s there. simplified_before h w0 w2 c.requires.stands (WorkGrows-trans h w0 w1 w2 c.next_outcome.ensures.grows c.simplify_from.ensures.grows) c.args.goal.now s c.requires.goal there) c.turned.ensures.simplified

pub simplify_from-requires-in-Divided : goal.simplify_from-requires-in-Divided
simplify_from-requires-in-Divided g t c =
    let h = c.args.history.now in
    let w0 : Work = c.args.work.now in
    let w1 : Work = c.next_outcome.new.work in
    let split : Split = c.in-Divided.split in
    let it : IsDivided h w1 (terms_at w0.bank c.args.goal.now) split = outcome_divided h w1 (terms_at w0.bank c.args.goal.now) c.in_ok-outcome.outcome c.in_ok-outcome.ensures.outcome split c.in-Divided.is in
    let falls : c.args.rounds - 1 < t = omega (arith, c.decreases) in
    λ κs within. (falls, (within, (c.next_outcome.ensures.grows.stands, (own_terms_grown h w0 w1 c.next_outcome.ensures.grows c.requires.stands c.requires.ready, (basis_grown h w0 w1 c.args.basis.now c.requires.stands c.next_outcome.ensures.grows c.requires.basis, subst (AreTermsIn h w1) (sym c.as_slice-in-Divided.ensures.value) it.with_test.next)))))

pub returns-in_err-with_test-in-Divided-clause-grows : goal.returns-in_err-with_test-in-Divided-clause-grows
returns-in_err-with_test-in-Divided-clause-grows g t c = WorkGrows-trans c.args.history.now c.args.work.now c.next_outcome.new.work c.simplify_from-in-Divided.new.work c.next_outcome.ensures.grows c.simplify_from-in-Divided.ensures.grows

pub simplify_from-requires-in-Divided-2 : goal.simplify_from-requires-in-Divided-2
simplify_from-requires-in-Divided-2 g t c =
    let h = c.args.history.now in
    let w0 : Work = c.args.work.now in
    let w1 : Work = c.next_outcome.new.work in
    let w2 : Work = c.simplify_from-in-Divided.new.work in
    let split : Split = c.in-Divided.split in
    let it : IsDivided h w1 (terms_at w0.bank c.args.goal.now) split = outcome_divided h w1 (terms_at w0.bank c.args.goal.now) c.in_ok-outcome.outcome c.in_ok-outcome.ensures.outcome split c.in-Divided.is in
    let g02 : WorkGrows h w0 w2 = WorkGrows-trans h w0 w1 w2 c.next_outcome.ensures.grows c.simplify_from-in-Divided.ensures.grows in
    let falls : c.args.rounds - 1 < t = omega (arith, c.decreases) in
    let next : AreTermsIn h w2 split.without_test.next.items = goal_in h w1 w2 split.without_test.next.items c.next_outcome.ensures.grows.stands c.simplify_from-in-Divided.ensures.grows it.without_test.next in
    λ κs within. (falls, (within, (c.simplify_from-in-Divided.ensures.grows.stands, (own_terms_grown h w0 w2 g02 c.requires.stands c.requires.ready, (basis_grown h w0 w2 c.args.basis.now c.requires.stands g02 c.requires.basis, subst (AreTermsIn h w2) (sym c.as_slice-in-Divided-2.ensures.value) next)))))

pub returns-in_err-without_test-in-Divided-clause-grows : goal.returns-in_err-without_test-in-Divided-clause-grows
returns-in_err-without_test-in-Divided-clause-grows g t c =
    WorkGrows-trans c.args.history.now c.args.work.now c.simplify_from-in-Divided.new.work c.simplify_from-in-Divided-2.new.work
    (WorkGrows-trans c.args.history.now c.args.work.now c.next_outcome.new.work c.simplify_from-in-Divided.new.work c.next_outcome.ensures.grows c.simplify_from-in-Divided.ensures.grows) c.simplify_from-in-Divided-2.ensures.grows

pub divided-requires-clause-split : goal.divided-requires-clause-split
divided-requires-clause-split g t c =
    let h = c.args.history.now in
    let w0 : Work = c.args.work.now in
    let w1 : Work = c.next_outcome.new.work in
    let w2 : Work = c.simplify_from-in-Divided.new.work in
    let w3 : Work = c.simplify_from-in-Divided-2.new.work in
    let split : Split = c.in-Divided.split in
    let it : IsDivided h w1 (terms_at w0.bank c.args.goal.now) split = outcome_divided h w1 (terms_at w0.bank c.args.goal.now) c.in_ok-outcome.outcome c.in_ok-outcome.ensures.outcome split c.in-Divided.is in
    divided_after h w0 w1 w3 c.next_outcome.ensures.grows.stands c.next_outcome.ensures.grows (WorkGrows-trans h w1 w2 w3 c.simplify_from-in-Divided.ensures.grows c.simplify_from-in-Divided-2.ensures.grows) c.args.goal.now c.requires.goal split it

pub divided-requires-clause-with_test : goal.divided-requires-clause-with_test
divided-requires-clause-with_test g t c =
    let h = c.args.history.now in
    let w0 : Work = c.args.work.now in
    let w1 : Work = c.next_outcome.new.work in
    let w2 : Work = c.simplify_from-in-Divided.new.work in
    let w3 : Work = c.simplify_from-in-Divided-2.new.work in
    let split : Split = c.in-Divided.split in
    let it : IsDivided h w1 (terms_at w0.bank c.args.goal.now) split = outcome_divided h w1 (terms_at w0.bank c.args.goal.now) c.in_ok-outcome.outcome c.in_ok-outcome.ensures.outcome split c.in-Divided.is in
    let ids = split.with_test.next.items in
    let there : IsSimplified h w2 (terms_at w2.bank ids) c.in_ok-with_test-in-Divided.with_test =
    rest_after h w1 w2 c.as_slice-in-Divided.result.now ids c.in_ok-with_test-in-Divided.with_test c.next_outcome.ensures.grows.stands c.simplify_from-in-Divided.ensures.grows it.with_test.next c.as_slice-in-Divided.ensures.value c.in_ok-with_test-in-Divided.ensures.simplified in
    let ids_in : AreTermsIn h w2 ids = goal_in h w1 w2 ids c.next_outcome.ensures.grows.stands c.simplify_from-in-Divided.ensures.grows it.with_test.next in
    rest_after h w2 w3 ids ids c.in_ok-with_test-in-Divided.with_test c.simplify_from-in-Divided.ensures.grows.stands c.simplify_from-in-Divided-2.ensures.grows ids_in refl
    (simplified_grown h w2 w3 c.simplify_from-in-Divided.ensures.grows.stands c.simplify_from-in-Divided-2.ensures.grows (terms_at w2.bank ids) c.in_ok-with_test-in-Divided.with_test there)

pub divided-requires-clause-without_test : goal.divided-requires-clause-without_test
divided-requires-clause-without_test g t c =
    let h = c.args.history.now in
    let w0 : Work = c.args.work.now in
    let w1 : Work = c.next_outcome.new.work in
    let w2 : Work = c.simplify_from-in-Divided.new.work in
    let w3 : Work = c.simplify_from-in-Divided-2.new.work in
    let split : Split = c.in-Divided.split in
    let it : IsDivided h w1 (terms_at w0.bank c.args.goal.now) split = outcome_divided h w1 (terms_at w0.bank c.args.goal.now) c.in_ok-outcome.outcome c.in_ok-outcome.ensures.outcome split c.in-Divided.is in
    let ids = split.without_test.next.items in
    let ids_in : AreTermsIn h w2 ids = goal_in h w1 w2 ids c.next_outcome.ensures.grows.stands c.simplify_from-in-Divided.ensures.grows it.without_test.next in
    rest_after h w2 w3 c.as_slice-in-Divided-2.result.now ids c.in_ok-without_test-in-Divided.without_test c.simplify_from-in-Divided.ensures.grows.stands c.simplify_from-in-Divided-2.ensures.grows ids_in c.as_slice-in-Divided-2.ensures.value
    c.in_ok-without_test-in-Divided.ensures.simplified

pub returns-in_ok-without_test-in-Divided-clause-grows : goal.returns-in_ok-without_test-in-Divided-clause-grows
returns-in_ok-without_test-in-Divided-clause-grows g t c =
    WorkGrows-trans c.args.history.now c.args.work.now c.simplify_from-in-Divided.new.work c.simplify_from-in-Divided-2.new.work
    (WorkGrows-trans c.args.history.now c.args.work.now c.next_outcome.new.work c.simplify_from-in-Divided.new.work c.next_outcome.ensures.grows c.simplify_from-in-Divided.ensures.grows) c.simplify_from-in-Divided-2.ensures.grows

pub returns-in_ok-without_test-in-Divided-clause-simplified : goal.returns-in_ok-without_test-in-Divided-clause-simplified
returns-in_ok-without_test-in-Divided-clause-simplified g t c =
    let h = c.args.history.now in
    let w0 : Work = c.args.work.now in
    let w1 : Work = c.next_outcome.new.work in
    let w2 : Work = c.simplify_from-in-Divided.new.work in
    let w3 : Work = c.simplify_from-in-Divided-2.new.work in
    let g03 : WorkGrows h w0 w3 = WorkGrows-trans h w0 w2 w3 (WorkGrows-trans h w0 w1 w2 c.next_outcome.ensures.grows c.simplify_from-in-Divided.ensures.grows) c.simplify_from-in-Divided-2.ensures.grows in
    for_ok c.divided.result (IsSimplified h w3 (terms_at w3.bank c.args.goal.now)) (IsSimplified h w3 (terms_at w0.bank c.args.goal.now)) (λ s there. simplified_before h w0 w3 c.requires.stands g03 c.args.goal.now s c.requires.goal there) c.divided.ensures.simplified
