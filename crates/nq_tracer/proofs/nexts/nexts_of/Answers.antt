use Rattle.std.proofs.Common.{ap₂}
use Rattle.nq_bank.specs.Content.{term_at}
use Rattle.nq_bank.proofs.Growth.{term_at-grown}
use Rattle.nq_goals.specs.Inducting.{step_case}
use Rattle.nq_tracer.specs.Leads.{draft_at}
use Rattle.nq_tracer.proofs.GrowLemmas.{id_by}
use Rattle.nq_tracer.proofs.NextLemmas.{draft_same}
use Rattle.nq_tracer.proofs.nexts.nexts_of.Goals as goal

pub returns-clause-step : goal.returns-clause-step
returns-clause-step c =
    let old = c.args.bank.now in
    let b1 = c.base_of.new.bank in
    let draft = c.args.draft.now in
    id_by c.step_of.new.bank c.in_ok-step.step (step_case (term_at b1 c.args.p) (draft_at b1 draft)) (step_case (term_at old c.args.p) (draft_at old draft))
    (ap₂ step_case (term_at-grown old b1 c.args.p c.base_of.ensures.grows c.requires.claim) (draft_same old b1 draft c.base_of.ensures.grows c.requires.draft)) c.in_ok-step.ensures.ok
