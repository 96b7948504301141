use Rattle.std.proofs.Common.{◌∙◌}
use Rattle.nq_logic.specs.Words.{true_term}
use Rattle.nq_bank.specs.Content.{term_at}
use Rattle.nq_kernel.specs.declared.work.Work.{Work}
use Rattle.nq_kernel.proofs.GrowingLemmas.{WorkGrows-trans}
use Rattle.nq_rule.specs.declared.branching.Branches.{Branches}
use Rattle.nq_lines.proofs.LineLemmas.{line_grown, only_stands}
use Rattle.nq_lines.proofs.TermLemmas.{same_term_grown}
use Rattle.nq_lines.proofs.BranchLemmas.{branches_grown}
use Rattle.nq_induct.proofs.ClaimLemmas.{gathered_one, claim_made}
use Rattle.nq_induct.proofs.claims.gather_one.Goals as goal

pub join-requires-clause-first : goal.join-requires-clause-first
join-requires-clause-first c = only_stands c.args.work.now c.args.shown.line _ c.requires.truth.line

pub join-requires-clause-parts : goal.join-requires-clause-parts
join-requires-clause-parts c = record { test = c.requires.term; first = c.requires.truth.truth.term; second = c.requires.rest }

pub condition-requires-clause-parts : goal.condition-requires-clause-parts
condition-requires-clause-parts c =
    let parts : Branches = record { test = c.args.t; first = c.args.shown.term; second = c.args.rest.term } in
    branches_grown c.args.history.now c.args.work.now c.join.new.work parts c.requires.stands c.join.ensures.grows (record { test = c.requires.term; first = c.requires.truth.truth.term; second = c.requires.rest })

pub returns-in_err-term-clause-grows : goal.returns-in_err-term-clause-grows
returns-in_err-term-clause-grows c = WorkGrows-trans c.args.history.now c.args.work.now c.join.new.work c.condition.new.work c.join.ensures.grows c.condition.ensures.grows

pub returns-clause-grows : goal.returns-clause-grows
returns-clause-grows c = WorkGrows-trans c.args.history.now c.args.work.now c.join.new.work c.condition.new.work c.join.ensures.grows c.condition.ensures.grows

pub returns-clause-stands : goal.returns-clause-stands
returns-clause-stands c = line_grown c.args.history.now c.join.new.work c.condition.new.work c.in_ok-line.line c.join.ensures.grows.stands c.condition.ensures.grows c.in_ok-line.ensures.stands

pub returns-clause-claim : goal.returns-clause-claim
returns-clause-claim c =
    let w0 : Work = c.args.work.now in
    let w1 : Work = c.join.new.work in
    claim_made w1 c.condition.new.work c.in_ok-term.term c.args.t c.args.shown.term c.args.rest.term (term_at w0.bank c.args.t) true_term (term_at w0.bank c.args.rest.term)
    (same_term_grown c.args.history.now w0 w1 c.args.t c.join.ensures.grows c.requires.term)
    (same_term_grown c.args.history.now w0 w1 c.args.shown.term c.join.ensures.grows c.requires.truth.truth.term ∙ c.requires.truth.truth.is.denotes)
    (same_term_grown c.args.history.now w0 w1 c.args.rest.term c.join.ensures.grows c.requires.rest)
    c.in_ok-term.ensures.condition

pub returns-clause-line : goal.returns-clause-line
returns-clause-line c =
    let w0 : Work = c.args.work.now in
    gathered_one c.args.history.now w0 c.join.new.work c.condition.new.work c.requires.stands (term_at w0.bank c.args.t) (term_at w0.bank c.args.rest.term) (term_at w0.bank c.args.shown.term) c.args.shown.line c.args.rest.line c.in_ok-line.line
    c.requires.truth.truth.is.denotes c.requires.truth.line c.in_ok-line.ensures.line c.join.ensures.grows c.condition.ensures.grows
