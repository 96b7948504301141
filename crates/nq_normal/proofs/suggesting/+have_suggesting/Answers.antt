use Rattle.std.proofs.Common.{◌≡◌, sym, subst}
use Rattle.std.specs.Prelude.{IfOk}
use Rattle.nq_bank.specs.declared.node.TermId.{TermId}
use Rattle.nq_history.specs.Events.{events_at}
use Rattle.nq_normal.proofs.SuggestingLemmas.{suggesting_first, suggesting_later}
use Rattle.nq_normal.proofs.suggesting.+have_suggesting.Goals as goal

pub returns-then-branch : goal.returns-then-branch
returns-then-branch t c =
    let d : TermId = record { 0 = 0 } in
    let bank = c.args.bank.now in
    suggesting_first (events_at bank c.args.history.now) bank c.args.goal.now d c.in_ok-has_suggesting-in-len1-up.field-0 c.in-len1-up.len_at_least c.in_ok-has_suggesting-in-len1-up.ensures.ok c.if-branch.true

pub returns-else-branch : goal.returns-else-branch
returns-else-branch t c =
    let d : TermId = record { 0 = 0 } in
    let bank = c.args.bank.now in
    subst (λ v. IfOk c.have_suggesting.result (λ answer. answer ≡ v))
    (sym (suggesting_later (events_at bank c.args.history.now) bank c.args.goal.now d c.in_ok-has_suggesting-in-len1-up.field-0 c.in-len1-up.len_at_least c.in_ok-has_suggesting-in-len1-up.ensures.ok c.if-branch.false))
    c.have_suggesting.ensures
