use Rattle.std.proofs.Common.{◌≡◌, sym, subst}
use Rattle.std.specs.Prelude.{IfOk}
use Rattle.nq_bank.specs.declared.node.TermId.{TermId}
use Rattle.nq_bank.specs.Content.{term_at}
use Rattle.nq_normal.specs.Sought.{seeks}
use Rattle.nq_normal.proofs.GoalLemmas.{open_first, open_later}
use Rattle.nq_normal.proofs.open.+has_open_among.Goals as goal

pub returns-then-branch : goal.returns-then-branch
returns-then-branch t c =
    let d : TermId = record { 0 = 0 } in
    let bank = c.args.bank.now in
    open_first (seeks bank c.args.sought.now) bank c.args.goal.now d (term_at bank c.atom_of.result) c.in_ok-has_open-in-len1-up.field-0 c.in-len1-up.len_at_least c.atom_of.ensures.is c.in_ok-has_open-in-len1-up.ensures.ok c.if-branch.true

pub returns-else-branch : goal.returns-else-branch
returns-else-branch t c =
    let d : TermId = record { 0 = 0 } in
    let bank = c.args.bank.now in
    subst (λ v. IfOk c.has_open_among.result (λ answer. answer ≡ v))
    (sym (open_later (seeks bank c.args.sought.now) bank c.args.goal.now d (term_at bank c.atom_of.result) c.in_ok-has_open-in-len1-up.field-0 c.in-len1-up.len_at_least c.atom_of.ensures.is c.in_ok-has_open-in-len1-up.ensures.ok c.if-branch.false))
    c.has_open_among.ensures
