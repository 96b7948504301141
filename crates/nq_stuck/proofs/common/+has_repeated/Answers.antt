use Rattle.std.proofs.Common.{◌-◌, length, get_or, take, drop, sym, subst}
use Rattle.nq_bank.specs.declared.node.TermId.{TermId}
use Rattle.nq_bank.specs.Content.{term_at, terms_at}
use Rattle.nq_history.specs.Events.{events_at}
use Rattle.nq_stuck.specs.Common.{HasNoneRepeated}
use Rattle.nq_stuck.proofs.GeneralLemmas.{apart, repeated_first}
use Rattle.nq_stuck.proofs.common.+has_repeated.Goals as goal

pub returns-in_ok-later-in-len1-up : goal.returns-in_ok-later-in-len1-up
returns-in_ok-later-in-len1-up t c =
    let none : TermId = record { 0 = 0 } in
    let bank = c.args.bank.now in
    let h = events_at bank c.args.history.now in
    let ids = c.args.goal.now in
    λ e.
    subst (HasNoneRepeated h) (sym (apart bank h ids none c.in-len1-up.len_at_least))
    (repeated_first h (term_at bank (get_or ids 0 none)) (terms_at bank (take (length ids - 1) (drop 1 ids))) (c.in_ok-shares_call-in-len1-up.ensures c.if-branch.false) (c.in_ok-later-in-len1-up.ensures e))
