use Rattle.std.proofs.Common.{◌-◌, length, get_or, take, drop, ap, sym, ◌∙◌}
use Rattle.nq_bank.specs.declared.node.TermId.{TermId}
use Rattle.nq_bank.specs.Content.{term_at, terms_at}
use Rattle.nq_history.specs.Events.{events_at}
use Rattle.nq_stuck.specs.Common.{has_common}
use Rattle.nq_stuck.proofs.GeneralLemmas.{apart, common_step}
use Rattle.nq_stuck.proofs.common.+has_common.Goals as goal

pub returns-in-len1-up : goal.returns-in-len1-up
returns-in-len1-up t c =
    let none : TermId = record { 0 = 0 } in
    let bank = c.args.bank.now in
    let h = events_at bank c.args.history.now in
    let ids = c.args.these.now in
    let others = terms_at bank c.args.others.now in
    λ e.
    common_step h (term_at bank (get_or ids 0 none)) (terms_at bank (take (length ids - 1) (drop 1 ids))) others c.is_general-general.result c.contains-common.result c.is_both-here.result c.has_common-later.result c.is_either.result
    c.is_general-general.ensures c.contains-common.ensures c.is_both-here.ensures c.has_common-later.ensures c.is_either.ensures
    (ap (λ ts. has_common h ts others) (sym (apart bank h ids none c.in-len1-up.len_at_least)) ∙ e)
