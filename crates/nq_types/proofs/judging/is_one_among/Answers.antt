use Rattle.std.proofs.Common.{◌∙◌, get_or, sym}
use Rattle.nq_bank.specs.declared.node.TermId.{TermId}
use Rattle.nq_types.proofs.JudgeLemmas.{one_item}
use Rattle.nq_types.proofs.judging.is_one_among.Goals as goal

pub returns-in-len1 : goal.returns-in-len1
returns-in-len1 c =
    let first : TermId = record { 0 = 0 } in
    λ e. record { one = get_or c.args.found.now 0 first; is = one_item c.args.found.now first c.in-len1.len_at_least c.in-len1.len_below; there = sym c.has_id.ensures ∙ e }
