use Rattle.std.proofs.Common.{ap, get_or}
use Rattle.nq_bank.specs.declared.node.TermId.{TermId}
use Rattle.nq_bank.specs.Content.{term_at, terms_at}
use Rattle.nq_types.proofs.JudgeLemmas.{one_item}
use Rattle.nq_types.proofs.outside.is_one_recognizer.Goals as goal

pub returns-in-len1 : goal.returns-in-len1
returns-in-len1 c =
    let bank = c.args.bank.now in
    let first : TermId = record { 0 = 0 } in
    λ e. record { one = term_at bank (get_or c.args.found.now 0 first); only = ap (terms_at bank) (one_item c.args.found.now first c.in-len1.len_at_least c.in-len1.len_below); recognizes = c.recognizes_at.ensures e }
