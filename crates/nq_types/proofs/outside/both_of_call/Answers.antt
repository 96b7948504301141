use Rattle.std.proofs.Common.{sym, ◌∙◌}
use Rattle.nq_bank.specs.declared.node.TermId.{TermId}
use Rattle.nq_bank.specs.Content.{text_at}
use Rattle.nq_types.proofs.OutsideLemmas.{two_parts}
use Rattle.nq_types.proofs.outside.both_of_call.Goals as goal

pub returns-in-len2 : goal.returns-in-len2
returns-in-len2 c =
    let first : TermId = record { 0 = 0 } in
    two_parts c.args.bank.now (text_at c.args.bank.now c.args.f) c.args.t c.args.arguments.now first c.requires.call (sym c.is_ground.ensures ∙ c.if-not-is_ground.false) c.in-len2.len_at_least c.in-len2.len_below c.requires.before
