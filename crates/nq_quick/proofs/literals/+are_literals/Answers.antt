use Rattle.std.proofs.Common.{◌∷◌}
use Rattle.nq_bank.specs.declared.node.TermId.{TermId}
use Rattle.nq_bank.specs.Content.{term_at, terms_at}
use Rattle.nq_quick.specs.Lines.{signed}
use Rattle.nq_quick.proofs.LineLemmas.{first_among}
use Rattle.nq_quick.proofs.literals.+are_literals.Goals as goal

pub returns-then-is_literal : goal.returns-then-is_literal
returns-then-is_literal t c =
    let first : TermId = record { 0 = 0 } in
    let bank = c.args.bank.now in
    λ e. first_among bank c.args.literals.now first (signed c.args.value (term_at bank c.args.t) ∷ terms_at bank c.args.others.now) c.in-len1-up.len_at_least (c.is_literal.ensures c.if-is_literal.true) (c.are_literals.ensures e)
