use Rattle.std.proofs.Common.{◌∙◌, sym, ap}
use Rattle.nq_logic.specs.Words.{false_term}
use Rattle.nq_proof.specs.Clauses.{same_term}
use Rattle.nq_bank.specs.Content.{text_at, term_at}
use Rattle.nq_bank.specs.Parts.{parts_of}
use Rattle.nq_eval.proofs.ClosingLemmas.{call_not_false, no_number}
use Rattle.nq_eval.proofs.heads.is_falsity_call.Goals as goal

pub returns-else-count-eq0 : goal.returns-else-count-eq0
returns-else-count-eq0 c =
    let bank = c.args.bank.now in
    no_number c.args.count c.if-count-eq0.false ∙
    sym (ap (λ t. same_term t false_term) c.requires.call ∙ call_not_false (text_at bank c.args.f) (parts_of (term_at bank c.args.t)) c.args.count c.requires.count c.if-count-eq0.false)
