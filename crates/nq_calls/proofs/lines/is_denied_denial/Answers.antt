use Rattle.std.proofs.Common.{◌∙◌, false, refl}
use Rattle.std.specs.Option.{option_map}
use Rattle.nq_bank.specs.Content.{term_at}
use Rattle.nq_rule.proofs.ClauseLemmas.{same_term-sym}
use Rattle.nq_calls.proofs.LineLemmas.{denied_twice}
use Rattle.nq_calls.proofs.lines.is_denied_denial.Goals as goal

pub returns-in-Some : goal.returns-in-Some
returns-in-Some c =
    let bank = c.args.bank.now in
    denied_twice (term_at bank c.args.test) (term_at bank c.args.literal) (option_map (term_at bank) c.under_nots_at.result) c.is_same.result c.under_nots_at.ensures.term
    (rw c.in-Some.is (c.is_same.ensures ∙ same_term-sym (term_at bank c.in-Some.inner) (term_at bank c.args.test)))

pub returns-in-None : goal.returns-in-None
returns-in-None c =
    let bank = c.args.bank.now in
    denied_twice (term_at bank c.args.test) (term_at bank c.args.literal) (option_map (term_at bank) c.under_nots_at.result) false c.under_nots_at.ensures.term (rw c.in-None.is refl)
