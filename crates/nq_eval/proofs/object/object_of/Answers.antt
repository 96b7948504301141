use Rattle.nq_bank.specs.Content.{text_at, term_at, terms_at}
use Rattle.nq_value.proofs.ObjectLemmas.{no_variable, value_call}
use Rattle.nq_eval.proofs.object.object_of.Goals as goal

pub object_of_call-requires-clause-value : goal.object_of_call-requires-clause-value
object_of_call-requires-clause-value c =
    let bank = c.args.bank.now in
    let head = c.in-App.ensures.head in
    value_call (term_at bank c.args.t) (text_at bank c.in-App.f) (terms_at bank c.args-in-App.result.now) head.1 head.3 c.args-in-App.ensures.parts c.requires.value

pub unreachable-requires : goal.unreachable-requires
unreachable-requires c = no_variable (term_at c.args.bank.now c.args.t) (text_at c.args.bank.now c.in-Var.field-0) c.in-Var.ensures.head.1 c.requires.value
