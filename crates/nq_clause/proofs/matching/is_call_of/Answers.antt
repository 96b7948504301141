use Rattle.std.proofs.Common.{ap}
use Rattle.nq_bank.specs.Content.{Content, text_at, term_at}
use Rattle.nq_clause.specs.Binding.{bound_at}
use Rattle.nq_clause.proofs.BoundLemmas.{same_call, numeral_is_other}
use Rattle.nq_clause.proofs.matching.is_call_of.Goals as goal

pub returns-then-args-count : goal.returns-then-args-count
returns-then-args-count c =
    let bank : Content = c.args.bank.now in
    same_call bank (text_at bank c.args.f) (text_at bank c.in-App.g) (bound_at bank c.args.t) (term_at bank c.in-Term.t) c.args-in-App.result.now c.args.count c.is_same_name.result (ap (bound_at bank) c.in-Term.is) c.in-App.ensures.head.1 c.args-in-App.ensures.parts c.if-args-count.true c.is_same_name.ensures

pub returns-in-Num-node : goal.returns-in-Num-node
returns-in-Num-node c =
    let bank : Content = c.args.bank.now in
    absurd (numeral_is_other bank c.args.t c.in-Term.t c.in-Num-node.field-0 c.in-Term.is c.requires.term c.in-Num-node.ensures.head.0 c.in-Num-node.ensures.head.1)
