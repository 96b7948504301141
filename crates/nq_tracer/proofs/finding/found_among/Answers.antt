use Rattle.std.proofs.Common.{Option, get_or, subst}
use Rattle.std.specs.Prelude.{IfSome}
use Rattle.nq_bank.specs.declared.node.TermId.{TermId}
use Rattle.nq_tracer.specs.Leads.{IsPartAt}
use Rattle.nq_tracer.proofs.FoundLemmas.{literal_among}
use Rattle.nq_tracer.proofs.finding.found_among.Goals as goal

pub returns-in-Some : goal.returns-in-Some
returns-in-Some c =
    let bank = c.args.bank.now in
    let none : TermId = record { 0 = 0 } in
    let ids = c.args.goal.now in
    let there : IsPartAt bank (get_or ids c.loop-i.i none) c.in-Some.u = subst (λ (o : Option TermId). IfSome o (IsPartAt bank (get_or ids c.loop-i.i none))) c.in-Some.is c.in_ok-found.ensures in
    record { literal = get_or ids c.loop-i.i none; among = literal_among ids c.loop-i.i none c.loop-i-test.true; part = there }
