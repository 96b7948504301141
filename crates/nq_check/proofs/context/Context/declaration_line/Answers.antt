use Rattle.std.proofs.Common.{sym, ◌∙◌, ◌^◌, subst}
use Rattle.std.specs.Prelude.{Option, IfOk, nat_lt}
use Rattle.nq_logic.specs.Histories.{Declaration}
use Rattle.nq_log.specs.States.{Adds, Step}
use Rattle.nq_check.specs.Contexts.{state_of}
use Rattle.nq_check.specs.Judging.{Leads}
use Rattle.nq_check.proofs.ClosingLemmas.{free_denied, free_led}
use Rattle.nq_check.proofs.context.Context.declaration_line.Goals as goal

pub returns-then-not-may_declare : goal.returns-then-not-may_declare
returns-then-not-may_declare c =
    free_denied (state_of c.args.self.now) c.args.function.now (nat_lt c.args.arity (2 ^ 32)) (Adds (Declaration c.args.function.now c.args.arity)) (sym c.may_declare.ensures.told ∙ c.if-not-may_declare.true)

pub returns : goal.returns
returns c =
    let led = free_led (state_of c.args.self.now) c.args.function.now (nat_lt c.args.arity (2 ^ 32)) (Adds (Declaration c.args.function.now c.args.arity)) (sym c.may_declare.ensures.told ∙ c.if-not-may_declare.false) in
    subst (λ (o : Option Step). IfOk c.add_event.result (λ judged. Leads (state_of c.args.self.now) o judged c.add_event.new.self)) (sym led) c.add_event.ensures
