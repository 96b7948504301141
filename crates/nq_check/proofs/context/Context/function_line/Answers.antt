use Rattle.std.proofs.Common.{sym, ◌∙◌, subst}
use Rattle.std.specs.Prelude.{Some, not}
use Rattle.nq_logic.specs.Names.{is_in_use}
use Rattle.nq_logic.specs.Terms.{Name}
use Rattle.nq_log.specs.States.{State, Step, only_when}
use Rattle.std.specs.Prelude.{Option}
use Rattle.nq_log.specs.Logs.{continued}
use Rattle.nq_check.specs.Contexts.{state_of}
use Rattle.nq_check.specs.Judging.{Leads}
use Rattle.nq_check.proofs.ContextLemmas.{state_grown, whole_grown}
use Rattle.nq_check.proofs.FunctionLemmas.{function_denied, function_led}
use Rattle.nq_check.proofs.context.Context.function_line.Goals as goal

pub returns-then-not-may_introduce : goal.returns-then-not-may_introduce
returns-then-not-may_introduce c = function_denied (state_of c.args.self.now) c.args.function.now c.args.arity (sym c.may_introduce.ensures ∙ c.if-not-may_introduce.true)

pub introduce-requires-clause-whole : goal.introduce-requires-clause-whole
introduce-requires-clause-whole c = whole_grown c.args.self.now c.name.new.self c.in_ok-s.ensures.ok.grows c.requires

pub returns : goal.returns
returns c =
    let old = c.args.self.now in
    let names = c.in_ok-s.ensures.ok in
    let mid = record old { bank = c.name.new.self } in
    let judged = c.introduce.result in
    let new = c.introduce.new.self in
    subst (λ (next : Option Step). Leads (state_of old) next judged new) (sym (function_led (state_of old) c.args.function.now c.args.arity (sym c.may_introduce.ensures ∙ c.if-not-may_introduce.false)))
    (subst (λ (s : State). Leads s (continued (only_when (not (is_in_use c.args.function.now s.history)) (record s.block { introduced = Some (c.args.function.now, c.args.arity) }))) judged new) (sym (state_grown old c.name.new.self names.grows c.requires))
    (subst (λ (n : Name). Leads (state_of mid) (continued (only_when (not (is_in_use n (state_of mid).history)) (record (state_of mid).block { introduced = Some (n, c.args.arity) }))) judged new) names.reads c.introduce.ensures))
