use Rattle.std.proofs.Common.{sym, subst}
use Rattle.nq_logic.specs.Names.{is_in_use}
use Rattle.nq_bank.specs.Content.{text_at, term_at}
use Rattle.nq_history.specs.Events.{events_at}
use Rattle.nq_kernel.specs.Ready.{IsReady}
use Rattle.nq_log_tests.proofs.ReadyLemmas.{axiom_ready, new_name, on_ok₂}
use Rattle.nq_log_tests.proofs.axioms.push_axiom.Goals as goal

pub returns-clause-ready : goal.returns-clause-ready
returns-clause-ready c =
    let bank = c.args.bank.now in
    let before = events_at bank c.args.history.now in
    let name = text_at bank c.args.name in
    on_ok₂ c.push.result _ _ _ (λ is unused. subst IsReady (sym is) (axiom_ready before name _ (term_at bank c.args.t) c.requires.ready unused c.requires.over)) c.push.ensures.event
    (new_name (is_in_use name before) _ c.push.result c.push.ensures.answer)
