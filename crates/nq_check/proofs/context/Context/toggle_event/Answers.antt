use Rattle.std.proofs.Common.{sym, ap, ◌∙◌, subst}
use Rattle.std.specs.Prelude.{Option, IfOk, is_some, nat_lt, ◌&&◌, ◌==◌}
use Rattle.nq_logic.specs.Histories.{Toggle}
use Rattle.nq_logic.specs.Names.{looked_up}
use Rattle.nq_bank.specs.Content.{text_at}
use Rattle.nq_log.specs.States.{Adds, Step, only_when}
use Rattle.nq_log.specs.Logs.{claimed}
use Rattle.nq_log.specs.ClosingLines.{is_free}
use Rattle.nq_check.specs.Contexts.{state_of}
use Rattle.nq_check.specs.Judging.{Leads}
use Rattle.nq_check.proofs.ClosingLemmas.{joined, free_denied, free_led}
use Rattle.nq_check.proofs.context.Context.toggle_event.Goals as goal

pub returns-then-not-may_toggle : goal.returns-then-not-may_toggle
returns-then-not-may_toggle c =
    let s = state_of c.args.self.now in
    let old = text_at c.args.self.now.bank c.args.old in
    let claim = Adds (Toggle c.args.toggle.now old (c.args.disables == 1)) in
    ap (λ b. claimed (only_when b claim)) (joined (is_free s c.args.toggle.now) (is_some (looked_up old s.history)) (nat_lt c.args.disables 2))
    ∙ free_denied s c.args.toggle.now (is_some (looked_up old s.history) && nat_lt c.args.disables 2) claim (sym c.may_toggle.ensures ∙ c.if-not-may_toggle.true)

pub returns : goal.returns
returns c =
    let s = state_of c.args.self.now in
    let old = text_at c.args.self.now.bank c.args.old in
    let claim = Adds (Toggle c.args.toggle.now old (c.args.disables == 1)) in
    let led =
    ap (λ b. claimed (only_when b claim)) (joined (is_free s c.args.toggle.now) (is_some (looked_up old s.history)) (nat_lt c.args.disables 2))
    ∙ free_led s c.args.toggle.now (is_some (looked_up old s.history) && nat_lt c.args.disables 2) claim (sym c.may_toggle.ensures ∙ c.if-not-may_toggle.false) in
    subst (λ (o : Option Step). IfOk c.add_event.result (λ judged. Leads (state_of c.args.self.now) o judged c.add_event.new.self)) (sym led) c.add_event.ensures
