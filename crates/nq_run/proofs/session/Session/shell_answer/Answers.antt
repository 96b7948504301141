use Rattle.std.proofs.Common.{ap, sym, ◌∙◌}
use Rattle.std.specs.Prelude.{None, Some}
use Rattle.std.proofs.lemmas.Result.{IfOk-weaker}
use Rattle.nq_bank.specs.Shells.{shell_at}
use Rattle.nq_history.specs.Events.{events_at}
use Rattle.nq_comment.specs.Reports.{Answer}
use Rattle.nq_shell.specs.Admission.{refusal_at}
use Rattle.nq_run.proofs.ShellLemmas.{principle_told, refused_so, room_left}
use Rattle.nq_run.proofs.session.Session.shell_answer.Goals as goal

pub returns-in-Ok : goal.returns-in-Ok
returns-in-Ok c =
    let bank = c.args.self.now.bank in
    let history = c.args.self.now.history in
    let s = shell_at bank c.args.shell.now in
    let told =
    principle_told bank history s c.shells.result.now c.in_ok-used.used.items c.as_slice.result.now None
    (c.shells.ensures.logic bank c.requires.stands.history) c.as_slice.ensures.value c.in_ok-used.ensures.used c.in-Ok.ensures.refusal in
    IfOk-weaker c.room_answer.result _ _ (λ answer is. is ∙ sym (room_left (events_at bank history) s told)) c.room_answer.ensures

pub returns : goal.returns
returns c =
    let bank = c.args.self.now.bank in
    let history = c.args.self.now.history in
    let s = shell_at bank c.args.shell.now in
    let why = refusal_at bank c.in-Err.fault in
    let told =
    principle_told bank history s c.shells.result.now c.in_ok-used.used.items c.as_slice.result.now (Some why)
    (c.shells.ensures.logic bank c.requires.stands.history) c.as_slice.ensures.value c.in_ok-used.ensures.used c.in-Err.ensures.refusal in
    ap (λ (a : Answer). Some a) c.in_ok-shell_refused-in-Err.ensures ∙ sym (refused_so (events_at bank history) s why told)
