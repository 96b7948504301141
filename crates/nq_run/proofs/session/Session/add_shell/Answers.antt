use Rattle.std.proofs.Common.{ap, sym, ◌∙◌}
use Rattle.std.specs.Option.{option_map}
use Rattle.nq_sexp.specs.Tree.{tree}
use Rattle.nq_bank.specs.Shells.{shell_at}
use Rattle.nq_comment.specs.ReportViews.{answer_of}
use Rattle.nq_events.specs.Events as model
use Rattle.nq_events.specs.OwnRefusals.{own_refusal}
use Rattle.nq_run.specs.HistoryView.{history_of}
use Rattle.nq_answers.proofs.Deriving.{no_refusal}
use Rattle.nq_run.proofs.TakingLemmas.{hindered}
use Rattle.nq_run.proofs.session.Session.add_shell.Goals as goal

pub with_shell-requires-clause-lawful : goal.with_shell-requires-clause-lawful
with_shell-requires-clause-lawful g c =
    no_refusal (own_refusal (history_of c.args.self) (model.AddShell (shell_at c.args.self.bank c.args.shell))) (sym c.in_ok-answer.ensures ∙ ap (option_map answer_of) c.in-None.is)

pub returns-in-Some-clause-taken : goal.returns-in-Some-clause-taken
returns-in-Some-clause-taken g c =
    hindered c.args.given.steps c.args.self c.args.given.mark (tree c.args.given.form.now) (model.AddShell (shell_at c.args.self.bank c.args.shell)) c.args.given.logging (answer_of c.in-Some.answer) c.untaken.result c.untaken.ensures
    (sym (ap (option_map answer_of) c.in-Some.is) ∙ c.in_ok-answer.ensures)
