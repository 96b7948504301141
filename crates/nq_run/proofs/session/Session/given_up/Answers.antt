use Rattle.std.proofs.Common.{sym, subst}
use Rattle.nq_sexp.specs.Tree.{tree}
use Rattle.nq_bank.specs.Content.{term_at}
use Rattle.nq_comment.specs.Reports.{Answer}
use Rattle.nq_comment.specs.ReportViews.{answer_of}
use Rattle.nq_event.specs.EventsAt.{hints_at}
use Rattle.nq_run.specs.GivingUp.{answer_by}
use Rattle.nq_run.specs.HistoryView.{history_of, SessionStands}
use Rattle.nq_run.specs.Sessions.{IsUntaken}
use Rattle.nq_run.specs.declared.session.Session.{Session}
use Rattle.nq_run.proofs.TakingLemmas.{same_session}
use Rattle.nq_run.proofs.GivenUpLemmas.{given_up_tried, never_taken}
use Rattle.nq_run.proofs.session.Session.given_up.Goals as goal

pub untaken-requires-clause-stands : goal.untaken-requires-clause-stands
untaken-requires-clause-stands c = subst SessionStands (sym (same_session c.args.self c.in_ok-given_up.given_up.bank c.in_ok-given_up.ensures.bank)) c.requires.stands

pub returns : goal.returns
returns c =
    let old = c.args.self in
    let form = tree c.args.given.form.now in
    let text = c.args.text.items in
    let failing = c.in_ok-given_up.given_up.failing in
    let same = same_session old c.in_ok-given_up.given_up.bank c.in_ok-given_up.ensures.bank in
    record {
      answer = answer_by text failing;
      tried =
          given_up_tried c.args.given.steps (history_of old) form (hints_at old.bank c.args.lemma.hints.now) (term_at old.bank c.args.lemma.goal) text failing c.requires.outside c.requires.not_false c.requires.text
          c.in_ok-given_up.ensures.told;
      not_taken = never_taken text failing;
      untaken =
          subst (λ (a : Answer). IsUntaken old c.args.given.mark a c.untaken.result) c.answer_by-answer.ensures
          (subst (λ (s : Session). IsUntaken s c.args.given.mark (answer_of c.answer_by-answer.result) c.untaken.result) same c.untaken.ensures);
    }
