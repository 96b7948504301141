use Rattle.std.proofs.Common.{map}
use Rattle.nq_bank.specs.Content.{term_at, text_at}
use Rattle.nq_bank.specs.Shells.{texts_at}
use Rattle.nq_event.specs.EventsAt.{measure_at}
use Rattle.nq_admit.specs.Admission.{refusal_at}
use Rattle.nq_comment.specs.ReportViews.{answer_of}
use Rattle.nq_run.specs.Answers.{fault_refusal}
use Rattle.nq_run.specs.HistoryView.{history_of}
use Rattle.nq_run.proofs.DefinitionLemmas.{defn_admitted, defn_refused, refused_for}
use Rattle.nq_run.proofs.session.Session.definition_answer.Goals as goal

pub returns-in-Ok : goal.returns-in-Ok
returns-in-Ok c =
    let session = c.args.self.now in
    let bank = session.bank in
    defn_admitted (history_of session) (text_at bank c.args.name) (texts_at bank c.args.formals.now) (term_at bank c.args.body) (map (measure_at bank) c.args.measures.now) c.in-Ok.ensures.answer

pub returns-in_ok-unadmitted-in-Err : goal.returns-in_ok-unadmitted-in-Err
returns-in_ok-unadmitted-in-Err c =
    let session = c.args.self.now in
    let bank = session.bank in
    let name = text_at bank c.args.name in
    let why = refusal_at bank session.history c.args.name c.args.formals.now c.args.body c.args.measures.now in
    let answer = answer_of c.in_ok-unadmitted-in-Err.field-0 in
    defn_refused (history_of session) name (texts_at bank c.args.formals.now) (term_at bank c.args.body) (map (measure_at bank) c.args.measures.now)
    answer (fault_refusal bank name c.in-Err.fault) (refused_for bank name why c.in-Err.fault answer c.in-Err.ensures.answer c.in_ok-unadmitted-in-Err.ensures) c.in_ok-unadmitted-in-Err.ensures
