use Rattle.std.proofs.Common.{map, ap, sym, ◌∙◌}
use Rattle.std.specs.Prelude.{false, None, Some}
use Rattle.std.specs.Option.{option_map}
use Rattle.std.proofs.lemmas.Result.{IfOk-weaker}
use Rattle.nq_bank.specs.Content.{term_at, text_at}
use Rattle.nq_history.specs.Events.{class_of}
use Rattle.nq_history.specs.declared.entry.Class.{Class}
use Rattle.nq_comment.specs.Reports.{Answer}
use Rattle.nq_events.specs.Refusals.{NotOfShape}
use Rattle.nq_run.specs.HistoryView.{history_of}
use Rattle.nq_run.proofs.TakingLemmas.{formula_by}
use Rattle.nq_run.proofs.session.Session.formula_answer.Goals as goal

pub returns-in_ok-not_of_shape-in-Some : goal.returns-in_ok-not_of_shape-in-Some
returns-in_ok-not_of_shape-in-Some c =
    let bank = c.args.self.now.bank in
    let unfit = sym c.unfit_class.ensures ∙ ap (option_map (λ (class : Class). NotOfShape (class_of class))) c.in-Some.is in
    ap (λ (a : Answer). Some a) c.in_ok-not_of_shape-in-Some.ensures
    ∙ sym (formula_by (history_of c.args.self.now) (text_at bank c.args.name) (map class_of c.args.classes.now) (term_at bank c.args.term) false _ (sym c.in_use.ensures ∙ c.if-in_use.false) unfit)

pub returns-in-None : goal.returns-in-None
returns-in-None c =
    let bank = c.args.self.now.bank in
    let unfit = sym c.unfit_class.ensures ∙ ap (option_map (λ (class : Class). NotOfShape (class_of class))) c.in-None.is in
    IfOk-weaker c.room_answer.result _ _
    (λ answer is. is ∙ sym (formula_by (history_of c.args.self.now) (text_at bank c.args.name) (map class_of c.args.classes.now) (term_at bank c.args.term) false None (sym c.in_use.ensures ∙ c.if-in_use.false) unfit))
    c.room_answer.ensures
