use Rattle.std.proofs.Common.{◌∙◌, ap}
use Rattle.nq_bank.specs.Content.{term_at}
use Rattle.nq_kernel.specs.declared.work.Work.{Work}
use Rattle.nq_fragments.specs.Outcomes.{Reached}
use Rattle.nq_fragments.specs.Evaluation.{value_reached}
use Rattle.nq_eval.specs.Known.{IsReached}
use Rattle.nq_eval.proofs.CostLemmas.{granted_yes}
use Rattle.nq_eval.proofs.EvaluationLemmas.{reached_after}
use Rattle.nq_eval.proofs.answers.answer_of.Goals as goal

pub returns-clause-answer : goal.returns-clause-answer
returns-clause-answer c =
    let h = c.args.history.now in
    let new : Work = c.equated.new.work in
    let k : IsReached h new c.args.t 400 10000 c.args.known = reached_after h c.args.work.now new c.requires.stands c.equated.ensures.grows c.args.t 400 10000 c.args.known c.requires.term c.requires.known in
    record {
      usable = k.known.value;
      small = k.known.small;
      value = ap value_reached (k.known.takes.within 400 10000 ∙ granted_yes c.args.known.calls c.args.known.nesting 400 10000 (Reached (term_at new.bank c.args.known.value)) k.calls k.nesting);
      line_is = c.in_ok-line.ensures.line;
    }
