use Rattle.std.proofs.Common.{sym, subst}
use Rattle.nq_bank.specs.Content.{term_at}
use Rattle.nq_proof.specs.Values.{is_true}
use Rattle.nq_eval.specs.Lines.{IsUsable}
use Rattle.nq_eval.proofs.EvaluationLemmas.{side_part}
use Rattle.nq_eval.proofs.resuming.with_side.Goals as goal

pub close_choice-requires-clause-usable : goal.close_choice-requires-clause-usable
close_choice-requires-clause-usable c =
    let bank = c.args.work.now.bank in
    let h = c.args.history.now in
    let choosing = c.args.choosing in
    subst (IsUsable bank h) (sym c.requires.choosing.chosen) (side_part bank h c.args.request.term choosing.parts c.requires.term c.requires.large c.requires.choosing.head (is_true (term_at bank choosing.test.value))).usable
