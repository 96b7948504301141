use Rattle.nq_logic.specs.ShellPrinciple.{shells_of}
use Rattle.nq_bank.specs.Content.{text_at}
use Rattle.nq_history.specs.Events.{events_at}
use Rattle.nq_stuck.proofs.GeneralLemmas.{kept_told}
use Rattle.nq_stuck.proofs.common.is_kept.Goals as goal

pub returns : goal.returns
returns c =
    let bank = c.args.bank.now in
    let h = events_at bank c.args.history.now in
    kept_told (text_at bank c.args.f) (shells_of h) _ _ c.is_of_shell-of_shell.result c.is_predicate-predicate.result c.is_either.result (c.shells.ensures.logic bank c.requires.history) c.is_of_shell-of_shell.ensures
    c.is_predicate-predicate.ensures c.is_either.ensures
