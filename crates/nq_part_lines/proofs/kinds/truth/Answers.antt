use Rattle.std.proofs.Common.{sym, subst}
use Rattle.nq_logic.specs.Terms.{Function, IsAmong}
use Rattle.nq_logic.specs.Ground.{symbols_of}
use Rattle.nq_bank.specs.Content.{IsIdOf, text_at}
use Rattle.nq_rule.proofs.Made.{for_ok}
use Rattle.nq_history.specs.Events.{events_at}
use Rattle.nq_part_lines.specs.Defaults.{truth_term}
use Rattle.nq_part_lines.proofs.KindLemmas.{truth_known}
use Rattle.nq_part_lines.proofs.kinds.truth.Goals as goal

pub base_term-requires-clause-symbol : goal.base_term-requires-clause-symbol
base_term-requires-clause-symbol c =
    let h = events_at c.args.work.now.bank c.args.history.now in
    subst (λ n. IsAmong (n, 0) (symbols_of h)) (sym c.truth_symbol-name.ensures.reads) (truth_known h c.args.value)

pub returns-clause-truth : goal.returns-clause-truth
returns-clause-truth c =
    let new = c.base_term.new.work in
    for_ok c.base_term.result (λ t. IsIdOf new.bank t (Function (text_at c.args.work.now.bank c.truth_symbol-name.result))) (λ t. IsIdOf new.bank t (truth_term c.args.value)) (λ t k. subst (λ n. IsIdOf new.bank t (Function n)) c.truth_symbol-name.ensures.reads k) c.base_term.ensures.constant
