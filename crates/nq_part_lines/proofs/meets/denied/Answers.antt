use Rattle.nq_logic.specs.Words.{not_term}
use Rattle.nq_bank.specs.Content.{IsIdOf, term_at}
use Rattle.nq_rule.proofs.Made.{for_ok}
use Rattle.nq_part_lines.specs.Small.{IsSmallIn}
use Rattle.nq_part_lines.proofs.ChoiceLemmas.{not_small}
use Rattle.nq_part_lines.proofs.meets.denied.Goals as goal

pub returns-clause-small : goal.returns-clause-small
returns-clause-small c =
    let h = c.args.history.now in
    let old = c.args.work.now in
    let new = c.ground_call.new.work in
    for_ok c.ground_call.result (λ u. IsIdOf new.bank u (not_term (term_at old.bank c.args.t))) (λ u. IsSmallIn h new u) (λ u is. not_small h old new c.requires.stands c.ground_call.ensures.grows.grows c.args.t u c.requires.term.inside c.requires.room is) c.ground_call.ensures.call
