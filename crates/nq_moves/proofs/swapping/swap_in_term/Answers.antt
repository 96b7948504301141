use Rattle.nq_bank.specs.Content.{IsIdOf, term_at}
use Rattle.nq_rule.proofs.Made.{for_ok}
use Rattle.nq_lines.specs.Lines.{IsTermIn}
use Rattle.nq_goals.specs.Replacing.{exchanged}
use Rattle.nq_moves.specs.Swapped.{reading_at}
use Rattle.nq_moves.proofs.FertilizingLemmas.{numeral_stays}
use Rattle.nq_moves.proofs.SwappedLemmas.{one_stands, swapped_id_in}
use Rattle.nq_moves.proofs.swapping.swap_in_term.Goals as goal

pub exchange_within-requires-clause-exchange : goal.exchange_within-requires-clause-exchange
exchange_within-requires-clause-exchange c = one_stands c.args.work.now.bank c.args.r c.requires.from.stands c.requires.into.stands

pub exchange_within-requires-clause-numerals : goal.exchange_within-requires-clause-numerals
exchange_within-requires-clause-numerals c = λ n small. numeral_stays (term_at c.args.work.now.bank c.args.r.from) (term_at c.args.work.now.bank c.args.r.into) n c.requires.no_value small

pub returns-clause-over : goal.returns-clause-over
returns-clause-over c =
    let old = c.args.work.now in
    let new = c.exchange_within.new.work in
    for_ok c.exchange_within.result (λ u. IsIdOf new.bank u (exchanged (reading_at old.bank c.args.r) (term_at old.bank c.args.t))) (IsTermIn c.args.history.now new)
    (λ u id. swapped_id_in c.args.history.now old new c.requires.stands c.exchange_within.ensures.grows c.args.r c.requires.into c.args.t u c.requires.term id) c.exchange_within.ensures.ok
