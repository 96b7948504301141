use Rattle.std.proofs.Common.{◌≡◌, map}
use Rattle.std.specs.Prelude.{All}
use Rattle.nq_bank.specs.Content.{Stands, term_at, terms_at}
use Rattle.nq_lines.specs.Lines.{IsTermIn}
use Rattle.nq_goals.specs.Replacing.{exchanged}
use Rattle.nq_moves.specs.Swapped.{reading_at}
use Rattle.nq_moves.proofs.ClosingLemmas.{all_stand}
use Rattle.nq_moves.proofs.EqualLemmas.{both_ok}
use Rattle.nq_moves.proofs.FertilizingLemmas.{numeral_stays}
use Rattle.nq_moves.proofs.SwappedLemmas.{one_stands, swapped_ids_in}
use Rattle.nq_moves.proofs.swapping.swap_in_terms.Goals as goal

pub exchange_all-requires-clause-terms : goal.exchange_all-requires-clause-terms
exchange_all-requires-clause-terms c = all_stand c.args.history.now c.args.work.now c.args.terms.now c.requires.terms

pub exchange_all-requires-clause-exchange : goal.exchange_all-requires-clause-exchange
exchange_all-requires-clause-exchange c = one_stands c.args.work.now.bank c.args.r c.requires.from.stands c.requires.into.stands

pub exchange_all-requires-clause-numerals : goal.exchange_all-requires-clause-numerals
exchange_all-requires-clause-numerals c = λ n small. numeral_stays (term_at c.args.work.now.bank c.args.r.from) (term_at c.args.work.now.bank c.args.r.into) n c.requires.no_value small

pub returns-clause-over : goal.returns-clause-over
returns-clause-over c =
    let old = c.args.work.now in
    let new = c.exchange_all.new.work in
    both_ok c.exchange_all.result (λ v. terms_at new.bank v.items ≡ map (exchanged (reading_at old.bank c.args.r)) (terms_at old.bank c.args.terms.now)) (λ v. All (Stands new.bank) v.items) (λ v. All (IsTermIn c.args.history.now new) v.items)
    (λ v is stand. swapped_ids_in c.args.history.now old new c.requires.stands c.exchange_all.ensures.grows c.args.r c.requires.into c.args.terms.now v.items c.requires.terms stand is) c.exchange_all.ensures.terms c.exchange_all.ensures.stand
