use Rattle.std.proofs.Common.{◌∙◌, sym, ap, subst}
use Rattle.std.specs.Prelude.{All}
use Rattle.nq_clause.specs.Substitution.{substitution_at, PairStands}
use Rattle.nq_logic.specs.Words.{numeral}
use Rattle.nq_kernel.proofs.GrowingLemmas.{WorkGrows-trans}
use Rattle.nq_goals.specs.Replacing.{exchanged}
use Rattle.nq_moves.specs.Exchanging.{exchange_at, ExchangeStands}
use Rattle.nq_moves.specs.Naming.{exchange_by}
use Rattle.nq_moves.proofs.ClosingLemmas.{all_stand}
use Rattle.nq_moves.proofs.SwappedLemmas.{goal_in_grown}
use Rattle.nq_moves.proofs.NamingLemmas.{namings_stand, numerals_stay, each_no_value, renaming_is}
use Rattle.nq_moves.proofs.naming.rename_with.Goals as goal

pub exchange_of_pairs-requires-clause-pairs : goal.exchange_of_pairs-requires-clause-pairs
exchange_of_pairs-requires-clause-pairs c = subst (All (PairStands c.args.work.now.bank)) (sym c.as_slice.ensures.value) (namings_stand c.args.history.now c.args.work.now c.args.literals.now c.args.pairs.items c.requires.pairs)

pub exchange_all-requires-clause-terms : goal.exchange_all-requires-clause-terms
exchange_all-requires-clause-terms c =
    all_stand c.args.history.now c.exchange_of_pairs.new.work c.args.literals.now (goal_in_grown c.args.history.now c.args.work.now c.exchange_of_pairs.new.work c.requires.stands c.exchange_of_pairs.ensures.grows c.args.literals.now c.requires.literals)

pub exchange_all-requires-clause-exchange : goal.exchange_all-requires-clause-exchange
exchange_all-requires-clause-exchange c = subst (All (ExchangeStands c.exchange_of_pairs.new.work.bank)) (sym c.as_slice-2.ensures.value) c.in_ok-exchange.ensures.stand

pub exchange_all-requires-clause-numerals : goal.exchange_all-requires-clause-numerals
exchange_all-requires-clause-numerals c =
    let w = c.args.work.now in
    let is = ap (exchange_at c.exchange_of_pairs.new.work.bank) c.as_slice-2.ensures.value ∙ c.in_ok-exchange.ensures.exchange ∙ ap (λ ps. exchange_by (substitution_at w.bank ps)) c.as_slice.ensures.value in
    λ n small. ap (λ es. exchanged es (numeral n)) is ∙ numerals_stay (substitution_at w.bank c.args.pairs.items) n (each_no_value w.bank c.args.pairs.items c.requires.values) small

pub returns-in_err-renamed-clause-grows : goal.returns-in_err-renamed-clause-grows
returns-in_err-renamed-clause-grows c = WorkGrows-trans c.args.history.now c.args.work.now c.exchange_of_pairs.new.work c.exchange_all.new.work c.exchange_of_pairs.ensures.grows c.exchange_all.ensures.grows

pub returns-clause-renaming : goal.returns-clause-renaming
returns-clause-renaming c =
    let w = c.args.work.now in
    let is = ap (exchange_at c.exchange_of_pairs.new.work.bank) c.as_slice-2.ensures.value ∙ c.in_ok-exchange.ensures.exchange ∙ ap (λ ps. exchange_by (substitution_at w.bank ps)) c.as_slice.ensures.value in
    renaming_is c.args.history.now w c.exchange_of_pairs.new.work c.exchange_all.new.work c.exchange_of_pairs.ensures.grows c.exchange_all.ensures.grows c.requires.stands c.args.literals.now c.requires.literals (record { pairs = c.args.pairs; literals = c.in_ok-renamed.renamed }) c.requires.pairs c.requires.distinct c.as_slice-2.result.now is c.in_ok-renamed.ensures.terms c.in_ok-renamed.ensures.stand

pub returns-clause-grows : goal.returns-clause-grows
returns-clause-grows c = WorkGrows-trans c.args.history.now c.args.work.now c.exchange_of_pairs.new.work c.exchange_all.new.work c.exchange_of_pairs.ensures.grows c.exchange_all.ensures.grows
