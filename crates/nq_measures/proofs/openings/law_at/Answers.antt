use Rattle.std.proofs.Common.{ap₂, sym, subst}
use Rattle.std.specs.Prelude.{IfOk}
use Rattle.nq_logic.specs.Terms.{Term}
use Rattle.nq_logic.specs.Words.{not_term, or_term}
use Rattle.nq_bank.specs.Content.{IsIdOf}
use Rattle.nq_bank.proofs.Growth.{Stands-grown, term_at-grown}
use Rattle.nq_bank.proofs.Standing.{id_grown}
use Rattle.nq_proof.specs.Clauses.{Clause}
use Rattle.nq_lines.specs.Lines.{LineHasOnly}
use Rattle.nq_replay.proofs.UncountedLemmas.{grown_trans}
use Rattle.nq_kernel.proofs.GrowingLemmas.{LineHolds-grown}
use Rattle.nq_lines.proofs.PairLemmas.{name_grown}
use Rattle.nq_measures.proofs.TermLemmas.{term_in_grown}
use Rattle.nq_replay.specs.LawClauses.{choice_opens_clause}
use Rattle.nq_measures.proofs.OpeningLemmas.{opened}
use Rattle.nq_measures.proofs.openings.law_at.Goals as goal

pub returns-in_err-y-clause-grows : goal.returns-in_err-y-clause-grows
returns-in_err-y-clause-grows c = grown_trans c.args.history.now c.args.work.now c.symbol.new.work c.symbol-2.new.work c.symbol.ensures.grows c.symbol-2.ensures.grows

pub law_with-requires-clause-law : goal.law_with-requires-clause-law
law_with-requires-clause-law c =
    let grows = grown_trans c.args.history.now c.args.work.now c.symbol.new.work c.symbol-2.new.work c.symbol.ensures.grows c.symbol-2.ensures.grows in
    LineHolds-grown c.args.history.now c.args.work.now c.symbol-2.new.work c.args.law choice_opens_clause c.requires.stands grows.grows c.requires.law

pub law_with-requires-clause-first : goal.law_with-requires-clause-first
law_with-requires-clause-first c =
    let grows = grown_trans c.args.history.now c.args.work.now c.symbol.new.work c.symbol-2.new.work c.symbol.ensures.grows c.symbol-2.ensures.grows in
    record { name = name_grown c.symbol.new.work.bank c.symbol-2.new.work.bank c.in_ok-x.x _ c.symbol-2.ensures.grows.grows.bank c.in_ok-x.ensures.name; term = Stands-grown c.args.work.now.bank c.symbol-2.new.work.bank c.args.t grows.grows.bank c.requires.left }

pub law_with-requires-clause-second : goal.law_with-requires-clause-second
law_with-requires-clause-second c =
    let grows = grown_trans c.args.history.now c.args.work.now c.symbol.new.work c.symbol-2.new.work c.symbol.ensures.grows c.symbol-2.ensures.grows in
    record { name = c.in_ok-y.ensures.name; term = Stands-grown c.args.work.now.bank c.symbol-2.new.work.bank c.args.u grows.grows.bank c.requires.right }

pub law_with-requires-clause-first_over : goal.law_with-requires-clause-first_over
law_with-requires-clause-first_over c =
    let grows = grown_trans c.args.history.now c.args.work.now c.symbol.new.work c.symbol-2.new.work c.symbol.ensures.grows c.symbol-2.ensures.grows in
    term_in_grown c.args.work.now.bank c.symbol-2.new.work.bank c.args.history.now c.args.t grows.grows.bank c.requires.stands.history c.requires.left c.requires.left_over

pub law_with-requires-clause-second_over : goal.law_with-requires-clause-second_over
law_with-requires-clause-second_over c =
    let grows = grown_trans c.args.history.now c.args.work.now c.symbol.new.work c.symbol-2.new.work c.symbol.ensures.grows c.symbol-2.ensures.grows in
    term_in_grown c.args.work.now.bank c.symbol-2.new.work.bank c.args.history.now c.args.u grows.grows.bank c.requires.stands.history c.requires.right c.requires.right_over

pub law_with-requires-clause-denied : goal.law_with-requires-clause-denied
law_with-requires-clause-denied c =
    let grows = grown_trans c.args.history.now c.args.work.now c.symbol.new.work c.symbol-2.new.work c.symbol.ensures.grows c.symbol-2.ensures.grows in
    subst (λ (w : Term). IsIdOf c.symbol-2.new.work.bank c.args.denied w) (sym (ap₂ (λ (t u : Term). not_term (or_term t u)) (term_at-grown c.args.work.now.bank c.symbol-2.new.work.bank c.args.t grows.grows.bank c.requires.left) (term_at-grown c.args.work.now.bank c.symbol-2.new.work.bank c.args.u grows.grows.bank c.requires.right)))
    (id_grown c.args.work.now.bank c.symbol-2.new.work.bank c.args.denied _ grows.grows.bank c.requires.denied)

pub returns-clause-line : goal.returns-clause-line
returns-clause-line c =
    let grows = grown_trans c.args.history.now c.args.work.now c.symbol.new.work c.symbol-2.new.work c.symbol.ensures.grows c.symbol-2.ensures.grows in
    subst (λ (ls : Clause). IfOk c.law_with.result (λ n. LineHasOnly c.law_with.new.work n ls)) (ap₂ (λ (t u : Term). opened t u) (term_at-grown c.args.work.now.bank c.symbol-2.new.work.bank c.args.t grows.grows.bank c.requires.left) (term_at-grown c.args.work.now.bank c.symbol-2.new.work.bank c.args.u grows.grows.bank c.requires.right)) c.law_with.ensures.line

pub returns-clause-grows : goal.returns-clause-grows
returns-clause-grows c =
    let grows = grown_trans c.args.history.now c.args.work.now c.symbol.new.work c.symbol-2.new.work c.symbol.ensures.grows c.symbol-2.ensures.grows in
    grown_trans c.args.history.now c.args.work.now c.symbol-2.new.work c.law_with.new.work grows c.law_with.ensures.grows
