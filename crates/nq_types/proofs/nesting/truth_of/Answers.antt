use Rattle.std.proofs.Common.{◌≡◌, ◌∷◌, [], Some, ap}
use Rattle.std.specs.Prelude.{is_some}
use Rattle.nq_logic.specs.Words.{true_term}
use Rattle.nq_bank.specs.Content.{text_at}
use Rattle.nq_history.specs.Events.{events_at}
use Rattle.nq_proof.specs.Rows.{axiom_clause}
use Rattle.nq_kernel.proofs.GrowingLemmas.{WorkGrows-trans}
use Rattle.nq_lines.proofs.LineLemmas.{line_grown}
use Rattle.nq_lines.proofs.TermLemmas.{term_grown}
use Rattle.nq_types.proofs.nesting.truth_of.Goals as goal

pub returns-in_err-second-clause-grows : goal.returns-in_err-second-clause-grows
returns-in_err-second-clause-grows c = (WorkGrows-trans c.args.history.now c.args.work.now c.truth.new.work c.falsity.new.work c.truth.ensures.grows c.falsity.ensures.grows)

pub returns-in_err-law-clause-grows : goal.returns-in_err-law-clause-grows
returns-in_err-law-clause-grows c = (WorkGrows-trans c.args.history.now c.args.work.now c.truth.new.work c.row_line.new.work c.truth.ensures.grows (WorkGrows-trans c.args.history.now c.truth.new.work c.falsity.new.work c.row_line.new.work c.falsity.ensures.grows c.row_line.ensures.grows))

pub joined_fact-requires-clause-parts : goal.joined_fact-requires-clause-parts
joined_fact-requires-clause-parts c = record { test = (term_grown c.args.history.now c.args.work.now c.row_line.new.work c.args.fact.term c.requires.stands (WorkGrows-trans c.args.history.now c.args.work.now c.truth.new.work c.row_line.new.work c.truth.ensures.grows (WorkGrows-trans c.args.history.now c.truth.new.work c.falsity.new.work c.row_line.new.work c.falsity.ensures.grows c.row_line.ensures.grows)) c.requires.fact.term); first = (term_grown c.args.history.now c.truth.new.work c.row_line.new.work c.in_ok-first.first c.truth.ensures.grows.stands (WorkGrows-trans c.args.history.now c.truth.new.work c.falsity.new.work c.row_line.new.work c.falsity.ensures.grows c.row_line.ensures.grows) c.in_ok-first.ensures.over); second = (term_grown c.args.history.now c.falsity.new.work c.row_line.new.work c.in_ok-second.second c.falsity.ensures.grows.stands c.row_line.ensures.grows c.in_ok-second.ensures.over) }

pub joined_fact-requires-clause-second : goal.joined_fact-requires-clause-second
joined_fact-requires-clause-second c = (line_grown c.args.history.now c.args.work.now c.row_line.new.work c.args.fact.line c.requires.stands (WorkGrows-trans c.args.history.now c.args.work.now c.truth.new.work c.row_line.new.work c.truth.ensures.grows (WorkGrows-trans c.args.history.now c.truth.new.work c.falsity.new.work c.row_line.new.work c.falsity.ensures.grows c.row_line.ensures.grows)) c.requires.fact.line)

pub returns-clause-grows : goal.returns-clause-grows
returns-clause-grows c = (WorkGrows-trans c.args.history.now c.args.work.now c.truth.new.work c.joined_fact.new.work c.truth.ensures.grows (WorkGrows-trans c.args.history.now c.truth.new.work c.falsity.new.work c.joined_fact.new.work c.falsity.ensures.grows (WorkGrows-trans c.args.history.now c.falsity.new.work c.row_line.new.work c.joined_fact.new.work c.row_line.ensures.grows c.joined_fact.ensures.grows)))

pub joined_fact-requires-clause-first : goal.joined_fact-requires-clause-first
joined_fact-requires-clause-first c =
    let bank = c.falsity.new.work.bank in
    let h = events_at bank c.args.history.now in
    let row : axiom_clause h (text_at bank c.ground_name-name.result) 1 0 ≡ Some (true_term ∷ []) = ap (λ x. axiom_clause h x 1 0) c.ground_name-name.ensures.reads in
    ap is_some (c.in_ok-law.ensures.line (true_term ∷ []) row)
