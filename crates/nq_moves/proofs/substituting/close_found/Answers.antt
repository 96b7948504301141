use Rattle.std.proofs.Common.{◌∷◌, [], ◌++◌, map, sym, subst, ◌≡◌}
use Rattle.nq_logic.specs.Terms.{Variable}
use Rattle.nq_logic.specs.Words.{numeral}
use Rattle.nq_bank.specs.Content.{text_at, term_at, terms_at}
use Rattle.nq_proof.specs.Clauses.{without}
use Rattle.nq_lines.specs.Lines.{LineHasOnly}
use Rattle.nq_goals.specs.Replacing.{exchanged}
use Rattle.nq_moves.specs.Back.{Denies}
use Rattle.nq_moves.proofs.ClosingLemmas.{literal_among, literal_denies, term_in, variable_in, line_exchanged, exchanged-numeral}
use Rattle.nq_moves.proofs.substituting.close_found.Goals as goal

pub close_exchanged-requires-clause-among : goal.close_exchanged-requires-clause-among
close_exchanged-requires-clause-among c = literal_among c.args.history.now c.args.work.now c.args.goal.now c.args.found c.requires.goal c.requires.found

pub close_exchanged-requires-clause-left : goal.close_exchanged-requires-clause-left
close_exchanged-requires-clause-left c = variable_in c.args.history.now c.args.work.now c.args.goal.now c.args.found c.requires.goal c.requires.found c.other_side-from.result (c.other_side-from.ensures (Variable (text_at c.args.work.now.bank c.args.found.variable)) (literal_denies c.args.history.now c.args.work.now c.args.goal.now c.args.found c.requires.goal c.requires.found))

pub close_exchanged-requires-clause-right : goal.close_exchanged-requires-clause-right
close_exchanged-requires-clause-right c = term_in c.args.history.now c.args.work.now c.args.goal.now c.args.found c.requires.goal c.requires.found

pub close_exchanged-requires-clause-denies : goal.close_exchanged-requires-clause-denies
close_exchanged-requires-clause-denies c =
    subst (λ t. Denies (term_at c.args.work.now.bank c.args.found.literal) t (term_at c.args.work.now.bank c.args.found.term)) (sym (c.other_side-from.ensures (Variable (text_at c.args.work.now.bank c.args.found.variable)) (literal_denies c.args.history.now c.args.work.now c.args.goal.now c.args.found c.requires.goal c.requires.found)).denotes) (literal_denies c.args.history.now c.args.work.now c.args.goal.now c.args.found c.requires.goal c.requires.found)

pub close_exchanged-requires-clause-numerals : goal.close_exchanged-requires-clause-numerals
close_exchanged-requires-clause-numerals c =
    λ n small. subst (λ t. exchanged ((t, term_at c.args.work.now.bank c.args.found.term) ∷ []) (numeral n) ≡ numeral n) (sym (c.other_side-from.ensures (Variable (text_at c.args.work.now.bank c.args.found.variable)) (literal_denies c.args.history.now c.args.work.now c.args.goal.now c.args.found c.requires.goal c.requires.found)).denotes) (exchanged-numeral (text_at c.args.work.now.bank c.args.found.variable) (term_at c.args.work.now.bank c.args.found.term) n)

pub close_exchanged-requires-clause-line : goal.close_exchanged-requires-clause-line
close_exchanged-requires-clause-line c =
    subst (λ t. LineHasOnly c.args.work.now c.args.line (map (exchanged ((t, term_at c.args.work.now.bank c.args.found.term) ∷ [])) (without (term_at c.args.work.now.bank c.args.found.literal) (terms_at c.args.work.now.bank c.args.goal.now)) ++ terms_at c.args.work.now.bank c.args.goal.now)) (sym (c.other_side-from.ensures (Variable (text_at c.args.work.now.bank c.args.found.variable)) (literal_denies c.args.history.now c.args.work.now c.args.goal.now c.args.found c.requires.goal c.requires.found)).denotes) (line_exchanged c.args.history.now c.args.work.now c.args.goal.now c.args.found c.requires.goal c.requires.found c.args.line c.requires.line)
