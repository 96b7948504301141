use Rattle.nq_arith.specs.Nests.{is_smaller}
use Rattle.nq_bank.specs.Content.{term_at}
use Rattle.nq_history.specs.Events.{events_at}
use Rattle.nq_lines.proofs.LineLemmas.{line_grown, only_grown, only_stands}
use Rattle.nq_lines.proofs.TermLemmas.{same_term_grown, term_grown}
use Rattle.nq_lines.specs.Lines.{CutsTo, LineHasOnly}
use Rattle.nq_logic.proofs.Symbols.{equal_symbol, lessp_symbol}
use Rattle.nq_logic.specs.Words.{call2, equal_term, not_term}
use Rattle.nq_part_lines.proofs.ReadingLemmas.{small_grown}
use Rattle.nq_part_lines.proofs.TakenLemmas.{allowed_within, three_cuts}
use Rattle.nq_part_lines.specs.Taken.{allowed_literals}
use Rattle.nq_replay.proofs.UncountedLemmas.{grown_trans}
use Rattle.nq_rule.proofs.Made.{for_ok}
use Rattle.std.proofs.Common.{[], ap₂, subst, sym, ◌∷◌, ◌≡◌}
use Rattle.nq_part_lines.proofs.taken.allowed_cuts.Goals as goal

pub cut_by-requires-clause-first : goal.cut_by-requires-clause-first
cut_by-requires-clause-first c = only_stands c.args.work.now c.args.summand _ c.requires.summand

pub cut_by-requires-clause-second : goal.cut_by-requires-clause-second
cut_by-requires-clause-second c = only_stands c.args.work.now c.args.law _ c.requires.law

pub cut_by-requires-clause-symbol : goal.cut_by-requires-clause-symbol
cut_by-requires-clause-symbol c = lessp_symbol (events_at c.args.work.now.bank c.args.history.now)

pub cut_by-requires-clause-left : goal.cut_by-requires-clause-left
cut_by-requires-clause-left c = c.requires.piece.size

pub cut_by-requires-clause-right : goal.cut_by-requires-clause-right
cut_by-requires-clause-right c = c.requires.piece.successor

pub cut-requires-clause-first : goal.cut-requires-clause-first
cut-requires-clause-first c = line_grown c.args.history.now c.args.work.now c.cut_by.new.work c.args.size c.requires.stands c.cut_by.ensures.grows.grows (only_stands c.args.work.now c.args.size _ c.requires.size)

pub cut-requires-clause-term : goal.cut-requires-clause-term
cut-requires-clause-term c = term_grown c.args.history.now c.args.work.now c.cut_by.new.work c.args.piece.equation c.requires.stands c.cut_by.ensures.grows.grows c.requires.piece.equation.inside

pub cut_by-requires-2-clause-first : goal.cut_by-requires-2-clause-first
cut_by-requires-2-clause-first c = line_grown c.args.history.now c.args.work.now c.cut.new.work c.args.part c.requires.stands (grown_trans c.args.history.now c.args.work.now c.cut_by.new.work c.cut.new.work c.cut_by.ensures.grows c.cut.ensures.grows).grows (only_stands c.args.work.now c.args.part _ c.requires.part)

pub cut_by-requires-2-clause-symbol : goal.cut_by-requires-2-clause-symbol
cut_by-requires-2-clause-symbol c = equal_symbol (events_at c.cut.new.work.bank c.args.history.now)

pub cut_by-requires-2-clause-left : goal.cut_by-requires-2-clause-left
cut_by-requires-2-clause-left c = small_grown c.args.history.now c.args.work.now c.cut.new.work c.args.taken c.requires.stands (grown_trans c.args.history.now c.args.work.now c.cut_by.new.work c.cut.new.work c.cut_by.ensures.grows c.cut.ensures.grows).grows c.requires.taken

pub cut_by-requires-2-clause-right : goal.cut_by-requires-2-clause-right
cut_by-requires-2-clause-right c = small_grown c.args.history.now c.args.work.now c.cut.new.work c.args.piece.variable c.requires.stands (grown_trans c.args.history.now c.args.work.now c.cut_by.new.work c.cut.new.work c.cut_by.ensures.grows c.cut.ensures.grows).grows c.requires.piece.variable

pub returns-in_err-second-clause-grows : goal.returns-in_err-second-clause-grows
returns-in_err-second-clause-grows c = grown_trans c.args.history.now c.args.work.now c.cut_by.new.work c.cut.new.work c.cut_by.ensures.grows c.cut.ensures.grows

pub returns-clause-grows : goal.returns-clause-grows
returns-clause-grows c = grown_trans c.args.history.now c.args.work.now c.cut_by.new.work c.cut_by-2.new.work c.cut_by.ensures.grows (grown_trans c.args.history.now c.cut_by.new.work c.cut.new.work c.cut_by-2.new.work c.cut.ensures.grows c.cut_by-2.ensures.grows)

pub returns-clause-line : goal.returns-clause-line
returns-clause-line c =
    let h = c.args.history.now in
    let old = c.args.work.now in
    let one = c.cut_by.new.work in
    let two = c.cut.new.work in
    let new = c.cut_by-2.new.work in
    let same_equation : term_at one.bank c.args.piece.equation ≡ term_at old.bank c.args.piece.equation = same_term_grown h old one c.args.piece.equation c.cut_by.ensures.grows.grows c.requires.piece.equation.inside in
    let same_taken : term_at two.bank c.args.taken ≡ term_at old.bank c.args.taken = same_term_grown h old two c.args.taken (grown_trans c.args.history.now c.args.work.now c.cut_by.new.work c.cut.new.work c.cut_by.ensures.grows c.cut.ensures.grows).grows c.requires.taken.inside in
    let same_part : term_at two.bank c.args.piece.variable ≡ term_at old.bank c.args.piece.variable = same_term_grown h old two c.args.piece.variable (grown_trans c.args.history.now c.args.work.now c.cut_by.new.work c.cut.new.work c.cut_by.ensures.grows c.cut.ensures.grows).grows c.requires.piece.variable.inside in
    for_ok c.cut_by-2.result (CutsTo two new (equal_term (term_at two.bank c.args.taken) (term_at two.bank c.args.piece.variable)) c.args.part c.in_ok-second.second) (λ n. LineHasOnly new n ((not_term (term_at old.bank c.args.piece.allowed)) ∷ (is_smaller (term_at old.bank c.args.taken) (term_at old.bank c.args.piece.object)) ∷ [])) (λ n k.
    three_cuts old one two new (allowed_literals (term_at old.bank c.args.taken) (term_at old.bank c.args.piece.object) (term_at old.bank c.args.piece.variable) (term_at old.bank c.args.piece.allowed) (term_at old.bank c.args.piece.sum)) (call2 "LESSP" (term_at old.bank c.args.piece.size) (term_at old.bank c.args.piece.successor)) (term_at old.bank c.args.piece.equation) (equal_term (term_at old.bank c.args.taken) (term_at old.bank c.args.piece.variable)) (not_term (term_at old.bank c.args.piece.allowed)) (is_smaller (term_at old.bank c.args.taken) (term_at old.bank c.args.piece.object)) c.args.law c.args.summand c.args.size c.args.part c.in_ok-first.first c.in_ok-second.second n (allowed_within (term_at old.bank c.args.taken) (term_at old.bank c.args.piece.object) (term_at old.bank c.args.piece.variable) (term_at old.bank c.args.piece.allowed) (term_at old.bank c.args.piece.sum) (term_at old.bank c.args.piece.size) (term_at old.bank c.args.piece.successor) (term_at old.bank c.args.piece.equation) c.requires.piece.size_of c.requires.piece.successor_is c.requires.piece.equation_is) c.requires.law (subst (λ u. LineHasOnly old c.args.summand (call2 "LESSP" (term_at old.bank c.args.piece.size) u ∷ [])) (sym c.requires.piece.successor_is) c.requires.summand) (only_grown c.args.history.now c.args.work.now c.cut_by.new.work c.args.size ((term_at old.bank c.args.piece.equation) ∷ []) c.requires.stands c.cut_by.ensures.grows.grows c.requires.size) (only_grown c.args.history.now c.args.work.now c.cut.new.work c.args.part ((not_term (term_at old.bank c.args.piece.allowed)) ∷ (equal_term (term_at old.bank c.args.taken) (term_at old.bank c.args.piece.variable)) ∷ []) c.requires.stands (grown_trans c.args.history.now c.args.work.now c.cut_by.new.work c.cut.new.work c.cut_by.ensures.grows c.cut.ensures.grows).grows c.requires.part)
    c.in_ok-first.ensures.line (subst (λ v. CutsTo one two v c.args.size c.in_ok-first.first c.in_ok-second.second) same_equation c.in_ok-second.ensures.line)
    (subst (λ v. CutsTo two new v c.args.part c.in_ok-second.second n) (ap₂ equal_term same_taken same_part) k)) c.cut_by-2.ensures.line
