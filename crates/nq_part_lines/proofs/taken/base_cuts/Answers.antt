use Rattle.nq_arith.specs.Nests.{is_smaller}
use Rattle.nq_bank.specs.Content.{term_at}
use Rattle.nq_history.specs.Events.{events_at}
use Rattle.nq_lines.proofs.LineLemmas.{line_grown, only_grown, only_stands}
use Rattle.nq_lines.proofs.TermLemmas.{same_term_grown, term_grown}
use Rattle.nq_lines.specs.Lines.{CutsTo, LineHasOnly}
use Rattle.nq_logic.proofs.Symbols.{equal_symbol}
use Rattle.nq_logic.specs.Words.{equal_term}
use Rattle.nq_part_lines.proofs.ReadingLemmas.{small_grown}
use Rattle.nq_part_lines.proofs.TakenLemmas.{base_within, three_cuts}
use Rattle.nq_part_lines.specs.Taken.{base_literals}
use Rattle.nq_replay.proofs.UncountedLemmas.{grown_trans}
use Rattle.nq_rule.proofs.Made.{for_ok}
use Rattle.std.proofs.Common.{[], ap₂, subst, ◌∷◌, ◌≡◌}
use Rattle.nq_part_lines.proofs.taken.base_cuts.Goals as goal

pub cut-requires-clause-first : goal.cut-requires-clause-first
cut-requires-clause-first c = only_stands c.args.work.now c.args.zero _ c.requires.zero

pub cut-requires-clause-second : goal.cut-requires-clause-second
cut-requires-clause-second c = only_stands c.args.work.now c.args.law _ c.requires.law

pub cut-requires-clause-term : goal.cut-requires-clause-term
cut-requires-clause-term c = c.requires.none.inside

pub cut-requires-2-clause-first : goal.cut-requires-2-clause-first
cut-requires-2-clause-first c = line_grown c.args.history.now c.args.work.now c.cut.new.work c.args.size c.requires.stands c.cut.ensures.grows.grows (only_stands c.args.work.now c.args.size _ c.requires.size)

pub cut-requires-2-clause-term : goal.cut-requires-2-clause-term
cut-requires-2-clause-term c = term_grown c.args.history.now c.args.work.now c.cut.new.work c.args.piece.equation c.requires.stands c.cut.ensures.grows.grows c.requires.piece.equation.inside

pub cut_by-requires-clause-first : goal.cut_by-requires-clause-first
cut_by-requires-clause-first c = line_grown c.args.history.now c.args.work.now c.cut-2.new.work c.args.wrong c.requires.stands (grown_trans c.args.history.now c.args.work.now c.cut.new.work c.cut-2.new.work c.cut.ensures.grows c.cut-2.ensures.grows).grows (only_stands c.args.work.now c.args.wrong _ c.requires.wrong)

pub cut_by-requires-clause-symbol : goal.cut_by-requires-clause-symbol
cut_by-requires-clause-symbol c = equal_symbol (events_at c.cut-2.new.work.bank c.args.history.now)

pub cut_by-requires-clause-left : goal.cut_by-requires-clause-left
cut_by-requires-clause-left c = small_grown c.args.history.now c.args.work.now c.cut-2.new.work c.args.taken c.requires.stands (grown_trans c.args.history.now c.args.work.now c.cut.new.work c.cut-2.new.work c.cut.ensures.grows c.cut-2.ensures.grows).grows c.requires.taken

pub cut_by-requires-clause-right : goal.cut_by-requires-clause-right
cut_by-requires-clause-right c = small_grown c.args.history.now c.args.work.now c.cut-2.new.work c.args.base c.requires.stands (grown_trans c.args.history.now c.args.work.now c.cut.new.work c.cut-2.new.work c.cut.ensures.grows c.cut-2.ensures.grows).grows c.requires.base

pub returns-in_err-second-clause-grows : goal.returns-in_err-second-clause-grows
returns-in_err-second-clause-grows c = grown_trans c.args.history.now c.args.work.now c.cut.new.work c.cut-2.new.work c.cut.ensures.grows c.cut-2.ensures.grows

pub returns-clause-grows : goal.returns-clause-grows
returns-clause-grows c = grown_trans c.args.history.now c.args.work.now c.cut.new.work c.cut_by.new.work c.cut.ensures.grows (grown_trans c.args.history.now c.cut.new.work c.cut-2.new.work c.cut_by.new.work c.cut-2.ensures.grows c.cut_by.ensures.grows)

pub returns-clause-line : goal.returns-clause-line
returns-clause-line c =
    let h = c.args.history.now in
    let old = c.args.work.now in
    let one = c.cut.new.work in
    let two = c.cut-2.new.work in
    let new = c.cut_by.new.work in
    let same_equation : term_at one.bank c.args.piece.equation ≡ term_at old.bank c.args.piece.equation = same_term_grown h old one c.args.piece.equation c.cut.ensures.grows.grows c.requires.piece.equation.inside in
    let same_taken : term_at two.bank c.args.taken ≡ term_at old.bank c.args.taken = same_term_grown h old two c.args.taken (grown_trans c.args.history.now c.args.work.now c.cut.new.work c.cut-2.new.work c.cut.ensures.grows c.cut-2.ensures.grows).grows c.requires.taken.inside in
    let same_part : term_at two.bank c.args.base ≡ term_at old.bank c.args.base = same_term_grown h old two c.args.base (grown_trans c.args.history.now c.args.work.now c.cut.new.work c.cut-2.new.work c.cut.ensures.grows c.cut-2.ensures.grows).grows c.requires.base.inside in
    for_ok c.cut_by.result (CutsTo two new (equal_term (term_at two.bank c.args.taken) (term_at two.bank c.args.base)) c.args.wrong c.in_ok-second.second) (λ n. LineHasOnly new n ((term_at old.bank c.args.piece.allowed) ∷ (is_smaller (term_at old.bank c.args.taken) (term_at old.bank c.args.piece.object)) ∷ [])) (λ n k.
    three_cuts old one two new (base_literals (term_at old.bank c.args.taken) (term_at old.bank c.args.piece.object) (term_at old.bank c.args.base) (term_at old.bank c.args.piece.sum)) (term_at old.bank c.args.none) (term_at old.bank c.args.piece.equation) (equal_term (term_at old.bank c.args.taken) (term_at old.bank c.args.base)) (term_at old.bank c.args.piece.allowed) (is_smaller (term_at old.bank c.args.taken) (term_at old.bank c.args.piece.object)) c.args.law c.args.zero c.args.size c.args.wrong c.in_ok-first.first c.in_ok-second.second n (base_within (term_at old.bank c.args.taken) (term_at old.bank c.args.piece.object) (term_at old.bank c.args.base) (term_at old.bank c.args.piece.sum) (term_at old.bank c.args.piece.allowed) (term_at old.bank c.args.none) (term_at old.bank c.args.piece.successor) (term_at old.bank c.args.piece.equation) c.requires.none_is c.requires.piece.successor_is c.requires.piece.equation_is) c.requires.law c.requires.zero (only_grown c.args.history.now c.args.work.now c.cut.new.work c.args.size ((term_at old.bank c.args.piece.equation) ∷ []) c.requires.stands c.cut.ensures.grows.grows c.requires.size) (only_grown c.args.history.now c.args.work.now c.cut-2.new.work c.args.wrong ((term_at old.bank c.args.piece.allowed) ∷ (equal_term (term_at old.bank c.args.taken) (term_at old.bank c.args.base)) ∷ []) c.requires.stands (grown_trans c.args.history.now c.args.work.now c.cut.new.work c.cut-2.new.work c.cut.ensures.grows c.cut-2.ensures.grows).grows c.requires.wrong)
    c.in_ok-first.ensures.line (subst (λ v. CutsTo one two v c.args.size c.in_ok-first.first c.in_ok-second.second) same_equation c.in_ok-second.ensures.line)
    (subst (λ v. CutsTo two new v c.args.wrong c.in_ok-second.second n) (ap₂ equal_term same_taken same_part) k)) c.cut_by.ensures.line
