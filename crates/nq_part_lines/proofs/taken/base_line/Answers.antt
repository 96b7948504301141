use Rattle.nq_arith.specs.Nests.{is_smaller}
use Rattle.nq_bank.specs.Content.{term_at}
use Rattle.nq_lines.proofs.LineLemmas.{only_grown}
use Rattle.nq_lines.proofs.TermLemmas.{same_term_grown}
use Rattle.nq_lines.specs.Lines.{LineHasOnly}
use Rattle.nq_logic.specs.Words.{call1, equal_term, zero_term}
use Rattle.nq_part_lines.proofs.ReadingLemmas.{small_grown}
use Rattle.nq_part_lines.proofs.TakenLemmas.{five_moved, piece_grown}
use Rattle.nq_part_lines.specs.Five.{AreSmall}
use Rattle.nq_part_lines.specs.Taken.{base_literals}
use Rattle.nq_part_lines.specs.declared.five.Five.{Five}
use Rattle.nq_replay.proofs.UncountedLemmas.{grown_trans}
use Rattle.nq_rule.proofs.Made.{for_ok}
use Rattle.std.proofs.Common.{[], ap, subst, sym, ◌∙◌, ◌∷◌}
use Rattle.nq_part_lines.proofs.taken.base_line.Goals as goal

pub base_law-requires-clause-terms : goal.base_law-requires-clause-terms
base_law-requires-clause-terms c = record { a = c.requires.taken; b = c.requires.piece.object; x = c.requires.base; y = c.requires.piece.allowed; z = c.requires.piece.sum }

pub base_cuts-requires-clause-piece : goal.base_cuts-requires-clause-piece
base_cuts-requires-clause-piece c = piece_grown c.args.history.now c.args.work.now c.base_law.new.work c.requires.stands c.base_law.ensures.grows.grows c.args.place c.args.more c.args.piece c.requires.piece

pub base_cuts-requires-clause-taken : goal.base_cuts-requires-clause-taken
base_cuts-requires-clause-taken c = small_grown c.args.history.now c.args.work.now c.base_law.new.work c.args.taken c.requires.stands c.base_law.ensures.grows.grows c.requires.taken

pub base_cuts-requires-clause-law : goal.base_cuts-requires-clause-law
base_cuts-requires-clause-law c =
    let h = c.args.history.now in
    let old = c.args.work.now in
    let two = c.base_law.new.work in
    let five : Five = record { a = c.args.taken; b = c.args.piece.object; x = c.args.base; y = c.args.piece.allowed; z = c.args.piece.sum } in
    let small : AreSmall h old five = record { a = c.requires.taken; b = c.requires.piece.object; x = c.requires.base; y = c.requires.piece.allowed; z = c.requires.piece.sum } in
    subst (LineHasOnly two c.in_ok-law.law) (sym (five_moved h old two c.requires.stands c.base_law.ensures.grows.grows (λ a b x y z. base_literals a b x z) five small)) c.in_ok-law.ensures.line

pub base_cuts-requires-clause-size : goal.base_cuts-requires-clause-size
base_cuts-requires-clause-size c =
    let h = c.args.history.now in
    let old = c.args.work.now in
    let two = c.base_law.new.work in
    let five : Five = record { a = c.args.taken; b = c.args.piece.object; x = c.args.base; y = c.args.piece.allowed; z = c.args.piece.sum } in
    let small : AreSmall h old five = record { a = c.requires.taken; b = c.requires.piece.object; x = c.requires.base; y = c.requires.piece.allowed; z = c.requires.piece.sum } in
    subst (λ t. LineHasOnly two c.args.size (t ∷ [])) (sym (same_term_grown h old two c.args.piece.equation c.base_law.ensures.grows.grows c.requires.piece.equation.inside)) (only_grown c.args.history.now c.args.work.now c.base_law.new.work c.args.size ((term_at old.bank c.args.piece.equation) ∷ []) c.requires.stands c.base_law.ensures.grows.grows c.requires.size)

pub base_cuts-requires-clause-base : goal.base_cuts-requires-clause-base
base_cuts-requires-clause-base c = small_grown c.args.history.now c.args.work.now c.base_law.new.work c.args.base c.requires.stands c.base_law.ensures.grows.grows c.requires.base

pub base_cuts-requires-clause-none : goal.base_cuts-requires-clause-none
base_cuts-requires-clause-none c = small_grown c.args.history.now c.args.work.now c.base_law.new.work c.args.none c.requires.stands c.base_law.ensures.grows.grows c.requires.none

pub base_cuts-requires-clause-none_is : goal.base_cuts-requires-clause-none_is
base_cuts-requires-clause-none_is c =
    let h = c.args.history.now in
    let old = c.args.work.now in
    let two = c.base_law.new.work in
    let five : Five = record { a = c.args.taken; b = c.args.piece.object; x = c.args.base; y = c.args.piece.allowed; z = c.args.piece.sum } in
    let small : AreSmall h old five = record { a = c.requires.taken; b = c.requires.piece.object; x = c.requires.base; y = c.requires.piece.allowed; z = c.requires.piece.sum } in
    same_term_grown h old two c.args.none c.base_law.ensures.grows.grows c.requires.none.inside ∙ c.requires.none_is ∙ sym (ap (λ t. equal_term (call1 "COUNT" t) zero_term) (same_term_grown h old two c.args.base c.base_law.ensures.grows.grows c.requires.base.inside))

pub base_cuts-requires-clause-zero : goal.base_cuts-requires-clause-zero
base_cuts-requires-clause-zero c =
    let h = c.args.history.now in
    let old = c.args.work.now in
    let two = c.base_law.new.work in
    let five : Five = record { a = c.args.taken; b = c.args.piece.object; x = c.args.base; y = c.args.piece.allowed; z = c.args.piece.sum } in
    let small : AreSmall h old five = record { a = c.requires.taken; b = c.requires.piece.object; x = c.requires.base; y = c.requires.piece.allowed; z = c.requires.piece.sum } in
    subst (λ t. LineHasOnly two c.args.zero (t ∷ [])) (sym (same_term_grown h old two c.args.none c.base_law.ensures.grows.grows c.requires.none.inside)) (only_grown c.args.history.now c.args.work.now c.base_law.new.work c.args.zero ((term_at old.bank c.args.none) ∷ []) c.requires.stands c.base_law.ensures.grows.grows c.requires.zero)

pub base_cuts-requires-clause-wrong : goal.base_cuts-requires-clause-wrong
base_cuts-requires-clause-wrong c =
    let h = c.args.history.now in
    let old = c.args.work.now in
    let two = c.base_law.new.work in
    let five : Five = record { a = c.args.taken; b = c.args.piece.object; x = c.args.base; y = c.args.piece.allowed; z = c.args.piece.sum } in
    let small : AreSmall h old five = record { a = c.requires.taken; b = c.requires.piece.object; x = c.requires.base; y = c.requires.piece.allowed; z = c.requires.piece.sum } in
    subst (LineHasOnly two c.args.wrong) (sym (five_moved h old two c.requires.stands c.base_law.ensures.grows.grows (λ a b x y z. y ∷ equal_term a x ∷ []) five small)) (only_grown c.args.history.now c.args.work.now c.base_law.new.work c.args.wrong ((term_at old.bank c.args.piece.allowed) ∷ equal_term (term_at old.bank c.args.taken) (term_at old.bank c.args.base) ∷ []) c.requires.stands c.base_law.ensures.grows.grows c.requires.wrong)

pub returns-clause-grows : goal.returns-clause-grows
returns-clause-grows c = grown_trans c.args.history.now c.args.work.now c.base_law.new.work c.base_cuts.new.work c.base_law.ensures.grows c.base_cuts.ensures.grows

pub returns-clause-line : goal.returns-clause-line
returns-clause-line c =
    let h = c.args.history.now in
    let old = c.args.work.now in
    let two = c.base_law.new.work in
    let five : Five = record { a = c.args.taken; b = c.args.piece.object; x = c.args.base; y = c.args.piece.allowed; z = c.args.piece.sum } in
    let small : AreSmall h old five = record { a = c.requires.taken; b = c.requires.piece.object; x = c.requires.base; y = c.requires.piece.allowed; z = c.requires.piece.sum } in
    let new = c.base_cuts.new.work in
    for_ok c.base_cuts.result (λ n. LineHasOnly new n _) (λ n. LineHasOnly new n _) (λ n k. subst (LineHasOnly new n) (five_moved h old two c.requires.stands c.base_law.ensures.grows.grows (λ a b x y z. y ∷ is_smaller a b ∷ []) five small) k) c.base_cuts.ensures.line
