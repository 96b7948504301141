use Rattle.nq_arith.specs.Nests.{is_smaller}
use Rattle.nq_bank.specs.Content.{term_at}
use Rattle.nq_lines.proofs.LineLemmas.{only_grown}
use Rattle.nq_lines.proofs.TermLemmas.{same_term_grown}
use Rattle.nq_lines.specs.Lines.{LineHasOnly}
use Rattle.nq_logic.specs.Words.{add1_term, call2, equal_term, not_term}
use Rattle.nq_part_lines.proofs.ReadingLemmas.{small_grown}
use Rattle.nq_part_lines.proofs.TakenLemmas.{five_moved, piece_grown}
use Rattle.nq_part_lines.specs.Five.{AreSmall}
use Rattle.nq_part_lines.specs.Taken.{allowed_literals}
use Rattle.nq_part_lines.specs.declared.five.Five.{Five}
use Rattle.nq_replay.proofs.UncountedLemmas.{grown_trans}
use Rattle.nq_rule.proofs.Made.{for_ok}
use Rattle.nq_shell_parts.specs.Summands.{IsSum, summand}
use Rattle.std.proofs.Common.{[], ap, ap₂, subst, sym, ◌∙◌, ◌∷◌, ◌≡◌}
use Rattle.nq_part_lines.proofs.taken.allowed_line.Goals as goal

pub allowed_law-requires-clause-terms : goal.allowed_law-requires-clause-terms
allowed_law-requires-clause-terms c = record { a = c.requires.taken; b = c.requires.piece.object; x = c.requires.piece.variable; y = c.requires.piece.allowed; z = c.requires.piece.sum }

pub allowed_cuts-requires-clause-piece : goal.allowed_cuts-requires-clause-piece
allowed_cuts-requires-clause-piece c = piece_grown c.args.history.now c.args.work.now c.summand_line.new.work c.requires.stands (grown_trans c.args.history.now c.args.work.now c.allowed_law.new.work c.summand_line.new.work c.allowed_law.ensures.grows c.summand_line.ensures.grows).grows c.args.place c.args.more c.args.piece c.requires.piece

pub allowed_cuts-requires-clause-taken : goal.allowed_cuts-requires-clause-taken
allowed_cuts-requires-clause-taken c = small_grown c.args.history.now c.args.work.now c.summand_line.new.work c.args.taken c.requires.stands (grown_trans c.args.history.now c.args.work.now c.allowed_law.new.work c.summand_line.new.work c.allowed_law.ensures.grows c.summand_line.ensures.grows).grows c.requires.taken

pub allowed_cuts-requires-clause-law : goal.allowed_cuts-requires-clause-law
allowed_cuts-requires-clause-law c =
    let h = c.args.history.now in
    let old = c.args.work.now in
    let two = c.summand_line.new.work in
    let five : Five = record { a = c.args.taken; b = c.args.piece.object; x = c.args.piece.variable; y = c.args.piece.allowed; z = c.args.piece.sum } in
    let small : AreSmall h old five = record { a = c.requires.taken; b = c.requires.piece.object; x = c.requires.piece.variable; y = c.requires.piece.allowed; z = c.requires.piece.sum } in
    subst (LineHasOnly two c.in_ok-law.law) (sym (five_moved h old two c.requires.stands (grown_trans c.args.history.now c.args.work.now c.allowed_law.new.work c.summand_line.new.work c.allowed_law.ensures.grows c.summand_line.ensures.grows).grows allowed_literals five small)) (only_grown c.args.history.now c.allowed_law.new.work c.summand_line.new.work c.in_ok-law.law (allowed_literals (term_at old.bank c.args.taken) (term_at old.bank c.args.piece.object) (term_at old.bank c.args.piece.variable) (term_at old.bank c.args.piece.allowed) (term_at old.bank c.args.piece.sum)) c.allowed_law.ensures.grows.grows.stands c.summand_line.ensures.grows.grows c.in_ok-law.ensures.line)

pub allowed_cuts-requires-clause-size : goal.allowed_cuts-requires-clause-size
allowed_cuts-requires-clause-size c =
    let h = c.args.history.now in
    let old = c.args.work.now in
    let two = c.summand_line.new.work in
    let five : Five = record { a = c.args.taken; b = c.args.piece.object; x = c.args.piece.variable; y = c.args.piece.allowed; z = c.args.piece.sum } in
    let small : AreSmall h old five = record { a = c.requires.taken; b = c.requires.piece.object; x = c.requires.piece.variable; y = c.requires.piece.allowed; z = c.requires.piece.sum } in
    subst (λ t. LineHasOnly two c.args.size (t ∷ [])) (sym (same_term_grown h old two c.args.piece.equation (grown_trans c.args.history.now c.args.work.now c.allowed_law.new.work c.summand_line.new.work c.allowed_law.ensures.grows c.summand_line.ensures.grows).grows c.requires.piece.equation.inside)) (only_grown c.args.history.now c.args.work.now c.summand_line.new.work c.args.size ((term_at old.bank c.args.piece.equation) ∷ []) c.requires.stands (grown_trans c.args.history.now c.args.work.now c.allowed_law.new.work c.summand_line.new.work c.allowed_law.ensures.grows c.summand_line.ensures.grows).grows c.requires.size)

pub summand_line-requires-clause-term : goal.summand_line-requires-clause-term
summand_line-requires-clause-term c = small_grown c.args.history.now c.args.work.now c.allowed_law.new.work c.args.piece.sum c.requires.stands c.allowed_law.ensures.grows.grows c.requires.piece.sum

pub summand_line-requires-clause-sum : goal.summand_line-requires-clause-sum
summand_line-requires-clause-sum c = subst (IsSum c.args.place c.args.more) (sym (same_term_grown c.args.history.now c.args.work.now c.allowed_law.new.work c.args.piece.sum c.allowed_law.ensures.grows.grows c.requires.piece.sum.inside)) c.requires.piece.is_sum

pub allowed_cuts-requires-clause-part : goal.allowed_cuts-requires-clause-part
allowed_cuts-requires-clause-part c =
    let h = c.args.history.now in
    let old = c.args.work.now in
    let two = c.summand_line.new.work in
    let five : Five = record { a = c.args.taken; b = c.args.piece.object; x = c.args.piece.variable; y = c.args.piece.allowed; z = c.args.piece.sum } in
    let small : AreSmall h old five = record { a = c.requires.taken; b = c.requires.piece.object; x = c.requires.piece.variable; y = c.requires.piece.allowed; z = c.requires.piece.sum } in
    subst (LineHasOnly two c.args.part) (sym (five_moved h old two c.requires.stands (grown_trans c.args.history.now c.args.work.now c.allowed_law.new.work c.summand_line.new.work c.allowed_law.ensures.grows c.summand_line.ensures.grows).grows (λ a b x y z. not_term y ∷ equal_term a x ∷ []) five small)) (only_grown c.args.history.now c.args.work.now c.summand_line.new.work c.args.part (not_term (term_at old.bank c.args.piece.allowed) ∷ equal_term (term_at old.bank c.args.taken) (term_at old.bank c.args.piece.variable) ∷ []) c.requires.stands (grown_trans c.args.history.now c.args.work.now c.allowed_law.new.work c.summand_line.new.work c.allowed_law.ensures.grows c.summand_line.ensures.grows).grows c.requires.part)

pub allowed_cuts-requires-clause-summand : goal.allowed_cuts-requires-clause-summand
allowed_cuts-requires-clause-summand c =
    let h = c.args.history.now in
    let old = c.args.work.now in
    let two = c.summand_line.new.work in
    let five : Five = record { a = c.args.taken; b = c.args.piece.object; x = c.args.piece.variable; y = c.args.piece.allowed; z = c.args.piece.sum } in
    let small : AreSmall h old five = record { a = c.requires.taken; b = c.requires.piece.object; x = c.requires.piece.variable; y = c.requires.piece.allowed; z = c.requires.piece.sum } in
    let one = c.allowed_law.new.work in
    let same1 : term_at one.bank c.args.piece.sum ≡ term_at old.bank c.args.piece.sum = same_term_grown h old one c.args.piece.sum c.allowed_law.ensures.grows.grows c.requires.piece.sum.inside in
    let same2 : term_at two.bank c.args.piece.sum ≡ term_at old.bank c.args.piece.sum = same_term_grown h old two c.args.piece.sum (grown_trans c.args.history.now c.args.work.now c.allowed_law.new.work c.summand_line.new.work c.allowed_law.ensures.grows c.summand_line.ensures.grows).grows c.requires.piece.sum.inside in
    let size2 : term_at two.bank c.args.piece.size ≡ term_at old.bank c.args.piece.size = same_term_grown h old two c.args.piece.size (grown_trans c.args.history.now c.args.work.now c.allowed_law.new.work c.summand_line.new.work c.allowed_law.ensures.grows c.summand_line.ensures.grows).grows c.requires.piece.size.inside in
    let first : call2 "LESSP" (summand c.args.place c.args.more (term_at one.bank c.args.piece.sum)) (add1_term (term_at one.bank c.args.piece.sum)) ≡ call2 "LESSP" (term_at two.bank c.args.piece.size) (add1_term (term_at two.bank c.args.piece.sum)) =
    ap₂ (λ t u. call2 "LESSP" t (add1_term u)) (ap (summand c.args.place c.args.more) same1 ∙ c.requires.piece.size_is ∙ sym size2) (same1 ∙ sym same2) in
    subst (λ t. LineHasOnly two c.in_ok-summand.summand (t ∷ [])) first c.in_ok-summand.ensures.line

pub returns-in_err-summand-clause-grows : goal.returns-in_err-summand-clause-grows
returns-in_err-summand-clause-grows c = grown_trans c.args.history.now c.args.work.now c.allowed_law.new.work c.summand_line.new.work c.allowed_law.ensures.grows c.summand_line.ensures.grows

pub returns-clause-grows : goal.returns-clause-grows
returns-clause-grows c = grown_trans c.args.history.now c.args.work.now c.allowed_law.new.work c.allowed_cuts.new.work c.allowed_law.ensures.grows (grown_trans c.args.history.now c.allowed_law.new.work c.summand_line.new.work c.allowed_cuts.new.work c.summand_line.ensures.grows c.allowed_cuts.ensures.grows)

pub returns-clause-line : goal.returns-clause-line
returns-clause-line c =
    let h = c.args.history.now in
    let old = c.args.work.now in
    let two = c.summand_line.new.work in
    let five : Five = record { a = c.args.taken; b = c.args.piece.object; x = c.args.piece.variable; y = c.args.piece.allowed; z = c.args.piece.sum } in
    let small : AreSmall h old five = record { a = c.requires.taken; b = c.requires.piece.object; x = c.requires.piece.variable; y = c.requires.piece.allowed; z = c.requires.piece.sum } in
    let new = c.allowed_cuts.new.work in
    for_ok c.allowed_cuts.result (λ n. LineHasOnly new n _) (λ n. LineHasOnly new n _) (λ n k. subst (LineHasOnly new n) (five_moved h old two c.requires.stands (grown_trans c.args.history.now c.args.work.now c.allowed_law.new.work c.summand_line.new.work c.allowed_law.ensures.grows c.summand_line.ensures.grows).grows (λ a b x y z. not_term y ∷ is_smaller a b ∷ []) five small) k) c.allowed_cuts.ensures.line
