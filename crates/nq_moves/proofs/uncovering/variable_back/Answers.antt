use Rattle.std.proofs.Common.{List, ◌∷◌, inr, sym, subst}
use Rattle.std.specs.Prelude.{All}
use Rattle.nq_bank.specs.declared.node.TermId.{TermId}
use Rattle.nq_bank.specs.Content.{term_at, terms_at}
use Rattle.nq_kernel.proofs.GrowingLemmas.{WorkGrows-trans}
use Rattle.nq_lines.specs.Lines.{IsTermIn, LineHasOnly}
use Rattle.nq_lines.proofs.LineLemmas.{line_grown, only_stands}
use Rattle.nq_lines.proofs.TermLemmas.{term_grown}
use Rattle.nq_rule.proofs.Made.{for_ok}
use Rattle.nq_moves.specs.Back.{AreBack}
use Rattle.nq_moves.proofs.EliminatedLemmas.{carried_back, numerals_stay}
use Rattle.nq_moves.proofs.uncovering.variable_back.Goals as goal

pub swap_by-requires-clause-denies : goal.swap_by-requires-clause-denies
swap_by-requires-clause-denies c = inr c.requires.serves.denies

pub swap_by-requires-clause-numerals : goal.swap_by-requires-clause-numerals
swap_by-requires-clause-numerals c = λ n small. numerals_stay c.args.history.now c.args.work.now c.args.goal.now c.args.e.now c.requires.serves n

pub rewrite_back-requires-clause-literals : goal.rewrite_back-requires-clause-literals
rewrite_back-requires-clause-literals c =
    let h = c.args.history.now in
    let mid = c.swap_by.new.work in
    subst (All (IsTermIn h mid)) (sym c.as_slice.ensures.value) (λ k d below. term_grown h c.args.work.now mid _ c.requires.stands c.swap_by.ensures.grows (c.requires.serves.renamed k d below))

pub rewrite_back-requires-clause-line : goal.rewrite_back-requires-clause-line
rewrite_back-requires-clause-line c = line_grown c.args.history.now c.args.work.now c.swap_by.new.work c.args.line c.requires.stands c.swap_by.ensures.grows (only_stands c.args.work.now c.args.line _ c.requires.line)

pub returns-clause-line : goal.returns-clause-line
returns-clause-line c =
    let old = c.args.work.now in
    let mid = c.swap_by.new.work in
    let new = c.rewrite_back.new.work in
    let e = c.args.e.now in
    let w = c.in_ok-swap.swap in
    for_ok c.rewrite_back.result (λ n. AreBack mid new w c.as_slice.result.now c.args.line n) (λ n. LineHasOnly new n (term_at old.bank e.denial ∷ terms_at old.bank e.renamed.items))
    (λ n back. carried_back c.args.history.now old c.args.goal.now e c.requires.serves mid new c.requires.stands c.swap_by.ensures.grows w c.args.line n c.requires.line c.in_ok-swap.ensures.from c.in_ok-swap.ensures.into c.in_ok-swap.ensures.hypothesis
    (subst (λ (ids : List TermId). AreBack mid new w ids c.args.line n) c.as_slice.ensures.value back)) c.rewrite_back.ensures.line

pub returns-clause-grows : goal.returns-clause-grows
returns-clause-grows c = WorkGrows-trans c.args.history.now c.args.work.now c.swap_by.new.work c.rewrite_back.new.work c.swap_by.ensures.grows c.rewrite_back.ensures.grows
