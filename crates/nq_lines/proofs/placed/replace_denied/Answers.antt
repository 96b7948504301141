use Rattle.std.proofs.Common.{◌≡◌, ◌∙◌, Some, ap, ap₂, subst}
use Rattle.std.specs.Prelude.{is_some, IfSome}
use Rattle.std.proofs.lemmas.Option.{IfSome_then}
use Rattle.nq_logic.specs.Words.{not_term}
use Rattle.nq_bank.specs.Content.{term_at}
use Rattle.nq_proof.specs.Paths.{replaced_at}
use Rattle.nq_proof.specs.Rules.{used_equation}
use Rattle.nq_rule.proofs.Made.{for_ok}
use Rattle.nq_rule.specs.Sides.{side_of}
use Rattle.nq_kernel.specs.declared.work.Work.{Work}
use Rattle.nq_kernel.specs.Growing.{WorkGrows}
use Rattle.nq_kernel.proofs.GrowingLemmas.{WorkGrows-trans, WorkGrows-refl}
use Rattle.nq_lines.specs.Lines.{MakesUnder, ReplacesAnywhere}
use Rattle.nq_lines.proofs.LineLemmas.{line_grown}
use Rattle.nq_lines.proofs.PathLemmas.{denied_replaced}
use Rattle.nq_lines.proofs.PlacedLemmas.{makes_before}
use Rattle.nq_lines.proofs.TermLemmas.{term_grown, same_term_grown}
use Rattle.nq_lines.proofs.placed.replace_denied.Goals as goal

pub returns-in_err-path-clause-grows : goal.returns-in_err-path-clause-grows
returns-in_err-path-clause-grows c = WorkGrows-refl c.args.history.now c.args.work.now c.requires.stands

pub replace_literal-requires-clause-line : goal.replace_literal-requires-clause-line
replace_literal-requires-clause-line c = line_grown c.args.history.now c.args.work.now c.deny.new.work c.args.line c.requires.stands c.deny.ensures.grows c.requires.line

pub replace_literal-requires-clause-term : goal.replace_literal-requires-clause-term
replace_literal-requires-clause-term c = term_grown c.args.history.now c.args.work.now c.deny.new.work c.args.u c.requires.stands c.deny.ensures.grows c.requires.right

pub replace_literal-requires-clause-path : goal.replace_literal-requires-clause-path
replace_literal-requires-clause-path c =
    let t = term_at c.args.work.now.bank c.args.t in
    let u = term_at c.deny.new.work.bank c.args.u in
    ap is_some (ap₂ (λ p x. replaced_at p u x) c.in_ok-path.ensures.path c.in_ok-denied.ensures.denied.denotes ∙ denied_replaced t u)

pub returns-clause-grows : goal.returns-clause-grows
returns-clause-grows c = WorkGrows-trans c.args.history.now c.args.work.now c.deny.new.work c.replace_literal.new.work c.deny.ensures.grows c.replace_literal.ensures.grows

pub returns-clause-line : goal.returns-clause-line
returns-clause-line c =
    let h = c.args.history.now in
    let w0 : Work = c.args.work.now in
    let w1 : Work = c.deny.new.work in
    let w2 : Work = c.replace_literal.new.work in
    let g01 : WorkGrows h w0 w1 = c.deny.ensures.grows in
    let t = term_at w0.bank c.args.t in
    let u = term_at w0.bank c.args.u in
    let u1 = term_at w1.bank c.args.u in
    let d = term_at w1.bank c.in_ok-denied.denied in
    let side = side_of c.args.side in
    let same : u1 ≡ u = same_term_grown h w0 w1 c.args.u g01 c.requires.right in
    let there : replaced_at c.in_ok-path.path.items u1 d ≡ Some (t, not_term u1) = ap₂ (λ p x. replaced_at p u1 x) c.in_ok-path.ensures.path c.in_ok-denied.ensures.denied.denotes ∙ denied_replaced t u1 in
    for_ok c.replace_literal.result
    (λ found. IfSome found (ReplacesAnywhere w1 w2 c.args.line d c.in_ok-path.path.items u1 side))
    (λ found. IfSome found (MakesUnder w0 w2 (not_term t) (not_term u) (used_equation side t u) c.args.line))
    (λ found f. IfSome_then found f (λ n made.
    makes_before h w0 w1 w2 (not_term t) (not_term u) (used_equation side t u) c.args.line n c.requires.stands g01
    (subst (λ x. MakesUnder w1 w2 (not_term t) (not_term x) (used_equation side t x) c.args.line n) same
    (subst (λ x. MakesUnder w1 w2 x (not_term u1) (used_equation side t u1) c.args.line n) c.in_ok-denied.ensures.denied.denotes
    (made (t, not_term u1) there))))) c.replace_literal.ensures.line
