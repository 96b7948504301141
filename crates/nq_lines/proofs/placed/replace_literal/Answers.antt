use Rattle.std.proofs.Common.{◌≡◌, ◌∙◌, ap, subst}
use Rattle.std.specs.Prelude.{is_some}
use Rattle.nq_bank.specs.Content.{term_at}
use Rattle.nq_kernel.proofs.GrowingLemmas.{WorkGrows-refl}
use Rattle.nq_lines.specs.Lines.{LacksLiteral}
use Rattle.nq_lines.proofs.TermLemmas.{term_grown, same_term_grown}
use Rattle.nq_lines.proofs.PlacedLemmas.{placed_allowed, placed_line}
use Rattle.nq_lines.proofs.placed.replace_literal.Goals as goal

pub add-requires-clause-allowed : goal.add-requires-clause-allowed
add-requires-clause-allowed c =
    let w = c.args.work.now in
    placed_allowed c.args.history.now w c.args.line c.in-Some.place c.args.path c.args.u c.args.side (term_at w.bank c.args.literal) c.in-Some.ensures c.requires.path

pub has_literal-requires-clause-line : goal.has_literal-requires-clause-line
has_literal-requires-clause-line c =
    let w = c.args.work.now in
    ap is_some c.in_ok-n-in-Some.ensures.line ∙ placed_allowed c.args.history.now w c.args.line c.in-Some.place c.args.path c.args.u c.args.side (term_at w.bank c.args.literal) c.in-Some.ensures c.requires.path

pub has_literal-requires-clause-term : goal.has_literal-requires-clause-term
has_literal-requires-clause-term c = term_grown c.args.history.now c.args.work.now c.add.new.self c.args.literal c.requires.stands c.add.ensures.grows c.requires.literal

pub returns-else-has_literal-clause-line : goal.returns-else-has_literal-clause-line
returns-else-has_literal-clause-line c =
    let w0 = c.args.work.now in
    let w1 = c.add.new.self in
    let t = term_at w0.bank c.args.literal in
    let same : term_at w1.bank c.args.literal ≡ t = same_term_grown c.args.history.now w0 w1 c.args.literal c.add.ensures.grows c.requires.literal in
    placed_line c.args.history.now w0 c.args.line c.in-Some.place c.args.path c.args.u c.args.side w1 c.in_ok-n-in-Some.n t c.in-Some.ensures c.in_ok-n-in-Some.ensures.line
    (subst (λ v. LacksLiteral w1 c.in_ok-n-in-Some.n v) same (c.has_literal.ensures c.if-has_literal.false))

pub returns-else-has_literal-clause-stands : goal.returns-else-has_literal-clause-stands
returns-else-has_literal-clause-stands c =
    let w = c.args.work.now in
    ap is_some c.in_ok-n-in-Some.ensures.line ∙ placed_allowed c.args.history.now w c.args.line c.in-Some.place c.args.path c.args.u c.args.side (term_at w.bank c.args.literal) c.in-Some.ensures c.requires.path

pub returns-in-None-clause-grows : goal.returns-in-None-clause-grows
returns-in-None-clause-grows c = WorkGrows-refl c.args.history.now c.args.work.now c.requires.stands
