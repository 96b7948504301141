use Rattle.std.proofs.Common.{◌≡◌, ◌∷◌, [], ◌∙◌, sym, ap}
use Rattle.nq_logic.specs.Words.{true_term}
use Rattle.nq_logic.specs.Shells.{part_variable}
use Rattle.nq_bank.specs.Content.{term_at}
use Rattle.nq_bank.specs.Shells.{part_at}
use Rattle.nq_proof.proofs.Tests.{some_same}
use Rattle.nq_rule.proofs.Made.{for_ok}
use Rattle.nq_kernel.specs.Growing.{LineHolds}
use Rattle.nq_arith.specs.Nests.{is_smaller}
use Rattle.nq_lines.specs.Lines.{LineHasOnly}
use Rattle.nq_part_lines.specs.Defaults.{is_free}
use Rattle.nq_part_lines.proofs.PartLemmas.{free_allowed, one_line, part_read}
use Rattle.nq_part_lines.proofs.objects.other_line.Goals as goal

pub restricted_line-requires-clause-restricted : goal.restricted_line-requires-clause-restricted
restricted_line-requires-clause-restricted c q e =
    let w = c.args.work.now in
    let p = c.index-part.result.now in
    let there = part_read w.bank c.args.shell.now.parts.items c.args.place p c.requires.place c.index-part.ensures in
    let same : part_at w.bank p ≡ q = some_same _ _ (sym there ∙ e) in
    ap (λ r. is_free r.restriction) (sym same) ∙ sym (c.is_free.ensures w.bank) ∙ c.if-is_free.false

pub returns-then-is_free-clause-line : goal.returns-then-is_free-clause-line
returns-then-is_free-clause-line c =
    let w = c.args.work.now in
    let new = c.truth_line.new.work in
    let place = c.args.place in
    let p = c.index-part.result.now in
    let there = part_read w.bank c.args.shell.now.parts.items c.args.place p c.requires.place c.index-part.ensures in
    let free = sym (c.is_free.ensures w.bank) ∙ c.if-is_free.true in
    let allowed_is : term_at w.bank c.args.sized.piece.allowed ≡ true_term = c.requires.sized.allowed_is (part_at w.bank p) there ∙ free_allowed (part_at w.bank p).restriction (part_variable place) free in
    for_ok c.truth_line.result (λ n. LineHolds new n (true_term ∷ [])) (λ n. LineHasOnly new n (term_at w.bank c.args.sized.piece.allowed ∷ is_smaller (term_at w.bank c.args.taken) (term_at w.bank c.args.sized.piece.object) ∷ [])) (λ n holds. one_line new n true_term (term_at w.bank c.args.sized.piece.allowed) _ allowed_is holds) c.truth_line.ensures.line
