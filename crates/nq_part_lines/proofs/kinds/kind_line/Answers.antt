use Rattle.std.proofs.Common.{◌≡◌, ◌∷◌, [], ◌∙◌, true, false, sym, ap}
use Rattle.std.specs.Prelude.{bytes_eq}
use Rattle.nq_logic.specs.Words.{not_term}
use Rattle.nq_bank.specs.Content.{text_at}
use Rattle.nq_proof.proofs.Tests.{names_same}
use Rattle.nq_rule.proofs.Made.{for_ok}
use Rattle.nq_kernel.specs.Growing.{LineHolds}
use Rattle.nq_lines.specs.Lines.{LineHasOnly}
use Rattle.nq_part_lines.specs.Decisions.{is_of, told}
use Rattle.nq_part_lines.specs.Defaults.{truth_kind}
use Rattle.nq_part_lines.proofs.KindLemmas.{other_told, own_told}
use Rattle.nq_part_lines.proofs.kinds.kind_line.Goals as goal

pub other_line-requires-clause-other : goal.other_line-requires-clause-other
other_line-requires-clause-other c =
    let w = c.args.work.now in
    ap (λ k. bytes_eq k (text_at w.bank c.args.r)) (sym c.kind_symbol-own.ensures.reads) ∙ sym c.is_same_name.ensures ∙ c.if-is_same_name.false

pub returns-then-is_same_name-clause-line : goal.returns-then-is_same_name-clause-line
returns-then-is_same_name-clause-line c =
    let w = c.args.work.now in
    let new = c.own_line.new.work in
    let r = text_at w.bank c.args.r in
    let own = truth_kind c.args.value in
    let is : bytes_eq own r ≡ true = ap (λ k. bytes_eq k r) (sym c.kind_symbol-own.ensures.reads) ∙ sym c.is_same_name.ensures ∙ c.if-is_same_name.true in
    for_ok c.own_line.result (λ n. LineHolds new n (is_of own c.args.value ∷ [])) (λ n. LineHasOnly new n (told (bytes_eq own r) (is_of r c.args.value) ∷ [])) (λ n k. own_told new n r c.args.value (bytes_eq own r) is (sym (names_same own r is)) k) c.own_line.ensures.line

pub returns-else-is_same_name-clause-line : goal.returns-else-is_same_name-clause-line
returns-else-is_same_name-clause-line c =
    let w = c.args.work.now in
    let new = c.other_line.new.work in
    let r = text_at w.bank c.args.r in
    let own = truth_kind c.args.value in
    let apart : bytes_eq own r ≡ false = ap (λ k. bytes_eq k r) (sym c.kind_symbol-own.ensures.reads) ∙ sym c.is_same_name.ensures ∙ c.if-is_same_name.false in
    for_ok c.other_line.result (λ n. LineHolds new n (not_term (is_of r c.args.value) ∷ [])) (λ n. LineHasOnly new n (told (bytes_eq own r) (is_of r c.args.value) ∷ [])) (λ n k. other_told new n r c.args.value (bytes_eq own r) apart k) c.other_line.ensures.line
