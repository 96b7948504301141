use Rattle.std.proofs.Common.{sym, ap, ◌∙◌, ◌++◌, ◌∷◌, []}
use Rattle.nq_bank.specs.Content.{text_at}
use Rattle.nq_print.proofs.TextLemmas.{same_piece}
use Rattle.nq_print.proofs.FormLemmas.{constant_true, constant_false, constant_zero, constant_other, three_pieces}
use Rattle.nq_print.proofs.writing.write_constant.Goals as goal

pub returns-then-is_ground : goal.returns-then-is_ground
returns-then-is_ground c = same_piece _ _ _ _ _ (constant_true (text_at c.args.bank.now c.args.f) (sym c.is_ground.ensures ∙ c.if-is_ground.true)) c.write_text.ensures

pub returns-then-is_ground-2 : goal.returns-then-is_ground-2
returns-then-is_ground-2 c =
    same_piece _ _ _ _ _ (constant_false (text_at c.args.bank.now c.args.f) (sym c.is_ground.ensures ∙ c.if-is_ground.false) (sym c.is_ground-else-is_ground.ensures ∙ c.if-is_ground-2.true)) c.write_text-then-is_ground-2.ensures

pub returns-then-is_ground-3 : goal.returns-then-is_ground-3
returns-then-is_ground-3 c =
    same_piece _ _ _ _ _ (constant_zero (text_at c.args.bank.now c.args.f) (sym c.is_ground.ensures ∙ c.if-is_ground.false) (sym c.is_ground-else-is_ground.ensures ∙ c.if-is_ground-2.false) (sym c.is_ground-else-is_ground-2.ensures ∙ c.if-is_ground-3.true)) c.write_number.ensures

pub returns-in_ok-write_text-2 : goal.returns-in_ok-write_text-2
returns-in_ok-write_text-2 c =
    let f = text_at c.args.bank.now c.args.f in
    let text = constant_other f (sym c.is_ground.ensures ∙ c.if-is_ground.false) (sym c.is_ground-else-is_ground.ensures ∙ c.if-is_ground-2.false) (sym c.is_ground-else-is_ground-2.ensures ∙ c.if-is_ground-3.false) in
    three_pieces _ _ _ _ _ _ _ _ _ c.in_ok-write_text.ensures c.in_ok-write_text-2.ensures (text ∙ ap (λ z. 40 ∷ z ++ 41 ∷ []) (sym c.text.ensures.value)) c.write_text-else-is_ground-3-3.ensures
