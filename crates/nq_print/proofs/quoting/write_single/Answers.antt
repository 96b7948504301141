use Rattle.std.proofs.Common.{sym, ap, ◌∙◌}
use Rattle.nq_bank.specs.Content.{text_at, term_at}
use Rattle.nq_print.specs.Pieces.{object_text}
use Rattle.nq_print.specs.Atoms.{name_form}
use Rattle.nq_print.proofs.TextLemmas.{same_piece, no_piece, text_of-atom, text-atom}
use Rattle.nq_print.proofs.quoting.write_single.Goals as goal

pub returns-in-Some : goal.returns-in-Some
returns-in-Some c =
    let text = text_of-atom (text_at c.args.bank.now c.args.f) (term_at c.args.bank.now c.args.argument) c.in_ok-name.field-0 c.requires.other (sym c.is_ground.ensures ∙ c.if-is_ground.false) c.requires.single c.in_ok-name.ensures in
    same_piece _ _ _ _ _ (text ∙ ap (λ o. object_text (name_form o)) c.in-Some.is ∙ text-atom c.in-Some.name ∙ sym c.deref.ensures.value) c.write_text.ensures

pub returns-in-None : goal.returns-in-None
returns-in-None c =
    let text = text_of-atom (text_at c.args.bank.now c.args.f) (term_at c.args.bank.now c.args.argument) c.in_ok-name.field-0 c.requires.other (sym c.is_ground.ensures ∙ c.if-is_ground.false) c.requires.single c.in_ok-name.ensures in
    no_piece _ _ (text ∙ ap (λ o. object_text (name_form o)) c.in-None.is)
