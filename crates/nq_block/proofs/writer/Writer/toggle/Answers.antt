use Rattle.std.proofs.Common.{◌∙◌, subst}
use Rattle.std.proofs.lemmas.Result.{on_ok_weaker}
use Rattle.std.specs.Prelude.{[], ◌∷◌}
use Rattle.nq_logtext.specs.Fields.{name, number}
use Rattle.nq_logtext.specs.declared.word.Word.TheVariants as word
use Rattle.nq_bank.specs.Content.{text_at}
use Rattle.nq_block.specs.Writing.{AddsLine}
use Rattle.nq_block.proofs.RuleLemmas.{after}
use Rattle.nq_block.proofs.ClosingLines.{toggle_closed}
use Rattle.nq_block.proofs.writer.Writer.toggle.Goals as goal

pub returns : goal.returns
returns c =
    λ frame v alone parts cases can.
    let x = text_at c.args.bank.now c.args.name in
    let y = text_at c.args.bank.now c.args.old in
    on_ok_weaker c.put.result
    (λ adds. toggle_closed c.args.bank.now frame c.args.self.now c.put.new.self v alone parts cases x y c.args.disabled c.digit_of.result c.digit_of.ensures can
    (subst (λ y. AddsLine (after word.Toggle (name x ∷ name y ∷ number c.digit_of.result ∷ [])) c.args.self.now c.put.new.self) (c.in_ok-old.ensures ∙ c.text-2.ensures.value)
    (subst (λ x. AddsLine (after word.Toggle (name x ∷ name c.in_ok-old.old ∷ number c.digit_of.result ∷ [])) c.args.self.now c.put.new.self) (c.in_ok-name.ensures ∙ c.text.ensures.value) adds)))
    c.put.ensures.line
