use Rattle.std.proofs.Common.{◌∙◌, subst}
use Rattle.std.proofs.lemmas.Result.{on_ok_weaker}
use Rattle.std.specs.Prelude.{[], ◌∷◌}
use Rattle.nq_logtext.specs.Fields.{name}
use Rattle.nq_logtext.specs.declared.word.Word.TheVariants as word
use Rattle.nq_bank.specs.Content.{text_at}
use Rattle.nq_block.specs.Writing.{AddsLine}
use Rattle.nq_block.proofs.RuleLemmas.{after}
use Rattle.nq_block.proofs.ClosingLines.{undo_closed}
use Rattle.nq_block.proofs.writer.Writer.undo.Goals as goal

pub returns : goal.returns
returns c =
    λ frame v alone parts cases can.
    on_ok_weaker c.put.result
    (λ adds. undo_closed c.args.bank.now frame c.args.self.now c.put.new.self v alone parts cases (text_at c.args.bank.now c.args.name) can
    (subst (λ x. AddsLine (after word.Undo (name x ∷ [])) c.args.self.now c.put.new.self) (c.in_ok-name.ensures ∙ c.text.ensures.value) adds))
    c.put.ensures.line
