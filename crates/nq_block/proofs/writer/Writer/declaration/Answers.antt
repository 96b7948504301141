use Rattle.std.proofs.Common.{◌∙◌, subst}
use Rattle.std.proofs.lemmas.Result.{on_ok_weaker}
use Rattle.nq_block.proofs.Keeping.{fits_short}
use Rattle.std.specs.Prelude.{[], ◌∷◌}
use Rattle.nq_logtext.specs.Fields.{name, number}
use Rattle.nq_logtext.specs.declared.word.Word.TheVariants as word
use Rattle.nq_bank.specs.Content.{text_at}
use Rattle.nq_block.specs.Writing.{AddsLine}
use Rattle.nq_block.proofs.RuleLemmas.{after}
use Rattle.nq_block.proofs.ClosingLines.{declaration_closed}
use Rattle.nq_block.proofs.writer.Writer.declaration.Goals as goal

pub returns : goal.returns
returns c =
    λ frame v alone parts cases can.
    on_ok_weaker c.put.result
    (λ adds. declaration_closed c.args.bank.now frame c.args.self.now c.put.new.self v alone parts cases (text_at c.args.bank.now c.args.name) c.args.arity (fits_short c.args.arity c.ranges.arity) can
    (subst (λ k. AddsLine (after word.Dcl (name (text_at c.args.bank.now c.args.name) ∷ number k ∷ [])) c.args.self.now c.put.new.self) c.from.ensures
    (subst (λ x. AddsLine (after word.Dcl (name x ∷ number c.from.result ∷ [])) c.args.self.now c.put.new.self) (c.in_ok-function.ensures ∙ c.text.ensures.value) adds)))
    c.put.ensures.line
