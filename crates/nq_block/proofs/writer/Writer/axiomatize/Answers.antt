use Rattle.std.proofs.Common.{◌∙◌, subst}
use Rattle.std.proofs.lemmas.Result.{on_ok_weaker}
use Rattle.std.specs.Prelude.{[], ◌∷◌}
use Rattle.nq_logtext.specs.Fields.{name, number}
use Rattle.nq_logtext.specs.declared.word.Word.TheVariants as word
use Rattle.nq_bank.specs.Content.{text_at}
use Rattle.nq_block.specs.Writing.{AddsLine}
use Rattle.nq_block.proofs.RuleLemmas.{after}
use Rattle.nq_block.proofs.ClosingLines.{axiom_closed}
use Rattle.nq_block.proofs.writer.Writer.axiomatize.Goals as goal

pub returns : goal.returns
returns c =
    λ frame v alone parts cases can.
    let now = c.in_ok-term.ensures.writing frame v can.claimable.over in
    on_ok_weaker c.put.result
    (λ adds. axiom_closed c.args.bank.now frame c.term.new.self c.put.new.self now alone parts cases (text_at c.args.bank.now c.args.name) c.args.t c.number-term.result c.in_ok-term.ensures.written c.number-term.ensures can
    (subst (λ x. AddsLine (after word.Axiomatize (name x ∷ number c.number-term.result ∷ [])) c.term.new.self c.put.new.self) (c.in_ok-name.ensures ∙ c.text.ensures.value) adds))
    c.put.ensures.line
