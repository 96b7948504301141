use Rattle.std.proofs.Common.{◌∙◌, subst}
use Rattle.std.proofs.lemmas.Result.{on_ok_weaker}
use Rattle.nq_block.proofs.Keeping.{fits}
use Rattle.std.specs.Prelude.{[], ◌∷◌}
use Rattle.nq_logtext.specs.Fields.{name, number}
use Rattle.nq_logtext.specs.declared.word.Word.TheVariants as word
use Rattle.nq_bank.specs.Content.{text_at}
use Rattle.nq_block.specs.Writing.{AddsLine}
use Rattle.nq_block.proofs.RuleLemmas.{after}
use Rattle.nq_block.proofs.ClosingLines.{lemma_closed}
use Rattle.nq_block.proofs.writer.Writer.lemma.Goals as goal

pub returns : goal.returns
returns c =
    λ frame v alone parts cases can.
    let now = c.in_ok-term.ensures.writing frame v can.claimable.over in
    on_ok_weaker c.put.result
    (λ adds. lemma_closed c.args.bank.now frame c.term.new.self c.put.new.self now alone parts cases (text_at c.args.bank.now c.args.name) c.args.t c.args.line c.number-term.result (fits c.args.line c.ranges.line) c.in_ok-term.ensures.written c.number-term.ensures can
    (subst (λ x. AddsLine (after word.Lemma (name x ∷ number c.number-term.result ∷ number c.args.line ∷ [])) c.term.new.self c.put.new.self) (c.in_ok-name.ensures ∙ c.text.ensures.value) adds))
    c.put.ensures.line
