use Rattle.std.proofs.Common.{◌∙◌, subst}
use Rattle.std.proofs.lemmas.Result.{on_ok_weaker}
use Rattle.nq_logtext.specs.Fields.{name}
use Rattle.nq_logtext.specs.declared.word.Word.TheVariants as word
use Rattle.std.specs.Prelude.{[], ◌∷◌}
use Rattle.nq_bank.specs.Content.{text_at}
use Rattle.nq_block.specs.Writing.{AddsLine}
use Rattle.nq_block.proofs.RuleLemmas.{after, event_written}
use Rattle.nq_block.proofs.writer.Writer.event.Goals as goal

pub returns-clause-rule : goal.returns-clause-rule
returns-clause-rule c =
    λ frame clause v none over concluded low.
    on_ok_weaker c.put.result
    (λ adds. event_written c.args.bank.now frame c.args.self.now c.put.new.self clause v low (text_at c.args.bank.now c.args.name) concluded
    (subst (λ x. AddsLine (after word.Event (name x ∷ [])) c.args.self.now c.put.new.self) (c.in_ok-name.ensures ∙ c.text.ensures.value) adds))
    c.put.ensures.line
