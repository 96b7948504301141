use Rattle.std.proofs.Common.{◌∙◌, subst}
use Rattle.std.proofs.lemmas.Result.{on_ok_weaker}
use Rattle.nq_block.proofs.Keeping.{fits}
use Rattle.nq_logtext.specs.Fields.{name, number}
use Rattle.nq_logtext.specs.declared.word.Word.TheVariants as word
use Rattle.std.specs.Prelude.{[], ◌∷◌}
use Rattle.nq_bank.specs.Content.{text_at}
use Rattle.nq_block.specs.Writing.{AddsLine}
use Rattle.nq_block.proofs.RuleLemmas.{after, axiom_written}
use Rattle.nq_block.proofs.writer.Writer.axiom.Goals as goal

pub returns-clause-rule : goal.returns-clause-rule
returns-clause-rule c =
    λ frame clause v none over concluded low.
    on_ok_weaker c.put.result
    (λ adds. axiom_written c.args.bank.now frame c.args.self.now c.put.new.self clause v low (text_at c.args.bank.now c.args.name) c.args.row c.args.part (fits c.args.row c.ranges.row) (fits c.args.part c.ranges.part) concluded
    (subst (λ x. AddsLine (after word.Axiom (name x ∷ number c.args.row ∷ number c.args.part ∷ [])) c.args.self.now c.put.new.self) (c.in_ok-name.ensures ∙ c.text.ensures.value) adds))
    c.put.ensures.line
