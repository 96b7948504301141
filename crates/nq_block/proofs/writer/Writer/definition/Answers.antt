use Rattle.std.proofs.Common.{◌∙◌, subst}
use Rattle.std.proofs.lemmas.Result.{on_ok_weaker}
use Rattle.std.specs.Prelude.{◌∷◌}
use Rattle.std.specs.List.{flat_map}
use Rattle.nq_logtext.specs.Views.{one_number}
use Rattle.nq_logtext.specs.Fields.{name, number}
use Rattle.nq_logtext.specs.declared.word.Word.TheVariants as word
use Rattle.nq_bank.specs.Content.{text_at}
use Rattle.nq_block.specs.Writing.{AddsLine}
use Rattle.nq_block.proofs.RuleLemmas.{after}
use Rattle.nq_block.proofs.ClosingLines.{definition_closed}
use Rattle.nq_block.proofs.writer.Writer.definition.Goals as goal

pub returns : goal.returns
returns c =
    λ frame v alone parts cases can.
    let first = c.in_ok-term.ensures.writing frame v can.claimable.over in
    let second = c.in_ok-formals.ensures.writing frame first can.spelled in
    let written = c.in_ok-formals.ensures.keeps.terms c.args.t c.in_ok-term.ensures.written in
    on_ok_weaker c.put.result
    (λ adds. definition_closed c.args.bank.now frame c.variables_of.new.self c.put.new.self second alone parts cases (text_at c.args.bank.now c.args.name) c.args.formals.now c.args.t c.number-body.result c.in_ok-formals.formals.items written c.number-body.ensures
    c.in_ok-formals.ensures.written c.in_ok-formals.ensures.numbers can
    (subst (λ x. AddsLine (after word.Defn (name x ∷ number c.number-body.result ∷ flat_map one_number c.in_ok-formals.formals.items)) c.variables_of.new.self c.put.new.self) (c.in_ok-function.ensures ∙ c.text.ensures.value) adds))
    c.put.ensures.line
