use Rattle.std.proofs.Common.{◌∙◌, ap, subst, sym}
use Rattle.std.specs.Prelude.{[], ◌∷◌, ◌++◌}
use Rattle.std.proofs.lemmas.Result.{on_ok_weaker}
use Rattle.nq_logic.specs.Terms.{Each}
use Rattle.nq_logtext.specs.Fields.{name}
use Rattle.nq_logtext.specs.declared.word.Word.TheVariants as word
use Rattle.nq_bank.specs.Content.{text_at}
use Rattle.nq_bank.specs.Shells.{parts_at, shell_at, text_if}
use Rattle.nq_block.specs.Closings.{IsPartSpelled}
use Rattle.nq_block.specs.Writing.{AddsLine, base_text, with_parts}
use Rattle.nq_block.proofs.RuleLemmas.{after}
use Rattle.nq_block.proofs.ShellLemmas.{shell_closed}
use Rattle.nq_block.proofs.writer.Writer.shell.Goals as goal

pub returns : goal.returns
returns c =
    λ frame v alone parts cases can.
    let bank = c.args.bank.now in
    let shell = c.args.shell.now in
    let mid = c.parts.new.self in
    let new = c.put.new.self in
    let same = ap (parts_at bank) c.as_slice.ensures.value in
    let first = c.in_ok-parts.ensures.writing frame v (subst (Each IsPartSpelled) (sym same) can.parts_spelled) in
    let whole = ap (λ ps. ps ++ parts_at bank c.as_slice.result.now) parts ∙ same in
    on_ok_weaker c.put.result
    (λ adds. shell_closed bank (with_parts frame (parts_at bank c.as_slice.result.now)) mid new first (shell_at bank shell) alone whole cases can
    (subst (λ r. AddsLine (after word.Shell (name (text_at bank shell.constructor) ∷ name (base_text (text_if bank shell.base)) ∷ name r ∷ [])) mid new) (c.in_ok-recognizer.ensures ∙ c.text-2.ensures.value)
    (subst (λ b. AddsLine (after word.Shell (name (text_at bank shell.constructor) ∷ name b ∷ name c.in_ok-recognizer.recognizer ∷ [])) mid new) c.in_ok-base.ensures
    (subst (λ x. AddsLine (after word.Shell (name x ∷ name c.in_ok-base.base ∷ name c.in_ok-recognizer.recognizer ∷ [])) mid new) (c.in_ok-constructor.ensures ∙ c.text.ensures.value) adds))))
    c.put.ensures.line
