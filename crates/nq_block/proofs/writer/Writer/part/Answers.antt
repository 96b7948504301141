use Rattle.std.proofs.Common.{◌∙◌, ap, subst}
use Rattle.std.specs.Prelude.{◌∷◌}
use Rattle.std.specs.List.{flat_map}
use Rattle.std.proofs.lemmas.Result.{on_ok_weaker}
use Rattle.nq_logtext.specs.Fields.{name, mode}
use Rattle.nq_logtext.specs.Views.{one_name}
use Rattle.nq_logtext.specs.declared.word.Word.TheVariants as word
use Rattle.nq_bank.specs.Content.{text_at}
use Rattle.nq_bank.specs.Shells.{texts_at}
use Rattle.nq_block.specs.Writing.{AddsLine}
use Rattle.nq_block.proofs.RuleLemmas.{after}
use Rattle.nq_block.proofs.ShellLemmas.{part_written}
use Rattle.nq_block.proofs.writer.Writer.part.Goals as goal

pub returns-clause-writing : goal.returns-clause-writing
returns-clause-writing c =
    λ frame v spelled.
    let bank = c.args.bank.now in
    let p = c.args.part.now in
    let old = c.args.self.now in
    let new = c.put.new.self in
    let m = c.mode_of.result in
    let rs = c.in_ok-recognizers.ensures ∙ ap (texts_at bank) c.as_slice.ensures.value in
    on_ok_weaker c.put.result
    (λ adds. part_written bank frame old new v (text_at bank p.accessor) (text_at bank p.default) m p.one_of (texts_at bank p.recognizers.items) c.mode_of.ensures spelled
    (subst (λ rs. AddsLine (after word.Part (name (text_at bank p.accessor) ∷ mode m ∷ name (text_at bank p.default) ∷ flat_map one_name rs)) old new) rs
    (subst (λ d. AddsLine (after word.Part (name (text_at bank p.accessor) ∷ mode m ∷ name d ∷ flat_map one_name c.in_ok-recognizers.recognizers.items)) old new) (c.in_ok-default.ensures ∙ c.text-2.ensures.value)
    (subst (λ a. AddsLine (after word.Part (name a ∷ mode m ∷ name c.in_ok-default.default ∷ flat_map one_name c.in_ok-recognizers.recognizers.items)) old new) (c.in_ok-accessor.ensures ∙ c.text.ensures.value) adds))))
    c.put.ensures.line
