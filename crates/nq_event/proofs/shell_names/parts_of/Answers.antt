use Rattle.std.proofs.Common.{[], ◌∷◌, ◌++◌, take, sym, ap, ◌∙◌}
use Rattle.std.proofs.lemmas.List.{map_more, take_all}
use Rattle.nq_bank.specs.Shells.{part_at, PartStands}
use Rattle.nq_bank.proofs.Growth.{Grows-trans}
use Rattle.nq_sexp.specs.declared.Sexp.{Sexp}
use Rattle.nq_sexp.specs.Tree.{tree}
use Rattle.nq_events.specs.Parts.{part_in}
use Rattle.nq_event.specs.Reads.{read_each, value_or}
use Rattle.nq_event.specs.Shapes.{no_part}
use Rattle.nq_event.proofs.GrownLemmas.{parts_stay, all_more, map_pushed}
use Rattle.nq_event.proofs.shell_names.parts_of.Goals as goal

pub loop-form-preserved : goal.loop-form-preserved
loop-form-preserved c =
    let bank = c.loop-form.bank in
    let new = c.part_with.new.bank in
    let forms = c.args.forms.now in
    let at = c.loop-form.form-index in
    let xs = c.loop-form.parts.items in
    let grows = c.part_with.ensures.grows in
    let push = c.in_ok-push.ensures.items in
    let read = λ (f : Sexp). value_or no_part (part_in (tree f)) in
    record {
      grows = Grows-trans c.args.bank.now bank new c.loop-form.invariant.grows grows;
      stand = all_more PartStands part_at parts_stay bank new grows xs c.push.new.self.items c.in_ok-part.part push c.loop-form.invariant.stand c.in_ok-part.ensures.stands;
      are =
          map_pushed PartStands part_at parts_stay bank new grows xs c.push.new.self.items c.in_ok-part.part (read_each part_in no_part (take at forms)) (read c.form-item.result) push c.loop-form.invariant.stand c.loop-form.invariant.are (c.in_ok-part.ensures.is ∙ c.part_or_none-outline.ensures)
          ∙ ap (λ (f : Sexp). read_each part_in no_part (take at forms) ++ read f ∷ []) c.form-item.is
          ∙ sym (map_more read forms at c.form-item.result c.loop-form-test.true);
    }

pub returns-clause-are : goal.returns-clause-are
returns-clause-are c = c.loop-form.invariant.are ∙ ap (read_each part_in no_part) (take_all c.loop-form.form-index c.args.forms.now c.loop-form-test.false)
