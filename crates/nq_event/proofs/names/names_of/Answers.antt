use Rattle.std.proofs.Common.{[], ◌∷◌, ◌++◌, take, sym, ap, ◌∙◌}
use Rattle.std.proofs.lemmas.List.{map_more, take_all}
use Rattle.nq_bank.specs.Content.{IsNamed, text_at}
use Rattle.nq_bank.proofs.Growth.{Grows-trans}
use Rattle.nq_sexp.specs.declared.Sexp.{Sexp}
use Rattle.nq_sexp.specs.Tree.{tree}
use Rattle.nq_events.specs.Parts.{symbol_in}
use Rattle.nq_event.specs.Reads.{value_or}
use Rattle.nq_event.specs.Shapes.{names_at}
use Rattle.nq_event.proofs.GrownLemmas.{names_stay, all_more, map_pushed}
use Rattle.nq_event.proofs.names.names_of.Goals as goal

pub loop-form-preserved : goal.loop-form-preserved
loop-form-preserved c =
    let bank = c.loop-form.bank in
    let new = c.name.new.self in
    let forms = c.args.forms.now in
    let at = c.loop-form.form-index in
    let xs = c.loop-form.names.items in
    let given = c.in_ok-name.ensures.ok in
    let push = c.in_ok-push.ensures.items in
    let read = λ (f : Sexp). value_or [] (symbol_in (tree f)) in
    record {
      grows = Grows-trans c.args.bank.now bank new c.loop-form.invariant.grows given.grows;
      names = record {
        stand = all_more IsNamed text_at names_stay bank new given.grows xs c.push.new.self.items c.in_ok-name.name push c.loop-form.invariant.names.stand given.named;
        read =
            map_pushed IsNamed text_at names_stay bank new given.grows xs c.push.new.self.items c.in_ok-name.name (names_at (take at forms)) (read c.form-item.result) push c.loop-form.invariant.names.stand c.loop-form.invariant.names.read (given.reads ∙ c.text_of.ensures)
            ∙ ap (λ (f : Sexp). names_at (take at forms) ++ read f ∷ []) c.form-item.is
            ∙ sym (map_more read forms at c.form-item.result c.loop-form-test.true);
      };
    }

pub returns-clause-names : goal.returns-clause-names
returns-clause-names c = record {
  stand = c.loop-form.invariant.names.stand;
  read = c.loop-form.invariant.names.read ∙ ap names_at (take_all c.loop-form.form-index c.args.forms.now c.loop-form-test.false);
}
