use Rattle.std.proofs.Common.{sym, ap, ◌∙◌}
use Rattle.std.specs.Prelude.{None, Some}
use Rattle.nq_form.specs.Form.{end}
use Rattle.nq_sexp.specs.Tree.{trees}
use Rattle.nq_abbrev.specs.Parts.{elements_at}
use Rattle.nq_abbrev.proofs.BindingLemmas.{own_few, own_many, own_two}
use Rattle.nq_abbrev.proofs.calls.binding_refusal.Goals as goal

pub returns-in-empty : goal.returns-in-empty
returns-in-empty c = sym (own_few c.args.forms.now c.in-empty.len_below)

pub returns-in-Some : goal.returns-in-Some
returns-in-Some c =
    c.bindings_refusal.ensures ∙ sym (own_two c.args.forms.now c.bindings-item.result c.bindings-item.is c.in-len2.len_at_least c.in-len2.len_below (Some (trees c.in-Some.bindings.now end)) (ap elements_at (sym c.in-Some.is) ∙ c.elements_of.ensures))

pub returns-in-None : goal.returns-in-None
returns-in-None c =
    sym (own_two c.args.forms.now c.bindings-item.result c.bindings-item.is c.in-len2.len_at_least c.in-len2.len_below None (ap elements_at (sym c.in-None.is) ∙ c.elements_of.ensures))

pub returns-in-len3-up : goal.returns-in-len3-up
returns-in-len3-up c = sym (own_many c.args.forms.now c.in-len3-up.len_at_least)
