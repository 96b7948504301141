use Rattle.std.proofs.Common.{ap, ◌∙◌}
use Rattle.std.specs.Prelude.{None, Some}
use Rattle.nq_form.specs.Form.{listed}
use Rattle.nq_language.specs.Refusals.{is_pair}
use Rattle.nq_sexp.specs.Tree.{tree}
use Rattle.nq_abbrev.proofs.PairLemmas.{list_is, two_are, no_pair_few, no_pair_many, no_pair_dotted}
use Rattle.nq_abbrev.proofs.shapes.pair_of.Goals as goal

pub returns-in-empty : goal.returns-in-empty
returns-in-empty c = ap is_pair (list_is _ c.in-List.items c.in-List.tail None c.in-List.is c.in-None.is) ∙ no_pair_few c.in-List.items.now c.in-empty.len_below

pub returns-in-len2 : goal.returns-in-len2
returns-in-len2 c = list_is _ c.in-List.items c.in-List.tail None c.in-List.is c.in-None.is ∙ ap listed (two_are c.in-List.items.now c.first-item.result c.second-item.result c.first-item.is c.second-item.is c.in-len2.len_at_least c.in-len2.len_below)

pub returns-in-len3-up : goal.returns-in-len3-up
returns-in-len3-up c = ap is_pair (list_is _ c.in-List.items c.in-List.tail None c.in-List.is c.in-None.is) ∙ no_pair_many c.in-List.items.now c.in-len3-up.len_at_least

pub returns-in-Some : goal.returns-in-Some
returns-in-Some c = ap is_pair (list_is _ c.in-List.items c.in-List.tail (Some c.in-Some.field-0) c.in-List.is c.in-Some.is) ∙ no_pair_dotted c.in-List.items.now (tree c.in-Some.field-0.now)
