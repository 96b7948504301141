use Rattle.std.proofs.Common.{◌+◌, refl, sym, ap, ◌∙◌, drop}
use Rattle.std.specs.Prelude.{None, Some}
use Rattle.nq_form.specs.Form.{listed, end}
use Rattle.nq_language.specs.Refusals.{met, is_pair, bound_met, clauses_met, keyed_met}
use Rattle.nq_sexp.specs.Tree.{tree, trees, tail_of}
use Rattle.nq_sexp.proofs.Trees.{tree-Symbol, tree-Numeral, tree-Str, tree-Quote, tree-List}
use Rattle.nq_abbrev.specs.Met.{met_of}
use Rattle.nq_abbrev.specs.Pairs.{name_at}
use Rattle.nq_abbrev.specs.Words.{word_at}
use Rattle.nq_abbrev.specs.Known.{arity_over}
use Rattle.nq_abbrev.specs.Parts.{test_met, value_met}
use Rattle.nq_abbrev.proofs.PairLemmas.{list_is, first_of_two, second_of_two, no_pair_few, no_pair_many, no_pair_dotted}
use Rattle.nq_abbrev.proofs.RefusalLemmas.{met_dotted, called, test_none, value_none, first_some, first_none, bound_step, bound_tail, clauses_last, clauses_more, keyed_at_last, keyed_at, binding_listed, binding_unlisted, binding_two, binding_many}
use Rattle.nq_abbrev.proofs.refusals.+forms.Goals as goal
use Rattle.nq_abbrev.proofs.refusals.+forms.Goals.{clauses_refusal-then-place-items+in_default, clauses_refusal-else-place-items, keyed_refusal-then-place-items+in_default, keyed_refusal-else-place-items}

pub first_refusal-returns-in-Some : goal.first_refusal-returns-in-Some
first_refusal-returns-in-Some g t c =
    let arity = arity_over c.args.bank.now.names (g.A.Arities.at c.args.arities.now) in
    sym (ap (met arity) (list_is _ c.in-List.items c.in-List.tail (Some c.in-Some.field-0) c.in-List.is c.in-Some.is) ∙ met_dotted arity c.in-List.items.now (tree c.in-Some.field-0.now))

pub list_refusal-returns-in-Some-own_refusal : goal.list_refusal-returns-in-Some-own_refusal
list_refusal-returns-in-Some-own_refusal g t c =
    let arity = arity_over c.args.bank.now.names (g.A.Arities.at c.args.arities.now) in
    first_some _ _ c.in-Some-own_refusal.refusal (ap met_of (sym c.in-Some-own_refusal.is) ∙ c.own_refusal.ensures)
    ∙ sym (called arity c.args.items.now c.first-item.result c.in-Some.f.now c.arity_of-arity.result (word_at c.word_in-word.result) c.in-len1-up.len_at_least c.first-item.is (ap name_at (sym c.in-Some.is) ∙ c.symbol_of.ensures) c.arity_of-arity.ensures c.word_in-word.ensures)

pub list_refusal-returns-in-None-own_refusal : goal.list_refusal-returns-in-None-own_refusal
list_refusal-returns-in-None-own_refusal g t c =
    let arity = arity_over c.args.bank.now.names (g.A.Arities.at c.args.arities.now) in
    first_none _ _ (met_of c.parts_refusal.result) (ap met_of (sym c.in-None-own_refusal.is) ∙ c.own_refusal.ensures) c.parts_refusal.ensures
    ∙ sym (called arity c.args.items.now c.first-item.result c.in-Some.f.now c.arity_of-arity.result (word_at c.word_in-word.result) c.in-len1-up.len_at_least c.first-item.is (ap name_at (sym c.in-Some.is) ∙ c.symbol_of.ensures) c.arity_of-arity.ensures c.word_in-word.ensures)

pub test_refusal-returns-in-empty : goal.test_refusal-returns-in-empty
test_refusal-returns-in-empty g t c =
    test_none _ (tree c.args.clause.now) (ap is_pair (list_is _ c.in-List.items c.in-List.tail None c.in-List.is c.in-None.is) ∙ no_pair_few c.in-List.items.now c.in-empty.len_below)

pub test_refusal-returns-in-len3-up : goal.test_refusal-returns-in-len3-up
test_refusal-returns-in-len3-up g t c =
    test_none _ (tree c.args.clause.now) (ap is_pair (list_is _ c.in-List.items c.in-List.tail None c.in-List.is c.in-None.is) ∙ no_pair_many c.in-List.items.now c.in-len3-up.len_at_least)

pub test_refusal-returns-in-Some : goal.test_refusal-returns-in-Some
test_refusal-returns-in-Some g t c =
    test_none _ (tree c.args.clause.now) (ap is_pair (list_is _ c.in-List.items c.in-List.tail (Some c.in-Some.field-0) c.in-List.is c.in-Some.is) ∙ no_pair_dotted c.in-List.items.now (tree c.in-Some.field-0.now))

pub test_refusal-returns-in-len2 : goal.test_refusal-returns-in-len2
test_refusal-returns-in-len2 g t c =
    let arity = arity_over c.args.bank.now.names (g.A.Arities.at c.args.arities.now) in
    c.first_refusal.ensures ∙ sym (ap (test_met arity) (list_is _ c.in-List.items c.in-List.tail None c.in-List.is c.in-None.is ∙ ap listed (first_of_two c.in-List.items.now c.test-item.result c.test-item.is c.in-len2.len_at_least c.in-len2.len_below)))

pub value_refusal-returns-in-empty : goal.value_refusal-returns-in-empty
value_refusal-returns-in-empty g t c =
    value_none _ (tree c.args.clause.now) (ap is_pair (list_is _ c.in-List.items c.in-List.tail None c.in-List.is c.in-None.is) ∙ no_pair_few c.in-List.items.now c.in-empty.len_below)

pub value_refusal-returns-in-len3-up : goal.value_refusal-returns-in-len3-up
value_refusal-returns-in-len3-up g t c =
    value_none _ (tree c.args.clause.now) (ap is_pair (list_is _ c.in-List.items c.in-List.tail None c.in-List.is c.in-None.is) ∙ no_pair_many c.in-List.items.now c.in-len3-up.len_at_least)

pub value_refusal-returns-in-Some : goal.value_refusal-returns-in-Some
value_refusal-returns-in-Some g t c =
    value_none _ (tree c.args.clause.now) (ap is_pair (list_is _ c.in-List.items c.in-List.tail (Some c.in-Some.field-0) c.in-List.is c.in-Some.is) ∙ no_pair_dotted c.in-List.items.now (tree c.in-Some.field-0.now))

pub value_refusal-returns-in-len2 : goal.value_refusal-returns-in-len2
value_refusal-returns-in-len2 g t c =
    let arity = arity_over c.args.bank.now.names (g.A.Arities.at c.args.arities.now) in
    c.first_refusal.ensures ∙ sym (ap (value_met arity) (list_is _ c.in-List.items c.in-List.tail None c.in-List.is c.in-None.is ∙ ap listed (second_of_two c.in-List.items.now c.value-item.result c.value-item.is c.in-len2.len_at_least c.in-len2.len_below)))

pub binding_refusal-returns-in-len2 : goal.binding_refusal-returns-in-len2
binding_refusal-returns-in-len2 g t c = binding_two (arity_over c.args.bank.now.names (g.A.Arities.at c.args.arities.now)) c.args.items.now c.in-len2.len_at_least c.in-len2.len_below

pub binding_refusal-returns-in-len4-up : goal.binding_refusal-returns-in-len4-up
binding_refusal-returns-in-len4-up g t c = binding_many (arity_over c.args.bank.now.names (g.A.Arities.at c.args.arities.now)) c.args.items.now c.in-len4-up.len_at_least

pub binding_refusal-returns-in-Some : goal.binding_refusal-returns-in-Some
binding_refusal-returns-in-Some g t c =
    let arity = arity_over c.args.bank.now.names (g.A.Arities.at c.args.arities.now) in
    let fs = trees c.in-List.bindings.now (tail_of c.in-List.field-1) in
    let first_met = ap met_of (sym c.in-Some.is) ∙ c.bound_refusal.ensures ∙ sym (bound_tail arity c.in-List.bindings.now c.in-List.field-1) in
    first_some (bound_met arity fs) (met arity (tree c.body-item.result)) c.in-Some.refusal first_met ∙ sym (binding_listed arity c.args.items.now c.bindings-item.result c.body-item.result fs c.in-len3.len_at_least c.in-len3.len_below c.bindings-item.is c.body-item.is (ap tree c.in-List.is ∙ tree-List c.in-List.bindings c.in-List.field-1))

pub binding_refusal-returns-in-None : goal.binding_refusal-returns-in-None
binding_refusal-returns-in-None g t c =
    let arity = arity_over c.args.bank.now.names (g.A.Arities.at c.args.arities.now) in
    let fs = trees c.in-List.bindings.now (tail_of c.in-List.field-1) in
    let first_met = ap met_of (sym c.in-None.is) ∙ c.bound_refusal.ensures ∙ sym (bound_tail arity c.in-List.bindings.now c.in-List.field-1) in
    first_none (bound_met arity fs) (met arity (tree c.body-item.result)) (met_of c.first_refusal.result) first_met c.first_refusal.ensures ∙ sym (binding_listed arity c.args.items.now c.bindings-item.result c.body-item.result fs c.in-len3.len_at_least c.in-len3.len_below c.bindings-item.is c.body-item.is (ap tree c.in-List.is ∙ tree-List c.in-List.bindings c.in-List.field-1))

pub binding_refusal-returns-in-Symbol : goal.binding_refusal-returns-in-Symbol
binding_refusal-returns-in-Symbol g t c =
    binding_unlisted (arity_over c.args.bank.now.names (g.A.Arities.at c.args.arities.now)) c.args.items.now c.bindings-item.result c.body-item.result _ c.in-len3.len_at_least c.in-len3.len_below c.bindings-item.is c.body-item.is (ap tree c.in-Symbol.is ∙ tree-Symbol c.in-Symbol.field-0) refl

pub binding_refusal-returns-in-Numeral : goal.binding_refusal-returns-in-Numeral
binding_refusal-returns-in-Numeral g t c =
    binding_unlisted (arity_over c.args.bank.now.names (g.A.Arities.at c.args.arities.now)) c.args.items.now c.bindings-item.result c.body-item.result _ c.in-len3.len_at_least c.in-len3.len_below c.bindings-item.is c.body-item.is (ap tree c.in-Numeral.is ∙ tree-Numeral c.in-Numeral.field-0 c.in-Numeral.field-1) refl

pub binding_refusal-returns-in-Str : goal.binding_refusal-returns-in-Str
binding_refusal-returns-in-Str g t c =
    binding_unlisted (arity_over c.args.bank.now.names (g.A.Arities.at c.args.arities.now)) c.args.items.now c.bindings-item.result c.body-item.result _ c.in-len3.len_at_least c.in-len3.len_below c.bindings-item.is c.body-item.is (ap tree c.in-Str.is ∙ tree-Str c.in-Str.field-0) refl

pub binding_refusal-returns-in-Quote : goal.binding_refusal-returns-in-Quote
binding_refusal-returns-in-Quote g t c =
    binding_unlisted (arity_over c.args.bank.now.names (g.A.Arities.at c.args.arities.now)) c.args.items.now c.bindings-item.result c.body-item.result _ c.in-len3.len_at_least c.in-len3.len_below c.bindings-item.is c.body-item.is (ap tree c.in-Quote.is ∙ tree-Quote c.in-Quote.field-0) refl

pub bound_refusal-returns-in-Some : goal.bound_refusal-returns-in-Some
bound_refusal-returns-in-Some g t c =
    let arity = arity_over c.args.bank.now.names (g.A.Arities.at c.args.arities.now) in
    first_some _ _ c.in-Some.refusal (ap met_of (sym c.in-Some.is) ∙ c.value_refusal.ensures)
    ∙ sym (c.loop-binding.invariant ∙ bound_step arity c.args.bindings.now c.loop-binding.binding-index c.binding-item.result c.loop-binding-test.true c.binding-item.is (sym c.is_pair.ensures ∙ c.if-not-is_pair.false))

pub bound_refusal-loop-binding-preserved : goal.bound_refusal-loop-binding-preserved
bound_refusal-loop-binding-preserved g t c =
    let arity = arity_over c.args.bank.now.names (g.A.Arities.at c.args.arities.now) in
    c.loop-binding.invariant ∙ bound_step arity c.args.bindings.now c.loop-binding.binding-index c.binding-item.result c.loop-binding-test.true c.binding-item.is (sym c.is_pair.ensures ∙ c.if-not-is_pair.false)
    ∙ sym (first_none _ _ _ (ap met_of (sym c.in_default.is) ∙ c.value_refusal.ensures) refl)

pub clauses_refusal-returns-in-Some : goal.clauses_refusal-returns-in-Some
clauses_refusal-returns-in-Some g t c =
    let arity = arity_over c.args.bank.now.names (g.A.Arities.at c.args.arities.now) in
    first_some _ _ c.in-Some.refusal (ap met_of (sym c.in-Some.is) ∙ c.test_refusal.ensures)
    ∙ sym (c.loop-place.invariant ∙ clauses_more arity c.args.items.now c.loop-place.place c.index-items-place.result c.if-place-items.true c.index-items-place.is (sym c.is_pair.ensures ∙ c.if-not-is_pair.false))

pub clauses_refusal-returns-in-Some-value_refusal : goal.clauses_refusal-returns-in-Some-value_refusal
clauses_refusal-returns-in-Some-value_refusal g t c =
    let arity = arity_over c.args.bank.now.names (g.A.Arities.at c.args.arities.now) in
    let here = first_some _ (clauses_met arity (trees (drop (c.loop-place.place + 1) c.args.items.now) end)) c.in-Some-value_refusal.refusal (ap met_of (sym c.in-Some-value_refusal.is) ∙ c.value_refusal.ensures) in
    elim c.if-place-items.branch [
      | clauses_refusal-then-place-items+in_default w ↦
          first_none _ _ _ (ap met_of (sym w.in_default.is) ∙ w.test_refusal.ensures) here
          ∙ sym (c.loop-place.invariant ∙ clauses_more arity c.args.items.now c.loop-place.place c.index-items-place.result w.if-place-items.true c.index-items-place.is (sym c.is_pair.ensures ∙ c.if-not-is_pair.false))
      | clauses_refusal-else-place-items w ↦
          here ∙ sym (c.loop-place.invariant ∙ clauses_last arity c.args.items.now c.loop-place.place c.index-items-place.result c.loop-place-test.true w.if-place-items.false c.index-items-place.is (sym c.is_pair.ensures ∙ c.if-not-is_pair.false))
    ]

pub clauses_refusal-loop-place-preserved : goal.clauses_refusal-loop-place-preserved
clauses_refusal-loop-place-preserved g t c =
    let arity = arity_over c.args.bank.now.names (g.A.Arities.at c.args.arities.now) in
    let next = clauses_met arity (trees (drop (c.loop-place.place + 1) c.args.items.now) end) in
    let here = first_none _ next next (ap met_of (sym c.in_default-value_refusal.is) ∙ c.value_refusal.ensures) refl in
    elim c.if-place-items.branch [
      | clauses_refusal-then-place-items+in_default w ↦
          c.loop-place.invariant ∙ clauses_more arity c.args.items.now c.loop-place.place c.index-items-place.result w.if-place-items.true c.index-items-place.is (sym c.is_pair.ensures ∙ c.if-not-is_pair.false)
          ∙ sym (first_none _ _ _ (ap met_of (sym w.in_default.is) ∙ w.test_refusal.ensures) here)
      | clauses_refusal-else-place-items w ↦
          c.loop-place.invariant ∙ clauses_last arity c.args.items.now c.loop-place.place c.index-items-place.result c.loop-place-test.true w.if-place-items.false c.index-items-place.is (sym c.is_pair.ensures ∙ c.if-not-is_pair.false) ∙ sym here
    ]

pub keyed_refusal-returns-in-Some : goal.keyed_refusal-returns-in-Some
keyed_refusal-returns-in-Some g t c =
    let arity = arity_over c.args.bank.now.names (g.A.Arities.at c.args.arities.now) in
    first_some _ _ c.in-Some.refusal (ap met_of (sym c.in-Some.is) ∙ c.key_refusal.ensures)
    ∙ sym (c.loop-place.invariant ∙ keyed_at arity c.args.items.now c.loop-place.place c.index-items-place.result c.if-place-items.true c.index-items-place.is (sym c.is_pair.ensures ∙ c.if-not-is_pair.false))

pub keyed_refusal-returns-in-Some-value_refusal : goal.keyed_refusal-returns-in-Some-value_refusal
keyed_refusal-returns-in-Some-value_refusal g t c =
    let arity = arity_over c.args.bank.now.names (g.A.Arities.at c.args.arities.now) in
    let here = first_some _ (keyed_met arity (trees (drop (c.loop-place.place + 1) c.args.items.now) end)) c.in-Some-value_refusal.refusal (ap met_of (sym c.in-Some-value_refusal.is) ∙ c.value_refusal.ensures) in
    elim c.if-place-items.branch [
      | keyed_refusal-then-place-items+in_default w ↦
          first_none _ _ _ (ap met_of (sym w.in_default.is) ∙ w.key_refusal.ensures) here
          ∙ sym (c.loop-place.invariant ∙ keyed_at arity c.args.items.now c.loop-place.place c.index-items-place.result w.if-place-items.true c.index-items-place.is (sym c.is_pair.ensures ∙ c.if-not-is_pair.false))
      | keyed_refusal-else-place-items w ↦
          here ∙ sym (c.loop-place.invariant ∙ keyed_at_last arity c.args.items.now c.loop-place.place c.index-items-place.result c.loop-place-test.true w.if-place-items.false c.index-items-place.is (sym c.is_pair.ensures ∙ c.if-not-is_pair.false))
    ]

pub keyed_refusal-loop-place-preserved : goal.keyed_refusal-loop-place-preserved
keyed_refusal-loop-place-preserved g t c =
    let arity = arity_over c.args.bank.now.names (g.A.Arities.at c.args.arities.now) in
    let next = keyed_met arity (trees (drop (c.loop-place.place + 1) c.args.items.now) end) in
    let here = first_none _ next next (ap met_of (sym c.in_default-value_refusal.is) ∙ c.value_refusal.ensures) refl in
    elim c.if-place-items.branch [
      | keyed_refusal-then-place-items+in_default w ↦
          c.loop-place.invariant ∙ keyed_at arity c.args.items.now c.loop-place.place c.index-items-place.result w.if-place-items.true c.index-items-place.is (sym c.is_pair.ensures ∙ c.if-not-is_pair.false)
          ∙ sym (first_none _ _ _ (ap met_of (sym w.in_default.is) ∙ w.key_refusal.ensures) here)
      | keyed_refusal-else-place-items w ↦
          c.loop-place.invariant ∙ keyed_at_last arity c.args.items.now c.loop-place.place c.index-items-place.result c.loop-place-test.true w.if-place-items.false c.index-items-place.is (sym c.is_pair.ensures ∙ c.if-not-is_pair.false) ∙ sym here
    ]
