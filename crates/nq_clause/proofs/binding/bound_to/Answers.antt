use Rattle.std.proofs.Common.{◌≡◌, List, ℕ, false, get_or, sym, subst, ◌∙◌}
use Rattle.std.specs.Prelude.{IsTrue, bytes_eq}
use Rattle.nq_bank.specs.Content.{text_at}
use Rattle.nq_clause.specs.declared.binding.Binding.{Binding}
use Rattle.nq_clause.specs.declared.binding.Bound.TheVariants.{Term as Other}
use Rattle.nq_clause.proofs.BindingLemmas.{among_next, among_later, among_other, value_later}
use Rattle.nq_clause.proofs.binding.bound_to.Goals as goal

pub returns-then-is_same_name-clause-among : goal.returns-then-is_same_name-clause-among
returns-then-is_same_name-clause-among c =
    let d : Binding = record { variable = record { 0 = 0 }; bound = Other (record { 0 = 0 }) } in
    c.loop-b.invariant.onto (among_next c.args.bank.now (text_at c.args.bank.now c.args.variable) c.args.bindings.now c.loop-b.b-index d c.loop-b-test.true (subst IsTrue c.is_same_name.ensures c.if-is_same_name.true))

pub loop-b-preserved : goal.loop-b-preserved
loop-b-preserved c =
    let d : Binding = record { variable = record { 0 = 0 }; bound = Other (record { 0 = 0 }) } in
    let x : List ℕ = text_at c.args.bank.now c.args.variable in
    let other : bytes_eq x (text_at c.args.bank.now (get_or c.args.bindings.now c.loop-b.b-index d).variable) ≡ false = sym c.is_same_name.ensures ∙ c.if-is_same_name.false in
    record {
      value = sym (value_later c.args.bank.now x c.args.bindings.now c.loop-b.b-index d c.loop-b-test.true other) ∙ c.loop-b.invariant.value;
      onto = λ m. c.loop-b.invariant.onto (among_later c.args.bank.now x c.args.bindings.now c.loop-b.b-index d c.loop-b-test.true m);
      back = λ m. among_other c.args.bank.now x c.args.bindings.now c.loop-b.b-index d c.loop-b-test.true other (c.loop-b.invariant.back m);
    }
