use Rattle.std.proofs.Common.{List, sym, ap, ◌∙◌, subst}
use Rattle.std.specs.Prelude.{Option, IfOk}
use Rattle.std.specs.Option.{option_map}
use Rattle.nq_logic.specs.Terms.{Name, Term}
use Rattle.nq_bank.specs.Content.{term_at}
use Rattle.nq_bank.specs.Shells.{texts_at}
use Rattle.nq_log.specs.States.{Step}
use Rattle.nq_check.specs.Contexts.{state_of}
use Rattle.nq_check.specs.Judging.{Leads}
use Rattle.nq_check.proofs.DefinitionLemmas.{definition_denied, definition_led, definition_of_no_variables, formals_are_distinct, may_define_told, small_is_shallow}
use Rattle.nq_check.proofs.context.Context.definition_line.Goals as goal

pub returns-in_default-2 : goal.returns-in_default-2
returns-in_default-2 c =
    let old = c.args.self.now in
    definition_of_no_variables old c.args.function.now c.args.body c.args.formals.now (term_at old.bank c.in-Some.t) (sym c.term.ensures.term ∙ ap (option_map (term_at old.bank)) c.in-Some.is)
    (sym c.in_ok-names.ensures.names ∙ ap (option_map (λ names. texts_at old.bank names.items)) c.in_default-2.is)

pub returns-then-not-branch : goal.returns-then-not-branch
returns-then-not-branch c =
    let old = c.args.self.now in
    let t : Term = term_at old.bank c.in-Some.t in
    let xs : List Name = texts_at old.bank c.in-Some-2.names.items in
    let told = may_define_told (state_of old).block old.bank c.in-Some-2.names.items c.as_slice.result.now t c.in_ok-may_define.field-0 c.as_slice.ensures.value c.in_ok-may_define.ensures in
    definition_denied old c.args.function.now c.args.body c.args.formals.now t xs (sym c.term.ensures.term ∙ ap (option_map (term_at old.bank)) c.in-Some.is)
    (sym c.in_ok-names.ensures.names ∙ ap (option_map (λ names. texts_at old.bank names.items)) c.in-Some-2.is) (told ∙ c.if-not-branch.true)

pub define_named-requires-clause-shallow : goal.define_named-requires-clause-shallow
define_named-requires-clause-shallow c =
    let old = c.args.self.now in
    let t : Term = term_at old.bank c.in-Some.t in
    let told = may_define_told (state_of old).block old.bank c.in-Some-2.names.items c.as_slice.result.now t c.in_ok-may_define.field-0 c.as_slice.ensures.value c.in_ok-may_define.ensures in
    small_is_shallow (state_of old).block (texts_at old.bank c.in-Some-2.names.items) t (told ∙ c.if-not-branch.false)

pub define_named-requires-clause-distinct : goal.define_named-requires-clause-distinct
define_named-requires-clause-distinct c =
    let old = c.args.self.now in
    let t : Term = term_at old.bank c.in-Some.t in
    let told = may_define_told (state_of old).block old.bank c.in-Some-2.names.items c.as_slice.result.now t c.in_ok-may_define.field-0 c.as_slice.ensures.value c.in_ok-may_define.ensures in
    formals_are_distinct (state_of old).block (texts_at old.bank c.in-Some-2.names.items) t (told ∙ c.if-not-branch.false)

pub returns : goal.returns
returns c =
    let old = c.args.self.now in
    let t : Term = term_at old.bank c.in-Some.t in
    let xs : List Name = texts_at old.bank c.in-Some-2.names.items in
    let told = may_define_told (state_of old).block old.bank c.in-Some-2.names.items c.as_slice.result.now t c.in_ok-may_define.field-0 c.as_slice.ensures.value c.in_ok-may_define.ensures in
    let led = definition_led old c.args.function.now c.args.body c.args.formals.now t xs (sym c.term.ensures.term ∙ ap (option_map (term_at old.bank)) c.in-Some.is)
    (sym c.in_ok-names.ensures.names ∙ ap (option_map (λ names. texts_at old.bank names.items)) c.in-Some-2.is) (told ∙ c.if-not-branch.false) in
    subst (λ (o : Option Step). IfOk c.define_named.result (λ judged. Leads (state_of old) o judged c.define_named.new.self)) (sym led) c.define_named.ensures
