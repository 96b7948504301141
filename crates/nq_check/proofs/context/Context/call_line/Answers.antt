use Rattle.std.proofs.Common.{◌<◌, false, sym, ap, ◌∙◌, subst}
use Rattle.std.specs.Prelude.{Err}
use Rattle.std.specs.Option.{option_map}
use Rattle.nq_logic.specs.Terms.{Term, call}
use Rattle.nq_logic.specs.Sizes.{depth_of, depth_limit}
use Rattle.nq_bank.specs.declared.node.BankFault.{BankFault}
use Rattle.nq_bank.specs.Content.{terms_at}
use Rattle.nq_bank.proofs.Growth.{Grows-trans}
use Rattle.nq_check.proofs.ContextLemmas.{whole_grown}
use Rattle.nq_check.specs.Contexts.{state_of}
use Rattle.nq_check.proofs.CallLemmas.{call_unnamed, arity_is, call_is, call_unknown, call_known, call_goes_on, too_deep}
use Rattle.nq_check.proofs.context.Context.call_line.Goals as goal

pub takes_arguments-requires-clause-whole : goal.takes_arguments-requires-clause-whole
takes_arguments-requires-clause-whole c = whole_grown c.args.self.now c.name.new.self c.in_ok-f.ensures.ok.grows c.requires

pub returns-in_default : goal.returns-in_default
returns-in_default c =
    call_unnamed (state_of c.args.self.now) c.args.function.now c.args.arguments.now (sym c.in_ok-terms.ensures.terms ∙ ap (option_map (λ ids. terms_at c.args.self.now.bank ids.items)) c.in_default.is)

pub returns-then-not-takes_arguments : goal.returns-then-not-takes_arguments
returns-then-not-takes_arguments c =
    let found = sym c.in_ok-terms.ensures.terms ∙ ap (option_map (λ ids. terms_at c.args.self.now.bank ids.items)) c.in-Some.is in
    let known = arity_is c.args.self.now c.name.new.self c.args.function.now c.in_ok-f.f c.in-Some.terms.items c.as_slice-ids.result.now c.takes_arguments.result c.requires c.in_ok-f.ensures.ok c.as_slice-ids.ensures.value c.takes_arguments.ensures in
    call_unknown (state_of c.args.self.now) c.args.function.now c.args.arguments.now (terms_at c.args.self.now.bank c.in-Some.terms.items) found (known ∙ c.if-not-takes_arguments.true)

pub returns-in-Ok : goal.returns-in-Ok
returns-in-Ok c =
    let found = sym c.in_ok-terms.ensures.terms ∙ ap (option_map (λ ids. terms_at c.args.self.now.bank ids.items)) c.in-Some.is in
    let known = arity_is c.args.self.now c.name.new.self c.args.function.now c.in_ok-f.f c.in-Some.terms.items c.as_slice-ids.result.now c.takes_arguments.result c.requires c.in_ok-f.ensures.ok c.as_slice-ids.ensures.value c.takes_arguments.ensures in
    let same = call_is c.args.self.now c.name.new.self c.args.function.now c.in_ok-f.f c.in-Some.terms.items c.as_slice-ids.result.now c.in_ok-f.ensures.ok c.as_slice-ids.ensures.value (rw c.in-Some.is at c.in_ok-terms.ensures.stand) in
    call_goes_on c.args.self.now c.app.new.self _ c.args.function.now c.args.arguments.now (terms_at c.args.self.now.bank c.in-Some.terms.items) c.in-Ok.t found (known ∙ c.if-not-takes_arguments.false)
    (λ deep. let e = c.app.ensures.deep.1 (subst (λ (u : Term). depth_limit < depth_of u) (sym same) deep) in absurd cc)
    c.requires (Grows-trans c.args.self.now.bank c.name.new.self c.app.new.self c.in_ok-f.ensures.ok.grows c.in-Ok.ensures.ok.grows)
    (record { stands = c.in-Ok.ensures.ok.id.stands; denotes = c.in-Ok.ensures.ok.id.denotes ∙ same }) c.in_ok-push-in-Ok.ensures.items

pub returns-in-Err-Deep : goal.returns-in-Err-Deep
returns-in-Err-Deep c =
    let found = sym c.in_ok-terms.ensures.terms ∙ ap (option_map (λ ids. terms_at c.args.self.now.bank ids.items)) c.in-Some.is in
    let known = arity_is c.args.self.now c.name.new.self c.args.function.now c.in_ok-f.f c.in-Some.terms.items c.as_slice-ids.result.now c.takes_arguments.result c.requires c.in_ok-f.ensures.ok c.as_slice-ids.ensures.value c.takes_arguments.ensures in
    let same = call_is c.args.self.now c.name.new.self c.args.function.now c.in_ok-f.f c.in-Some.terms.items c.as_slice-ids.result.now c.in_ok-f.ensures.ok c.as_slice-ids.ensures.value (rw c.in-Some.is at c.in_ok-terms.ensures.stand) in
    let deep = c.app.ensures.deep.0 (c.in-Err-Deep.is ∙ ap (λ (e : BankFault). Err e) c.in-Err-Deep.field-0-is) in
    call_known (state_of c.args.self.now) c.args.function.now c.args.arguments.now (terms_at c.args.self.now.bank c.in-Some.terms.items) false found (known ∙ c.if-not-takes_arguments.false)
    (too_deep (depth_of (call c.args.function.now (terms_at c.args.self.now.bank c.in-Some.terms.items))) depth_limit (subst (λ (u : Term). depth_limit < depth_of u) same deep))
