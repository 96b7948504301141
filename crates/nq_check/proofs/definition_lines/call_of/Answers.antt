use Rattle.std.proofs.Common.{◌≡◌, ◌≤◌, ◌<◌, List, map, sym, ap, ◌∙◌, subst}
use Rattle.std.specs.Prelude.{Err}
use Rattle.nq_logic.specs.Sizes.{depth_limit, depth_of}
use Rattle.nq_logic.specs.Terms.{Name, Term, Variable, call}
use Rattle.nq_bank.specs.declared.node.BankFault.{BankFault}
use Rattle.nq_bank.specs.Content.{Content, terms_at, text_at}
use Rattle.nq_bank.specs.Shells.{texts_at}
use Rattle.nq_check.proofs.DefinitionLemmas.{formals_depth, formals_not_deep}
use Rattle.nq_check.proofs.definition_lines.call_of.Goals as goal

pub returns-in-Ok-clause-shallow : goal.returns-in-Ok-clause-shallow
returns-in-Ok-clause-shallow c =
    let bank : Content = c.variables_of.new.bank in
    let f : Name = text_at bank c.args.f in
    let xs : List Name = texts_at c.args.bank.now c.args.formals.now in
    let arguments : terms_at bank c.as_slice.result.now ≡ map Variable xs = ap (terms_at bank) c.as_slice.ensures.value ∙ c.in_ok-variables.ensures.are in
    subst (λ (t : Term). depth_of t ≤ 2) (sym (c.in-Ok.ensures.ok.id.denotes ∙ ap (call f) arguments)) (formals_depth f xs)

pub unreachable-requires : goal.unreachable-requires
unreachable-requires c =
    let bank : Content = c.variables_of.new.bank in
    let f : Name = text_at bank c.args.f in
    let xs : List Name = texts_at c.args.bank.now c.args.formals.now in
    let arguments : terms_at bank c.as_slice.result.now ≡ map Variable xs = ap (terms_at bank) c.as_slice.ensures.value ∙ c.in_ok-variables.ensures.are in
    let deep = c.app.ensures.deep.0 (c.in-Err-Deep.is ∙ ap (λ (e : BankFault). Err e) c.in-Err-Deep.field-0-is) in
    formals_not_deep f xs (subst (λ (ts : List Term). depth_limit < depth_of (call f ts)) arguments deep)
