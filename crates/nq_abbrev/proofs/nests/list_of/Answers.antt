use Rattle.std.proofs.Common.{ap, ◌∙◌, ◌<◌, ◌-◌, get_or, subst, arith}
use Rattle.std.specs.Prelude.{Err}
use Rattle.nq_logic.specs.Terms.{Term}
use Rattle.nq_logic.specs.Words.{call2}
use Rattle.nq_logic.specs.Sizes.{depth_of, depth_limit}
use Rattle.nq_bank.specs.Content.{term_at}
use Rattle.nq_bank.specs.declared.node.TermId.{TermId}
use Rattle.nq_bank.specs.declared.node.BankFault.TheVariants.{Deep}
use Rattle.nq_bank.proofs.Growth.{term_at-grown}
use Rattle.nq_bank.proofs.Standing.{passed_on}
use Rattle.nq_abbrev.proofs.NestLemmas.{deep_list}
use Rattle.nq_abbrev.proofs.nests.list_of.Goals as goal

pub returns-in_err-list-2-clause-deep : goal.returns-in_err-list-2-clause-deep
returns-in_err-list-2-clause-deep c =
    λ e.
    let came = passed_on c.from_residual-in_err-list-2.result c.in_err-list-2.field-0.0 Deep c.from_residual-in_err-list-2.ensures.1 e in
    let deep = c.call_two.ensures.deep (c.in_err-list-2.was ∙ ap Err came) in
    let old = c.args.bank.now in
    let d : TermId = record { 0 = 0 } in
    let id : TermId = get_or c.args.terms.now (c.loop-place.place - 1) d in
    let first = term_at-grown old c.loop-place.bank id c.loop-place.invariant.grows (c.requires (c.loop-place.place - 1) d (omega arith)) in
    let same = ap (λ (t : Term). call2 "CONS" t (term_at c.loop-place.bank c.loop-place.list)) first ∙ ap (λ (t : Term). call2 "CONS" (term_at old id) t) c.loop-place.invariant.list.denotes in
    deep_list old c.args.terms.now c.loop-place.place d c.loop-place-test.true c.loop-place.invariant.within (subst (λ (t : Term). depth_limit < depth_of t) same deep)
