use Rattle.std.proofs.Common.{◌<◌, ap, ◌∙◌, subst, arith}
use Rattle.std.specs.Prelude.{Err}
use Rattle.nq_logic.specs.Terms.{Term}
use Rattle.nq_logic.specs.Words.{call2, numeral}
use Rattle.nq_logic.specs.Sizes.{depth_of, depth_limit}
use Rattle.nq_bank.specs.Content.{IsIdOf, term_at}
use Rattle.nq_bank.specs.declared.node.BankFault.TheVariants.{Deep}
use Rattle.nq_bank.proofs.Growth.{term_at-grown}
use Rattle.nq_bank.proofs.Standing.{passed_on}
use Rattle.nq_abbrev.proofs.MakingLemmas.{codes_none, deep_codes}
use Rattle.nq_abbrev.proofs.making.codes_of.Goals as goal

pub loop-place-init : goal.loop-place-init
loop-place-init c =
    record {
      within = omega arith;
      list = subst (λ (t : Term). IsIdOf c.unsigned.new.bank c.in_ok-list.list t) (codes_none c.args.name.now) c.in_ok-list.ensures.ok;
      grows = c.in_ok-list.ensures.grows;
    }

pub returns-in_err-list-2-clause-deep : goal.returns-in_err-list-2-clause-deep
returns-in_err-list-2-clause-deep c =
    λ e.
    let came = passed_on c.from_residual-in_err-list-2.result c.in_err-list-2.field-0.0 Deep c.from_residual-in_err-list-2.ensures.1 e in
    let deep = c.call_two.ensures.deep (c.in_err-list-2.was ∙ ap Err came) in
    let bank = c.unsigned-in-loop-place.new.bank in
    let code = c.in_ok-code.ensures.ok.denotes in
    let list = term_at-grown c.loop-place.bank bank c.loop-place.list c.in_ok-code.ensures.grows c.loop-place.invariant.list.stands ∙ c.loop-place.invariant.list.denotes in
    let same = ap (λ (t : Term). call2 "CONS" t (term_at bank c.loop-place.list)) code ∙ ap (λ (t : Term). call2 "CONS" (numeral c.from.result) t) list in
    deep_codes c.args.name.now c.loop-place.place c.from.result c.loop-place-test.true c.loop-place.invariant.within c.from.ensures (subst (λ (t : Term). depth_limit < depth_of t) same deep)
