use Rattle.std.proofs.Common.{◌<◌, ◌-◌, length, get_or, take, drop, ap, sym, ◌∙◌, subst}
use Rattle.std.specs.Prelude.{Err, IfOk}
use Rattle.nq_logic.specs.Terms.{Term}
use Rattle.nq_bank.specs.declared.node.BankFault.TheVariants.{Deep}
use Rattle.nq_bank.specs.Content.{Content, term_at, IsIdOf}
use Rattle.nq_logic.specs.Sizes.{depth_of, depth_limit}
use Rattle.nq_bank.proofs.Growth.{term_at-grown}
use Rattle.nq_bank.proofs.Standing.{passed_on}
use Rattle.nq_rule.specs.Results.{with_argument, with_part}
use Rattle.nq_rule.proofs.ReplacingLemmas.{with_part-path, some_of}
use Rattle.nq_rule.proofs.replacing.+with_part_at.Goals as goal

pub returns-in_err-part-in-len1-up-clause-deep : goal.returns-in_err-part-in-len1-up-clause-deep
returns-in_err-part-in-len1-up-clause-deep t c =
    λ e.
    let old : Content = c.args.bank.now in
    let came = passed_on c.from_residual.result c.in_err-part-in-len1-up.field-0.0 Deep c.from_residual.ensures.1 e in
    let deep = c.with_part_at.ensures.deep (c.in_err-part-in-len1-up.was ∙ ap Err came) in
    let step = with_part-path c.args.path.now old (term_at old c.args.t) (term_at old c.args.whole) c.argument.result c.unwrap-inner.result c.in-len1-up.len_at_least c.argument.ensures.argument c.unwrap-inner.ensures c.requires.path in
    let part : Term = with_part (take (length c.args.path.now - 1) (drop 1 c.args.path.now)) (term_at old c.args.t) (term_at old c.unwrap-inner.result) in
    subst (λ w. depth_limit < depth_of w) (sym step)
    (some_of c.argument.result c.unwrap-inner.result (λ u. (v : Term) → depth_limit < depth_of v → depth_limit < depth_of (with_argument (get_or c.args.path.now 0 0) v (term_at old c.args.whole))) c.argument.ensures.deep c.unwrap-inner.ensures part deep)

pub returns-in_ok-part-in-len1-up-clause-ok : goal.returns-in_ok-part-in-len1-up-clause-ok
returns-in_ok-part-in-len1-up-clause-ok t c =
    let old : Content = c.args.bank.now in
    let mid : Content = c.with_part_at.new.bank in
    let step = with_part-path c.args.path.now old (term_at old c.args.t) (term_at old c.args.whole) c.argument.result c.unwrap-inner.result c.in-len1-up.len_at_least c.argument.ensures.argument c.unwrap-inner.ensures c.requires.path in
    let whole = term_at-grown old mid c.args.whole c.with_part_at.ensures.grows c.requires.whole in
    let P : Term → Type 0 = λ w. IfOk c.with_argument_at.result (λ r. IsIdOf c.with_argument_at.new.bank r w) in
    subst P (ap (λ v. with_argument (get_or c.args.path.now 0 0) v (term_at mid c.args.whole)) c.in_ok-part-in-len1-up.ensures.ok.denotes ∙ ap (with_argument (get_or c.args.path.now 0 0) (with_part (take (length c.args.path.now - 1) (drop 1 c.args.path.now)) (term_at old c.args.t) (term_at old c.unwrap-inner.result))) whole ∙ sym step) c.with_argument_at.ensures.ok

pub returns-in_ok-part-in-len1-up-clause-deep : goal.returns-in_ok-part-in-len1-up-clause-deep
returns-in_ok-part-in-len1-up-clause-deep t c =
    λ e.
    let old : Content = c.args.bank.now in
    let mid : Content = c.with_part_at.new.bank in
    let step = with_part-path c.args.path.now old (term_at old c.args.t) (term_at old c.args.whole) c.argument.result c.unwrap-inner.result c.in-len1-up.len_at_least c.argument.ensures.argument c.unwrap-inner.ensures c.requires.path in
    let whole = term_at-grown old mid c.args.whole c.with_part_at.ensures.grows c.requires.whole in
    subst (λ w. depth_limit < depth_of w) (ap (λ v. with_argument (get_or c.args.path.now 0 0) v (term_at mid c.args.whole)) c.in_ok-part-in-len1-up.ensures.ok.denotes ∙ ap (with_argument (get_or c.args.path.now 0 0) (with_part (take (length c.args.path.now - 1) (drop 1 c.args.path.now)) (term_at old c.args.t) (term_at old c.unwrap-inner.result))) whole ∙ sym step) (c.with_argument_at.ensures.deep e)
