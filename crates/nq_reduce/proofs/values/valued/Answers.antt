use Rattle.std.proofs.Common.{sym, subst}
use Rattle.std.specs.Prelude.{IfSome}
use Rattle.nq_bank.specs.Content.{term_at}
use Rattle.nq_kernel.proofs.GrowingLemmas.{WorkGrows-trans}
use Rattle.nq_lines.proofs.TermLemmas.{same_term_grown}
use Rattle.nq_reduce.specs.Values.{IsValueOf}
use Rattle.nq_reduce.proofs.RewritingLemmas.{can_grown, told_before}
use Rattle.nq_reduce.proofs.HeldLemmas.{unchanged_after}
use Rattle.nq_reduce.proofs.values.valued.Goals as goal

pub value_shown-requires-clause-can : goal.value_shown-requires-clause-can
value_shown-requires-clause-can c = can_grown c.args.history.now c.args.work.now c.value_in.new.work c.value_in.ensures.grows c.args.assumed.now c.args.t c.requires.can

pub value_shown-requires-clause-value : goal.value_shown-requires-clause-value
value_shown-requires-clause-value c = subst (λ u. IsValueOf c.args.history.now c.value_in.new.work u c.in-Some.v) (sym (same_term_grown c.args.history.now c.args.work.now c.value_in.new.work c.args.t c.value_in.ensures.grows c.requires.can.term)) (subst (λ o. IfSome o (IsValueOf c.args.history.now c.value_in.new.work (term_at c.args.work.now.bank c.args.t))) c.in-Some.is c.in_ok-v.ensures.value)

pub returns-in-Some-clause-ok : goal.returns-in-Some-clause-ok
returns-in-Some-clause-ok c = told_before c.args.history.now c.args.assumed.now c.args.work.now c.value_in.new.work c.value_shown.new.work c.args.t c.value_shown.result c.value_in.ensures.grows c.requires.can c.value_shown.ensures.ok

pub returns-in-Some-clause-grows : goal.returns-in-Some-clause-grows
returns-in-Some-clause-grows c = (WorkGrows-trans c.args.history.now c.args.work.now c.value_in.new.work c.value_shown.new.work c.value_in.ensures.grows c.value_shown.ensures.grows)

pub returns-in-None-clause-ok : goal.returns-in-None-clause-ok
returns-in-None-clause-ok c = unchanged_after c.args.history.now c.args.work.now c.value_in.new.work c.args.assumed.now c.args.t c.unchanged.result c.value_in.ensures.grows c.requires.can c.unchanged.ensures.term c.unchanged.ensures.line
