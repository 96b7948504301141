use Rattle.std.proofs.Common.{Bool, true, sym, subst}
use Rattle.std.specs.Prelude.{IfOk}
use Rattle.nq_bank.specs.Content.{term_at}
use Rattle.nq_quick.specs.Choices.{branch_of}
use Rattle.nq_quick.specs.Lines.{if_at}
use Rattle.nq_quick.proofs.ChoiceLemmas.{ChoosesTo, join_first, join_second}
use Rattle.nq_quick.proofs.choices.add_true_choice.Goals as goal

pub returns-then-test-clause-line : goal.returns-then-test-clause-line
returns-then-test-clause-line c =
    let p = term_at c.args.work.now.bank c.args.parts.test in
    let x = term_at c.args.work.now.bank c.args.parts.first in
    let y = term_at c.args.work.now.bank c.args.parts.second in
    subst (λ (b : Bool). IfOk c.add_join.result (ChoosesTo c.args.work.now c.add_join.new.work b true p (term_at c.args.work.now.bank (branch_of c.args.parts b)) (if_at c.args.work.now.bank c.args.parts) c.args.test_line c.args.branch_line)) (sym c.if-test.true)
    (join_first c.args.work.now c.add_join.new.work c.add_join.result p x y c.args.test_line c.args.branch_line c.add_join.ensures.line)

pub returns-else-test-clause-line : goal.returns-else-test-clause-line
returns-else-test-clause-line c =
    let p = term_at c.args.work.now.bank c.args.parts.test in
    let x = term_at c.args.work.now.bank c.args.parts.first in
    let y = term_at c.args.work.now.bank c.args.parts.second in
    subst (λ (b : Bool). IfOk c.add_join-else-test.result (ChoosesTo c.args.work.now c.add_join-else-test.new.work b true p (term_at c.args.work.now.bank (branch_of c.args.parts b)) (if_at c.args.work.now.bank c.args.parts) c.args.test_line c.args.branch_line)) (sym c.if-test.false)
    (join_second c.args.work.now c.add_join-else-test.new.work c.add_join-else-test.result p x y c.args.test_line c.args.branch_line c.add_join-else-test.ensures.line)
