use Rattle.std.proofs.Common.{Bool, sym, subst}
use Rattle.std.specs.Prelude.{IfOk}
use Rattle.nq_bank.specs.Content.{term_at}
use Rattle.nq_quick.specs.Choices.{branch_of}
use Rattle.nq_quick.specs.Lines.{if_at}
use Rattle.nq_quick.proofs.ChoiceLemmas.{ChoosesTo}
use Rattle.nq_quick.proofs.choices.add_choice.Goals as goal

pub add_false_choice-requires-clause-room : goal.add_false_choice-requires-clause-room
add_false_choice-requires-clause-room c = c.requires.room c.if-value.false

pub returns-then-value-clause-line : goal.returns-then-value-clause-line
returns-then-value-clause-line c =
    subst (λ (b : Bool). IfOk c.add_true_choice.result (ChoosesTo c.args.work.now c.add_true_choice.new.work c.args.test b (term_at c.args.work.now.bank c.args.parts.test) (term_at c.args.work.now.bank (branch_of c.args.parts c.args.test)) (if_at c.args.work.now.bank c.args.parts) c.args.test_line c.args.branch_line)) (sym c.if-value.true) c.add_true_choice.ensures.line

pub returns-else-value-clause-line : goal.returns-else-value-clause-line
returns-else-value-clause-line c =
    subst (λ (b : Bool). IfOk c.add_false_choice.result (ChoosesTo c.args.work.now c.add_false_choice.new.work c.args.test b (term_at c.args.work.now.bank c.args.parts.test) (term_at c.args.work.now.bank (branch_of c.args.parts c.args.test)) (if_at c.args.work.now.bank c.args.parts) c.args.test_line c.args.branch_line)) (sym c.if-value.false) c.add_false_choice.ensures.line
