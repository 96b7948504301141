use Rattle.std.proofs.Common.{sym, ◌∙◌}
use Rattle.nq_bank.specs.Content.{text_at, term_at}
use Rattle.nq_print.proofs.TextLemmas.{then_piece, no_piece, tail-nil, tail-single}
use Rattle.nq_print.proofs.quoting.write_dotted_single.Goals as goal

pub returns-then-branch : goal.returns-then-branch
returns-then-branch c = no_piece _ _ (tail-nil _ (sym c.in_ok-is_nil_call.ensures ∙ c.if-branch.true))

pub returns : goal.returns
returns c =
    let text = tail-single (text_at c.args.bank.now c.args.f) (term_at c.args.bank.now c.args.argument) c.requires.single (sym c.in_ok-is_nil_call.ensures ∙ c.if-branch.false) in
    then_piece _ _ _ _ _ _ _ c.in_ok-write_text.ensures text c.write_single.ensures
