use Rattle.std.proofs.Common.{List, ◌∷◌, [], ap}
use Rattle.nq_history.specs.declared.entry.Entry.{Entry}
use Rattle.nq_kernel.specs.declared.work.Work.{Work}
use Rattle.nq_eval.specs.Lines.{GrowsUncounted}
use Rattle.nq_eval.proofs.LineLemmas.{held_here, line_is, each_shallow}
use Rattle.std.specs.Prelude.{is_some}
use Rattle.nq_logic.specs.Words.{not_term, equal_term}
use Rattle.nq_bank.specs.Content.{term_at}
use Rattle.nq_eval.proofs.ProvedLemmas.{backwards_given, backwards_shallow}
use Rattle.nq_eval.proofs.proved.add_backwards.Goals as goal

pub add_line-requires-clause-allowed : goal.add_line-requires-clause-allowed
add_line-requires-clause-allowed c =
    let h : List Entry = c.args.history.now in
    let w0 : Work = c.args.work.now in
    ap is_some (backwards_given h w0 c.args.line c.new-path.result c.args.t (term_at w0.bank c.args.v) c.new-path.ensures.items c.requires.line)

pub add_line-requires-clause-shallow : goal.add_line-requires-clause-shallow
add_line-requires-clause-shallow c =
    let h : List Entry = c.args.history.now in
    let w0 : Work = c.args.work.now in
    each_shallow _ _ (backwards_given h w0 c.args.line c.new-path.result c.args.t (term_at w0.bank c.args.v) c.new-path.ensures.items c.requires.line) (backwards_shallow (term_at w0.bank c.args.t) (term_at w0.bank c.args.v) c.requires.term.shallow c.requires.value.shallow)

pub add_line-requires-clause-over : goal.add_line-requires-clause-over
add_line-requires-clause-over c =
    record { terms = (c.requires.term.over, tt); names = tt }

pub returns-clause-line : goal.returns-clause-line
returns-clause-line c =
    let h : List Entry = c.args.history.now in
    let w0 : Work = c.args.work.now in
    let w1 : Work = c.add_line.new.work in
    let d1 : GrowsUncounted h w0 w1 = c.add_line.ensures.grows in
    held_here c.add_line.result w0 w1 c.args.t c.args.v (λ t u. t ∷ not_term (equal_term t u) ∷ []) d1.grows.bank c.requires.term.stands c.requires.value.stands (line_is c.add_line.result w1 _ _ (backwards_given h w0 c.args.line c.new-path.result c.args.t (term_at w0.bank c.args.v) c.new-path.ensures.items c.requires.line) c.add_line.ensures.line)
