use Rattle.std.proofs.Common.{List, ◌≤◌, ◌∷◌, [], sym, ap, subst, arith}
use Rattle.nq_history.specs.declared.entry.Entry.{Entry}
use Rattle.nq_kernel.specs.declared.work.Work.{Work}
use Rattle.nq_eval.specs.Lines.{GrowsUncounted}
use Rattle.nq_eval.proofs.LineLemmas.{held_here, line_is, each_shallow, equation_over}
use Rattle.std.specs.Prelude.{is_some}
use Rattle.nq_logic.specs.Ground.{symbols_of}
use Rattle.nq_logic.specs.Sizes.{depth_of}
use Rattle.nq_bank.specs.Content.{term_at}
use Rattle.nq_history.specs.Events.{events_at}
use Rattle.nq_kernel.specs.Over.{IsVariable, IsTermOf}
use Rattle.nq_eval.proofs.ProvedLemmas.{equation_cut}
use Rattle.nq_eval.proofs.proved.cut_equation.Goals as goal

pub add_line-requires-clause-rule : goal.add_line-requires-clause-rule
add_line-requires-clause-rule c =
    c.requires.equation.stands

pub add_line-requires-clause-allowed : goal.add_line-requires-clause-allowed
add_line-requires-clause-allowed c =
    let h : List Entry = c.args.history.now in
    let w0 : Work = c.args.work.now in
    ap is_some (equation_cut h w0 c.args.first c.args.second c.args.e (term_at w0.bank c.args.t) (term_at w0.bank c.args.v) c.requires.equation.denotes c.requires.first c.requires.second)

pub add_line-requires-clause-shallow : goal.add_line-requires-clause-shallow
add_line-requires-clause-shallow c =
    let h : List Entry = c.args.history.now in
    let w0 : Work = c.args.work.now in
    let few : depth_of (term_at w0.bank c.args.t) ≤ 3900 = c.requires.term.shallow in
    each_shallow _ _ (equation_cut h w0 c.args.first c.args.second c.args.e (term_at w0.bank c.args.t) (term_at w0.bank c.args.v) c.requires.equation.denotes c.requires.first c.requires.second) (omega (arith, few), tt)

pub add_line-requires-clause-over : goal.add_line-requires-clause-over
add_line-requires-clause-over c =
    let h : List Entry = c.args.history.now in
    let w0 : Work = c.args.work.now in
    record { terms = (subst (IsTermOf IsVariable (symbols_of (events_at w0.bank h))) (sym c.requires.equation.denotes) (equation_over (events_at w0.bank h) (term_at w0.bank c.args.t) (term_at w0.bank c.args.v) c.requires.term.over c.requires.value.over), tt); names = tt }

pub returns-clause-line : goal.returns-clause-line
returns-clause-line c =
    let h : List Entry = c.args.history.now in
    let w0 : Work = c.args.work.now in
    let w1 : Work = c.add_line.new.work in
    let d1 : GrowsUncounted h w0 w1 = c.add_line.ensures.grows in
    held_here c.add_line.result w0 w1 c.args.t c.args.t (λ t u. t ∷ []) d1.grows.bank c.requires.term.stands c.requires.term.stands (line_is c.add_line.result w1 _ _ (equation_cut h w0 c.args.first c.args.second c.args.e (term_at w0.bank c.args.t) (term_at w0.bank c.args.v) c.requires.equation.denotes c.requires.first c.requires.second) c.add_line.ensures.line)
