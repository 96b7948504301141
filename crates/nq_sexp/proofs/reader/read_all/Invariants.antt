use Rattle.std.proofs.Common.{◌-◌, ◌^◌}
use Rattle.std.specs.Prelude.{IsTrue}
use Rattle.nq_form.specs.Form.{end}
use Rattle.nq_sexp.specs.Tree.{trees}
use Rattle.nq_sexp.specs.Whole.{SoFar}
use Rattle.nq_sexp.proofs.reader.read_all.Given as goal

abbrev pub invariant-loop-forms : goal.invariant-loop-forms
invariant-loop-forms g l = SoFar (g.S.Source.left l.fn.source) l.reader.held (g.S.Source.left l.source) (trees l.forms.items end) × IsTrue l.reader.live

abbrev pub decreases-loop-forms : goal.decreases-loop-forms
decreases-loop-forms g l = 2 ^ 25 - l.reader.held.at
