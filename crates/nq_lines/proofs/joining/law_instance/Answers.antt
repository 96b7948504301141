use Rattle.std.proofs.Common.{subst}
use Rattle.nq_logic.specs.Terms.{substituted}
use Rattle.nq_logic.specs.Words.{variable}
use Rattle.nq_rule.proofs.Made.{for_ok}
use Rattle.nq_kernel.specs.declared.work.Work.{Work}
use Rattle.nq_kernel.specs.Growing.{WorkGrows}
use Rattle.nq_kernel.proofs.GrowingLemmas.{WorkGrows-trans}
use Rattle.nq_lines.specs.Lines.{LineHasOnly}
use Rattle.nq_lines.proofs.LineLemmas.{only_grown, only_stands}
use Rattle.std.specs.Prelude.{map}
use Rattle.nq_clause.specs.Substitution.{substitution_at}
use Rattle.nq_lines.specs.Instances.{InstancesTo}
use Rattle.nq_lines.specs.Branches.{HasJoined, joined_literals}
use Rattle.nq_lines.proofs.joining.law_instance.Goals as goal

pub instance-requires-clause-line : goal.instance-requires-clause-line
instance-requires-clause-line c = only_stands c.law_pairs.new.work c.args.law _ (only_grown c.args.history.now c.args.work.now c.law_pairs.new.work c.args.law _ c.requires.stands c.law_pairs.ensures.grows c.requires.law)

pub returns-clause-grows : goal.returns-clause-grows
returns-clause-grows c = (WorkGrows-trans c.args.history.now c.args.work.now c.law_pairs.new.work c.instance.new.work c.law_pairs.ensures.grows c.instance.ensures.grows)

pub returns-clause-line : goal.returns-clause-line
returns-clause-line c =
    let h = c.args.history.now in
    let w0 : Work = c.args.work.now in
    let w1 : Work = c.law_pairs.new.work in
    let w2 : Work = c.instance.new.work in
    let g01 : WorkGrows h w0 w1 = c.law_pairs.ensures.grows in
    let generic = joined_literals (variable "P") (variable "X") (variable "Y") (variable "Q") (variable "U") (variable "V") in
    for_ok c.instance.result (InstancesTo w1 w2 (substitution_at w1.bank c.in_ok-pairs.pairs.items) c.args.law) (HasJoined w0 w2 c.args.before c.args.after) (λ n f.
    subst (λ s. LineHasOnly w2 n (map (substituted s) generic)) c.in_ok-pairs.ensures.pairs (f generic (only_grown h w0 w1 c.args.law generic c.requires.stands g01 c.requires.law))) c.instance.ensures.line
