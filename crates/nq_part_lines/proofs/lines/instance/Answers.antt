use Rattle.std.proofs.Common.{◌≡◌, ◌∙◌, ℕ, refl, sym, ap, subst}
use Rattle.std.specs.Prelude.{is_some}
use Rattle.nq_clause.specs.Substitution.{substitution_at}
use Rattle.nq_rule.proofs.Made.{for_ok}
use Rattle.nq_kernel.specs.declared.rule.Rule.TheVariants.{Instance}
use Rattle.nq_kernel.specs.Meaning.{clause_at, conclusion_at}
use Rattle.nq_kernel.proofs.HeldLines.{instance_held}
use Rattle.nq_lines.specs.Instances.{InstancesTo}
use Rattle.nq_lines.proofs.InstanceLemmas.{instance_only}
use Rattle.nq_replay.specs.Uncounted.{IsShallow}
use Rattle.nq_part_lines.proofs.lines.instance.Goals as goal

pub add_line-requires-clause-over : goal.add_line-requires-clause-over
add_line-requires-clause-over c = record { terms = c.requires.pairs.terms; names = c.requires.pairs.names }

pub add_line-requires-clause-allowed : goal.add_line-requires-clause-allowed
add_line-requires-clause-allowed c =
    let work = c.args.work.now in
    ap is_some (instance_held c.args.history.now work (Instance c.args.line c.args.pairs) c.args.line (substitution_at work.bank c.args.pairs.items) refl c.requires.line c.requires.pairs.distinct)

pub add_line-requires-clause-shallow : goal.add_line-requires-clause-shallow
add_line-requires-clause-shallow c =
    let work = c.args.work.now in
    subst IsShallow (sym (instance_held c.args.history.now work (Instance c.args.line c.args.pairs) c.args.line (substitution_at work.bank c.args.pairs.items) refl c.requires.line c.requires.pairs.distinct)) c.requires.shallow

pub returns-clause-line : goal.returns-clause-line
returns-clause-line c =
    let work = c.args.work.now in
    let new = c.add_line.new.work in
    let s = substitution_at work.bank c.args.pairs.items in
    let P : ℕ → Type 0 = λ n. clause_at new.bank new.log n ≡ conclusion_at work.bank c.args.history.now work.log (Instance c.args.line c.args.pairs) in
    let e = instance_held c.args.history.now work (Instance c.args.line c.args.pairs) c.args.line s refl c.requires.line c.requires.pairs.distinct in
    for_ok c.add_line.result P (InstancesTo work new s c.args.line) (λ n f these h. instance_only work new s c.args.line n these (f ∙ e) h) c.add_line.ensures.line
