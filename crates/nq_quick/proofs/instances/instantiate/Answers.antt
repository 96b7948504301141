use Rattle.std.proofs.Common.{◌≡◌, ℕ, Option}
use Rattle.nq_bank.specs.Content.{term_at}
use Rattle.nq_proof.specs.Clauses.{Clause}
use Rattle.nq_rule.proofs.Made.{for_ok}
use Rattle.nq_kernel.specs.declared.rule.Rule.TheVariants.{Instance}
use Rattle.nq_kernel.specs.Meaning.{clause_at, conclusion_at}
use Rattle.nq_quick.specs.Lines.{LineHasOnly}
use Rattle.nq_quick.specs.Patterns.{instance_literals}
use Rattle.nq_quick.proofs.LineLemmas.{grown_refl, only_same}
use Rattle.nq_quick.proofs.InstanceLemmas.{instance_only, instance_shallow, only_some, pairs_stand}
use Rattle.nq_quick.proofs.InLemmas.{instance_in}
use Rattle.nq_quick.proofs.instances.instantiate.Goals as goal

pub add_line-requires-clause-rule : goal.add_line-requires-clause-rule
add_line-requires-clause-rule c = pairs_stand c.args.work.now.bank c.in_ok-pairs.pairs.items c.args.first c.args.second c.in_ok-pairs.ensures.items c.requires.first c.requires.second

pub add_line-requires-clause-allowed : goal.add_line-requires-clause-allowed
add_line-requires-clause-allowed c =
    only_some _ _ (instance_only c.args.history.now c.args.work.now c.args.case c.args.line c.in_ok-pairs.pairs c.args.first c.args.second c.in_ok-pairs.ensures.items c.requires.first c.requires.second c.requires.line)

pub add_line-requires-clause-shallow : goal.add_line-requires-clause-shallow
add_line-requires-clause-shallow c =
    instance_shallow c.args.history.now c.args.work.now c.args.case c.args.line c.in_ok-pairs.pairs c.args.first c.args.second c.args.t c.is_sound.ensures c.requires.whole c.requires.room
    (instance_only c.args.history.now c.args.work.now c.args.case c.args.line c.in_ok-pairs.pairs c.args.first c.args.second c.in_ok-pairs.ensures.items c.requires.first c.requires.second c.requires.line)

pub returns-clause-line : goal.returns-clause-line
returns-clause-line c =
    let o : Option Clause = conclusion_at c.args.work.now.bank c.args.history.now c.args.work.now.log (Instance c.args.line c.in_ok-pairs.pairs) in
    let these : Clause = instance_literals c.args.case (term_at c.args.work.now.bank c.args.first.term) (term_at c.args.work.now.bank c.args.second.term) in
    let P : ℕ → Type 0 = λ n. clause_at c.add_line.new.work.bank c.add_line.new.work.log n ≡ o in
    let Q : ℕ → Type 0 = λ n. LineHasOnly c.add_line.new.work n these in
    for_ok c.add_line.result P Q (λ n e. only_same _ o these e (instance_only c.args.history.now c.args.work.now c.args.case c.args.line c.in_ok-pairs.pairs c.args.first c.args.second c.in_ok-pairs.ensures.items c.requires.first c.requires.second c.requires.line)) c.add_line.ensures.line

pub add_line-requires-clause-over : goal.add_line-requires-clause-over
add_line-requires-clause-over c = instance_in c.args.work.now.bank c.args.history.now c.args.line c.in_ok-pairs.pairs c.args.first c.args.second c.args.t c.args.case.connective c.in_ok-pairs.ensures.items c.requires.first c.requires.second c.requires.whole.denotes c.requires.over

pub returns-in_err-pairs-clause-grows : goal.returns-in_err-pairs-clause-grows
returns-in_err-pairs-clause-grows c = grown_refl c.args.history.now c.args.work.now c.requires.stands
