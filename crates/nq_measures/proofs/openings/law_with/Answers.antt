use Rattle.std.proofs.Common.{◌≡◌, ℕ, Option}
use Rattle.nq_bank.specs.Content.{term_at}
use Rattle.nq_proof.specs.Clauses.{Clause}
use Rattle.nq_rule.proofs.Made.{for_ok}
use Rattle.nq_kernel.specs.declared.rule.Rule.TheVariants.{Instance}
use Rattle.nq_kernel.specs.Meaning.{clause_at, conclusion_at}
use Rattle.nq_lines.specs.Lines.{LineHasOnly}
use Rattle.nq_replay.proofs.UncountedLemmas.{grown_refl}
use Rattle.nq_lines.proofs.LineLemmas.{only_same}
use Rattle.nq_measures.proofs.OpeningLemmas.{opened, law_only, law_allowed, law_shallow, law_stand, law_in}
use Rattle.nq_measures.proofs.openings.law_with.Goals as goal

pub add_line-requires-clause-rule : goal.add_line-requires-clause-rule
add_line-requires-clause-rule c = law_stand c.args.history.now c.args.work.now c.args.law c.in_ok-pairs.pairs c.args.first c.args.second c.in_ok-pairs.ensures.items c.requires.first c.requires.second

pub add_line-requires-clause-allowed : goal.add_line-requires-clause-allowed
add_line-requires-clause-allowed c = law_allowed c.args.history.now c.args.work.now c.args.law c.in_ok-pairs.pairs c.args.first c.args.second c.in_ok-pairs.ensures.items c.requires.first c.requires.second c.requires.law

pub add_line-requires-clause-shallow : goal.add_line-requires-clause-shallow
add_line-requires-clause-shallow c = law_shallow c.args.history.now c.args.work.now c.args.law c.in_ok-pairs.pairs c.args.first c.args.second c.in_ok-pairs.ensures.items c.requires.first c.requires.second c.args.denied c.is_sound.ensures c.requires.denied c.requires.law

pub add_line-requires-clause-over : goal.add_line-requires-clause-over
add_line-requires-clause-over c = law_in c.args.history.now c.args.work.now c.args.law c.in_ok-pairs.pairs c.args.first c.args.second c.in_ok-pairs.ensures.items c.requires.first c.requires.second c.requires.first_over c.requires.second_over

pub returns-clause-line : goal.returns-clause-line
returns-clause-line c =
    let o : Option Clause = conclusion_at c.args.work.now.bank c.args.history.now c.args.work.now.log (Instance c.args.law c.in_ok-pairs.pairs) in
    let these : Clause = opened (term_at c.args.work.now.bank c.args.first.term) (term_at c.args.work.now.bank c.args.second.term) in
    let P : ℕ → Type 0 = λ n. clause_at c.add_line.new.work.bank c.add_line.new.work.log n ≡ o in
    let Q : ℕ → Type 0 = λ n. LineHasOnly c.add_line.new.work n these in
    for_ok c.add_line.result P Q (λ n e. only_same _ o these e (law_only c.args.history.now c.args.work.now c.args.law c.in_ok-pairs.pairs c.args.first c.args.second c.in_ok-pairs.ensures.items c.requires.first c.requires.second c.requires.law)) c.add_line.ensures.line

pub returns-in_err-pairs-clause-grows : goal.returns-in_err-pairs-clause-grows
returns-in_err-pairs-clause-grows c = grown_refl c.args.history.now c.args.work.now c.requires.stands
