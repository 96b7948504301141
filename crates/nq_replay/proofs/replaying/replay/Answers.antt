use Rattle.std.proofs.Common.{◌≡◌, ◌∙◌, ℕ, sym, subst}
use Rattle.std.specs.Prelude.{IsSome, Option}
use Rattle.nq_bank.specs.Content.{terms_at}
use Rattle.nq_bank.specs.Shells.{texts_at}
use Rattle.nq_proof.specs.Clauses.{Clause}
use Rattle.nq_rule.proofs.Made.{for_ok}
use Rattle.nq_kernel.specs.Meaning.{clause_at}
use Rattle.nq_replay.proofs.UncountedLemmas.{grown_trans}
use Rattle.nq_replay.specs.Replaying.{after_rules, last_of, law_clause}
use Rattle.nq_replay.specs.Parts.{lines_held}
use Rattle.nq_replay.proofs.HeldLemmas.{stand_grown, table_clause, is_table_of}
use Rattle.nq_replay.proofs.replaying.replay.Goals as goal

pub returns-clause-grows : goal.returns-clause-grows
returns-clause-grows c = grown_trans c.args.history.now c.args.work.now c.parts_of.new.work c.last_line.new.work c.parts_of.ensures.grows c.last_line.ensures.grows

pub last_line-requires-clause-rules : goal.last_line-requires-clause-rules
last_line-requires-clause-rules c =
    let e = table_clause c.args.history.now c.args.work.now c.parts_of.new.work c.args.law c.in_ok-parts.parts c.args.known.now c.requires.stands c.parts_of.ensures.grows.grows c.requires.known c.in_ok-parts.ensures.parts c.requires.law in
    subst IsSome (sym e) c.requires.law

pub returns-clause-line : goal.returns-clause-line
returns-clause-line c =
    let e = table_clause c.args.history.now c.args.work.now c.parts_of.new.work c.args.law c.in_ok-parts.parts c.args.known.now c.requires.stands c.parts_of.ensures.grows.grows c.requires.known c.in_ok-parts.ensures.parts c.requires.law in
    let line : ℕ → Option Clause = λ n. clause_at c.last_line.new.work.bank c.last_line.new.work.log n in
    let o : Option Clause = last_of (after_rules (texts_at c.parts_of.new.work.bank c.in_ok-parts.parts.names.items) (terms_at c.parts_of.new.work.bank c.in_ok-parts.parts.terms.items) (lines_held c.parts_of.new.work c.args.known.now) c.args.law.rules.now) in
    for_ok c.last_line.result (λ n. line n ≡ o) (λ n. line n ≡ law_clause c.args.law (lines_held c.args.work.now c.args.known.now)) (λ n f. f ∙ e) c.last_line.ensures.line

pub parts_of-requires-clause-table : goal.parts_of-requires-clause-table
parts_of-requires-clause-table c = is_table_of c.args.law (lines_held c.args.work.now c.args.known.now) c.requires.law

pub last_line-requires-clause-lines : goal.last_line-requires-clause-lines
last_line-requires-clause-lines c = stand_grown c.args.history.now c.args.work.now c.parts_of.new.work c.args.known.now c.requires.stands c.parts_of.ensures.grows.grows c.requires.known
