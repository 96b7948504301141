use Rattle.std.proofs.Common.{◌≡◌, ◌∙◌, ℕ, List, length, ap, ap₂, sym, arith}
use Rattle.std.specs.Prelude.{Option, Some}
use Rattle.nq_proof.specs.Clauses.{Clause}
use Rattle.nq_kernel.specs.Meaning.{clause_at}
use Rattle.nq_replay.specs.Tables.{number_in}
use Rattle.nq_bank.specs.Content.{terms_at}
use Rattle.nq_bank.specs.Shells.{texts_at}
use Rattle.nq_replay.proofs.UncountedLemmas.{grown_refl}
use Rattle.nq_replay.specs.Replaying.{after_rules, last_of}
use Rattle.nq_replay.specs.Parts.{lines_held}
use Rattle.nq_replay.proofs.HeldLemmas.{last_there, some_of}
use Rattle.nq_replay.proofs.replaying.last_line.Goals as goal

pub returns-in_err-numbers-clause-grows : goal.returns-in_err-numbers-clause-grows
returns-in_err-numbers-clause-grows c = grown_refl c.args.history.now c.args.work.now c.requires.stands

pub returns-clause-line : goal.returns-clause-line
returns-clause-line c =
    let old = c.args.work.now in
    let new = c.add_rules.new.work in
    let numbers = c.add_rules.new.numbers.items in
    let F : List ℕ → Option Clause = λ ns. last_of (after_rules (texts_at old.bank c.args.parts.now.names.items) (terms_at old.bank c.args.parts.now.terms.items) (lines_held old ns) c.args.rules.now) in
    let s = some_of (F c.args.known.now) c.requires.rules in
    let same : F c.args.known.now ≡ last_of (Some (lines_held new numbers)) = ap F (sym c.in_ok-numbers.ensures.items) ∙ ap last_of c.in_ok-add_rules.ensures.clauses in
    let there = last_there new numbers s.0 c.in_ok-add_rules.ensures.lines (sym same ∙ s.1) in
    let long : c.len-last.result ≡ length numbers = omega (arith, c.len-last.ensures, c.add_rules.new.numbers.ok.0) in
    let number : c.number_at.result ≡ number_in numbers (length numbers) = c.number_at.ensures ∙ ap₂ number_in c.as_slice.ensures.value long in
    ap (clause_at new.bank new.log) number ∙ there ∙ sym s.1
