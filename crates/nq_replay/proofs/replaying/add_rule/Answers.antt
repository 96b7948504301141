use Rattle.std.proofs.Common.{◌≡◌, ◌∙◌, ℕ, ap, sym, subst}
use Rattle.std.specs.Prelude.{is_some, IsTrue, length}
use Rattle.std.proofs.lemmas.List.{length-map}
use Rattle.nq_logic.specs.Ground.{symbols_of}
use Rattle.nq_bank.specs.Content.{text_at, term_at, terms_at}
use Rattle.nq_bank.specs.Shells.{texts_at}
use Rattle.nq_history.specs.Events.{events_at}
use Rattle.nq_rule.proofs.Made.{for_ok}
use Rattle.nq_kernel.specs.Meaning.{clause_at, conclusion_at}
use Rattle.nq_kernel.specs.Over.{IsVariable, RuleIsOver}
use Rattle.nq_replay.proofs.UncountedLemmas.{each_shallow}
use Rattle.nq_replay.proofs.UncountedLemmas.{grown_refl}
use Rattle.nq_replay.specs.Tables.{number_in, rule_in, is_in_range}
use Rattle.nq_replay.specs.Replaying.{law_line}
use Rattle.nq_replay.specs.Parts.{lines_held}
use Rattle.nq_replay.proofs.GroundLemmas.{judged, spoken_over, low_each}
use Rattle.nq_replay.proofs.HeldLemmas.{concluded, some_of}
use Rattle.nq_replay.proofs.replaying.add_rule.Goals as goal

pub rule_of-requires-clause-range : goal.rule_of-requires-clause-range
rule_of-requires-clause-range c =
    let bank = c.args.work.now.bank in
    let names = c.args.parts.now.names.items in
    let terms = c.args.parts.now.terms.items in
    let s = some_of _ c.requires.rule in
    let j = judged (texts_at bank names) (terms_at bank terms) (lines_held c.args.work.now c.args.numbers.now) c.args.rule s.0 s.1 in
    subst (λ k. IsTrue (is_in_range k (length terms) c.args.rule)) (length-map names (text_at bank))
    (subst (λ n. IsTrue (is_in_range (length (texts_at bank names)) n c.args.rule)) (length-map terms (term_at bank)) j.range)

pub returns-in_err-made-clause-grows : goal.returns-in_err-made-clause-grows
returns-in_err-made-clause-grows c = grown_refl c.args.history.now c.args.work.now c.requires.stands

pub add_line-requires-clause-over : goal.add_line-requires-clause-over
add_line-requires-clause-over c =
    let work = c.args.work.now in
    let numbers = c.args.numbers.now in
    let h = events_at work.bank c.args.history.now in
    let xs = texts_at work.bank c.args.parts.now.names.items in
    let ts = terms_at work.bank c.args.parts.now.terms.items in
    let s = some_of _ c.requires.rule in
    let j = judged xs ts (lines_held work numbers) c.args.rule s.0 s.1 in
    subst (RuleIsOver IsVariable (symbols_of h)) (sym c.in_ok-made.ensures.rule) (spoken_over (number_in numbers) h (rule_in xs ts c.args.rule) j.spoken)

pub add_line-requires-clause-allowed : goal.add_line-requires-clause-allowed
add_line-requires-clause-allowed c =
    let work = c.args.work.now in
    let s = some_of _ c.requires.rule in
    ap is_some (concluded c.args.history.now work c.args.numbers.now (texts_at work.bank c.args.parts.now.names.items) (terms_at work.bank c.args.parts.now.terms.items) c.args.rule c.in_ok-made.made s.0 c.requires.lines c.in_ok-made.ensures.rule s.1)

pub add_line-requires-clause-shallow : goal.add_line-requires-clause-shallow
add_line-requires-clause-shallow c =
    let work = c.args.work.now in
    let numbers = c.args.numbers.now in
    let xs = texts_at work.bank c.args.parts.now.names.items in
    let ts = terms_at work.bank c.args.parts.now.terms.items in
    let s = some_of _ c.requires.rule in
    let j = judged xs ts (lines_held work numbers) c.args.rule s.0 s.1 in
    each_shallow (conclusion_at work.bank c.args.history.now work.log c.in_ok-made.made) s.0 (concluded c.args.history.now work numbers xs ts c.args.rule c.in_ok-made.made s.0 c.requires.lines c.in_ok-made.ensures.rule s.1) (low_each s.0 j.low)

pub returns-clause-line : goal.returns-clause-line
returns-clause-line c =
    let work = c.args.work.now in
    let numbers = c.args.numbers.now in
    let xs = texts_at work.bank c.args.parts.now.names.items in
    let ts = terms_at work.bank c.args.parts.now.terms.items in
    let s = some_of _ c.requires.rule in
    let P : ℕ → Type 0 = λ n. clause_at c.add_line.new.work.bank c.add_line.new.work.log n ≡ conclusion_at work.bank c.args.history.now work.log c.in_ok-made.made in
    let Q : ℕ → Type 0 = λ n. clause_at c.add_line.new.work.bank c.add_line.new.work.log n ≡ law_line xs ts (lines_held work numbers) c.args.rule in
    for_ok c.add_line.result P Q (λ n e. e ∙ concluded c.args.history.now work numbers xs ts c.args.rule c.in_ok-made.made s.0 c.requires.lines c.in_ok-made.ensures.rule s.1 ∙ sym s.1) c.add_line.ensures.line
