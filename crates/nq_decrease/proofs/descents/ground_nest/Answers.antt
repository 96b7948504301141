use Rattle.std.proofs.Common.{Option, ℕ, []}
use Rattle.std.specs.Prelude.{MatchOption}
use Rattle.nq_bank.specs.Content.{term_at, terms_at}
use Rattle.nq_rule.proofs.Made.{for_ok}
use Rattle.nq_history.specs.Events.{events_at}
use Rattle.nq_arith.specs.Structural.{IsStructuralNest}
use Rattle.nq_replay.proofs.UncountedLemmas.{grown_refl}
use Rattle.nq_decrease.specs.Levels.{shell_of}
use Rattle.nq_decrease.specs.Nests.{IsNestOf, IsNestLine, IsShellNestLine}
use Rattle.nq_decrease.proofs.NestLemmas.{no_structural, structural_nest}
use Rattle.nq_decrease.proofs.OwnPlaceLemmas.{option_both}
use Rattle.nq_decrease.proofs.OwnShellLemmas.{ground_found}
use Rattle.nq_decrease.proofs.descents.ground_nest.Goals as goal

pub returns-in-None-clause-answer : goal.returns-in-None-clause-answer
returns-in-None-clause-answer c =
    let b = c.args.work.now.bank in
    no_structural (terms_at b c.args.tests.now) (term_at b c.args.whole) (term_at b c.args.nest) c.in-None.ensures

pub returns-in-None-clause-grows : goal.returns-in-None-clause-grows
returns-in-None-clause-grows c = grown_refl c.args.history.now c.args.work.now c.requires.stands

pub returns-in-Some-clause-answer : goal.returns-in-Some-clause-answer
returns-in-Some-clause-answer c =
    let b = c.args.work.now.bank in
    let h = events_at b c.args.history.now in
    let s = shell_of c.in-Some.kind in
    let tests = terms_at b c.args.tests.now in
    let x = term_at b c.args.whole in
    let t = term_at b c.args.nest in
    let new = c.descend.new.work in
    let P : Option ℕ → Type 0 = λ r. MatchOption r (IsNestOf s tests x t → ⊥) (IsNestLine new s tests x t) in
    let Q : Option ℕ → Type 0 = λ r. MatchOption r (IsStructuralNest [] x tests t → ⊥) (IsShellNestLine h new tests x t) in
    for_ok c.descend.result P Q (λ r f.
    option_both r (IsNestOf s tests x t → ⊥) (IsStructuralNest [] x tests t → ⊥) (IsNestLine new s tests x t) (IsShellNestLine h new tests x t) (λ none n. none (structural_nest c.in-Some.kind tests x t c.in-Some.ensures n)) (λ n line. ground_found h new tests x t c.in-Some.kind n line) f) c.descend.ensures.answer
