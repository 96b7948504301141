use Rattle.std.proofs.Common.{◌≡◌, ℕ, ◌∷◌, [], subst}
use Rattle.nq_logic.specs.Terms.{Term, Function}
use Rattle.nq_logic.specs.Words.{equal_term, not_term}
use Rattle.nq_logic.proofs.Symbols.{equal_symbol}
use Rattle.nq_bank.specs.Content.{term_at, text_at}
use Rattle.nq_bank.proofs.Growth.{term_at-grown}
use Rattle.nq_rule.proofs.Made.{for_ok}
use Rattle.nq_history.specs.Events.{events_at}
use Rattle.nq_lines.specs.Lines.{CutsTo, LineHasOnly}
use Rattle.nq_lines.proofs.LineLemmas.{line_grown, only_stands}
use Rattle.nq_lines.proofs.TermLemmas.{same_term_grown}
use Rattle.nq_replay.proofs.UncountedLemmas.{grown_trans}
use Rattle.nq_decrease.specs.OwnLevels.{DeniesEquation, unequal_test}
use Rattle.nq_decrease.proofs.OwnGrownLemmas.{small_grown}
use Rattle.nq_decrease.proofs.OwnLevelLemmas.{denied}
use Rattle.nq_decrease.proofs.own_levels.without_base.Goals as goal

pub denial_line-requires-clause-term : goal.denial_line-requires-clause-term
denial_line-requires-clause-term c = small_grown c.args.history.now c.args.work.now c.base_term.new.work c.base_term.ensures.grows.grows c.requires.stands c.args.y c.requires.term

pub returns-in_err-denied-clause-grows : goal.returns-in_err-denied-clause-grows
returns-in_err-denied-clause-grows c = grown_trans c.args.history.now c.args.work.now c.base_term.new.work c.denial_line.new.work c.base_term.ensures.grows c.denial_line.ensures.grows

pub cut_by-requires-clause-first : goal.cut_by-requires-clause-first
cut_by-requires-clause-first c =
    let both = grown_trans c.args.history.now c.args.work.now c.base_term.new.work c.denial_line.new.work c.base_term.ensures.grows c.denial_line.ensures.grows in
    line_grown c.args.history.now c.args.work.now c.denial_line.new.work c.args.line c.requires.stands both.grows c.requires.line

pub cut_by-requires-clause-second : goal.cut_by-requires-clause-second
cut_by-requires-clause-second c = only_stands c.denial_line.new.work c.in_ok-denied.denied _ c.in_ok-denied.ensures.line

pub cut_by-requires-clause-symbol : goal.cut_by-requires-clause-symbol
cut_by-requires-clause-symbol c = equal_symbol (events_at c.denial_line.new.work.bank c.args.history.now)

pub cut_by-requires-clause-left : goal.cut_by-requires-clause-left
cut_by-requires-clause-left c =
    let both = grown_trans c.args.history.now c.args.work.now c.base_term.new.work c.denial_line.new.work c.base_term.ensures.grows c.denial_line.ensures.grows in
    small_grown c.args.history.now c.args.work.now c.denial_line.new.work both.grows c.requires.stands c.args.y c.requires.term

pub cut_by-requires-clause-right : goal.cut_by-requires-clause-right
cut_by-requires-clause-right c = small_grown c.args.history.now c.base_term.new.work c.denial_line.new.work c.denial_line.ensures.grows.grows c.base_term.ensures.grows.grows.stands c.in_ok-base.base c.in_ok-base.ensures.small

pub returns-clause-line : goal.returns-clause-line
returns-clause-line c =
    let h = c.args.history.now in
    let old = c.args.work.now in
    let one = c.base_term.new.work in
    let two = c.denial_line.new.work in
    let three = c.cut_by.new.work in
    let y = term_at old.bank c.args.y in
    let u = Function (text_at old.bank c.args.b) in
    let base = c.in_ok-base.base in
    let constant = c.in_ok-base.ensures.constant in
    let both = grown_trans h old one two c.base_term.ensures.grows c.denial_line.ensures.grows in
    let y_one : term_at one.bank c.args.y ≡ y = same_term_grown h old one c.args.y c.base_term.ensures.grows.grows c.requires.term.inside in
    let y_two : term_at two.bank c.args.y ≡ y = same_term_grown h old two c.args.y both.grows c.requires.term.inside in
    let u_two : term_at two.bank base ≡ term_at one.bank base = term_at-grown one.bank two.bank base c.denial_line.ensures.grows.grows.bank constant.stands in
    let F : Term → Term → Type 0 = λ v w. LineHasOnly two c.in_ok-denied.denied (not_term (equal_term v w) ∷ not_term (unequal_test c.args.guard v w) ∷ []) in
    let denial = subst (λ w. F y w) constant.denotes (subst (λ v. F v (term_at one.bank base)) y_one c.in_ok-denied.ensures.line) in
    let G : Term → Term → ℕ → Type 0 = λ v w. CutsTo two three (equal_term v w) c.args.line c.in_ok-denied.denied in
    for_ok c.cut_by.result (G (term_at two.bank c.args.y) (term_at two.bank base)) (DeniesEquation old three c.args.guard y u c.args.line) (λ n k.
    denied h old two three c.args.guard y u c.args.line c.in_ok-denied.denied n c.requires.stands both.grows denial
    (subst (λ w. G y w n) constant.denotes (subst (λ w. G y w n) u_two (subst (λ v. G v (term_at two.bank base) n) y_two k)))) c.cut_by.ensures.line

pub returns-clause-grows : goal.returns-clause-grows
returns-clause-grows c =
    let both = grown_trans c.args.history.now c.args.work.now c.base_term.new.work c.denial_line.new.work c.base_term.ensures.grows c.denial_line.ensures.grows in
    grown_trans c.args.history.now c.args.work.now c.denial_line.new.work c.cut_by.new.work both c.cut_by.ensures.grows
