use Rattle.std.proofs.Common.{◌∷◌, List}
use Rattle.std.specs.Prelude.{not}
use Rattle.nq_logic.specs.Terms.{Term}
use Rattle.nq_bank.specs.Content.{term_at}
use Rattle.nq_rule.proofs.Made.{for_ok}
use Rattle.nq_lines.specs.Lines.{CutsTo, LineHasOnly}
use Rattle.nq_part_lines.specs.Decisions.{told}
use Rattle.nq_part_lines.proofs.ChoiceLemmas.{cut_denied, cut_held}
use Rattle.nq_part_lines.proofs.choices.cut_decided.Goals as goal

pub returns-then-known-clause-line : goal.returns-then-known-clause-line
returns-then-known-clause-line c =
    let old = c.args.work.now in
    let new = c.cut.new.work in
    let known = c.args.known in
    let t = term_at old.bank known.term in
    for_ok c.cut.result (CutsTo old new t known.line c.args.line) (λ n. (these : List Term) → LineHasOnly old c.args.line (told (not known.holds) t ∷ these) → LineHasOnly new n these) (λ n k.
    cut_held old new t known.line c.args.line n known.holds c.if-known.true c.requires.known.line k) c.cut.ensures.line

pub returns-else-known-clause-line : goal.returns-else-known-clause-line
returns-else-known-clause-line c =
    let old = c.args.work.now in
    let new = c.cut-else-known.new.work in
    let known = c.args.known in
    let t = term_at old.bank known.term in
    for_ok c.cut-else-known.result (CutsTo old new t c.args.line known.line) (λ n. (these : List Term) → LineHasOnly old c.args.line (told (not known.holds) t ∷ these) → LineHasOnly new n these) (λ n k.
    cut_denied old new t known.line c.args.line n known.holds c.if-known.false c.requires.known.line k) c.cut-else-known.ensures.line
