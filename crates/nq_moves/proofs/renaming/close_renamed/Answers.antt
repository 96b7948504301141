use Rattle.std.proofs.Common.{◌∙◌, ℕ, map, get_or, subst}
use Rattle.nq_bank.specs.Content.{terms_at}
use Rattle.nq_proof.specs.Clauses.{distinct}
use Rattle.nq_kernel.proofs.GrowingLemmas.{WorkGrows-refl}
use Rattle.nq_lines.specs.Lines.{LineHasOnly}
use Rattle.nq_rule.proofs.Made.{for_ok}
use Rattle.nq_moves.specs.Found.{goals_at}
use Rattle.nq_goals.specs.Replacing.{exchanged}
use Rattle.nq_goals.specs.Generalizing.{exchange_of}
use Rattle.nq_moves.specs.Renamed.{ComesBack}
use Rattle.nq_moves.proofs.DroppingLemmas.{hold_one}
use Rattle.nq_moves.proofs.RenamedLemmas.{renamed_closes}
use Rattle.nq_moves.proofs.renaming.close_renamed.Goals as goal

pub returns-in_err-pairs-clause-grows : goal.returns-in_err-pairs-clause-grows
returns-in_err-pairs-clause-grows c = WorkGrows-refl c.args.history.now c.args.work.now c.requires.stands

pub returns-clause-line : goal.returns-clause-line
returns-clause-line c =
    let m = c.requires.moved in
    let child = distinct (map (exchanged (exchange_of m.terms m.names)) (terms_at c.args.work.now.bank c.args.goal.now)) in
    let new = c.put_back.new.work in
    let line : ℕ = get_or c.args.lines.now 0 0 in
    let first = hold_one c.args.work.now (goals_at c.args.work.now.bank c.args.moved.now.children.items) child c.args.lines.now 0 m.leads c.requires.lines in
    for_ok c.put_back.result (λ n. ComesBack c.args.work.now new c.in_ok-pairs.pairs.items line n) (λ n. LineHasOnly new n (terms_at c.args.work.now.bank c.args.goal.now))
    (λ n back. renamed_closes c.args.history.now c.args.work.now new c.args.goal.now c.args.moved.now line n m (subst (λ ps. ComesBack c.args.work.now new ps line n) (c.in_ok-pairs.ensures.ok ∙ c.as_slice.ensures.value) back) first) c.put_back.ensures.line
