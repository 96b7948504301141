use Rattle.std.proofs.Common.{◌≡◌, ℕ, Bool, true, false, Option, refl, sym, subst}
use Rattle.std.specs.Prelude.{IfOk}
use Rattle.nq_proof.specs.Clauses.{Clause}
use Rattle.nq_rule.specs.declared.replacing.Side.TheVariants.{Forwards}
use Rattle.nq_rule.proofs.Made.{for_ok}
use Rattle.nq_kernel.specs.declared.rule.Rule.TheVariants.{Replace}
use Rattle.nq_kernel.specs.Meaning.{clause_at, conclusion_at}
use Rattle.nq_quick.specs.Lines.{HasOnly, LineHasOnly}
use Rattle.nq_quick.proofs.LineLemmas.{grown_refl, only_same}
use Rattle.nq_quick.proofs.InstanceLemmas.{only_some}
use Rattle.nq_quick.proofs.PatternLemmas.{replaced_only, replaced_shallow, folded_literals}
use Rattle.nq_quick.proofs.InLemmas.{body_in}
use Rattle.nq_quick.proofs.patterns.add_replaced.Goals as goal

pub add_line-requires-clause-allowed : goal.add_line-requires-clause-allowed
add_line-requires-clause-allowed c =
    only_some _ _ (replaced_only c.args.history.now c.args.work.now true c.args.connective c.args.either 2 c.in_ok-path.path c.args.body refl c.in_ok-path.ensures.items c.requires.either c.requires.body)

pub add_line-requires-clause-shallow : goal.add_line-requires-clause-shallow
add_line-requires-clause-shallow c =
    replaced_shallow c.args.history.now c.args.work.now true c.args.connective _ (replaced_only c.args.history.now c.args.work.now true c.args.connective c.args.either 2 c.in_ok-path.path c.args.body refl c.in_ok-path.ensures.items c.requires.either c.requires.body)

pub returns-in_ok-path-clause-line : goal.returns-in_ok-path-clause-line
returns-in_ok-path-clause-line c =
    let o : Option Clause = conclusion_at c.args.work.now.bank c.args.history.now c.args.work.now.log (Replace c.args.either 2 c.in_ok-path.path c.args.body Forwards) in
    let only : HasOnly o (folded_literals true c.args.connective) = replaced_only c.args.history.now c.args.work.now true c.args.connective c.args.either 2 c.in_ok-path.path c.args.body refl c.in_ok-path.ensures.items c.requires.either c.requires.body in
    let P : ℕ → Type 0 = λ n. clause_at c.add_line.new.work.bank c.add_line.new.work.log n ≡ o in
    let Q : Bool → ℕ → Type 0 = λ b n. LineHasOnly c.add_line.new.work n (folded_literals b c.args.connective) in
    subst (λ b. IfOk c.add_line.result (Q b)) (sym c.if-value.true) (for_ok c.add_line.result P (Q true) (λ n e. only_same _ o (folded_literals true c.args.connective) e only) c.add_line.ensures.line)

pub add_line-requires-else-value-clause-allowed : goal.add_line-requires-else-value-clause-allowed
add_line-requires-else-value-clause-allowed c =
    only_some _ _ (replaced_only c.args.history.now c.args.work.now false c.args.connective c.args.either 1 c.new-path.result c.args.body refl c.new-path.ensures.items c.requires.either c.requires.body)

pub add_line-requires-else-value-clause-shallow : goal.add_line-requires-else-value-clause-shallow
add_line-requires-else-value-clause-shallow c =
    replaced_shallow c.args.history.now c.args.work.now false c.args.connective _ (replaced_only c.args.history.now c.args.work.now false c.args.connective c.args.either 1 c.new-path.result c.args.body refl c.new-path.ensures.items c.requires.either c.requires.body)

pub returns-else-value-clause-line : goal.returns-else-value-clause-line
returns-else-value-clause-line c =
    let o : Option Clause = conclusion_at c.args.work.now.bank c.args.history.now c.args.work.now.log (Replace c.args.either 1 c.new-path.result c.args.body Forwards) in
    let only : HasOnly o (folded_literals false c.args.connective) = replaced_only c.args.history.now c.args.work.now false c.args.connective c.args.either 1 c.new-path.result c.args.body refl c.new-path.ensures.items c.requires.either c.requires.body in
    let P : ℕ → Type 0 = λ n. clause_at c.add_line-else-value.new.work.bank c.add_line-else-value.new.work.log n ≡ o in
    let Q : Bool → ℕ → Type 0 = λ b n. LineHasOnly c.add_line-else-value.new.work n (folded_literals b c.args.connective) in
    subst (λ b. IfOk c.add_line-else-value.result (Q b)) (sym c.if-value.false) (for_ok c.add_line-else-value.result P (Q false) (λ n e. only_same _ o (folded_literals false c.args.connective) e only) c.add_line-else-value.ensures.line)

pub add_line-requires-clause-over : goal.add_line-requires-clause-over
add_line-requires-clause-over c = record { terms = (body_in c.args.work.now.bank c.args.history.now c.args.connective c.args.body c.requires.body, tt); names = tt }

pub add_line-requires-else-value-clause-over : goal.add_line-requires-else-value-clause-over
add_line-requires-else-value-clause-over c = record { terms = (body_in c.args.work.now.bank c.args.history.now c.args.connective c.args.body c.requires.body, tt); names = tt }

pub returns-in_err-path-clause-grows : goal.returns-in_err-path-clause-grows
returns-in_err-path-clause-grows c = grown_refl c.args.history.now c.args.work.now c.requires.stands
