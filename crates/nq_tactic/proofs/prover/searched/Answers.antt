use Rattle.std.proofs.Common.{rules, [], ◌∷◌}
use Rattle.nq_bank.specs.Content.{term_at}
use Rattle.nq_lines.specs.Lines.{LineHasOnly}
use Rattle.nq_tactic.proofs.ProverLemmas.{told_only}
use Rattle.nq_tactic.proofs.prover.searched.Goals as goal

pub returns-in-Ok-Some-clause-told : goal.returns-in-Ok-Some-clause-told
returns-in-Ok-Some-clause-told c =
    let found : LineHasOnly c.seek_lemma.new.work c.in-Ok-Some.line (term_at c.args.work.now.bank c.args.goal ∷ []) = search rules in
    told_only _ _ found
