use Rattle.std.proofs.Common.{◌≡◌, false, true, sym, subst}
use Rattle.nq_fragments.specs.Tautologies.{IsSmallTautology}
use Rattle.nq_eval.proofs.LineLemmas.{grown_refl}
use Rattle.nq_hinted.proofs.HintedLemmas.{hinted_nest, nest_hinted}
use Rattle.nq_hinted.proofs.hinted.prove_nest.Goals as goal

pub prove_small-requires-clause-tautology : goal.prove_small-requires-clause-tautology
prove_small-requires-clause-tautology c = c.in_ok-small.ensures.0 c.if-small.true

pub returns-in_err-small-clause-grows : goal.returns-in_err-small-clause-grows
returns-in_err-small-clause-grows c = grown_refl c.args.history.now c.args.work.now c.requires.can.stands

pub returns-in_ok-line-clause-answer : goal.returns-in_ok-line-clause-answer
returns-in_ok-line-clause-answer c = record {
  hinted =
      nest_hinted c.args.history.now c.args.hints.now c.args.work.now c.args.goal c.args.first c.args.rest.now c.requires.literals c.requires.can
      (subst IsSmallTautology c.requires.whole.denotes (c.in_ok-small.ensures.0 c.if-small.true));
  holds = c.in_ok-line.ensures.line;
}

pub returns-else-small-clause-answer : goal.returns-else-small-clause-answer
returns-else-small-clause-answer c =
    λ distinct h.
    let nest = hinted_nest c.args.history.now c.args.hints.now c.args.work.now c.args.goal c.args.first c.args.rest.now c.requires.literals h in
    let defines : c.in_ok-small.small ≡ true = c.in_ok-small.ensures.1 (subst IsSmallTautology (sym c.requires.whole.denotes) nest) in
    let other : c.in_ok-small.small ≡ false = c.if-small.false in
    absurd cc

pub returns-else-small-clause-grows : goal.returns-else-small-clause-grows
returns-else-small-clause-grows c = grown_refl c.args.history.now c.args.work.now c.requires.can.stands
