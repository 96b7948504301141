use Rattle.std.proofs.Common.{◌∷◌, [], subst}
use Rattle.nq_bank.specs.Content.{term_at}
use Rattle.nq_history.specs.Events.{events_at}
use Rattle.nq_kernel.specs.Growing.{LineHolds}
use Rattle.nq_eval.proofs.LineLemmas.{grown_refl}
use Rattle.nq_evaluated.proofs.ValueLemmas.{false_without, value_true, value_is, term_same}
use Rattle.nq_evaluated.proofs.evaluated.prove_from_value.Goals as goal

pub returns-then-is_falsity-clause-answer : goal.returns-then-is_falsity-clause-answer
returns-then-is_falsity-clause-answer c =
    let bank = c.args.work.now.bank in
    false_without (events_at bank c.args.history.now) (term_at bank c.args.goal) (term_at bank c.args.value) c.is_falsity.result c.requires.value.value c.is_falsity.ensures c.if-is_falsity.true

pub returns-then-is_falsity-clause-grows : goal.returns-then-is_falsity-clause-grows
returns-then-is_falsity-clause-grows c = grown_refl c.args.history.now c.args.work.now c.requires.stands

pub lemma_line-requires : goal.lemma_line-requires
lemma_line-requires c =
    let bank = c.args.work.now.bank in
    record {
      stands = c.requires.stands;
      term = c.requires.goal;
      truth = record { usable = c.requires.value.usable; small = c.requires.value.small; is_true = value_true (term_at bank c.args.value) c.is_falsity.result c.is_falsity.ensures c.if-is_falsity.false };
      line = c.requires.value.line_is;
    }

pub returns-clause-answer : goal.returns-clause-answer
returns-clause-answer c =
    let h = c.args.history.now in
    let old = c.args.work.now in
    let new = c.lemma_line.new.work in
    record {
      value = value_is (events_at old.bank h) (term_at old.bank c.args.goal) (term_at old.bank c.args.value) c.is_falsity.result c.requires.ground c.requires.goal.shallow c.requires.value.value c.is_falsity.ensures c.if-is_falsity.false;
      holds = subst (λ u. LineHolds new c.in_ok-proved.proved (u ∷ [])) (term_same h old new c.args.goal c.lemma_line.ensures.grows.grows c.requires.stands c.requires.goal.stands) c.in_ok-proved.ensures.line;
    }
