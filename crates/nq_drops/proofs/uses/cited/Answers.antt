use Rattle.std.proofs.Common.{◌∷◌, sym, ap, ◌∙◌}
use Rattle.nq_logtext.specs.Views.{view}
use Rattle.nq_drops.specs.Uses.{cited}
use Rattle.nq_drops.proofs.UseLemmas.{numbers_back, if_ok}
use Rattle.nq_drops.proofs.uses.cited.Goals as goal

pub returns-in-Measure : goal.returns-in-Measure
returns-in-Measure c =
    if_ok c.shown.result (λ ls e. e ∙ ap (λ ns. c.in-Measure.ordinal ∷ ns) (c.as_slice.ensures.value ∙ sym (numbers_back c.in-Measure.lines.items)) ∙ ap (λ l. cited (view l)) (sym c.in-Measure.is)) c.shown.ensures
