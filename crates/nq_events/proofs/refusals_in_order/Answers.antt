use Rattle.std.proofs.Common.{refl}
use Rattle.nq_logic.specs.Ground.{symbols_of}
use Rattle.nq_logic.specs.Words.{numeral}
use Rattle.nq_logic.specs.Numerals.{number_of}
use Rattle.nq_logic.specs.Sizes.{tree_size, tree_depth}
use Rattle.nq_form.specs.Machine.{run}
use Rattle.nq_language.specs.Abbreviations.{word_of, word_in}
use Rattle.nq_language.specs.Objects.{value}
use Rattle.nq_language.specs.Translation.{translated}
use Rattle.nq_language.specs.Refusals.{met, translation}
use Rattle.nq_events.specs.Outlines.{outline}
use Rattle.nq_events.specs.Reading.{event_refusal, event_of}
use Rattle.nq_events.specs.OwnRefusals.{own_refusal}
use Rattle.nq_events.proofs.refusals_in_order.Goals as goal

pub returns : goal.returns
unfolding symbols_of run word_of word_in translated value met translation number_of tree_size tree_depth numeral outline event_refusal event_of own_refusal
returns c = record {
  shapes = refl;
  shape_before_term = refl;
  meta = refl;
  dotted_meta = refl;
  body_before_measure = refl;
  measure_before_own = refl;
  term_before_hint = refl;
  term_of_hint_before_hint = refl;
  hint_before_own = refl;
}
