use Rattle.std.proofs.Common.{refl}
use Rattle.nq_logic.specs.Ground.{symbols_of}
use Rattle.nq_logic.specs.Words.{numeral}
use Rattle.nq_logic.specs.Numerals.{number_of}
use Rattle.nq_logic.specs.Sizes.{tree_size, tree_depth}
use Rattle.nq_form.specs.Machine.{run}
use Rattle.nq_language.specs.Abbreviations.{word_of, word_in}
use Rattle.nq_language.specs.Objects.{value}
use Rattle.nq_language.specs.Translation.{translated}
use Rattle.nq_language.specs.Refusals.{met, translation}
use Rattle.nq_events.specs.Outlines.{outline}
use Rattle.nq_events.specs.Reading.{event_refusal, event_of}
use Rattle.nq_events.specs.OwnRefusals.{own_refusal}
use Rattle.nq_events.proofs.words_refused.Goals as goal

pub returns : goal.returns
unfolding symbols_of run word_of word_in translated value met translation number_of tree_size tree_depth numeral outline event_refusal event_of own_refusal
returns c = record {
  outside = refl;
  left_out = refl;
  skipped = refl;
  booted = refl;
  symbol = refl;
  list = refl;
  unknown = refl;
  empty = refl;
  quoted = refl;
}
