use Rattle.std.proofs.Common.{refl}
use Rattle.nq_logic.specs.Ground.{symbols_of}
use Rattle.nq_logic.specs.Words.{numeral}
use Rattle.nq_logic.specs.Numerals.{number_of}
use Rattle.nq_logic.specs.Sizes.{tree_size, tree_depth}
use Rattle.nq_form.specs.Machine.{run}
use Rattle.nq_language.specs.Abbreviations.{word_of, word_in}
use Rattle.nq_language.specs.Objects.{value}
use Rattle.nq_language.specs.Translation.{translated}
use Rattle.nq_language.specs.Refusals.{met, translation}
use Rattle.nq_events.specs.Outlines.{outline}
use Rattle.nq_events.specs.Reading.{event_refusal, event_of}
use Rattle.nq_events.specs.OwnRefusals.{own_refusal}
use Rattle.nq_events.proofs.hints_refused.Goals as goal

pub returns : goal.returns
unfolding symbols_of run word_of word_in translated value met translation number_of tree_size tree_depth numeral outline event_refusal event_of own_refusal
returns c = record {
  unknown = refl;
  twice = refl;
  twice_read = refl;
  dotted = refl;
  shape = refl;
  no_arguments = refl;
  one_argument = refl;
  one_term = refl;
  used = refl;
  not_usable = refl;
  replaced_constant = refl;
  replaced_twice = refl;
  no_event = refl;
  expanded = refl;
  not_defined = refl;
  suggests = refl;
  suggests_twice = refl;
  no_variable = refl;
  not_recursive = refl;
  inside = refl;
  functions = refl;
  no_function = refl;
  switched_off = refl;
}
