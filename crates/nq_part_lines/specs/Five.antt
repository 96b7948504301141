-- Terms in the places of five variables.
use Rattle.std.specs.Prelude.{ℕ, List}
use Rattle.nq_logic.specs.Terms.{Term}
use Rattle.nq_bank.specs.Content.{Content, term_at}
use Rattle.nq_history.specs.declared.entry.Entry.{Entry}
use Rattle.nq_kernel.specs.declared.work.Work.{Work}
use Rattle.nq_part_lines.specs.Pairs.{five_pairs}
use Rattle.nq_part_lines.specs.Small.{IsSmallIn}
use Rattle.nq_part_lines.specs.declared.five.Five.{Five}

abbrev pub five_at : Content → Five → List (List ℕ × Term)
five_at bank f = five_pairs (term_at bank f.a) (term_at bank f.b) (term_at bank f.x) (term_at bank f.y) (term_at bank f.z)

-- each of the terms is small
pub record AreSmall (history : List Entry) (work : Work) (f : Five) : Type 0 where
  pub a : IsSmallIn history work f.a
  pub b : IsSmallIn history work f.b
  pub x : IsSmallIn history work f.x
  pub y : IsSmallIn history work f.y
  pub z : IsSmallIn history work f.z
