-- The text of a block.
use Rattle.std.specs.Prelude.{◌≡◌, ℕ, List, ◌++◌, Some}
use Rattle.nq_logtext.specs.Lines.{Line, IsSpellable}
use Rattle.nq_logic.specs.Terms.{Each}
use Rattle.nq_logic.specs.Histories.{History}
use Rattle.nq_log.specs.States.{Claim, start_of}
use Rattle.nq_log.specs.Blocks.{block_claim, lines_text}
use Rattle.nq_drops.specs.Drops.{IsDropped}

-- The text is a block of lines that ends in this claim, in a log with this history so far. Its DROP lines are one for each rule
-- line that the closing line does not cite, directly after the last line that cites it.
pub record IsBlock (h : History) (c : Claim) (text : List ℕ) : Type 0 where
  pub lines : List Line
  pub spellable : Each IsSpellable lines
  pub claims : block_claim (start_of h) lines ≡ Some c
  pub dropped : IsDropped lines
  pub reads : text ≡ lines_text lines

-- such a text was added at the end
pub record AddsBlock (h : History) (c : Claim) (old new : List ℕ) : Type 0 where
  pub text : List ℕ
  pub whole : new ≡ old ++ text
  pub block : IsBlock h c text
