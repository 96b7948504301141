-- A log that is written from its front, block by block.
use Rattle.std.specs.Prelude.{◌≡◌, ℕ, List, [], ◌∷◌, ◌++◌, Some}
use Rattle.nq_logtext.specs.Lines.{Line, IsSpellable}
use Rattle.nq_logic.specs.Terms.{Each}
use Rattle.nq_logic.specs.Histories.{History}
use Rattle.nq_logic.specs.Classes.{without_classes}
use Rattle.nq_log.specs.States.{Claim, after_claim}
use Rattle.nq_log.specs.Logs.{Right, reading_of}
use Rattle.nq_log.specs.Blocks.{blocks_claim, header_line, end_line, lines_text, log_text}
use Rattle.nq_log.specs.Growing.{history_after}
use Rattle.nq_drops.specs.Drops.{IsDropped}
use Rattle.nq_block.specs.Blocks.{IsBlock}

-- the lines of some blocks in order
abbrev pub joined : List (List Line) → List Line
joined [] = []
joined (block ∷ blocks) = block ++ joined blocks

-- the texts of the first line and of the last
abbrev pub header_text : List ℕ
header_text = lines_text (header_line ∷ [])

abbrev pub end_text : List ℕ
end_text = lines_text (end_line ∷ [])

-- The text is that of a right log without its last line: its first line and blocks, with these claims, which make this
-- history. In each block the DROP lines stand where they belong.
pub record IsOpenLog (text : List ℕ) (claims : List Claim) (history : History) : Type 0 where
  pub blocks : List (List Line)
  pub spellable : Each (Each IsSpellable) blocks
  pub reads : text ≡ lines_text (header_line ∷ joined blocks)
  pub claimed : blocks_claim [] blocks ≡ Some claims
  pub dropped : Each IsDropped blocks
  pub makes : history_after [] claims ≡ history

-- a log begins with its first line
abbrev pub LogBegins : Type 0
LogBegins = IsOpenLog header_text [] []

-- A block may follow. It may be one of a history with rule classes: a log does not tell them.
abbrev pub BlockFollows : Type 0
BlockFollows = (text more : List ℕ) (claims : List Claim) (h g : History) (c : Claim) → IsOpenLog text claims h → IsBlock g c more → without_classes g ≡ h →
    IsOpenLog (text ++ more) (claims ++ (c ∷ [])) (after_claim h c)

-- A right log with these claims: the first line, blocks with these claims, and the last line. In each block the DROP lines stand
-- where they belong.
pub record IsRightLog (claims : List Claim) (log : List ℕ) : Type 0 where
  pub reads : reading_of log ≡ record { claims = claims; ending = Right }
  pub blocks : List (List Line)
  pub whole : log ≡ log_text blocks
  pub claimed : blocks_claim [] blocks ≡ Some claims
  pub dropped : Each IsDropped blocks

-- with its last line it is a right log, with the claims of its blocks in their order
abbrev pub LogEnds : Type 0
LogEnds = (text : List ℕ) (claims : List Claim) (h : History) → IsOpenLog text claims h → IsRightLog claims (text ++ end_text)
