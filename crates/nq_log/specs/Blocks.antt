-- The lines of a block, and the claim that they end in.
use Rattle.std.specs.Prelude.{◌≡◌, ℕ, ◌+◌, nat_eq, false, List, [], ◌∷◌, ◌++◌, map, length, Option, Some, None}
use Rattle.std.specs.List.{AllByRecursion}
use Rattle.nq_logtext.specs.Lines.{Line, IsSpellable, spelling}
use Rattle.nq_logic.specs.Terms.{Each}
use Rattle.nq_logic.specs.Histories.{History}
use Rattle.nq_log.specs.States.{State, Claim, after_claim, start_of, Continues, Claims, Ends}
use Rattle.nq_logtext.specs.Fields.{version}
use Rattle.nq_logtext.specs.declared.line.Version.TheVariants.{First}
use Rattle.nq_logtext.specs.declared.word.Word.TheVariants as word
use Rattle.nq_log.specs.Logs.{step, Right, with_claim, Cut, cut_lines, read_lines, reading_of}

-- the claim, where no line follows
abbrev pub claim_at_end : List Line → Claim → Option Claim
claim_at_end [] c = Some c
claim_at_end (line ∷ lines) c = None

-- the claim of the last of these lines, where each of them is allowed and no other ends the block
abbrev pub block_claim : State → List Line → Option Claim
block_claim s [] = None
block_claim s (line ∷ lines) =
    elim (step s line) as (λ o. Option Claim) [
      | None ↦ None
      | Some taken ↦ elim taken as (λ t. Option Claim) [ Continues block ↦ block_claim (record s { block = block }) lines | Claims c ↦ claim_at_end lines c | Ends ↦ None ]
    ]

-- the claims of some blocks in order
abbrev pub blocks_claim : History → List (List Line) → Option (List Claim)
blocks_claim h [] = Some []
blocks_claim h (block ∷ blocks) =
    elim (block_claim (start_of h) block) as (λ o. Option (List Claim)) [
      | None ↦ None
      | Some c ↦ elim (blocks_claim (after_claim h c) blocks) as (λ o. Option (List Claim)) [ None ↦ None | Some claims ↦ Some (c ∷ claims) ]
    ]

abbrev pub HasNoLineFeed : List ℕ → Type 0
HasNoLineFeed bytes = AllByRecursion (λ b. nat_eq b 10 ≡ false) bytes

-- a text is cut into lines from its front
abbrev pub OneCut : Type 0
OneCut = (bytes rest : List ℕ) → HasNoLineFeed bytes → ◌≡◌ {A = Cut} (cut_lines (bytes ++ (10 ∷ rest))) (bytes ∷ (cut_lines rest).0, (cut_lines rest).1)

abbrev pub NoCut : Type 0
NoCut = (bytes : List ℕ) → HasNoLineFeed bytes → ◌≡◌ {A = Cut} (cut_lines bytes) ([], bytes)

-- a block's lines are read as its claim, and the lines after it are read from the state after the claim
abbrev pub OneBlock : Type 0
OneBlock = (n : ℕ) (s : State) (block : List Line) (lines : List (List ℕ)) (rest : List ℕ) (c : Claim) → Each IsSpellable block → block_claim s block ≡ Some c →
    read_lines step n s (map spelling block ++ lines) rest ≡ with_claim c (read_lines step (n + length block) (start_of (after_claim s.history c)) lines rest)

-- the first line of a log, and the last
abbrev pub header_line : Line
header_line = record { word = word.Header; fields = version First ∷ [] }

abbrev pub end_line : Line
end_line = record { word = word.End; fields = [] }

abbrev pub lines_text : List Line → List ℕ
lines_text [] = []
lines_text (line ∷ lines) = spelling line ++ (10 ∷ lines_text lines)

-- the lines of these blocks, and the last line
abbrev pub lines_of : List (List Line) → List Line
lines_of [] = end_line ∷ []
lines_of (block ∷ blocks) = block ++ lines_of blocks

-- the text of a log of these blocks
abbrev pub log_text : List (List Line) → List ℕ
log_text blocks = lines_text (header_line ∷ lines_of blocks)

-- the text of blocks that end in claims is a right log with these claims
abbrev pub OneLog : Type 0
OneLog = (blocks : List (List Line)) (claims : List Claim) → Each (Each IsSpellable) blocks → blocks_claim [] blocks ≡ Some claims →
    reading_of (log_text blocks) ≡ record { claims = claims; ending = Right }
