-- How a log is read line by line, and block by block.
use Rattle.std.proofs.Common.{◌≡◌, ℕ, Bool, true, false, suc, ◌+◌, List, [], ◌∷◌, ◌++◌, map, length, refl, ap, ◌∙◌, arith}
use Rattle.std.specs.Prelude.{Option, Some, None}
use Rattle.nq_logtext.specs.Lines.{Line, IsSpellable, spelling}
use Rattle.nq_logtext.specs.Reading.{line_of}
use Rattle.nq_logtext.proofs.LineLaws.{line_again, line_takes}
use Rattle.nq_logic.specs.Terms.{Each}
use Rattle.nq_log.specs.States.{Block, State, Claim, after_claim, start_of, Step, Continues, Claims, Ends}
use Rattle.nq_log.specs.Logs.{step, Malformed, NotAllowed, wrong, with_claim, Reading, is_header, read_lines, read_end}
use Rattle.nq_log.specs.Blocks.{claim_at_end, block_claim, OneBlock}
use Rattle.nq_log.proofs.Options.{nothing_found, found_same}

-- the reading by what the line is, and by what it leads to
abbrev pub by_taken : (State → Line → Option Step) → ℕ → State → List (List ℕ) → List ℕ → Option Step → Reading
by_taken next n s lines rest o = elim o as (λ o. Reading) [
  | None ↦ wrong n NotAllowed
  | Some taken ↦ elim taken as (λ t. Reading) [
    | Continues block ↦ read_lines next (suc n) (record s { block = block }) lines rest
    | Claims claim ↦ with_claim claim (read_lines next (suc n) (start_of (after_claim s.history claim)) lines rest)
    | Ends ↦ read_end (suc n) lines rest
  ]
]

abbrev pub by_line : (State → Line → Option Step) → ℕ → State → List (List ℕ) → List ℕ → Option Line → Reading
by_line next n s lines rest o = elim o as (λ o. Reading) [ None ↦ wrong n Malformed | Some line ↦ by_taken next n s lines rest (next s line) ]

pub read_again : (bytes : List ℕ) (line : Line) → IsSpellable line → bytes ≡ spelling line → line_of bytes ≡ Some line
read_again bytes line w e = ap line_of e ∙ line_again line w

-- a text that spells no line is not read
pub not_read : (bytes : List ℕ) → ((line : Line) → IsSpellable line → bytes ≡ spelling line → ⊥) → line_of bytes ≡ None
not_read bytes none = by_found (line_of bytes) refl
  where
    by_found : (o : Option Line) → line_of bytes ≡ o → o ≡ None
    by_found None e = refl
    by_found (Some line) e = let taken = line_takes bytes line e in absurd (none line taken.0 taken.1)

pub read_so : (next : State → Line → Option Step) (n : ℕ) (s : State) (bytes : List ℕ) (lines : List (List ℕ)) (rest : List ℕ) (line : Line) (o : Option Step) →
    IsSpellable line → bytes ≡ spelling line → next s line ≡ o → read_lines next n s (bytes ∷ lines) rest ≡ by_taken next n s lines rest o
read_so next n s bytes lines rest line o w e t = ap (by_line next n s lines rest) (read_again bytes line w e) ∙ ap (by_taken next n s lines rest) t

one_more : (n : ℕ) → suc n ≡ n + 1
one_more n = omega arith

-- the reading of a log by its first line
abbrev pub by_header : (State → Line → Option Step) → List (List ℕ) → List ℕ → Bool → Reading
by_header next lines rest b = elim b as (λ b. Reading) [ true ↦ read_lines next 2 (start_of []) lines rest | false ↦ wrong 1 NotAllowed ]

abbrev pub by_first : (State → Line → Option Step) → List (List ℕ) → List ℕ → Option Line → Reading
by_first next lines rest o = elim o as (λ o. Reading) [ None ↦ wrong 1 Malformed | Some line ↦ by_header next lines rest (is_header line.word) ]

-- the line leads where it leads in a log
abbrev pub Agrees : (State → Line → Option Step) → Line → Type 0
Agrees next line = (s : State) → next s line ≡ step s line

-- a block is read as its claim by each reading that agrees about its lines
pub block_read : (next : State → Line → Option Step) (n : ℕ) (s : State) (block : List Line) (lines : List (List ℕ)) (rest : List ℕ) (c : Claim) →
    Each IsSpellable block → Each (Agrees next) block → block_claim s block ≡ Some c →
    read_lines next n s (map spelling block ++ lines) rest ≡ with_claim c (read_lines next (n + length block) (start_of (after_claim s.history c)) lines rest)
block_read next n s [] lines rest c w a e = absurd (nothing_found c e)
block_read next n s (line ∷ block) lines rest c w a e = by_step (λ b. block_read next (suc n) (record s { block = b }) block lines rest c w.1 a.1) (step s line) refl e
  where
    longer : (m k : ℕ) → suc m + k ≡ m + suc k
    longer m k = omega arith

    at_end : (block : List Line) (d : Claim) → claim_at_end block d ≡ Some c →
        with_claim d (read_lines next (suc n) (start_of (after_claim s.history d)) (map spelling block ++ lines) rest) ≡ with_claim c (read_lines next (n + length (line ∷ block)) (start_of (after_claim s.history c)) lines rest)
    at_end [] d e =
        ap (λ (m : ℕ). with_claim d (read_lines next m (start_of (after_claim s.history d)) lines rest)) (one_more n)
        ∙ ap (λ (d : Claim). with_claim d (read_lines next (n + 1) (start_of (after_claim s.history d)) lines rest)) (found_same d c e)
    at_end (second ∷ block) d e = absurd (nothing_found c e)

    by_step : ((b : Block) → block_claim (record s { block = b }) block ≡ Some c →
        read_lines next (suc n) (record s { block = b }) (map spelling block ++ lines) rest ≡ with_claim c (read_lines next (suc n + length block) (start_of (after_claim s.history c)) lines rest)) →
        (o : Option Step) → step s line ≡ o →
        elim o as (λ o. Option Claim) [
          | None ↦ None
          | Some taken ↦ elim taken as (λ t. Option Claim) [ Continues block' ↦ block_claim (record s { block = block' }) block | Claims d ↦ claim_at_end block d | Ends ↦ None ]
        ] ≡ Some c →
        read_lines next n s (spelling line ∷ (map spelling block ++ lines)) rest ≡ with_claim c (read_lines next (n + length (line ∷ block)) (start_of (after_claim s.history c)) lines rest)
    by_step on None t f = absurd (nothing_found c f)
    by_step on (Some (Continues b)) t f =
        read_so next n s (spelling line) (map spelling block ++ lines) rest line (Some (Continues b)) w.0 refl (a.0 s ∙ t)
        ∙ (on b f ∙ ap (λ (m : ℕ). with_claim c (read_lines next m (start_of (after_claim s.history c)) lines rest)) (longer n (length block)))
    by_step on (Some (Claims d)) t f = read_so next n s (spelling line) (map spelling block ++ lines) rest line (Some (Claims d)) w.0 refl (a.0 s ∙ t) ∙ at_end block d f
    by_step on (Some Ends) t f = absurd (nothing_found c f)

pub all_agree : (block : List Line) → Each (Agrees step) block
all_agree [] = tt
all_agree (line ∷ block) = (λ s. refl, all_agree block)

pub one_block_law : OneBlock
one_block_law n s block lines rest c w e = block_read step n s block lines rest c w (all_agree block) e
