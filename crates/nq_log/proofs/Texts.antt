-- The text of blocks that end in claims is a right log.
use Rattle.std.proofs.Common.{◌≡◌, ℕ, ◌+◌, Bool, true, false, nat_eq, List, [], ◌∷◌, ◌++◌, map, length, refl, ap, ◌∙◌}
use Rattle.std.specs.Prelude.{Option, Some, None}
use Rattle.nq_logtext.specs.Lines.{Line, IsSpellable, spelling}
use Rattle.nq_logtext.specs.Reading.{◌>>=◌, line_of}
use Rattle.nq_logtext.proofs.Cuts.{IsFree}
use Rattle.nq_logtext.proofs.LineLaws.{line_again, line_free}
use Rattle.nq_logic.specs.Terms.{Each}
use Rattle.nq_logic.proofs.Lists.{each_append}
use Rattle.nq_logic.specs.Histories.{History}
use Rattle.nq_log.specs.States.{State, Claim, after_claim, start_of, Step, Ends}
use Rattle.nq_log.specs.Logs.{step, Right, Reading, with_claim, Cut, with_byte, cut_lines, read_lines, read_log, reading_by}
use Rattle.nq_log.specs.Blocks.{block_claim, blocks_claim, header_line, end_line, lines_text, lines_of, log_text, OneLog}
use Rattle.nq_log.proofs.Options.{nothing_found, found_same}
use Rattle.nq_log.proofs.Blocks.{by_first, read_so, Agrees, block_read, all_agree}

-- ---- a text of lines is cut into them

pub cut_line : (bytes rest : List ℕ) → IsFree 10 bytes → ◌≡◌ {A = Cut} (cut_lines (bytes ++ (10 ∷ rest))) (bytes ∷ (cut_lines rest).0, (cut_lines rest).1)
cut_line [] rest free = refl
cut_line (b ∷ bytes) rest free = by_byte (nat_eq b 10) free.0 ∙ ap (with_byte b) (cut_line bytes rest free.1)
  where
    by_byte : (t : Bool) → t ≡ false →
        ◌≡◌ {A = Cut} (elim t as (λ b. List (List ℕ) × List ℕ) [ true ↦ ([] ∷ (cut_lines (bytes ++ (10 ∷ rest))).0, (cut_lines (bytes ++ (10 ∷ rest))).1) | false ↦ with_byte b (cut_lines (bytes ++ (10 ∷ rest))) ]) (with_byte b (cut_lines (bytes ++ (10 ∷ rest))))
    by_byte true e = absurd cc
    by_byte false e = refl

pub no_cut : (bytes : List ℕ) → IsFree 10 bytes → ◌≡◌ {A = Cut} (cut_lines bytes) ([], bytes)
no_cut [] free = refl
no_cut (b ∷ bytes) free = by_byte (nat_eq b 10) free.0 ∙ ap (with_byte b) (no_cut bytes free.1)
  where
    by_byte : (t : Bool) → t ≡ false →
        ◌≡◌ {A = Cut} (elim t as (λ b. List (List ℕ) × List ℕ) [ true ↦ ([] ∷ (cut_lines bytes).0, (cut_lines bytes).1) | false ↦ with_byte b (cut_lines bytes) ]) (with_byte b (cut_lines bytes))
    by_byte true e = absurd cc
    by_byte false e = refl

pub cut_text : (lines : List Line) → Each IsSpellable lines → ◌≡◌ {A = Cut} (cut_lines (lines_text lines)) (map spelling lines, [])
cut_text [] all = refl
cut_text (line ∷ lines) all =
    cut_line (spelling line) (lines_text lines) (line_free 10 refl refl line all.0) ∙ ap (λ (c : Cut). let d : Cut = (spelling line ∷ c.0, c.1) in d) (cut_text lines all.1)

-- ---- the blocks are read one after the other

map_append : (xs ys : List Line) → map spelling (xs ++ ys) ≡ map spelling xs ++ map spelling ys
map_append [] ys = refl
map_append (x ∷ xs) ys = ap (λ (zs : List (List ℕ)). spelling x ∷ zs) (map_append xs ys)

abbrev right_reading : List Claim → Reading
right_reading claims = record { claims = claims; ending = Right }

blocks_read : (next : State → Line → Option Step) → Agrees next end_line → (n : ℕ) (h : History) (blocks : List (List Line)) (claims : List Claim) → Each (Each IsSpellable) blocks →
    Each (Each (Agrees next)) blocks → blocks_claim h blocks ≡ Some claims → read_lines next n (start_of h) (map spelling (lines_of blocks)) [] ≡ right_reading claims
blocks_read next last n h [] claims all agreed e = read_so next n (start_of h) (spelling end_line) [] [] end_line (Some Ends) tt refl (last (start_of h)) ∙ ap right_reading (found_same [] claims e)
blocks_read next last n h (block ∷ blocks) claims all agreed e =
    by_claim (λ c claims e. blocks_read next last (n + length block) (after_claim h c) blocks claims all.1 agreed.1 e) (block_claim (start_of h) block) refl e
  where
    by_rest : (c : Claim) → block_claim (start_of h) block ≡ Some c →
        ((claims : List Claim) → blocks_claim (after_claim h c) blocks ≡ Some claims → read_lines next (n + length block) (start_of (after_claim h c)) (map spelling (lines_of blocks)) [] ≡ right_reading claims) →
        (o : Option (List Claim)) → blocks_claim (after_claim h c) blocks ≡ o → elim o as (λ o. Option (List Claim)) [ None ↦ None | Some claims ↦ Some (c ∷ claims) ] ≡ Some claims →
        read_lines next n (start_of h) (map spelling (block ++ lines_of blocks)) [] ≡ right_reading claims
    by_rest c f on None g e = absurd (nothing_found claims e)
    by_rest c f on (Some others) g e =
        ap (λ (ls : List (List ℕ)). read_lines next n (start_of h) ls []) (map_append block (lines_of blocks))
        ∙ (block_read next n (start_of h) block (map spelling (lines_of blocks)) [] c all.0 agreed.0 f
        ∙ (ap (with_claim c) (on others g) ∙ ap right_reading (found_same (c ∷ others) claims e)))

    by_claim : ((c : Claim) (claims : List Claim) → blocks_claim (after_claim h c) blocks ≡ Some claims → read_lines next (n + length block) (start_of (after_claim h c)) (map spelling (lines_of blocks)) [] ≡ right_reading claims) →
        (o : Option Claim) → block_claim (start_of h) block ≡ o →
        elim o as (λ o. Option (List Claim)) [ None ↦ None | Some c ↦ elim (blocks_claim (after_claim h c) blocks) as (λ o. Option (List Claim)) [ None ↦ None | Some claims ↦ Some (c ∷ claims) ] ] ≡ Some claims →
        read_lines next n (start_of h) (map spelling (block ++ lines_of blocks)) [] ≡ right_reading claims
    by_claim on None f e = absurd (nothing_found claims e)
    by_claim on (Some c) f e = by_rest c f (on c) (blocks_claim (after_claim h c) blocks) refl e

all_spellable : (blocks : List (List Line)) → Each (Each IsSpellable) blocks → Each IsSpellable (lines_of blocks)
all_spellable [] all = (tt, tt)
all_spellable (block ∷ blocks) all = each_append IsSpellable block (lines_of blocks) all.0 (all_spellable blocks all.1)

-- the header is read
header_read : line_of (spelling header_line) ≡ Some header_line
header_read = line_again header_line (tt, tt)

-- the text of blocks is read so by each reading that agrees about their lines and the last
pub log_read : (next : State → Line → Option Step) (blocks : List (List Line)) (claims : List Claim) → Agrees next end_line → Each (Each IsSpellable) blocks → Each (Each (Agrees next)) blocks →
    blocks_claim [] blocks ≡ Some claims → reading_by next (log_text blocks) ≡ right_reading claims
log_read next blocks claims last all agreed e =
    ap (λ (c : Cut). read_log next c.0 c.1) (cut_text (header_line ∷ lines_of blocks) ((tt, tt), all_spellable blocks all))
    ∙ (ap (by_first next (map spelling (lines_of blocks)) []) header_read ∙ blocks_read next last 2 [] blocks claims all agreed e)

all_agree_in : (blocks : List (List Line)) → Each (Each (Agrees step)) blocks
all_agree_in [] = tt
all_agree_in (block ∷ blocks) = (all_agree block, all_agree_in blocks)

pub one_log_law : OneLog
one_log_law blocks claims all e = log_read step blocks claims (λ s. refl) all (all_agree_in blocks) e
