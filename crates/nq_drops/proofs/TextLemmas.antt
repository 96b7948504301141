-- Lines that are added to a text, one after the other.
use Rattle.std.proofs.Math.Seq.{drop-cons}
use Rattle.std.proofs.Common.{◌≡◌, ℕ, suc, ◌+◌, ◌<◌, ◌≤◌, drop, get_or, add-one, append-nil, Bool, true, false, List, [], ◌∷◌, ◌++◌, map, length, refl, sym, ap, ◌∙◌, append_assoc, arith, if◌then◌else◌}
use Rattle.std.specs.Prelude.{Option, Some, None}
use Rattle.nq_logtext.specs.Lines.{Line, IsSpellable, spelling}
use Rattle.nq_logtext.specs.Reading.{line_of}
use Rattle.nq_logtext.specs.declared.word.Word.{Word}
use Rattle.nq_logtext.specs.declared.word.Word.TheVariants as word
use Rattle.nq_logtext.proofs.LineLaws.{line_again}
use Rattle.nq_logic.specs.Terms.{Each}
use Rattle.nq_log.specs.Blocks.{HasNoLineFeed, lines_text}
use Rattle.nq_log.specs.Logs.{Cut, cut_lines}
use Rattle.nq_log.proofs.Texts.{cut_text, cut_line, no_cut}
use Rattle.nq_log.proofs.Growing.{more_text_law}
use Rattle.nq_drops.specs.Uses.{uses, cited, is_rule, is_induction}
use Rattle.nq_drops.specs.Drops.{drop_line, dropping, is_drop, without_drops}
use Rattle.nq_drops.specs.Texts.{kept_line, lines_found}

-- more lines behind those that were added
pub put_more : (old new whole : List ℕ) (lines rest : List Line) → new ≡ old ++ lines_text lines → old ++ lines_text (lines ++ rest) ≡ whole → new ++ lines_text rest ≡ whole
put_more old new whole lines rest added e =
    ap (λ t. t ++ lines_text rest) added ∙ append_assoc old (lines_text lines) (lines_text rest) ∙ ap (λ t. old ++ t) (sym (more_text_law lines rest)) ∙ e

-- the lines behind a rule line, and behind another
pub dropping_rule : (ended : ℕ → List ℕ) (n : ℕ) (line : Line) (lines : List Line) → is_rule line.word ≡ true → dropping ended n (line ∷ lines) ≡ line ∷ (map drop_line (ended (suc n)) ++ dropping ended (suc n) lines)
dropping_rule ended n line lines e = ap (λ b. if b then line ∷ (map drop_line (ended (suc n)) ++ dropping ended (suc n) lines) else line ∷ dropping ended n lines) e

pub dropping_other : (ended : ℕ → List ℕ) (n : ℕ) (line : Line) (lines : List Line) → is_rule line.word ≡ false → dropping ended n (line ∷ lines) ≡ line ∷ dropping ended n lines
dropping_other ended n line lines e = ap (λ b. if b then line ∷ (map drop_line (ended (suc n)) ++ dropping ended (suc n) lines) else line ∷ dropping ended n lines) e

-- the lines of a text that lines spell
found_all : (lines : List Line) → Each IsSpellable lines → lines_found (map spelling lines) ≡ without_drops lines
found_all [] all = refl
found_all (line ∷ lines) all =
    ap (λ (o : Option Line). kept_line o (lines_found (map spelling lines))) (line_again line all.0) ∙ ap (λ rest. if is_drop line.word then rest else line ∷ rest) (found_all lines all.1)

pub text_found : (text : List ℕ) (lines : List Line) → Each IsSpellable lines → text ≡ lines_text lines → lines_found (cut_lines text).0 ≡ without_drops lines
text_found text lines all e = ap (λ t. lines_found (cut_lines t).0) e ∙ ap (λ (c : Cut). lines_found c.0) (cut_text lines all) ∙ found_all lines all

-- one line more of a text
pub kept_more : (before : List Line) (o : Option Line) (rest : List Line) → (before ++ kept_line o []) ++ rest ≡ before ++ kept_line o rest
kept_more before o rest = append_assoc before (kept_line o []) rest ∙ ap (λ ls. before ++ ls) (by_line o)
  where
    by_drop : (line : Line) (b : Bool) → (if b then [] else line ∷ []) ++ rest ≡ (if b then rest else line ∷ rest)
    by_drop line true = refl
    by_drop line false = refl

    by_line : (o : Option Line) → kept_line o [] ++ rest ≡ kept_line o rest
    by_line None = refl
    by_line (Some line) = by_drop line (is_drop line.word)

induction_is_rule : (w : Word) → is_induction w ≡ true → is_rule w ≡ true
induction_is_rule word.Induct e = refl
induction_is_rule w e = absurd cc

-- there is the use of the closing line
uses_some : (waiting : List ℕ) (lines : List Line) → 1 ≤ length (uses waiting lines)
uses_some waiting [] = omega arith
uses_some waiting (line ∷ lines) = by_word (is_induction line.word) (is_rule line.word) (λ waiting. uses_some waiting lines)
  where
    by_word : (i r : Bool) → ((waiting : List ℕ) → 1 ≤ length (uses waiting lines)) →
        1 ≤ length (if i then (waiting ++ cited line) ∷ uses [] lines else (if r then cited line ∷ uses waiting lines else uses (waiting ++ cited line) lines))
    by_word true r again = omega arith
    by_word false true again = omega arith
    by_word false false again = again (waiting ++ cited line)

-- only the ends of the rule lines count
pub dropping_same : (f g : ℕ → List ℕ) (n : ℕ) (waiting : List ℕ) (lines : List Line) → ((m : ℕ) → suc m ≤ n + length (uses waiting lines) → f m ≡ g m) → dropping f n lines ≡ dropping g n lines
dropping_same f g n waiting [] same = refl
dropping_same f g n waiting (line ∷ lines) same = by_word (is_induction line.word) (is_rule line.word) refl refl (λ n waiting same. dropping_same f g n waiting lines same) same
  where
    differ : (b : Bool) → b ≡ false → b ≡ true → ⊥
    differ b f t = cc

    dropped : f (suc n) ≡ g (suc n) → dropping f (suc n) lines ≡ dropping g (suc n) lines → line ∷ (map drop_line (f (suc n)) ++ dropping f (suc n) lines) ≡ line ∷ (map drop_line (g (suc n)) ++ dropping g (suc n) lines)
    dropped here rest = λ i. line ∷ (map drop_line (here i) ++ rest i)

    by_word : (i r : Bool) → is_induction line.word ≡ i → is_rule line.word ≡ r →
        ((n : ℕ) (waiting : List ℕ) → ((m : ℕ) → suc m ≤ n + length (uses waiting lines) → f m ≡ g m) → dropping f n lines ≡ dropping g n lines) →
        ((m : ℕ) → suc m ≤ n + length (if i then (waiting ++ cited line) ∷ uses [] lines else (if r then cited line ∷ uses waiting lines else uses (waiting ++ cited line) lines)) → f m ≡ g m) →
        (if r then line ∷ (map drop_line (f (suc n)) ++ dropping f (suc n) lines) else line ∷ dropping f n lines) ≡ (if r then line ∷ (map drop_line (g (suc n)) ++ dropping g (suc n) lines) else line ∷ dropping g n lines)
    by_word true false ei er again same = absurd (differ (is_rule line.word) er (induction_is_rule line.word ei))
    by_word true true ei er again same =
        let some = uses_some [] lines in
        dropped (same (suc n) (omega (arith, some))) (again (suc n) [] (λ m low. same m (omega (arith, low))))
    by_word false true ei er again same =
        let some = uses_some waiting lines in
        dropped (same (suc n) (omega (arith, some))) (again (suc n) waiting (λ m low. same m (omega (arith, low))))
    by_word false false ei er again same = ap (λ rest. line ∷ rest) (again n (waiting ++ cited line) same)

-- a rule line with the lines that end there
pub rule_put : (ended : ℕ → List ℕ) (n : ℕ) (line : Line) (rest : List Line) (out mid new : List ℕ) → is_rule line.word ≡ true → mid ≡ out ++ lines_text (line ∷ []) → new ≡ mid ++ lines_text (map drop_line (ended (n + 1))) →
    new ++ lines_text (dropping ended (n + 1) rest) ≡ out ++ lines_text (dropping ended n (line ∷ rest))
rule_put ended n line rest out mid new rule first second =
    let whole = out ++ lines_text (dropping ended n (line ∷ rest)) in
    let more : List Line = map drop_line (ended (n + 1)) ++ dropping ended (n + 1) rest in
    put_more mid new whole (map drop_line (ended (n + 1))) (dropping ended (n + 1) rest) second
    (put_more out mid whole (line ∷ []) more first
    (ap (λ m. out ++ lines_text (line ∷ (map drop_line (ended m) ++ dropping ended m rest))) (add-one n) ∙ ap (λ ls. out ++ lines_text ls) (sym (dropping_rule ended n line rest rule))))

pub drop_next : {X : Type 0} (xs : List X) (i : ℕ) (x : X) → i < length xs → x ≡ get_or xs i x → drop i xs ≡ x ∷ drop (i + 1) xs
drop_next xs i x below is = drop-cons xs i x below ∙ ap (λ y. y ∷ drop (suc i) xs) (sym is) ∙ ap (λ n. x ∷ drop n xs) (sym (add-one i))

-- one line more was read
pub line_more : (before after whole : List Line) (o : Option Line) (rest line next : List ℕ) → HasNoLineFeed line → rest ≡ line ++ (10 ∷ next) → o ≡ line_of line → after ≡ before ++ kept_line o [] →
    before ++ lines_found (cut_lines rest).0 ≡ whole → after ++ lines_found (cut_lines next).0 ≡ whole
line_more before after whole o rest line next free cut read kept so_far =
    ap (λ ls. ls ++ lines_found (cut_lines next).0) kept
    ∙ kept_more before o (lines_found (cut_lines next).0)
    ∙ ap (λ (o : Option Line). before ++ kept_line o (lines_found (cut_lines next).0)) read
    ∙ ap (λ (c : Cut). before ++ lines_found c.0) (sym (cut_line line next free))
    ∙ ap (λ t. before ++ lines_found (cut_lines t).0) (sym cut)
    ∙ so_far

pub all_read : (before whole : List Line) (rest : List ℕ) → HasNoLineFeed rest → before ++ lines_found (cut_lines rest).0 ≡ whole → before ≡ whole
all_read before whole rest free so_far = sym (append-nil before) ∙ ap (λ (c : Cut). before ++ lines_found c.0) (sym (no_cut rest free)) ∙ so_far
