-- The DROP lines after a line.
use Rattle.std.proofs.Common.{◌≡◌, ℕ, zero, suc, ◌+◌, ◌<◌, ◌≤◌, Bool, true, false, ◌||◌, ◌++◌, Option, Some, None, List, [], ◌∷◌, map, length, refl, sym, ap, ◌∙◌, arith, if◌then◌else◌}
use Rattle.std.specs.Prelude.{nat_eq, nat_lt, is_none, slice_get}
use Rattle.std.proofs.lemmas.Bool.{ltb-true, ltb-false}
use Rattle.std.proofs.lemmas.Bool.Decides.{Decides-eqb}
use Rattle.nq_logtext.specs.Reading.{◌>>=◌}
use Rattle.nq_logtext.specs.Lines.{Line}
use Rattle.nq_proof.specs.Clauses.{Clause}
use Rattle.nq_log.specs.States.{Block, State, Claim, Step, Continues, Claims, Ends, MeasureLine, only_when, clause_at}
use Rattle.nq_log.specs.RuleLines.{dropped}
use Rattle.nq_log.specs.Logs.{step, continued, step_by, is_definition_word}
use Rattle.nq_log.specs.Blocks.{claim_at_end, block_claim}
use Rattle.nq_log.proofs.Options.{nothing_found, bound}
use Rattle.nq_drops.specs.Drops.{drop_line, numbers_where}
use Rattle.nq_drops.proofs.Cited.{IsKept}
use Rattle.nq_drops.proofs.SameTerms.{with_lines}
use Rattle.nq_drops.proofs.Masks.{masked, kept_if, masked_same, masked_at, masked_dropped, but, Below, below_found}

-- the claim of a line and the lines after it, by what the line leads to
abbrev pub claim_by : State → List Line → Option Step → Option Claim
claim_by s lines o = elim o as (λ o. Option Claim) [
  | None ↦ None
  | Some taken ↦ elim taken as (λ t. Option Claim) [ Continues block ↦ block_claim (record s { block = block }) lines | Claims c ↦ claim_at_end lines c | Ends ↦ None ]
]

-- there are as many clauses as numbers
there_is : (cs : List Clause) (j : ℕ) → j < length cs → (c : Clause) × (slice_get cs j ≡ Some c)
there_is [] j low = absurd (omega (arith, low))
there_is (c ∷ cs) zero low = (c, refl)
there_is (c ∷ cs) (suc j) low = there_is cs j (omega (arith, low))

-- the line of a number, counted from 1
line_at : (p : ℕ → Bool) (cs : List Clause) (j : ℕ) (c : Clause) → slice_get cs j ≡ Some c → p (suc j) ≡ true → slice_get (masked p 1 cs) j ≡ Some (Some c)
line_at p cs j c e passes = masked_at p 1 cs j c e ∙ ap (λ n. Some (kept_if (p n) c)) (one_more j) ∙ ap (λ b. Some (kept_if b c)) passes
  where
    one_more : (j : ℕ) → 1 + j ≡ suc j
    one_more j = omega arith

-- a line that passes stands
pub line_stands : (block : Block) (cs : List Clause) (p : ℕ → Bool) (l : ℕ) → Below block.lines cs → p l ≡ true → IsKept (clause_at block) (clause_at (with_lines block (masked p 1 cs))) l
line_stands block cs p zero below passes c e = absurd (nothing_found c e)
line_stands block cs p (suc j) below passes c e =
    let a = bound (slice_get block.lines j) (λ o. o) c e in
    let found = below_found block.lines cs j c below (a.1 ∙ ap Some a.2) in
    ap (λ (o : Option (Option Clause)). o >>= λ o. o) (line_at p cs j c found passes)

-- the block after DROP l
drop_step : (s : State) (cs : List Clause) (p : ℕ → Bool) (j : ℕ) → s.block.measure ≡ None → s.block.lines ≡ masked p 1 cs → j < length cs → p (suc j) ≡ true →
    step s (drop_line (suc j)) ≡ Some (Continues (with_lines s.block (masked (but (suc j) p) 1 cs)))
drop_step s cs p j quiet is low passes =
    let c = there_is cs j low in
    let clause : clause_at s.block (suc j) ≡ Some c.0 = ap (λ lines. slice_get lines j >>= λ o. o) is ∙ ap (λ (o : Option (Option Clause)). o >>= λ o. o) (line_at p cs j c.0 c.1 passes) in
    let line = drop_line (suc j) in
    ap (λ (m : Option MeasureLine). only_when (is_none m || is_definition_word line.word) line >>= λ line. step_by s line.fields line.word) quiet
    ∙ ap (λ (o : Option Clause). continued (o >>= λ c. Some (record s.block { lines = dropped s.block.lines j }))) clause
    ∙ ap (λ lines. Some (Continues (with_lines s.block lines))) (ap (λ lines. dropped lines j) is ∙ masked_dropped p 1 cs j ∙ ap (λ n. masked (but n p) 1 cs) (one_more j))
  where
    one_more : (j : ℕ) → 1 + j ≡ suc j
    one_more j = omega arith

-- the lines from k on that pass a test are dropped, and those that stand then pass another
pub drops_done : (s : State) (cs : List Clause) (more : List Line) (q r : ℕ → Bool) → s.block.measure ≡ None → (m k : ℕ) (p : ℕ → Bool) → k + m ≡ length cs →
    ((l : ℕ) → suc k ≤ l → q l ≡ true → p l ≡ true) →
    ((l : ℕ) → suc k ≤ l → l ≤ length cs → r l ≡ (if q l then false else p l)) →
    ((l : ℕ) → 1 ≤ l → l ≤ k → r l ≡ p l) →
    block_claim (record s { block = with_lines s.block (masked p 1 cs) }) (map drop_line (numbers_where q (suc k) m) ++ more) ≡ block_claim (record s { block = with_lines s.block (masked r 1 cs) }) more
drops_done s cs more q r quiet zero k p all on rest low =
    ap (λ lines. block_claim (record s { block = with_lines s.block lines }) more) (masked_same p r 1 cs (λ l first last. sym (low l first (omega (arith, all, last)))))
drops_done s cs more q r quiet (suc m) k p all on rest low = by_test (λ p on rest low. drops_done s cs more q r quiet m (suc k) p (omega (arith, all)) on rest low) (q (suc k)) refl
  where
    differs : (b : Bool) → b ≡ false → b ≡ true → ⊥
    differs b f t = cc

    before : (l : ℕ) → l ≤ suc k → (l ≡ suc k → ⊥) → l ≤ k
    before l last f = by_less (nat_lt l (suc k)) refl
      where
        by_less : (b : Bool) → nat_lt l (suc k) ≡ b → l ≤ k
        by_less true g = let h = ltb-true l (suc k) g in omega (arith, h)
        by_less false g = let h = ltb-false l (suc k) g in absurd (f (omega (arith, h, last)))

    other : (l : ℕ) → (l ≡ suc k → ⊥) → but (suc k) p l ≡ p l
    other l differ = by_same (nat_eq l (suc k)) (λ e. differ ((Decides-eqb l (suc k)).0 e))
      where
        by_same : (b : Bool) → (b ≡ true → ⊥) → (if b then false else p l) ≡ p l
        by_same true f = absurd (f refl)
        by_same false f = refl

    -- the line that was dropped, and those before it
    to_dropped : (l : ℕ) → 1 ≤ l → l ≤ suc k → q (suc k) ≡ true → (b : Bool) → nat_eq l (suc k) ≡ b → r l ≡ (if b then false else p l)
    to_dropped l first last e true same = ap r ((Decides-eqb l (suc k)).0 same) ∙ rest (suc k) (omega arith) (omega (arith, all)) ∙ ap (λ b. if b then false else p (suc k)) e
    to_dropped l first last e false same = low l first (before l last (λ is. differs (nat_eq l (suc k)) same ((Decides-eqb l (suc k)).1 is)))

    to_kept : (l : ℕ) → 1 ≤ l → l ≤ suc k → q (suc k) ≡ false → (b : Bool) → nat_eq l (suc k) ≡ b → r l ≡ p l
    to_kept l first last e true same =
        let is = (Decides-eqb l (suc k)).0 same in ap r is ∙ rest (suc k) (omega arith) (omega (arith, all)) ∙ ap (λ b. if b then false else p (suc k)) e ∙ ap p (sym is)
    to_kept l first last e false same = low l first (before l last (λ is. differs (nat_eq l (suc k)) same ((Decides-eqb l (suc k)).1 is)))

    by_test : ((p : ℕ → Bool) →
        ((l : ℕ) → suc (suc k) ≤ l → q l ≡ true → p l ≡ true) →
        ((l : ℕ) → suc (suc k) ≤ l → l ≤ length cs → r l ≡ (if q l then false else p l)) →
        ((l : ℕ) → 1 ≤ l → l ≤ suc k → r l ≡ p l) →
        block_claim (record s { block = with_lines s.block (masked p 1 cs) }) (map drop_line (numbers_where q (suc (suc k)) m) ++ more) ≡ block_claim (record s { block = with_lines s.block (masked r 1 cs) }) more) →
        (b : Bool) → q (suc k) ≡ b →
        block_claim (record s { block = with_lines s.block (masked p 1 cs) }) (map drop_line (if b then suc k ∷ numbers_where q (suc (suc k)) m else numbers_where q (suc (suc k)) m) ++ more)
        ≡ block_claim (record s { block = with_lines s.block (masked r 1 cs) }) more
    by_test again true e =
        let after = map drop_line (numbers_where q (suc (suc k)) m) ++ more in
        let here : State = record s { block = with_lines s.block (masked p 1 cs) } in
        ap (claim_by here after) (drop_step here cs p k quiet refl (omega (arith, all)) (on (suc k) (omega arith) e))
        ∙ again (but (suc k) p)
        (λ l first passes. other l (λ same. omega (arith, first, same)) ∙ on l (omega (arith, first)) passes)
        (λ l first last. rest l (omega (arith, first)) last ∙ ap (λ b. if q l then false else b) (sym (other l (λ same. omega (arith, first, same)))))
        (λ l first last. to_dropped l first last e (nat_eq l (suc k)) refl)
    by_test again false e =
        again p
        (λ l first passes. on l (omega (arith, first)) passes)
        (λ l first last. rest l (omega (arith, first)) last)
        (λ l first last. to_kept l first last e (nat_eq l (suc k)) refl)
