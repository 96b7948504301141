-- A block claims the same with its lines dropped after their last use.
use Rattle.std.proofs.Common.{◌≡◌, ℕ, suc, ◌+◌, Bool, true, false, ◌||◌, ◌++◌, Option, Some, None, List, [], ◌∷◌, map, length, refl, sym, ap, ◌∙◌, subst, arith, length-append, if◌then◌else◌}
use Rattle.std.specs.Prelude.{nat_eq, pred, is_none}
use Rattle.nq_logtext.specs.Reading.{◌>>=◌}
use Rattle.nq_logtext.specs.Lines.{Line}
use Rattle.nq_logtext.specs.Fields.{Field, number}
use Rattle.nq_logtext.specs.declared.word.Word.{Word}
use Rattle.nq_logtext.specs.declared.word.Word.TheVariants as word
use Rattle.nq_logic.specs.Terms.{Each}
use Rattle.nq_proof.specs.Clauses.{Clause}
use Rattle.nq_log.specs.States.{Block, State, Claim, Step, Continues, Claims, Ends, MeasureLine, only_when, clause_at, start_of}
use Rattle.nq_log.specs.RuleLines.{dropped, drop_line as dropped_line, with_clause}
use Rattle.nq_log.specs.ClosingLines.{definition_claim}
use Rattle.nq_log.specs.Logs.{step, continued, step_by, is_definition_word}
use Rattle.nq_log.specs.Blocks.{claim_at_end, block_claim}
use Rattle.nq_log.proofs.Options.{nothing_found, found_same, bound, allowed}
use Rattle.nq_drops.specs.Uses.{cited, is_rule, is_induction, uses, is_listed, last_from, last_use}
use Rattle.nq_drops.specs.Drops.{drop_line, ended_at, dropping, is_drop, without_drops}
use Rattle.nq_drops.specs.Laws.{DropsKeepClaim}
use Rattle.nq_drops.proofs.Cited.{IsKept, each_listed}
use Rattle.nq_drops.proofs.SameTerms.{with_lines, waiting_cited}
use Rattle.nq_drops.proofs.Masks.{masked, kept_if, masked_end, masked_same, Below, below_end, below_dropped, same_empty, same_numbered}
use Rattle.nq_drops.proofs.RuleMoves.{after_rule, used_by, rule_moves}
use Rattle.nq_drops.proofs.OtherMoves.{measure_waits, waits, SameSize, others_go, no_claim}
use Rattle.nq_drops.proofs.ClaimMoves.{claims_kept}
use Rattle.nq_drops.proofs.LastUses.{used_here, still, stands_still, at_first, new_stands, old_stands, ended_stood, others_stand}
use Rattle.nq_drops.proofs.DropLines.{claim_by, line_stands, drops_done}

-- ---- what a line leads to, apart from its measure

abbrev is_next : State → Line → Bool
is_next s line = is_none s.block.measure || is_definition_word line.word

step_found : (s : State) (line : Line) (taken : Step) → step s line ≡ Some taken → (is_next s line ≡ true) × (step_by s line.fields line.word ≡ Some taken)
step_found s line taken e =
    let a = bound (only_when (is_next s line) line) (λ line. step_by s line.fields line.word) taken e in
    let b = allowed (is_next s line) line a.0 a.1 in
    (b.0, ap (λ (line : Line). step_by s line.fields line.word) b.1 ∙ a.2)

step_is : (s : State) (line : Line) (o : Option Step) → is_next s line ≡ true → step_by s line.fields line.word ≡ o → step s line ≡ o
step_is s line o next e = ap (λ b. only_when b line >>= λ line. step_by s line.fields line.word) next ∙ e

no_measure : (m : Option MeasureLine) (b : Bool) → b ≡ false → is_none m || b ≡ true → m ≡ None
no_measure None b f e = refl
no_measure (Some m) true f e = absurd cc
no_measure (Some m) false f e = absurd cc

no_definition : (w : Word) → is_rule w ≡ true → is_definition_word w ≡ false
no_definition word.Defn e = absurd cc
no_definition w e = refl

no_induction : (w : Word) → is_rule w ≡ false → is_induction w ≡ false
no_induction word.Induct e = absurd cc
no_induction w e = refl

-- a line that goes on is no definition
goes_quiet : (s : State) (line : Line) (block : Block) → is_next s line ≡ true → step_by s line.fields line.word ≡ Some (Continues block) → s.block.measure ≡ None
goes_quiet s line block next e = no_measure s.block.measure (is_definition_word line.word) (by_word line.fields line.word e) next
  where
    by_word : (fields : List Field) (w : Word) → step_by s fields w ≡ Some (Continues block) → is_definition_word w ≡ false
    by_word fields word.Defn f = absurd (no_claim (definition_claim s fields) block f)
    by_word fields w f = refl

-- a DROP line
dropped_step : (s : State) (fields : List Field) (w : Word) (taken : Step) → is_drop w ≡ true → step_by s fields w ≡ Some taken → (j : ℕ) × (taken ≡ Continues (record s.block { lines = dropped s.block.lines j }))
dropped_step s fields word.Drop taken d e = by_fields fields e
  where
    by_fields : (fields : List Field) → continued (dropped_line s fields) ≡ Some taken → (j : ℕ) × (taken ≡ Continues (record s.block { lines = dropped s.block.lines j }))
    by_fields (number l ∷ []) f = by_clause (clause_at s.block l) f
      where
        by_clause : (o : Option Clause) → continued (o >>= λ c. Some (record s.block { lines = dropped s.block.lines (pred l) })) ≡ Some taken → (j : ℕ) × (taken ≡ Continues (record s.block { lines = dropped s.block.lines j }))
        by_clause None g = absurd (nothing_found taken g)
        by_clause (Some c) g = (pred l, sym (found_same (Continues (record s.block { lines = dropped s.block.lines (pred l) })) taken g))
    by_fields fields f = absurd (nothing_found taken f)
dropped_step s fields w taken d e = absurd cc

-- ---- the uses of lines

uses_rule : (waiting : List ℕ) (line : Line) (lines : List Line) (i r : Bool) → r ≡ true →
    (if i then (waiting ++ cited line) ∷ uses [] lines else (if r then cited line ∷ uses waiting lines else uses (waiting ++ cited line) lines))
    ≡ (if i then waiting ++ cited line else cited line) ∷ uses (if i then [] else waiting) lines
uses_rule waiting line lines true r e = refl
uses_rule waiting line lines false true e = refl
uses_rule waiting line lines false false e = absurd cc

uses_other : (waiting : List ℕ) (line : Line) (lines : List Line) (i r : Bool) → i ≡ false → r ≡ false →
    (if i then (waiting ++ cited line) ∷ uses [] lines else (if r then cited line ∷ uses waiting lines else uses (waiting ++ cited line) lines)) ≡ uses (waiting ++ cited line) lines
uses_other waiting line lines true r e f = absurd cc
uses_other waiting line lines false true e f = absurd cc
uses_other waiting line lines false false e f = refl

-- the block after a rule line
abbrev after_when : Bool → Block → Clause → Block
after_when i block c = if i then record (with_clause block c) { cases = [] } else with_clause block c

after_lines : (i : Bool) (block : Block) (c : Clause) → (after_when i block c).lines ≡ block.lines ++ (Some c ∷ [])
after_lines true block c = refl
after_lines false block c = refl

after_measure : (i : Bool) (block : Block) (c : Clause) → (after_when i block c).measure ≡ block.measure
after_measure true block c = refl
after_measure false block c = refl

after_waits : (i : Bool) (block : Block) (c : Clause) → waiting_cited (after_when i block c).cases ≡ (if i then [] else waiting_cited block.cases)
after_waits true block c = refl
after_waits false block c = refl

after_other : (i : Bool) (block : Block) (lines : List (Option Clause)) (c : Clause) → after_when i (with_lines block lines) c ≡ with_lines (after_when i block c) (lines ++ (Some c ∷ []))
after_other true block lines c = refl
after_other false block lines c = refl

quiet_waits : (block : Block) → block.measure ≡ None → waits block ≡ waiting_cited block.cases
quiet_waits block quiet = ap (λ (m : Option MeasureLine). measure_waits m (waiting_cited block.cases)) quiet

module _ (all : List (List ℕ)) where
  -- the state with the lines that stand after line n
  abbrev standing : State → ℕ → List Clause → State
  standing s n cs = record s { block = with_lines s.block (masked (still all n) 1 cs) }

  -- the uses from here on are the rest of all uses
  abbrev Future : State → ℕ → (ℕ → ℕ) → List Line → Type 0
  Future s n so_far lines = (l : ℕ) → last_use all l ≡ last_from (uses (waits s.block) lines) (suc n) l (so_far l)

  abbrev Claimed : State → ℕ → List Clause → List Line → Claim → Type 0
  Claimed s n cs lines c = block_claim (standing s n cs) (dropping (ended_at all) n lines) ≡ Some c

  -- what the next use has stands
  next_stands : (s : State) (n : ℕ) (cs : List Clause) (used : List ℕ) (rest : List (List ℕ)) (so_far : ℕ → ℕ) → Below s.block.lines cs → ((l : ℕ) → last_use all l ≡ last_from (used ∷ rest) (suc n) l (so_far l)) →
      Each (IsKept (clause_at s.block) (clause_at (standing s n cs).block)) used
  next_stands s n cs used rest so_far below future =
      each_listed (IsKept (clause_at s.block) (clause_at (standing s n cs).block)) used
      (λ l listed. let low = used_here used rest (suc n) l (so_far l) listed in let is = future l in line_stands s.block cs (still all n) l below (stands_still all n l (omega (arith, low, is))))

  -- the lines after a new one, before the DROP lines
  lines_at_first : (n : ℕ) (cs : List Clause) (c : Clause) → n ≡ length cs → masked (still all n) 1 cs ++ (Some c ∷ []) ≡ masked (at_first all n) 1 (cs ++ (c ∷ []))
  lines_at_first n cs c count =
      ap (λ lines. lines ++ (Some c ∷ [])) (masked_same (still all n) (at_first all n) 1 cs (λ l low high. sym (old_stands all n l (omega (arith, count, high)))))
      ∙ ap (λ b. masked (at_first all n) 1 cs ++ (kept_if b c ∷ [])) (sym (new_stands all n))
      ∙ ap (λ m. masked (at_first all n) 1 cs ++ (kept_if (at_first all n m) c ∷ [])) number
      ∙ sym (masked_end (at_first all n) 1 cs c)
    where
      number : suc n ≡ 1 + length cs
      number = omega (arith, count)

  one_longer : (cs : List Clause) (c : Clause) (n : ℕ) → n ≡ length cs → suc n ≡ length (cs ++ (c ∷ []))
  one_longer cs c n count = let longer = length-append cs (c ∷ []) in omega (arith, count, longer)

  -- the DROP lines after a rule line
  dropped_after : (s : State) (n : ℕ) (cs : List Clause) (c : Clause) (more : List Line) → s.block.measure ≡ None → n ≡ length cs →
      block_claim (record s { block = with_lines s.block (masked (still all n) 1 cs ++ (Some c ∷ [])) }) (map drop_line (ended_at all (suc n)) ++ more) ≡ block_claim (standing s (suc n) (cs ++ (c ∷ []))) more
  dropped_after s n cs c more quiet count =
      let longer = one_longer cs c n count in
      ap (λ lines. block_claim (record s { block = with_lines s.block lines }) (map drop_line (ended_at all (suc n)) ++ more)) (lines_at_first n cs c count)
      ∙ drops_done s (cs ++ (c ∷ [])) more (λ l. nat_eq (last_use all l) (suc n)) (still all (suc n)) quiet (suc n) 0 (at_first all n) (omega (arith, longer))
      (λ l first ended. ended_stood all n l ended)
      (λ l first last. others_stand all n l (omega (arith, last, longer)))
      (λ l first last. absurd (omega (arith, first, last)))

  -- what is shown of the lines behind a line
  abbrev Again : List Line → Claim → Type 0
  Again lines c =
      (s : State) (cs : List Clause) (n : ℕ) (so_far : ℕ → ℕ) → Below s.block.lines cs → n ≡ length cs → Future s n so_far (without_drops lines) → block_claim s lines ≡ Some c → Claimed s n cs (without_drops lines) c

  module _ (line : Line) (lines : List Line) (s : State) (cs : List Clause) (n : ℕ) (so_far : ℕ → ℕ) (below : Below s.block.lines cs) (count : n ≡ length cs) (c : Claim) (again : Again lines c) where
    abbrev rest : List Line
    rest = without_drops lines

    abbrev shown : List (Option Clause)
    shown = masked (still all n) 1 cs

    abbrev other : State
    other = standing s n cs

    abbrev w : Word
    w = line.word

    -- a DROP line is left out
    left_out : Future s n so_far rest → is_drop w ≡ true → (o : Option Step) → step s line ≡ o → claim_by s lines o ≡ Some c → Claimed s n cs rest c
    left_out future drop None is e = absurd (nothing_found c e)
    left_out future drop (Some taken) is e =
        let found = step_found s line taken is in
        let a = dropped_step s line.fields w taken drop found.1 in
        let block : Block = record s.block { lines = dropped s.block.lines a.0 } in
        again (record s { block = block }) cs n so_far (below_dropped s.block.lines cs a.0 below) count future (ap (λ taken. claim_by s lines (Some taken)) (sym a.1) ∙ e)

    -- a rule line
    ruled : Future s n so_far (line ∷ rest) → is_rule w ≡ true → (o : Option Step) → step s line ≡ o → claim_by s lines o ≡ Some c → Claimed s n cs (line ∷ rest) c
    ruled future rule None is e = absurd (nothing_found c e)
    ruled future rule (Some taken) is e =
        let found = step_found s line taken is in
        let quiet : s.block.measure ≡ None = no_measure s.block.measure (is_definition_word w) (no_definition w rule) found.0 in
        let i : Bool = is_induction w in
        let waiting : List ℕ = waiting_cited s.block.cases in
        let used : List ℕ = used_by w waiting line.fields in
        let after : List ℕ = if i then [] else waiting in
        let split : uses (waits s.block) (line ∷ rest) ≡ used ∷ uses after rest = ap (λ ls. uses ls (line ∷ rest)) (quiet_waits s.block quiet) ∙ uses_rule waiting line rest i (is_rule w) rule in
        let from_here : (l : ℕ) → last_use all l ≡ last_from (used ∷ uses after rest) (suc n) l (so_far l) = λ l. future l ∙ ap (λ us. last_from us (suc n) l (so_far l)) split in
        let kept = next_stands s n cs used (uses after rest) so_far below from_here in
        let moves = rule_moves s shown line.fields w taken rule kept found.1 in
        let d : Clause = moves.clause in
        let block : Block = after_rule w s.block d in
        let next : State = record s { block = block } in
        let quiet_next : block.measure ≡ None = after_measure i s.block d ∙ quiet in
        let waits_next : waits block ≡ after = quiet_waits block quiet_next ∙ after_waits i s.block d in
        let whole =
        again next (cs ++ (d ∷ [])) (suc n) (λ l. if is_listed l used then suc n else so_far l)
        (subst (λ ls. Below ls (cs ++ (d ∷ []))) (sym (after_lines i s.block d)) (below_end s.block.lines cs d below)) (one_longer cs d n count)
        (λ l. from_here l ∙ ap (λ ls. last_from (uses ls rest) (suc (suc n)) l (if is_listed l used then suc n else so_far l)) (sym waits_next))
        (ap (λ taken. claim_by s lines (Some taken)) (sym moves.here) ∙ e) in
        let more : List Line = map drop_line (ended_at all (suc n)) ++ dropping (ended_at all) (suc n) rest in
        ap (λ b. block_claim other (if b then line ∷ more else line ∷ dropping (ended_at all) n rest)) rule
        ∙ ap (claim_by other more) (step_is other line (Some (Continues (after_rule w other.block d))) found.0 moves.there)
        ∙ ap (λ (b : Block). block_claim (record s { block = b }) more) (after_other i s.block shown d)
        ∙ dropped_after next n cs d (dropping (ended_at all) (suc n) rest) quiet_next count
        ∙ whole

    at_end : (lines : List Line) (d : Claim) → claim_at_end lines d ≡ Some c → (without_drops lines ≡ []) × (d ≡ c)
    at_end [] d e = (refl, found_same d c e)
    at_end (line ∷ lines) d e = absurd (nothing_found c e)

    -- any other line
    others : Future s n so_far (line ∷ rest) → is_rule w ≡ false → is_drop w ≡ false → (o : Option Step) → step s line ≡ o → claim_by s lines o ≡ Some c → Claimed s n cs (line ∷ rest) c
    others future rule drop None is e = absurd (nothing_found c e)
    others future rule drop (Some Ends) is e = absurd (nothing_found c e)
    others future rule drop (Some (Continues block)) is e =
        let found = step_found s line (Continues block) is in
        let quiet = goes_quiet s line block found.0 found.1 in
        let size : SameSize s.block.lines shown = record { empty = same_empty s.block.lines cs (still all n) 1 below; there = λ l. same_numbered s.block.lines cs (still all n) l below } in
        let goes = others_go s shown size quiet line.fields w block rule drop found.1 in
        let split : uses (waits s.block) (line ∷ rest) ≡ uses (waits block) rest = uses_other (waits s.block) line rest (is_induction w) (is_rule w) (no_induction w rule) rule ∙ ap (λ ls. uses ls rest) (sym goes.more) in
        let whole = again (record s { block = block }) cs n so_far (subst (λ ls. Below ls cs) (sym goes.same) below) count (λ l. future l ∙ ap (λ us. last_from us (suc n) l (so_far l)) split) e in
        ap (λ b. block_claim other (if b then line ∷ (map drop_line (ended_at all (suc n)) ++ dropping (ended_at all) (suc n) rest) else line ∷ dropping (ended_at all) n rest)) rule
        ∙ ap (claim_by other (dropping (ended_at all) n rest)) (step_is other line (Some (Continues (with_lines block shown))) found.0 goes.there)
        ∙ whole
    others future rule drop (Some (Claims d)) is e =
        let found = step_found s line (Claims d) is in
        let last = at_end lines d e in
        let used : List ℕ = waits s.block ++ cited line in
        let split : uses (waits s.block) (line ∷ rest) ≡ used ∷ [] = uses_other (waits s.block) line rest (is_induction w) (is_rule w) (no_induction w rule) rule ∙ ap (λ ls. uses used ls) last.0 in
        let kept = next_stands s n cs used [] so_far below (λ l. future l ∙ ap (λ us. last_from us (suc n) l (so_far l)) split) in
        let there = claims_kept s shown line.fields w d rule drop kept found.1 in
        ap (λ b. block_claim other (if b then line ∷ (map drop_line (ended_at all (suc n)) ++ dropping (ended_at all) (suc n) rest) else line ∷ dropping (ended_at all) n rest)) rule
        ∙ ap (claim_by other (dropping (ended_at all) n rest)) (step_is other line (Some (Claims d)) found.0 there)
        ∙ ap (λ ls. claim_at_end (dropping (ended_at all) n ls) d) last.0
        ∙ ap Some last.1

    by_rule : Future s n so_far (line ∷ rest) → is_drop w ≡ false → (b : Bool) → is_rule w ≡ b → block_claim s (line ∷ lines) ≡ Some c → Claimed s n cs (line ∷ rest) c
    by_rule future drop true rule e = ruled future rule (step s line) refl e
    by_rule future drop false rule e = others future rule drop (step s line) refl e

    pub by_drop : (b : Bool) → is_drop w ≡ b → Future s n so_far (if b then rest else line ∷ rest) → block_claim s (line ∷ lines) ≡ Some c → Claimed s n cs (if b then rest else line ∷ rest) c
    by_drop true drop future e = left_out future drop (step s line) refl e
    by_drop false drop future e = by_rule future drop (is_rule w) refl e

  pub claims_stay : (lines : List Line) (s : State) (cs : List Clause) (n : ℕ) (so_far : ℕ → ℕ) → Below s.block.lines cs → n ≡ length cs → Future s n so_far (without_drops lines) → (c : Claim) → block_claim s lines ≡ Some c →
      Claimed s n cs (without_drops lines) c
  claims_stay [] s cs n so_far below count future c e = absurd (nothing_found c e)
  claims_stay (line ∷ lines) s cs n so_far below count future c e =
      by_drop line lines s cs n so_far below count c (λ s cs n so_far below count future e. claims_stay lines s cs n so_far below count future c e) (is_drop line.word) refl future e

pub drops_keep_claim_law : DropsKeepClaim
drops_keep_claim_law h lines c e = claims_stay (uses [] (without_drops lines)) lines (start_of h) [] 0 (λ l. l) tt refl (λ l. refl) c e
