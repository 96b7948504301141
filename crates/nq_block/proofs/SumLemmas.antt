-- Literals of a sum that have their lines, and the line of the sum.
use Rattle.std.proofs.Common.{◌≡◌, ℕ, zero, suc, ◌<◌, ◌≤◌, ◌+◌, ◌^◌, true, Some, Option, List, [], ◌∷◌, ◌++◌, length, map, get_or, take, refl, sym, ap, ◌∙◌, subst, add-one, arith}
use Rattle.std.specs.Prelude.{All, Bool, false}
use Rattle.std.specs.List.{flat_map}
use Rattle.std.proofs.lemmas.List.{take_all, map-append}
use Rattle.std.proofs.Math.Seq.{take-suc}
use Rattle.nq_logic.specs.Terms.{Term, Each}
use Rattle.nq_logtext.specs.Fields.{Field, of_number, of_sign}
use Rattle.nq_logtext.specs.Lines.{HasKinds}
use Rattle.nq_logtext.specs.Views.{of_multiple}
use Rattle.nq_logtext.specs.Reading.{◌>>=◌}
use Rattle.nq_logtext.specs.declared.line.Multiple.{Multiple}
use Rattle.nq_logtext.specs.declared.word.Word.TheVariants as word
use Rattle.nq_bank.specs.Content.{Content, term_at}
use Rattle.nq_bank.proofs.NodesLemmas.{All-head, All-tail}
use Rattle.nq_bank.proofs.Standing.{All-push}
use Rattle.nq_proof.specs.Clauses.{Clause}
use Rattle.nq_proof.specs.Rules as tree
use Rattle.nq_proof.specs.Rules.{conclusion, Linear}
use Rattle.nq_linear_rule.specs.declared.summand.Summand.{Summand}
use Rattle.nq_linear_rule.specs.Sums.{side_if, summands_at}
use Rattle.nq_log.specs.Sizes.{are_shallow}
use Rattle.nq_log.specs.Fields.{multiples_in}
use Rattle.nq_log.specs.Fields as fields
use Rattle.nq_log.specs.RuleLines.{side_of, linear_rule, summands_at as block_summands_at}
use Rattle.nq_block.specs.declared.writer.Writer.{Writer}
use Rattle.nq_block.specs.Writing.{Frame, Concludes, block_of, with_line, IsWriting, IsSummandWritten, Keeps, AddsLine, multiple_in, sign_if}
use Rattle.nq_block.proofs.RuleLemmas.{after, term_number, term_fits, rule_written}

-- ---- literals that have their lines

summands_written : (a b : Writer) (summands : List Summand) → Keeps a b → All (IsSummandWritten a) summands → All (IsSummandWritten b) summands
summands_written a b summands keeps written = λ k d below. keeps.terms (get_or summands k d).literal (written k d below)

pub summands_next : (a b : Writer) (summands : List Summand) (i : ℕ) (d : Summand) → i < length summands → Keeps a b → All (IsSummandWritten a) (take i summands) → IsSummandWritten b (get_or summands i d) → All (IsSummandWritten b) (take (i + 1) summands)
summands_next a b summands i d below keeps written here =
    subst (All (IsSummandWritten b)) (sym (ap (λ n. take n summands) (add-one i) ∙ take-suc summands i d below)) (All-push (IsSummandWritten b) (take i summands) (get_or summands i d) (summands_written a b (take i summands) keeps written) here)

pub whole_summands : (w : Writer) (summands : List Summand) (i : ℕ) → length summands ≤ i → All (IsSummandWritten w) (take i summands) → All (IsSummandWritten w) summands
whole_summands w summands i all written = subst (All (IsSummandWritten w)) (take_all i summands all) written

-- what holds of the first summands, and of one more
pub next_holds : (P : Summand → Type 0) (summands : List Summand) (i : ℕ) (d : Summand) → i < length summands → All P (take i summands) → P (get_or summands i d) → All P (take (i + 1) summands)
next_holds P summands i d below so_far here = subst (All P) (sym (ap (λ n. take n summands) (add-one i) ∙ take-suc summands i d below)) (All-push P (take i summands) (get_or summands i d) so_far here)

pub multiples_next : (w : Writer) (summands : List Summand) (i : ℕ) (d : Summand) (old new : List Multiple) (m : Multiple) → i < length summands → old ≡ map (multiple_in w) (take i summands) → m ≡ multiple_in w (get_or summands i d) → new ≡ old ++ (m ∷ []) → new ≡ map (multiple_in w) (take (i + 1) summands)
multiples_next w summands i d old new m below so_far here push =
    push ∙ ap (λ ms. ms ++ (m ∷ [])) so_far ∙ ap (λ n. map (multiple_in w) (take i summands) ++ (n ∷ [])) here
    ∙ sym (ap (map (multiple_in w)) (ap (λ n. take n summands) (add-one i) ∙ take-suc summands i d below) ∙ map-append (multiple_in w) (take i summands) (get_or summands i d ∷ []))

-- what holds of each literal of some summands holds of the one at a place
pub each_literal : (bank : Content) (P : Term → Type 0) (summands : List Summand) (i : ℕ) (d : Summand) → i < length summands → Each P (map (λ s. s.literal) (summands_at bank summands)) → P (term_at bank (get_or summands i d).literal)
each_literal bank P [] i d below all = absurd (omega arith)
each_literal bank P (s ∷ summands) zero d below all = all.0
each_literal bank P (s ∷ summands) (suc i) d below all = each_literal bank P summands i d (omega arith) all.1

-- ---- their multiples

abbrev multiple_of : Multiple → fields.Multiple
multiple_of m = record { factor = m.factor; term = m.term; sign = m.sign }

multiples_read : (ms : List Multiple) → multiples_in (flat_map of_multiple ms) ≡ Some (map multiple_of ms)
multiples_read [] = refl
multiples_read (m ∷ ms) = rw (multiples_read ms) refl

same_side : (forwards : Bool) → side_of (sign_if forwards) ≡ side_if forwards
same_side true = refl
same_side false = refl

module _ (bank : Content) (frame : Frame) (w : Writer) (v : IsWriting bank frame w) where
  multiples_spelled : (summands : List Summand) → All (IsSummandWritten w) summands → All (λ s. s.factor < 2 ^ 64) summands → HasKinds (of_number ∷ of_number ∷ of_sign ∷ []) [] (flat_map of_multiple (map (multiple_in w) summands))
  multiples_spelled [] written fit = tt
  multiples_spelled (s ∷ summands) written fit = (
    All-head (λ s. s.factor < 2 ^ 64) s summands fit,
    (
      term_fits bank frame w v s.literal (All-head (IsSummandWritten w) s summands written),
      (tt, multiples_spelled summands (All-tail (IsSummandWritten w) s summands written) (All-tail (λ s. s.factor < 2 ^ 64) s summands fit)),
    ),
  )

  summands_found : (summands : List Summand) → All (IsSummandWritten w) summands → block_summands_at (block_of frame v.waiting v.terms) (map multiple_of (map (multiple_in w) summands)) ≡ Some (summands_at bank summands)
  summands_found [] written = refl
  summands_found (s ∷ summands) written =
      let here = term_number bank frame w v s.literal (All-head (IsSummandWritten w) s summands written) in
      let rest = summands_found summands (All-tail (IsSummandWritten w) s summands written) in
      let side = same_side s.forwards in
      rw (here, rest, side) refl

-- ---- the line

module _ (bank : Content) (frame : Frame) (old new : Writer) (c : Clause) (v : IsWriting bank frame old) (low : are_shallow c ≡ true) where
  pub linear_written : (summands : List Summand) (ms : List Multiple) → All (IsSummandWritten old) summands → All (λ s. s.factor < 2 ^ 64) summands → ms ≡ map (multiple_in old) summands →
      Concludes frame (Linear (summands_at bank summands)) c → AddsLine (after word.Linear (flat_map of_multiple ms)) old new → IsWriting bank (with_line frame c) new
  linear_written summands ms written fit same concluded adds =
      let block = block_of frame v.waiting v.terms in
      let ns : List Multiple = map (multiple_in old) summands in
      let all : List Field = flat_map of_multiple ns in
      let read : linear_rule block all ≡ Some (Linear (summands_at bank summands)) =
      ap (λ (o : Option (List fields.Multiple)). o >>= λ ms. block_summands_at block ms >>= λ summands. Some (Linear summands)) (multiples_read ns)
      ∙ ap (λ (o : Option (List tree.Summand)). o >>= λ summands. Some (Linear summands)) (summands_found bank frame old v summands written) in
      rule_written bank frame old new c v low (after word.Linear all) (linear_rule block all) (Linear (summands_at bank summands)) (multiples_spelled bank frame old v summands written fit) refl read concluded
      (subst (λ ms. AddsLine (after word.Linear (flat_map of_multiple ms)) old new) same adds)
