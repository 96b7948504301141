-- The clause of each rule is derivable where the lines are.
use Rattle.std.proofs.Common.{List, [], ◌∷◌, map, refl, subst}
use Rattle.nq_logic.specs.Terms.{IsAmong, Each}
use Rattle.nq_logic.specs.Words.{equal_term}
use Rattle.nq_logic.specs.Formulas.{clause}
use Rattle.nq_logic.specs.Derivations.{Derivable}
use Rattle.nq_proof.specs.Clauses.{distinct}
use Rattle.nq_proof.specs.Values.{value_of}
use Rattle.nq_proof.specs.Rules.{Value, Linear, is_refuted}
use Rattle.std.specs.Prelude.{Some}
use Rattle.nq_proof.proofs.Tests.{given_some, when_some, some_same, each_distinct}
use Rattle.nq_proof.proofs.SoundRules.{soundness_law}
use Rattle.nq_proof.specs.Closed.{IsClosed}
use Rattle.nq_proof.specs.Laws.{LemmasHold}
use Rattle.nq_proof.proofs.KeptSymbols.{kept_symbols_law}
use Rattle.nq_proof.specs.Logs.{LogLine, Ruled, Dropped}
use Rattle.nq_proof.proofs.SoundLogs.{IsSound, sound_log_holds}
use Rattle.nq_logic.specs.Histories.{History}
use Rattle.nq_arith.specs.Laws.{FullSoundness, FullLogSoundness}
use Rattle.nq_arith.proofs.ValueTable.{value_law}
use Rattle.nq_arith.proofs.Sums.{refuted_holds}

pub full_soundness_law : FullSoundness
full_soundness_law h lines (Value t) c closed lemmas stand over e =
    let value = given_some (value_of t) (λ v. Some (equal_term t v ∷ [])) c e in
    subst (λ d. Derivable h (clause d)) (some_same (equal_term t value.0 ∷ []) c value.2) (value_law h t value.0 value.1)
full_soundness_law h lines (Linear summands) c closed lemmas stand over e =
    let terms = map (λ s. s.literal) summands in
    let both = when_some (is_refuted summands) (distinct terms) c e in
    let right = kept_symbols_law h lines (Linear summands) c closed stand over e in
    refuted_holds h summands c both.0 over right (subst (λ d. Each (λ p. IsAmong p d) terms) both.1 (each_distinct terms))
full_soundness_law h lines rule c closed lemmas stand over e = soundness_law h lines rule c refl closed lemmas stand over e

all_sound : (h : History) → IsClosed h → LemmasHold h → (log : List LogLine) → Each (IsSound h) log
all_sound h closed lemmas [] = tt
all_sound h closed lemmas (Ruled rule ∷ log) = ((λ lines c stand over e. full_soundness_law h lines rule c closed lemmas stand over e), all_sound h closed lemmas log)
all_sound h closed lemmas (Dropped n ∷ log) = (tt, all_sound h closed lemmas log)

pub full_log_soundness_law : FullLogSoundness
full_log_soundness_law h known log c closed lemmas all e = sound_log_holds h known log c (all_sound h closed lemmas log) all e
