-- What a log of allowed lines ends in is derivable.
use Rattle.std.proofs.Common.{◌≡◌, true, ℕ, zero, suc, ◌-◌, List, [], ◌∷◌, ◌⊎◌, length, nat_lt, inl, inr, refl, subst}
use Rattle.std.specs.Prelude.{Option, Some, None, ⊤}
use Rattle.nq_logic.specs.Terms.{Term, IsTerm, Each}
use Rattle.nq_logic.specs.Formulas.{clause}
use Rattle.nq_logic.specs.Histories.{History}
use Rattle.nq_logic.specs.Ground.{symbols_of}
use Rattle.nq_logic.specs.Derivations.{Derivable}
use Rattle.nq_logic.proofs.Additions.{growth_law}
use Rattle.nq_proof.specs.Clauses.{Clause}
use Rattle.nq_proof.specs.Rules.{conclusion, rule_terms}
use Rattle.nq_proof.specs.Logs.{are_terms, LogLine, Ruled, Dropped, Standing, standing_at, clause_of, dropped, one_more, after_line, after_lines, last_clause, standing_of, proved_from, is_basic_line, are_basic}
use Rattle.nq_proof.specs.Closed.{IsClosed}
use Rattle.nq_proof.specs.Laws.{LemmasHold, LinesHold, LogSoundness}
use Rattle.nq_proof.proofs.Tests.{and_left, and_right, chosen_some, none_is_not_some, some_same}
use Rattle.nq_proof.proofs.TermTests.{are_terms_is}
use Rattle.nq_proof.proofs.SoundRules.{soundness_law}

module _ (h : History) where
  -- the clause of the line's rule is derivable, whatever lines hold before
  abbrev pub IsSound : LogLine → Type 0
  IsSound (Ruled rule) =
      (lines : ℕ → Option (List Term)) (c : List Term) → LinesHold h lines → Each (IsTerm (symbols_of h)) (rule_terms rule) → conclusion h lines rule ≡ Some c → Derivable h (clause c)
  IsSound (Dropped n) = ⊤

  abbrev Stands : Option Clause → Type 0
  Stands o = (c : Clause) → o ≡ Some c → Derivable h (clause c)

  standing_holds : (cs : Standing) → Each Stands cs → (k : ℕ) → Stands (standing_at cs k)
  standing_holds [] all k c e = absurd (none_is_not_some c e)
  standing_holds (o ∷ cs) all zero c e = all.0 c e
  standing_holds (o ∷ cs) all (suc k) c e = standing_holds cs all.1 k c e

  lines_hold : (cs : Standing) → Each Stands cs → LinesHold h (clause_of cs)
  lines_hold cs all zero c e = absurd (none_is_not_some c e)
  lines_hold cs all (suc k) c e = by_test (chosen_some (nat_lt k (length cs)) (standing_at cs (length cs - suc k)) None c e)
    where
      by_test : ((nat_lt k (length cs) ≡ true) × (standing_at cs (length cs - suc k) ≡ Some c)) ⊎ ◌≡◌ {A = Option (List Term)} None (Some c) → Derivable h (clause c)
      by_test (inl p) = standing_holds cs all (length cs - suc k) c p.1
      by_test (inr p) = absurd (none_is_not_some c p)

  dropped_hold : (cs : Standing) (k : ℕ) → Each Stands cs → Each Stands (dropped cs k)
  dropped_hold [] k all = tt
  dropped_hold (o ∷ cs) zero all = (λ c e. absurd (none_is_not_some c e), all.1)
  dropped_hold (o ∷ cs) (suc k) all = (all.0, dropped_hold cs k all.1)

  one_more_holds : (cs : Standing) (o : Option Clause) (ds : Standing) → Each Stands cs → ((c : Clause) → o ≡ Some c → Derivable h (clause c)) → one_more cs o ≡ Some ds → Each Stands ds
  one_more_holds cs None ds all f e = absurd (none_is_not_some ds e)
  one_more_holds cs (Some c) ds all f e =
      subst (Each Stands) (some_same (Some c ∷ cs) ds e) (λ d e. subst (λ c. Derivable h (clause c)) (some_same c d e) (f c refl), all)

  line_holds : (cs : Standing) (line : LogLine) (ds : Standing) → IsSound line → Each Stands cs → after_line h cs line ≡ Some ds → Each Stands ds
  line_holds cs (Ruled rule) ds sound all e =
      by_test (chosen_some (are_terms (symbols_of h) (rule_terms rule)) (one_more cs (conclusion h (clause_of cs) rule)) None ds e)
    where
      by_test : ((are_terms (symbols_of h) (rule_terms rule) ≡ true) × (one_more cs (conclusion h (clause_of cs) rule) ≡ Some ds)) ⊎ ◌≡◌ {A = Option (List (Option (List Term)))} None (Some ds) → Each Stands ds
      by_test (inl p) =
          one_more_holds cs (conclusion h (clause_of cs) rule) ds all
          (λ c e. sound (clause_of cs) c (lines_hold cs all) (are_terms_is (symbols_of h) (rule_terms rule) p.0) e) p.1
      by_test (inr p) = absurd (none_is_not_some ds p)
  line_holds cs (Dropped n) ds sound all e = by_line (clause_of cs n) e
    where
      by_line : (o : Option Clause) → elim o as (λ o. Option (List (Option (List Term)))) [ Some c ↦ Some (dropped cs (length cs - n)) | None ↦ None ] ≡ Some ds → Each Stands ds
      by_line None f = absurd (none_is_not_some ds f)
      by_line (Some c) f = subst (Each Stands) (some_same (dropped cs (length cs - n)) ds f) (dropped_hold cs (length cs - n) all)

  known_hold : (cs : Standing) (known : List (List Term)) → Each Stands cs → Each (λ d. Derivable h (clause d)) known → Each Stands (standing_of cs known)
  known_hold cs [] all ds = all
  known_hold cs (c ∷ known) all ds = known_hold (Some c ∷ cs) known (λ d e. subst (λ c. Derivable h (clause c)) (some_same c d e) ds.0, all) ds.1

  abbrev AllStand : Option Standing → Type 0
  AllStand o = (ds : Standing) → o ≡ Some ds → Each Stands ds

  log_holds : (log : List LogLine) (o : Option Standing) → Each IsSound log → AllStand o → AllStand (after_lines h o log)
  log_holds log None sound all ds e = absurd (none_is_not_some ds e)
  log_holds [] (Some cs) sound all ds e = all ds e
  log_holds (line ∷ log) (Some cs) sound all ds e =
      log_holds log (after_line h cs line) sound.1
      (λ es f. line_holds cs line es sound.0 (all cs refl) f) ds e

  last_holds : (o : Option Standing) (c : Clause) → AllStand o → last_clause o ≡ Some c → Derivable h (clause c)
  last_holds None c all e = absurd (none_is_not_some c e)
  last_holds (Some []) c all e = absurd (none_is_not_some c e)
  last_holds (Some (o ∷ cs)) c all e = (all (o ∷ cs) refl).0 c e

  -- what a log of sound lines ends in is derivable
  pub sound_log_holds : (known : List (List Term)) (log : List LogLine) (c : List Term) → Each IsSound log → Each (λ d. Derivable h (clause d)) known → proved_from h known log ≡ Some c → Derivable h (clause c)
  sound_log_holds known log c sound all e =
      last_holds (after_lines h (Some (standing_of [] known)) log) c
      (log_holds log (Some (standing_of [] known)) sound (λ ds f. subst (Each Stands) (some_same (standing_of [] known) ds f) (known_hold [] known tt all))) e

  basic_sound : IsClosed h → LemmasHold h → (log : List LogLine) → are_basic log ≡ true → Each IsSound log
  basic_sound closed lemmas [] basic = tt
  basic_sound closed lemmas (Ruled rule ∷ log) basic =
      ((λ lines c stand over e. soundness_law h lines rule c (and_left (is_basic_line (Ruled rule)) (are_basic log) basic) closed lemmas stand over e), basic_sound closed lemmas log (and_right (is_basic_line (Ruled rule)) (are_basic log) basic))
  basic_sound closed lemmas (Dropped n ∷ log) basic = (tt, basic_sound closed lemmas log (and_right (is_basic_line (Dropped n)) (are_basic log) basic))

pub log_soundness_law : LogSoundness
log_soundness_law h known log c basic closed lemmas all e = sound_log_holds h known log c (basic_sound h closed lemmas log basic) all e

-- A clause that a log over the ground history gives is derivable in every history, and so are the known clauses.
pub everywhere : (known : List (List Term)) (log : List LogLine) (c : List Term) → are_basic log ≡ true → Each (λ d. Derivable [] (clause d)) known → proved_from [] known log ≡ Some c → Derivable [] (clause c)
everywhere known log c basic all e = log_soundness_law [] known log c basic tt (λ n classes t m. absurd m) all e

pub grown : (c : List Term) → Derivable [] (clause c) → (h : History) → Derivable h (clause c)
grown c d h = growth_law [] h (clause c) d
