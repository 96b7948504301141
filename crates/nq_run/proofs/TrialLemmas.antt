-- What is told of the measures that were tried.
use Rattle.std.proofs.Common.{◌≡◌, inl, inr, ℕ, zero, suc, List, [], ◌∷◌, length, refl, ap, arith}
use Rattle.std.specs.Prelude.{All, IfNone, Option, None, Some}
use Rattle.nq_logic.specs.Terms.{Each, Term}
use Rattle.nq_logic.specs.Ground.{symbols_of}
use Rattle.nq_logic.specs.Histories.{Definition, History}
use Rattle.nq_logic.specs.Admissible.{Call, calls_of}
use Rattle.nq_language.specs.Printing.{printed}
use Rattle.nq_proof.specs.Laws.{LinesHold}
use Rattle.nq_kernel.specs.declared.work.Work.{Work}
use Rattle.nq_kernel.specs.Meaning.{clause_at}
use Rattle.nq_calls.specs.Calls.{counted_calls}
use Rattle.nq_measures.specs.declared.left.Left.{Left}
use Rattle.nq_measures.specs.Measures.{ordinal_clause}
use Rattle.nq_measures.specs.Trials.{AreLeft, IsFirstLeft}
use Rattle.nq_measures.proofs.CalledLemmas.{IsShallowCall}
use Rattle.nq_measures.proofs.MeasuredLemmas.{fall_split, ordinal_derivable}
use Rattle.nq_measures.proofs.SearchLemmas.{all_cons, older_over}
use Rattle.nq_answers.specs.Goals.{goal_text}
use Rattle.nq_answers.specs.Measuring.{AreTrials, IsTrial}
use Rattle.nq_run.specs.Recursions.{IsTriedTerm, LeftStands, trial_at, trials_at}

module _ (h : History) (d : Definition) (work : Work) (hold : LinesHold h (clause_at work.bank work.log)) (shallow : Each (IsShallowCall ((d.function, length d.formals) ∷ symbols_of h)) (calls_of d.function d.body)) where
  trial_told : (m : Term) (l : Left) → IsTriedTerm ((d.function, length d.formals) ∷ symbols_of h) d.formals m → IsFirstLeft work d.function d.formals m (counted_calls d.function d.body) l → IsTrial h d m (trial_at work.bank l)
  trial_told m l is (inl w) = record { goal = ordinal_clause m; left = inl refl; measure_is = ap printed w.measure.denotes; goal_is = ap goal_text w.literals }
  trial_told m l is (inr w) =
      let over = older_over h d.function (length d.formals) m w.older is.of in
      let split = fall_split h d work m hold over (calls_of d.function d.body) w.fall.lines w.fall.these shallow w.fall.falls in
      record {
        goal = w.fall.these;
        left = inr (record {
          ordinal = ordinal_derivable h d work m hold over w.ordinal w.is_ordinal;
          before = split.before;
          here = split.here;
          after = split.after;
          calls = split.split;
          falls = split.falls;
          goal_is = split.goal_is;
        });
        measure_is = ap printed w.fall.is.measure.denotes;
        goal_is = ap goal_text w.fall.is.literals;
      }

  pub trials_told : (ms : List Term) (ls : List Left) → Each (IsTriedTerm ((d.function, length d.formals) ∷ symbols_of h) d.formals) ms → AreLeft work d.function d.formals (counted_calls d.function d.body) ms ls → AreTrials h d ms (trials_at work.bank ls)
  trials_told [] [] are w = tt
  trials_told [] (l ∷ ls) are w = absurd w
  trials_told (m ∷ ms) [] are w = absurd w
  trials_told (m ∷ ms) (l ∷ ls) are w = (trial_told m l are.0 w.0, trials_told ms ls are.1 w.1)

-- what is left of measures stands in the bank of the work
first_stands : (work : Work) (f : List ℕ) (xs : List (List ℕ)) (m : Term) (calls : List Call) (l : Left) → IsFirstLeft work f xs m calls l → LeftStands work.bank l
first_stands work f xs m calls l (inl w) = record { measure = w.measure.stands; literals = w.stand }
first_stands work f xs m calls l (inr w) = record { measure = w.fall.is.measure.stands; literals = w.fall.is.stand }

pub left_stand : (work : Work) (f : List ℕ) (xs : List (List ℕ)) (calls : List Call) (ms : List Term) (ls : List Left) → AreLeft work f xs calls ms ls → All (LeftStands work.bank) ls
left_stand work f xs calls [] [] w = λ i d below. absurd (omega (arith, below))
left_stand work f xs calls [] (l ∷ ls) w = absurd w
left_stand work f xs calls (m ∷ ms) [] w = absurd w
left_stand work f xs calls (m ∷ ms) (l ∷ ls) w = all_cons (LeftStands work.bank) l ls (first_stands work f xs m calls l w.0) (left_stand work f xs calls ms ls w.1)

-- ---- options

pub none_told : {X : Type 0} (o : Option X) (A : Type 0) → o ≡ None → IfNone o A → A
none_told None A e w = w
none_told (Some x) A e w = absurd cc

pub none_so : {X : Type 0} (o : Option X) (A : Type 0) → A → IfNone o A
none_so None A w = w
none_so (Some x) A w = tt

pub some_none : {X : Type 0} (o : Option X) (A : Type 0) (x : X) → o ≡ Some x → IfNone o A
some_none None A x e = absurd cc
some_none (Some y) A x e = tt
