-- Where the lines of a measure hold, it is one of the definition.
use Rattle.std.proofs.Common.{◌≡◌, ℕ, zero, Option, Some, List, [], ◌∷◌, ◌++◌, length, inr, refl, ap}
use Rattle.nq_logic.specs.Terms.{Symbol, Term, IsTerm, Each, substituted}
use Rattle.nq_logic.specs.Words.{call1, call2}
use Rattle.nq_logic.specs.Histories.{History, Definition}
use Rattle.nq_logic.specs.Ground.{symbols_of}
use Rattle.nq_logic.specs.Admissible.{matched, Call, calls_of, obligation, denied_tests, FallsAt}
use Rattle.nq_logic.proofs.Lists.{each_append}
use Rattle.nq_logic.proofs.Additions.{takes_grows}
use Rattle.nq_logic.proofs.Symbols.{not_symbol, ordinalp_symbol, ord_lessp_symbol}
use Rattle.nq_proof.specs.Clauses.{Clause}
use Rattle.nq_proof.specs.Laws.{LinesHold}
use Rattle.nq_proof.proofs.CalledTerms.{denied_over, without_function}
use Rattle.nq_log.proofs.RuleSteps.{only_holds}
use Rattle.nq_kernel.specs.Over.{IsVariable, IsTermOf}
use Rattle.nq_kernel.specs.Meaning.{clause_at}
use Rattle.nq_bank.specs.Content.{text_at, term_at}
use Rattle.nq_bank.specs.Shells.{texts_at}
use Rattle.nq_history.specs.Events.{events_at}
use Rattle.nq_measures.specs.Admitting.{AdmittingIsMeasure, AreFalls, IsFall}
use Rattle.nq_logic.specs.Formulas.{clause}
use Rattle.nq_logic.specs.Derivations.{Derivable}
use Rattle.nq_kernel.specs.declared.work.Work.{Work}
use Rattle.nq_lines.specs.Lines.{LineHasOnly}
use Rattle.nq_calls.specs.Calls.{beneath}
use Rattle.nq_measures.specs.Measures.{ordinal_clause}
use Rattle.nq_measures.specs.Trials.{FallUntil, IsShallowTerm}
use Rattle.nq_lines.proofs.OnlyLemmas.{only_true}
use Rattle.nq_measures.proofs.CalledLemmas.{IsShallowCall, body_calls}
use Rattle.nq_measures.proofs.SearchLemmas.{instance_of}

overs : (symbols : List Symbol) (ts : List Term) → Each (IsShallowTerm symbols) ts → Each (IsTerm symbols) ts
overs symbols [] w = tt
overs symbols (t ∷ ts) w = (w.0.of.over, overs symbols ts w.1)

module _ (h : History) (d : Definition) (lines : ℕ → Option Clause) (m : Term) (hold : LinesHold h lines) (over : IsTermOf IsVariable (symbols_of h) m) where
  abbrev more : List Symbol
  more = (d.function, length d.formals) ∷ symbols_of h

  pub fall_at : (c : Call) (n : ℕ) → IsShallowCall more c → IsFall lines d.function d.formals m c n → FallsAt h d m c
  fall_at c n w fall =
      let larger = takes_grows (symbols_of h) more (λ x k. inr k) m zero over.over in
      let there = instance_of more d.formals c.arguments w.arguments m zero larger over.variables in
      let small = without_function d.function (length d.formals) (symbols_of h) (substituted (matched d.formals c.arguments) m) zero fall.older there.0 in
      record {
        older = fall.older;
        less =
            only_holds h (lines n) (obligation d.function d.formals m c.tests c.arguments) (hold n)
            (each_append (IsTerm (symbols_of h)) (denied_tests d.function c.tests) (call2 "ORD-LESSP" (substituted (matched d.formals c.arguments) m) m ∷ [])
            (denied_over d.function (length d.formals) (symbols_of h) (not_symbol h) c.tests (overs more c.tests w.tests)) (((ord_lessp_symbol h, small), over.over), tt))
            fall.less;
      }

  falls_at : (calls : List Call) (ns : List ℕ) → Each (IsShallowCall more) calls → AreFalls lines d.function d.formals m calls ns → Each (FallsAt h d m) calls
  falls_at [] ns w falls = tt
  falls_at (c ∷ calls) [] w falls = absurd falls
  falls_at (c ∷ calls) (n ∷ ns) w falls = (fall_at c n w.0 falls.0, falls_at calls ns w.1 falls.1)

pub admitting_measure : AdmittingIsMeasure
admitting_measure history old work f formals body tried found function admitting hold within =
    let h : History = events_at old history in
    let m : Term = term_at old found.measure in
    let d : Definition = record { function = text_at old f; formals = texts_at old formals; body = term_at old body; measure = Some m } in
    record {
      over = admitting.measure_over.over;
      of_formals = within;
      ordinal = only_holds h (clause_at work.bank work.log found.ordinal) (call1 "ORDINALP" m ∷ []) (hold found.ordinal) ((ordinalp_symbol h, admitting.measure_over.over), tt) admitting.is_ordinal;
      falls =
          falls_at h d (clause_at work.bank work.log) m hold admitting.measure_over (calls_of d.function d.body) found.falls.items
          (body_calls ((d.function, length d.formals) ∷ symbols_of h) (inr (not_symbol h)) d.function d.body function.over function.shallow) admitting.each_falls;
    }

-- ---- what is left of a measure

module _ (h : History) (d : Definition) (work : Work) (m : Term) (hold : LinesHold h (clause_at work.bank work.log)) (over : IsTermOf IsVariable (symbols_of h) m) where
  -- the goal is the obligation of a call before which the measure falls at each
  pub record FallSplit (calls : List Call) (goal : List Term) : Type 0 where
    pub before : List Call
    pub here : Call
    pub after : List Call
    pub split : calls ≡ before ++ here ∷ after
    pub falls : Each (FallsAt h d m) before
    pub goal_is : goal ≡ obligation d.function d.formals m here.tests here.arguments

  pub fall_split : (calls : List Call) (ns : List ℕ) (goal : List Term) → Each (IsShallowCall ((d.function, length d.formals) ∷ symbols_of h)) calls → FallUntil work d.function d.formals m (beneath d.function [] calls) ns goal → FallSplit calls goal
  fall_split [] ns goal w u = absurd u
  fall_split (c ∷ calls) [] goal w u = record { before = []; here = c; after = calls; split = refl; falls = tt; goal_is = u }
  fall_split (c ∷ calls) (n ∷ ns) goal w u =
      let rest = fall_split calls ns goal w.1 u.1 in
      let line = only_true (clause_at work.bank work.log n) (obligation d.function d.formals m c.tests c.arguments) u.0.less in
      let fall = fall_at h d (clause_at work.bank work.log) m hold over c n w.0 (record { older = u.0.older; less = line }) in
      record { before = c ∷ rest.before; here = rest.here; after = rest.after; split = ap (λ (cs : List Call). c ∷ cs) rest.split; falls = (fall, rest.falls); goal_is = rest.goal_is }

  pub ordinal_derivable : (n : ℕ) → LineHasOnly work n (ordinal_clause m) → Derivable h (clause (ordinal_clause m))
  ordinal_derivable n line =
      only_holds h (clause_at work.bank work.log n) (ordinal_clause m) (hold n) ((ordinalp_symbol h, over.over), tt) (only_true (clause_at work.bank work.log n) (ordinal_clause m) line)
