-- Terms of the work, however it grows.
use Rattle.std.proofs.Common.{◌≡◌, List, sym, subst}
use Rattle.std.specs.Prelude.{Result, Ok, Err, IfOk}
use Rattle.nq_logic.specs.Terms.{Term}
use Rattle.nq_rule.proofs.Made.{for_ok}
use Rattle.nq_kernel.specs.declared.work.Stop.{Stop}
use Rattle.nq_logic.specs.Ground.{symbols_of}
use Rattle.nq_logic.specs.Words.{not_term, equal_term}
use Rattle.nq_logic.proofs.Symbols.{not_symbol, equal_symbol}
use Rattle.nq_bank.specs.declared.node.TermId.{TermId}
use Rattle.nq_bank.specs.Content.{IsIdOf, term_at}
use Rattle.nq_bank.proofs.Growth.{Stands-grown, term_at-grown}
use Rattle.nq_history.specs.declared.entry.Entry.{Entry}
use Rattle.nq_history.specs.Events.{events_at}
use Rattle.nq_history.proofs.HistoryLemmas.{events_at-grown}
use Rattle.nq_kernel.specs.declared.work.Work.{Work}
use Rattle.nq_kernel.specs.Over.{IsVariable, IsTermOf}
use Rattle.nq_kernel.specs.Growing.{WorkStands, WorkGrows}
use Rattle.nq_lines.specs.Lines.{IsTermIn}

-- a term stays in as the work grows
pub term_grown : (history : List Entry) (old new : Work) (t : TermId) → WorkStands history old → WorkGrows history old new → IsTermIn history old t → IsTermIn history new t
term_grown history old new t stands grows h =
    record {
      stands = Stands-grown old.bank new.bank t grows.bank h.stands;
      over =
          subst (λ u. IsTermOf IsVariable (symbols_of (events_at new.bank history)) u) (sym (term_at-grown old.bank new.bank t grows.bank h.stands)) (
          subst (λ es. IsTermOf IsVariable (symbols_of es) (term_at old.bank t)) (sym (events_at-grown old.bank new.bank grows.bank history stands.history.entries)) h.over);
    }

-- and it denotes the same
pub same_term_grown : (history : List Entry) (old new : Work) (t : TermId) → WorkGrows history old new → IsTermIn history old t → term_at new.bank t ≡ term_at old.bank t
same_term_grown history old new t grows h = term_at-grown old.bank new.bank t grows.bank h.stands

-- an id of a term that is in
pub id_in : (history : List Entry) (work : Work) (t : TermId) (u : Term) → IsIdOf work.bank t u → IsTermOf IsVariable (symbols_of (events_at work.bank history)) u → IsTermIn history work t
id_in history work t u is over = record { stands = is.stands; over = subst (λ v. IsTermOf IsVariable (symbols_of (events_at work.bank history)) v) (sym is.denotes) over }

module _ (history : List Entry) (work : Work) where
  abbrev pub IsOver : Term → Type 0
  IsOver t = IsTermOf IsVariable (symbols_of (events_at work.bank history)) t

  pub not_over : (t : Term) → IsOver t → IsOver (not_term t)
  not_over t k = record { over = (not_symbol (events_at work.bank history), k.over); variables = (tt, k.variables) }

  pub equal_over : (t u : Term) → IsOver t → IsOver u → IsOver (equal_term t u)
  equal_over t u k l = record { over = ((equal_symbol (events_at work.bank history), k.over), l.over); variables = ((tt, k.variables), l.variables) }

-- an id that was made of a term that is in
pub made_in_work : (history : List Entry) (old new : Work) (r : Result TermId Stop) (u : Term) → WorkStands history old → WorkGrows history old new → IsOver history old u → IfOk r (λ t. IsIdOf new.bank t u) → IfOk r (λ t. IsTermIn history new t)
made_in_work history old new r u stands grows over h =
    for_ok r (λ t. IsIdOf new.bank t u) (λ t. IsTermIn history new t) (λ t is. id_in history new t u is (subst (λ es. IsTermOf IsVariable (symbols_of es) u) (sym (events_at-grown old.bank new.bank grows.bank history stands.history.entries)) over)) h

-- what two clauses of an answer tell together
pub both_ok : {A F : Type 0} (r : Result A F) (P Q R : A → Type 0) → ((a : A) → P a → Q a → R a) → IfOk r P → IfOk r Q → IfOk r R
both_ok (Ok a) P Q R f h k = f a h k
both_ok (Err e) P Q R f h k = tt
