-- Guesses in a work that grew.
use Rattle.std.proofs.Common.{◌≡◌, ◌<◌, zero, suc, ℕ, List, ◌∷◌, length, get_or, sym, subst, arith}
use Rattle.std.specs.Prelude.{All, Option, Some, None, IfSome}
use Rattle.nq_logic.specs.Terms.{Term}
use Rattle.nq_logic.specs.Words.{and_term}
use Rattle.nq_logic.proofs.Symbols.{and_symbol}
use Rattle.nq_bank.specs.declared.node.TermId.{TermId}
use Rattle.nq_history.specs.declared.entry.Entry.{Entry}
use Rattle.nq_history.specs.Events.{events_at}
use Rattle.nq_rule.specs.declared.branching.Branches.{Branches}
use Rattle.nq_kernel.specs.declared.work.Work.{Work}
use Rattle.nq_kernel.specs.Growing.{WorkGrows, WorkStands}
use Rattle.nq_lines.specs.declared.facts.Fact.{Fact}
use Rattle.nq_lines.specs.Branches.{AreBranchesIn}
use Rattle.nq_lines.specs.Lines.{IsTermIn}
use Rattle.nq_lines.proofs.LineLemmas.{line_grown}
use Rattle.nq_lines.proofs.TermLemmas.{IsOver, term_grown}
use Rattle.nq_types.specs.Guessing.{CanGuess, IsGuessed}
use Rattle.nq_types.proofs.TypeLemmas.{all_grown, ready_grown, room_grown}

-- one term more, which is in
pub all_more : (history : List Entry) (work : Work) (more : TermId) (ids all : List TermId) → IsTermIn history work more → All (IsTermIn history work) ids → all ≡ more ∷ ids → All (IsTermIn history work) all
all_more history work more ids all first rest same = subst (All (IsTermIn history work)) (sym same) each
  where
    by_place : (k : ℕ) (d : TermId) → k < length (more ∷ ids) → IsTermIn history work (get_or (more ∷ ids) k d)
    by_place zero d below = first
    by_place (suc k) d below = rest k d (omega (arith, below))

    each : All (IsTermIn history work) (more ∷ ids)
    each = λ k d below. by_place k d below

module _ (history : List Entry) (old one : Work) (stands : WorkStands history old) (grows : WorkGrows history old one) where
  pub guessed_grown : (fact : Fact) → IsGuessed history old fact → IsGuessed history one fact
  guessed_grown fact h = record { term = term_grown history old one fact.term stands grows h.term; line = line_grown history old one fact.line stands grows h.line }

  pub nest_grown : (nest : Option Fact) → IfSome nest (IsGuessed history old) → IfSome nest (IsGuessed history one)
  nest_grown None h = h
  nest_grown (Some fact) h = guessed_grown fact h

  pub parts_grown : (parts : Branches) → AreBranchesIn history old parts → AreBranchesIn history one parts
  parts_grown parts h =
      record {
        test = term_grown history old one parts.test stands grows h.test;
        first = term_grown history old one parts.first stands grows h.first;
        second = term_grown history old one parts.second stands grows h.second;
      }

-- so may more lines be guessed
pub guess_grown : (history : List Entry) (old one : Work) (ids : List TermId) → WorkGrows history old one → CanGuess history old ids → CanGuess history one ids
guess_grown history old one ids grows can =
    record {
      stands = grows.stands;
      ready = ready_grown history old one can.stands grows can.ready;
      room = room_grown history old one can.stands grows can.room;
      assumed = all_grown history old one can.stands grows ids can.assumed;
    }

-- under further assumptions
pub guess_under : (history : List Entry) (work : Work) (ids more : List TermId) → All (IsTermIn history work) more → CanGuess history work ids → CanGuess history work more
guess_under history work ids more all can = record { stands = can.stands; ready = can.ready; room = can.room; assumed = all }

-- an AND is over the functions that its parts are over
pub and_over : (history : List Entry) (work : Work) (t u : Term) → IsOver history work t → IsOver history work u → IsOver history work (and_term t u)
and_over history work t u k l = record { over = ((and_symbol (events_at work.bank history), k.over), l.over); variables = ((tt, k.variables), l.variables) }
