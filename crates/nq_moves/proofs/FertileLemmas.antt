-- A chosen equation is a reading of the goal, and crossings in which its side stands.
use Rattle.std.proofs.Common.{◌≡◌, true, false, Option, Some, None, List, inl, inr}
use Rattle.std.specs.Prelude.{All, IfSome}
use Rattle.nq_logic.specs.Terms.{Term, IsAmong}
use Rattle.nq_logic.specs.Ground.{symbols_of}
use Rattle.nq_logic.specs.Values.{is_value}
use Rattle.nq_bank.specs.declared.node.TermId.{TermId}
use Rattle.nq_bank.specs.Content.{Content, term_at, terms_at}
use Rattle.nq_history.specs.declared.entry.Entry.{Entry}
use Rattle.nq_history.specs.Events.{events_at}
use Rattle.nq_kernel.specs.declared.work.Work.{Work}
use Rattle.nq_lines.specs.Lines.{IsTermIn}
use Rattle.nq_goals.specs.Fertilizing.{fertilizings_of}
use Rattle.nq_goals.specs.Replacing.{stands_in}
use Rattle.nq_moves.specs.declared.moved.Crossing.{Crossing}
use Rattle.nq_moves.specs.declared.readings.Reading.{Reading}
use Rattle.nq_moves.specs.Back.{Denies}
use Rattle.nq_moves.specs.Fertilized.{fertilizing_at, ReadingStands}
use Rattle.nq_moves.specs.Swapped.{IsReading, CrossingStands, part_at}
use Rattle.nq_moves.proofs.ClosingLemmas.{IsInWork, each_over, side_over, side_over_too}
use Rattle.nq_moves.proofs.FertilizingLemmas.{IsFertile, fertile}
use Rattle.nq_moves.proofs.LegalLemmas.{Crosses}

turned : (l a b : Term) → Denies l a b → Denies l b a
turned l a b (inl e) = inr e
turned l a b (inr e) = inl e

says : (bank : Content) (goal : List TermId) (r : Reading) → IsAmong (fertilizing_at bank r) (fertilizings_of (terms_at bank goal)) → IsFertile (terms_at bank goal) (terms_at bank goal) (fertilizing_at bank r)
says bank goal r among = fertile (terms_at bank goal) (terms_at bank goal) (fertilizing_at bank r) among

pub no_value_of : (bank : Content) (goal : List TermId) (r : Reading) → IsAmong (fertilizing_at bank r) (fertilizings_of (terms_at bank goal)) → is_value (term_at bank r.from) ≡ false
no_value_of bank goal r among = (says bank goal r among).no_value

pub fertile_reading : (history : List Entry) (work : Work) (goal : List TermId) → All (IsTermIn history work) goal → (r : Reading) → ReadingStands work.bank r → IsAmong (fertilizing_at work.bank r) (fertilizings_of (terms_at work.bank goal)) → IsReading history work goal r
fertile_reading history work goal all r stand among =
    let f = says work.bank goal r among in
    let l : Term = term_at work.bank r.literal in
    let symbols = symbols_of (events_at work.bank history) in
    let over : IsInWork history work l = each_over history work goal all l f.among in
    record {
      literal = stand.literal;
      among = f.among;
      from = record { stands = stand.from; over = side_over_too symbols l (term_at work.bank r.into) (term_at work.bank r.from) f.denies over };
      into = record { stands = stand.into; over = side_over symbols l (term_at work.bank r.into) (term_at work.bank r.from) f.denies over };
      denies = turned l (term_at work.bank r.into) (term_at work.bank r.from) f.denies;
    }

pub crosses : (history : List Entry) (work : Work) (goal : List TermId) (r : Reading) (crossing : Option Crossing) → IfSome crossing (CrossingStands history work goal) → IfSome crossing (λ x. stands_in (term_at work.bank r.from) (part_at x.place (term_at work.bank x.whole)) ≡ true) → Crosses work.bank r crossing
crosses history work goal r None stand holds = tt
crosses history work goal r (Some x) stand holds = (stand.place, holds)
