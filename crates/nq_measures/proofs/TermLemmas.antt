-- Terms that stand as a bank grows, and clauses whose literals are among some terms.
use Rattle.std.proofs.Common.{◌∷◌, [], Option, List, sym, subst, inl, inr}
use Rattle.nq_logic.specs.Terms.{Name, Symbol, Term, Function, Applied, IsAmong, Each}
use Rattle.nq_logic.specs.Ground.{symbols_of}
use Rattle.nq_bank.specs.declared.node.TermId.{TermId}
use Rattle.nq_bank.specs.Content.{Content, Stands, Grows, term_at}
use Rattle.nq_bank.proofs.Growth.{term_at-grown}
use Rattle.nq_proof.specs.Clauses.{Clause}
use Rattle.nq_history.specs.declared.entry.Entry.{Entry}
use Rattle.nq_history.specs.Events.{events_at, HistoryStands}
use Rattle.nq_history.proofs.HistoryLemmas.{events_at-grown}
use Rattle.nq_kernel.specs.Over.{IsVariable, IsTermOf, TermIsIn}
use Rattle.nq_lines.specs.Lines.{AreAmong, HasOnly}

-- the sides of a call
pub parts_of_two : (symbols : List Symbol) (f : Name) (p q : Term) → IsTermOf IsVariable symbols (Applied (Applied (Function f) p) q) → IsTermOf IsVariable symbols p × IsTermOf IsVariable symbols q
parts_of_two symbols f p q h = (record { over = h.over.0.1; variables = h.variables.0.1 }, record { over = h.over.1; variables = h.variables.1 })

-- a term that is in stays so as the bank grows
pub term_in_grown : (old new : Content) (history : List Entry) (t : TermId) → Grows old new → HistoryStands old history → Stands old t → TermIsIn old history t → TermIsIn new history t
term_in_grown old new history t h stands there over =
    subst (λ u. IsTermOf IsVariable (symbols_of (events_at new history)) u) (sym (term_at-grown old new t h there)) (
    subst (λ es. IsTermOf IsVariable (symbols_of es) (term_at old t)) (sym (events_at-grown old new h history stands.entries)) over)

pub among_each : (P : Term → Type 0) (c : Clause) → Each P c → (u : Term) → IsAmong u c → P u
among_each P [] each u m = absurd m
among_each P (t ∷ c) each u (inl e) = subst P (sym e) each.0
among_each P (t ∷ c) each u (inr m) = among_each P c each.1 u m

-- a clause that has only these has only more
pub only_more : (o : Option Clause) (these more : Clause) → AreAmong these more → HasOnly o these → HasOnly o more
only_more o these more within h = record { literals = h.literals; stands = h.stands; only = λ t m. within t (h.only t m) }
