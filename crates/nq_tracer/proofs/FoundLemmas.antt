-- A part of an argument, over a bank.
use Rattle.std.proofs.Common.{◌≡◌, ◌<◌, ℕ, zero, suc, List, [], ◌∷◌, length, get_or, refl, sym, subst, inl, inr, arith}
use Rattle.std.specs.Prelude.{if◌then◌else◌, Option, None, Some, is_some}
use Rattle.nq_logic.specs.Terms.{Term, IsAmong}
use Rattle.nq_logic.specs.Numerals.{number_of}
use Rattle.nq_bank.specs.declared.node.TermId.{TermId}
use Rattle.nq_bank.specs.Content.{Content, term_at, terms_at}
use Rattle.nq_bank.specs.Parts.{parts_of, arguments_before as parts_before}
use Rattle.nq_events.specs.Inductions.{arguments_of}
use Rattle.nq_event.proofs.DefinitionLemmas.{arguments_call}
use Rattle.nq_tracer.specs.Leads.{IsPartAt}
use Rattle.nq_tracer.proofs.PartLemmas.{part_of_argument}

id_among : (bank : Content) (ids : List TermId) (i : ℕ) (d : TermId) → i < length ids → IsAmong (term_at bank (get_or ids i d)) (terms_at bank ids)
id_among bank [] i d below = absurd (omega (arith, below))
id_among bank (x ∷ ids) zero d below = inl refl
id_among bank (x ∷ ids) (suc i) d below = inr (id_among bank ids i d (omega (arith, below)))

abbrev parts_if : Term → Option ℕ → List Term
parts_if t o = if is_some o then [] else parts_before t []

-- a numeral has no parts
parts_by : (t a : Term) (o : Option ℕ) → number_of t ≡ o → IsAmong a (parts_of t) → IsAmong a (arguments_of t)
parts_by t a None e m = subst (IsAmong a) (sym (arguments_call t e)) m
parts_by t a (Some n) e m = absurd (none (subst (λ (p : Option ℕ). IsAmong a (parts_if t p)) e m))
  where
    none : IsAmong a [] → ⊥
    none i = i

pub part_found : (bank : Content) (t : TermId) (ids : List TermId) (i : ℕ) (d u : TermId) → i < length ids → terms_at bank ids ≡ parts_of (term_at bank t) → IsPartAt bank (get_or ids i d) u → IsPartAt bank t u
part_found bank t ids i d u below parts there =
    let whole : Term = term_at bank t in
    let argument = parts_by whole (term_at bank (get_or ids i d)) (number_of whole) refl (subst (IsAmong (term_at bank (get_or ids i d))) parts (id_among bank ids i d below)) in
    record { stands = there.stands; among = part_of_argument whole (term_at bank (get_or ids i d)) (term_at bank u) argument there.among }

-- an id at its place is among the ids
pub literal_among : (ids : List TermId) (i : ℕ) (d : TermId) → i < length ids → IsAmong (get_or ids i d) ids
literal_among [] i d below = absurd (omega (arith, below))
literal_among (x ∷ ids) zero d below = inl refl
literal_among (x ∷ ids) (suc i) d below = inr (literal_among ids i d (omega (arith, below)))
