-- The claim of a goal, over a bank.
use Rattle.std.proofs.Common.{◌≡◌, ◌∙◌, ◌<◌, ◌≤◌, ◌-◌, ℕ, List, [], ◌∷◌, length, get_or, drop, take, refl, sym, ap, ap₂, subst, arith}
use Rattle.std.specs.Prelude.{All}
use Rattle.std.proofs.lemmas.List.{take_all}
use Rattle.nq_logic.specs.Terms.{Term, IsTerm}
use Rattle.nq_logic.specs.Histories.{History}
use Rattle.nq_logic.specs.Ground.{symbols_of}
use Rattle.nq_logic.specs.Words.{or_term}
use Rattle.nq_bank.specs.declared.node.TermId.{TermId}
use Rattle.nq_bank.specs.Content.{Content, Grows, IsIdOf, Stands, term_at, terms_at}
use Rattle.nq_bank.proofs.Growth.{term_at-grown}
use Rattle.nq_history.specs.declared.entry.Entry.{Entry}
use Rattle.nq_history.specs.Events.{HistoryStands, events_at}
use Rattle.nq_history.proofs.HistoryLemmas.{events_at-grown}
use Rattle.nq_kernel.specs.Over.{IsTermOf, IsVariable, TermIsIn}
use Rattle.nq_goals.specs.Inducting.{claim_of}

-- the literals behind the first
rest_same : (ids : List TermId) → take (length ids - 1) (drop 1 ids) ≡ drop 1 ids
rest_same [] = refl
rest_same (a ∷ ids) = take_all (length (a ∷ ids) - 1) ids (omega arith)

claim_more : (bank : Content) (ids : List TermId) (d : TermId) → 0 < length ids → (length ids ≡ 1 → ⊥) → claim_of (terms_at bank ids) ≡ or_term (term_at bank (get_or ids 0 d)) (claim_of (terms_at bank (drop 1 ids)))
claim_more bank [] d some more = absurd (omega (arith, some))
claim_more bank (a ∷ []) d some more = absurd (more refl)
claim_more bank (a ∷ b ∷ ids) d some more = refl

-- the OR of the first literal and the claim of the rest is the claim of all
pub claim_made : (old bank : Content) (ids : List TermId) (rest d : TermId) → Grows old bank → All (Stands old) ids → 0 < length ids → (length ids ≡ 1 → ⊥) → IsIdOf bank rest (claim_of (terms_at old (take (length ids - 1) (drop 1 ids)))) →
    or_term (term_at bank (get_or ids 0 d)) (term_at bank rest) ≡ claim_of (terms_at old ids)
claim_made old bank ids rest d h stand some more is =
    ap₂ or_term (term_at-grown old bank (get_or ids 0 d) h (stand 0 d some)) (is.denotes ∙ ap (λ l. claim_of (terms_at old l)) (rest_same ids)) ∙
    sym (claim_more old ids d some more)

-- what is over the history stays so as the bank grows
pub overs_grown : (old new : Content) (history : List Entry) (ids : List TermId) → Grows old new → HistoryStands old history → All (Stands old) ids → All (TermIsIn old history) ids → All (TermIsIn new history) ids
overs_grown old new history ids h stands stand over = λ i d below.
    subst (IsTermOf IsVariable (symbols_of (events_at new history))) (sym (term_at-grown old new (get_or ids i d) h (stand i d below)))
    (subst (λ (es : History). IsTermOf IsVariable (symbols_of es) (term_at old (get_or ids i d))) (sym (events_at-grown old new h history stands.entries)) (over i d below))

-- and so does a term over its functions
pub over_grown : (old new : Content) (history : List Entry) (t : TermId) → Grows old new → HistoryStands old history → Stands old t → IsTerm (symbols_of (events_at old history)) (term_at old t) → IsTerm (symbols_of (events_at new history)) (term_at new t)
over_grown old new history t h stands stand over =
    subst (IsTerm (symbols_of (events_at new history))) (sym (term_at-grown old new t h stand)) (subst (λ (es : History). IsTerm (symbols_of es) (term_at old t)) (sym (events_at-grown old new h history stands.entries)) over)
