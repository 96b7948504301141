-- Names, ids and patterns in a bank that grew.
use Rattle.std.proofs.Common.{◌≡◌, ◌∷◌, [], ◌∙◌, ℕ, Bool, true, false, List, refl, sym, ap, ap₂, subst, arith}
use Rattle.nq_quick.specs.Decisions.{true_sides}
use Rattle.std.specs.Prelude.{Result, Ok, Err, IfOk, OnErr, All}
use Rattle.nq_logic.specs.Terms.{Term}
use Rattle.nq_bank.specs.declared.node.Sym.{Sym}
use Rattle.nq_bank.specs.declared.node.TermId.{TermId}
use Rattle.nq_bank.specs.Content.{Content, Grows, Names, NamesText, Gives, Stands, IsIdOf, term_at, terms_at}
use Rattle.nq_bank.proofs.Growth.{Grows-refl, IsNamed-grown, text_at-grown, term_at-grown}
use Rattle.nq_bank.proofs.Standing.{id_grown, All-push}
use Rattle.nq_steps.specs.NewNames.{AddsSymbols}
use Rattle.nq_history.specs.declared.entry.Entry.{Entry}
use Rattle.nq_kernel.specs.declared.work.Work.{Work}
use Rattle.nq_kernel.specs.Growing.{WorkStands}
use Rattle.nq_kernel.proofs.GrowingLemmas.{bank_grows, LineHolds-grown}
use Rattle.nq_kernel.specs.Growing.{WorkGrows}
use Rattle.nq_fragments.specs.declared.connective.Connective.{Connective}
use Rattle.nq_quick.specs.declared.patterns.Pattern.{Pattern}
use Rattle.nq_quick.specs.declared.patterns.Opening.{Opening}
use Rattle.nq_quick.specs.Heads.{joined_term}
use Rattle.nq_quick.specs.Lines.{GrowsUncounted}
use Rattle.nq_quick.specs.Patterns.{IsPattern, IsOpening}

pub name_grown : (old new : Content) (s : Sym) (text : List ℕ) → Grows old new → NamesText old s text → NamesText new s text
name_grown old new s text h k = record { named = IsNamed-grown old new s h k.named; reads = text_at-grown old new s h k.named ∙ k.reads }

pub names_grow : {E : Type 0} (old new : Content) (r : Result Sym E) (text : List ℕ) → IfOk r (λ s. Names old new s text) → OnErr r (new ≡ old) → Grows old new
names_grow old new (Ok s) text h k = h.grows
names_grow old new (Err e) text h k = subst (Grows old) (sym k) (Grows-refl old)

pub gives_grow : {E : Type 0} (old new : Content) (r : Result TermId E) (term : Term) → IfOk r (λ t. Gives old new t term) → OnErr r (new ≡ old) → Grows old new
gives_grow old new (Ok t) term h k = h.grows
gives_grow old new (Err e) term h k = subst (Grows old) (sym k) (Grows-refl old)

-- work of which only the bank grew
pub bank_uncounted : (history : List Entry) (old : Work) (bank : Content) → WorkStands history old → Grows old.bank bank → AddsSymbols old.bank bank → GrowsUncounted history old (record old { bank = bank })
bank_uncounted history old bank stands grows symbols = record { grows = bank_grows history old bank old.counter stands grows symbols (record { used = omega arith; limit = refl }); uncounted = refl }

pub pattern_grown : (old new : Content) (c : Connective) (pattern : Pattern) → Grows old new → IsPattern old c pattern → IsPattern new c pattern
pattern_grown old new c pattern h k = record { left = id_grown old new pattern.left _ h k.left; right = id_grown old new pattern.right _ h k.right; whole = id_grown old new pattern.whole _ h k.whole }

pub opening_grown : (history : List Entry) (old new : Work) (c : Connective) (opened : Opening) → WorkStands history old → WorkGrows history old new → IsOpening old c opened → IsOpening new c opened
opening_grown history old new c opened stands grows k =
    record { line = LineHolds-grown history old new opened.line _ stands grows k.line; equation = id_grown old.bank new.bank opened.equation _ grows.bank k.equation; body = id_grown old.bank new.bank opened.body _ grows.bank k.body }

pub joined_grown : (old new : Content) (c : Connective) (t p q : TermId) → Grows old new → Stands old p → Stands old q → IsIdOf old t (joined_term c (term_at old p) (term_at old q)) → IsIdOf new t (joined_term c (term_at new p) (term_at new q))
joined_grown old new c t p q h left right is =
    subst (IsIdOf new t) (ap₂ (joined_term c) (sym (term_at-grown old new p h left)) (sym (term_at-grown old new q h right))) (id_grown old new t (joined_term c (term_at old p) (term_at old q)) h is)

pub two_stand : (bank : Content) (ids : List TermId) (t u : TermId) → ids ≡ t ∷ u ∷ [] → Stands bank t → Stands bank u → All (Stands bank) ids
two_stand bank ids t u e one two = subst (All (Stands bank)) (sym e) (All-push (Stands bank) (t ∷ []) u (All-push (Stands bank) [] t (λ i d below. absurd (omega arith)) one) two)

-- those of two ids that are true
pub sides_terms : (bank : Content) (l r : Bool) (p q : TermId) (ids : List TermId) → ids ≡ true_sides l r p q → terms_at bank ids ≡ true_sides l r (term_at bank p) (term_at bank q)
sides_terms bank l r p q ids e = ap (terms_at bank) e ∙ by_sides l r
  where
    by_sides : (l r : Bool) → terms_at bank (true_sides l r p q) ≡ true_sides l r (term_at bank p) (term_at bank q)
    by_sides true true = refl
    by_sides true false = refl
    by_sides false true = refl
    by_sides false false = refl

one_stands : (bank : Content) (t : TermId) → Stands bank t → All (Stands bank) (t ∷ [])
one_stands bank t h = All-push (Stands bank) [] t (λ i d below. absurd (omega arith)) h

pub sides_stand : (bank : Content) (l r : Bool) (p q : TermId) (ids : List TermId) → ids ≡ true_sides l r p q → Stands bank p → Stands bank q → All (Stands bank) ids
sides_stand bank l r p q ids e one two = subst (All (Stands bank)) (sym e) (by_sides l r)
  where
    by_sides : (l r : Bool) → All (Stands bank) (true_sides l r p q)
    by_sides true true = All-push (Stands bank) (p ∷ []) q (one_stands bank p one) two
    by_sides true false = one_stands bank p one
    by_sides false true = one_stands bank q two
    by_sides false false = λ i d below. absurd (omega arith)
