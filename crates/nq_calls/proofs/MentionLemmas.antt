-- Where a function stands in calls and numerals.
use Rattle.std.proofs.Common.{◌≡◌, ℕ, zero, suc, ◌+◌, ◌<◌, ◌≤◌, Bool, true, false, ◌||◌, List, [], ◌∷◌, ◌++◌, length, get_or, take, drop, drop-cons, refl, sym, ap, ◌∙◌, inl, inr, arith}
use Rattle.std.specs.Prelude.{bytes_eq, codes, nat_eq, Some}
use Rattle.std.specs.HashMap.{Updates}
use Rattle.std.proofs.lemmas.List.{take_all}
use Rattle.nq_logic.specs.Terms.{Name, Term, Function, Applied, applied, call}
use Rattle.nq_logic.specs.Words.{numeral}
use Rattle.nq_logic.specs.Admissible.{mentions}
use Rattle.nq_bank.specs.declared.node.TermId.{TermId}
use Rattle.nq_bank.specs.Content.{Content, term_at, terms_at, term_from, terms_from}
use Rattle.nq_bank.specs.Parts.{parts_of}
use Rattle.nq_bank.proofs.ArgumentLemmas.{terms_from-take}
use Rattle.nq_clause.proofs.Lookups.{kept_or_stood}
use Rattle.nq_calls.specs.Mentions.{is_mentioned, Answers, HasMentions}

or_false : (a : Bool) → (a || false) ≡ a
or_false true = refl
or_false false = refl

or_assoc : (a b d : Bool) → ((a || b) || d) ≡ (a || (b || d))
or_assoc true b d = refl
or_assoc false b d = refl

mentions-applied : (f : Name) (t : Term) (us : List Term) → mentions f (applied t us) ≡ (mentions f t || is_mentioned f us)
mentions-applied f t [] = sym (or_false (mentions f t))
mentions-applied f t (u ∷ us) = mentions-applied f (Applied t u) us ∙ or_assoc (mentions f t) (mentions f u) (is_mentioned f us)

pub mentions-call : (f g : Name) (ts : List Term) → mentions f (call g ts) ≡ (bytes_eq f g || is_mentioned f ts)
mentions-call f g ts = mentions-applied f (Function g) ts

mentioned-push : (f : Name) (ts : List Term) (t : Term) → is_mentioned f (ts ++ t ∷ []) ≡ (is_mentioned f ts || mentions f t)
mentioned-push f [] t = or_false (mentions f t)
mentioned-push f (u ∷ ts) t = ap (λ b. mentions f u || b) (mentioned-push f ts t) ∙ sym (or_assoc (mentions f u) (is_mentioned f ts) (mentions f t))

-- one more argument
pub mentioned-more : (f : Name) (ts : List Term) (ids : List TermId) (i : ℕ) (d : TermId) (before here : Bool) → i < length ids → before ≡ is_mentioned f (terms_from ts (take i ids)) → here ≡ mentions f (term_from ts (get_or ids i d)) →
    (before || here) ≡ is_mentioned f (terms_from ts (take (i + 1) ids))
mentioned-more f ts ids i d before here below was is =
    rw (was, is) (sym (ap (is_mentioned f) (terms_from-take ts ids i d below) ∙ mentioned-push f (terms_from ts (take i ids)) (term_from ts (get_or ids i d))))

-- the answer for the function and all arguments is that for the call
pub mentions-whole : (bank : Content) (f g : Name) (term : Term) (ids : List TermId) (i : ℕ) (own inside : Bool) → term ≡ call g (parts_of term) → terms_at bank ids ≡ parts_of term → length ids ≤ i →
    own ≡ bytes_eq f g → inside ≡ is_mentioned f (terms_at bank (take i ids)) → (own || inside) ≡ mentions f term
mentions-whole bank f g term ids i own inside is tells all same so_far =
    ap (λ b. b || inside) same ∙
    ap (λ b. bytes_eq f g || b) (so_far ∙ ap (λ xs. is_mentioned f (terms_at bank xs)) (take_all i ids all) ∙ ap (is_mentioned f) tells) ∙
    sym (ap (mentions f) is ∙ mentions-call f g (parts_of term))

-- an answer that is kept is right
pub mentions_kept : (bank : Content) (f : Name) (old new : Answers) (t : TermId) (answer : Bool) → HasMentions bank f old → Updates nat_eq old new t.0 (Some answer) → answer ≡ mentions f (term_at bank t) → HasMentions bank f new
mentions_kept bank f old new t answer h updates is =
    record {
      right = λ q b found.
          elim (kept_or_stood old new t.0 q.0 answer b updates found) [
            | inl here ↦ sym here.1 ∙ is ∙ ap (λ k. mentions f (term_at bank (record { 0 = k }))) here.0
            | inr there ↦ h.right q b there
          ];
    }

-- among some terms
pub mentioned_here : (f : Name) (bank : Content) (ids : List TermId) (i : ℕ) (d : TermId) → i < length ids → true ≡ mentions f (term_at bank (get_or ids i d)) → is_mentioned f (terms_at bank (drop i ids)) ≡ is_mentioned f (terms_at bank ids) → true ≡ is_mentioned f (terms_at bank ids)
mentioned_here f bank ids i d below here so_far =
    sym (ap (λ b. b || is_mentioned f (terms_at bank (drop (suc i) ids))) (sym here)) ∙ sym (ap (λ l. is_mentioned f (terms_at bank l)) (drop-cons ids i d below)) ∙ so_far

-- ZERO stands in each numeral, and ADD1 in each but 0
or_true : (b : Bool) → (b || true) ≡ true
or_true true = refl
or_true false = refl

one_more : (a : Bool) → (a || a) ≡ a
one_more true = refl
one_more false = refl

pub zero_in_numeral : (f : Name) (n : ℕ) → bytes_eq f (codes "ZERO") ≡ true → mentions f (numeral n) ≡ true
unfolding numeral
zero_in_numeral f zero h = h
zero_in_numeral f (suc n) h = ap (λ b. bytes_eq f (codes "ADD1") || b) (zero_in_numeral f n h) ∙ or_true (bytes_eq f (codes "ADD1"))

pub only_zero_in_0 : (f : Name) (n : ℕ) → n ≡ 0 → mentions f (numeral n) ≡ bytes_eq f (codes "ZERO")
unfolding numeral
only_zero_in_0 f zero e = refl
only_zero_in_0 f (suc n) e = absurd (cc)

add1_in_next : (f : Name) (n : ℕ) → bytes_eq f (codes "ZERO") ≡ false → mentions f (numeral (suc n)) ≡ bytes_eq f (codes "ADD1")
unfolding numeral
add1_in_next f zero h = ap (λ b. bytes_eq f (codes "ADD1") || b) h ∙ or_false (bytes_eq f (codes "ADD1"))
add1_in_next f (suc n) h = ap (λ b. bytes_eq f (codes "ADD1") || b) (add1_in_next f n h) ∙ one_more (bytes_eq f (codes "ADD1"))

pub add1_in_numeral : (f : Name) (n : ℕ) → 0 < n → bytes_eq f (codes "ZERO") ≡ false → mentions f (numeral n) ≡ bytes_eq f (codes "ADD1")
add1_in_numeral f zero lt h = absurd (omega arith)
add1_in_numeral f (suc n) lt h = add1_in_next f n h
