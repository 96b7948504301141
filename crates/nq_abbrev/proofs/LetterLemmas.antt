-- The letters of a nest stand first in the bytes behind its C.
use Rattle.std.proofs.Common.{◌≡◌, ℕ, ◌<◌, ◌≤◌, Bool, true, false, List, [], ◌∷◌, length, take, refl, sym, ap, ◌∙◌, arith}
use Rattle.std.specs.Prelude.{Option, None, Some, nat_eq, if◌then◌else◌}
use Rattle.nq_language.specs.Abbreviations.{is_letter, after, letters_of, at_least_two}
use Rattle.nq_abbrev.specs.Words.{count_in}

after_is : (b : ℕ) (o : Option (List ℕ)) (ls : List ℕ) → after b o ≡ Some ls → (more : List ℕ) × (o ≡ Some more) × (ls ≡ b ∷ more)
after_is b None ls h = absurd (cc)
after_is b (Some more) ls h = (more, refl, cc)

chosen : (c : Bool) (o : Option (List ℕ)) (ls : List ℕ) → (if c then o else None) ≡ Some ls → o ≡ Some ls
chosen true o ls h = h
chosen false o ls h = absurd (cc)

pub letters_first : (bs ls : List ℕ) → letters_of bs ≡ Some ls → take (length ls) bs ≡ ls
letters_first [] ls h = absurd (cc)
letters_first (b ∷ []) ls h = let e : ls ≡ [] = cc (chosen (nat_eq b 82) (Some []) ls h) in rw e refl
letters_first (b ∷ c ∷ bs) ls h =
    let m = after_is b (letters_of (c ∷ bs)) ls (chosen (is_letter b) (after b (letters_of (c ∷ bs))) ls h) in
    rw m.2 (ap (λ z. b ∷ z) (letters_first (c ∷ bs) m.0 m.1))

count_of : (o : Option (List ℕ)) (n : ℕ) → count_in o ≡ Some n → (ls : List ℕ) × (o ≡ Some ls) × (length ls ≡ n)
count_of None n h = absurd (cc)
count_of (Some ls) n h = (ls, refl, cc)

two_and_more : (ls : List ℕ) → 2 ≤ length ls → at_least_two (Some ls) ≡ Some ls
two_and_more [] h = absurd (omega arith)
two_and_more (b ∷ []) h = absurd (omega arith)
two_and_more (b ∷ c ∷ bs) h = refl

fewer : (ls : List ℕ) → length ls < 2 → at_least_two (Some ls) ≡ None
fewer [] h = refl
fewer (b ∷ []) h = refl
fewer (b ∷ c ∷ bs) h = absurd (omega arith)

pub counted_letters : (bs : List ℕ) (n : ℕ) → count_in (letters_of bs) ≡ Some n → 2 ≤ n → Some (take n bs) ≡ at_least_two (letters_of bs)
counted_letters bs n h two =
    let m = count_of (letters_of bs) n h in
    ap Some (ap (λ z. take z bs) (sym m.2) ∙ letters_first bs m.0 m.1) ∙ sym (ap at_least_two m.1 ∙ two_and_more m.0 (omega (arith, m.2)))

pub few_letters : (bs : List ℕ) (n : ℕ) → count_in (letters_of bs) ≡ Some n → n < 2 → None ≡ at_least_two (letters_of bs)
few_letters bs n h few = let m = count_of (letters_of bs) n h in sym (ap at_least_two m.1 ∙ fewer m.0 (omega (arith, m.2)))

none_counted : (o : Option (List ℕ)) → count_in o ≡ None → at_least_two o ≡ None
none_counted None h = refl
none_counted (Some ls) h = absurd (cc)

pub no_letters : (bs : List ℕ) → count_in (letters_of bs) ≡ None → None ≡ at_least_two (letters_of bs)
no_letters bs h = sym (none_counted (letters_of bs) h)
