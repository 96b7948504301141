-- A name that is not reserved is no word with another meaning than that of a function.
use Rattle.std.proofs.Common.{◌≡◌, ℕ, suc, ◌+◌, ◌<◌, Bool, true, false, nat_eq, List, [], ◌∷◌, length, drop, refl, sym, inl, inr, arith}
use Rattle.std.specs.Prelude.{◌⊎◌, ◌&&◌, ◌||◌, nat_le, Option, None, Some, if◌then◌else◌}
use Rattle.std.proofs.lemmas.Bool.Decides.{nat_tests}
use Rattle.nq_logic.specs.Terms.{Name}
use Rattle.nq_logic.specs.Names.{has_name, reserved_names, ends_nest, is_nest}
use Rattle.nq_language.specs.Abbreviations.{Word, Listing, Conditional, Choice, Binding, Quotation, Nesting, Outside, Plain, is_word, is_letter, after, letters_of, at_least_two, path_of, is_nesting, is_outside, other_word, word_of}
use Rattle.nq_abbrev.specs.Reserved.{NamesAreCalls}

neither : (b c : Bool) → (b || c) ≡ false → (b ≡ false) × (c ≡ false)
neither true c h = absurd (cc)
neither false c h = (refl, h)

calls : (li co ca le qu n o : Bool) → li ≡ false → co ≡ false → ca ≡ false → le ≡ false → qu ≡ false → o ≡ false → (w : Word)
    → (if li then Listing else (if co then Conditional else (if ca then Choice else (if le then Binding else (if qu then Quotation else (if n then Nesting else (if o then Outside else Plain))))))) ≡ w
    → (w ≡ Plain) ⊎ (w ≡ Nesting)
calls true co ca le qu n o a b c d e g w h = absurd (cc)
calls false true ca le qu n o a b c d e g w h = absurd (cc)
calls false false true le qu n o a b c d e g w h = absurd (cc)
calls false false false true qu n o a b c d e g w h = absurd (cc)
calls false false false false true n o a b c d e g w h = absurd (cc)
calls false false false false false true o a b c d e g w h = inr (sym h)
calls false false false false false false true a b c d e g w h = absurd (cc)
calls false false false false false false false a b c d e g w h = inl (sym h)

outside_none : (v e a s b m r : Bool) → v ≡ false → e ≡ false → a ≡ false → s ≡ false → b ≡ false → m ≡ false → r ≡ false → (v || e || a || s || b || m || r) ≡ false
outside_none v e a s b m r i j k l n o p = rw (i, j, k, l, n, o, p) refl

other_call : (f : Name) → has_name f reserved_names ≡ false → (other_word f ≡ Plain) ⊎ (other_word f ≡ Nesting)
other_call f h =
    let t = neither (is_word "T" f) (has_name f (drop 1 reserved_names)) h in
    let f' = neither (is_word "F" f) (has_name f (drop 2 reserved_names)) t.1 in
    let ni = neither (is_word "NIL" f) (has_name f (drop 3 reserved_names)) f'.1 in
    let qu = neither (is_word "QUOTE" f) (has_name f (drop 4 reserved_names)) ni.1 in
    let li = neither (is_word "LIST" f) (has_name f (drop 5 reserved_names)) qu.1 in
    let co = neither (is_word "COND" f) (has_name f (drop 6 reserved_names)) li.1 in
    let ca = neither (is_word "CASE" f) (has_name f (drop 7 reserved_names)) co.1 in
    let le = neither (is_word "LET" f) (has_name f (drop 8 reserved_names)) ca.1 in
    let ot = neither (is_word "OTHERWISE" f) (has_name f (drop 9 reserved_names)) le.1 in
    let fo = neither (is_word "FOR" f) (has_name f (drop 10 reserved_names)) ot.1 in
    let vc = neither (is_word "V&C$" f) (has_name f (drop 11 reserved_names)) fo.1 in
    let ev = neither (is_word "EVAL$" f) (has_name f (drop 12 reserved_names)) vc.1 in
    let ap' = neither (is_word "APPLY$" f) (has_name f (drop 13 reserved_names)) ev.1 in
    let su = neither (is_word "SUBRP" f) (has_name f (drop 14 reserved_names)) ap'.1 in
    let bo = neither (is_word "BODY" f) (has_name f (drop 15 reserved_names)) su.1 in
    let fm = neither (is_word "FORMALS" f) (has_name f (drop 16 reserved_names)) bo.1 in
    calls (is_word "LIST" f) (is_word "COND" f) (is_word "CASE" f) (is_word "LET" f) (is_word "QUOTE" f) (is_nesting f) (is_outside f) li.0 co.0 ca.0 le.0 qu.0
    (outside_none (is_word "V&C$" f) (is_word "EVAL$" f) (is_word "APPLY$" f) (is_word "SUBRP" f) (is_word "BODY" f) (is_word "FORMALS" f) (is_word "FOR" f) vc.0 ev.0 ap'.0 su.0 bo.0 fm.0 fo.0) (other_word f) refl

after_some : (b : ℕ) (o : Option (List ℕ)) (letters : List ℕ) → after b o ≡ Some letters → (rest : List ℕ) × (o ≡ Some rest) × (letters ≡ b ∷ rest)
after_some b None letters h = absurd (cc)
after_some b (Some rest) letters h = (rest, refl, cc)

chosen_some : {X : Type 0} (b : Bool) (o : Option X) (x : X) → (if b then o else None) ≡ Some x → (b ≡ true) × (o ≡ Some x)
chosen_some true o x h = (refl, h)
chosen_some false o x h = absurd (cc)

few_by : (count : ℕ) (b r l m : Bool) → nat_le 2 count ≡ b → r ≡ true → ((r && b && true) || (l && m)) ≡ false → count < 2
few_by count true true l m is e h = absurd (cc)
few_by count true false l m is e h = absurd (cc)
few_by count false r l m is e h = grind (arith, nat_tests)

ends_few : (count : ℕ) (r l m : Bool) → r ≡ true → ((r && nat_le 2 count && true) || (l && m)) ≡ false → count < 2
ends_few count r l m e h = few_by count (nat_le 2 count) r l m refl e h

goes_on : (r l m : Bool) → l ≡ true → (r || (l && m)) ≡ false → m ≡ false
goes_on true l m e h = absurd (cc)
goes_on false true m e h = h
goes_on false false m e h = absurd (cc)

few_letters : (count : ℕ) (bs letters : List ℕ) → letters_of bs ≡ Some letters → ends_nest count bs ≡ false → count + length letters < 2
few_letters count [] letters h k = absurd (cc)
few_letters count (b ∷ []) letters h k =
    let is = chosen_some (nat_eq b 82) (Some []) letters h in
    let none : letters ≡ [] = cc in
    let few = ends_few count (nat_eq b 82) (is_letter b) (ends_nest (suc count) []) is.0 k in
    rw none (omega (arith, few))
few_letters count (b ∷ c ∷ bs) letters h k =
    let is = chosen_some (is_letter b) (after b (letters_of (c ∷ bs))) letters h in
    let rest = after_some b (letters_of (c ∷ bs)) letters is.1 in
    let more = goes_on (nat_eq b 82 && nat_le 2 count && false) (is_letter b) (ends_nest (suc count) (c ∷ bs)) is.0 k in
    let few = few_letters (suc count) (c ∷ bs) rest.0 rest.1 more in
    rw rest.2 (omega (arith, few))

few_none : (o : Option (List ℕ)) → ((letters : List ℕ) → o ≡ Some letters → length letters < 2) → at_least_two o ≡ None
few_none None h = refl
few_none (Some []) h = refl
few_none (Some (b ∷ [])) h = refl
few_none (Some (b ∷ c ∷ bs)) h = let few = h (b ∷ c ∷ bs) refl in absurd (omega (arith, few))

path_by : (b : Bool) (o : Option (List ℕ)) (m : Bool) → (b && m) ≡ false → (m ≡ false → o ≡ None) → (if b then o else None) ≡ None
path_by true o m h k = k h
path_by false o m h k = refl

no_nest : (f : Name) → is_nest f ≡ false → path_of f ≡ None
no_nest [] h = refl
no_nest (b ∷ bs) h = path_by (nat_eq b 67) (at_least_two (letters_of bs)) (ends_nest 0 bs) h (λ m. few_none (letters_of bs) (λ letters is. let few = few_letters 0 bs letters is m in omega (arith, few)))

pub names_are_calls : NamesAreCalls
unfolding word_of
names_are_calls f h =
    let two = neither (has_name f reserved_names) (is_nest f) h in
    rw (no_nest f two.1) (other_call f two.0)
