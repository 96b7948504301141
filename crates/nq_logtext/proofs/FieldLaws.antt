-- A field that is read is the field with that text, and the text of a field is read again.
use Rattle.std.proofs.Common.{◌≡◌, ℕ, ◌^◌, ◌<◌, ◌≤◌, Bool, true, false, cond, leb, nat_eq, List, [], ◌∷◌, ◌++◌, Option, Some, None, refl, sym, ap, subst, ◌∙◌, arith, inl, inr, ◌⊎◌, lit≤}
use Rattle.std.specs.Prelude.{IsTrue, decimal, codes, map}
use Rattle.std.specs.List.{flat_map, AllByRecursion}
use Rattle.std.specs.Str.{bytes_eq}
use Rattle.std.specs.Str.Parse.{AllDigits}
use Rattle.std.specs.Char.{digit_value}
use Rattle.std.proofs.lemmas.Bool.{le-leb, leb-true, eqb-true}
use Rattle.std.proofs.lemmas.Fmt.{decimal_is_IsNumeral_wide, decimal_digit}
use Rattle.std.proofs.lemmas.Slice.Eq.{bytes_eq-Decides}
use Rattle.nq_logtext.specs.declared.line.Sign.TheVariants.{Plus, Minus}
use Rattle.nq_logtext.specs.declared.line.Mode.TheVariants.{OneOf, NoneOf}
use Rattle.nq_logtext.specs.declared.line.Version.TheVariants.{First}
use Rattle.nq_logtext.specs.Symbols.{is_symbol}
use Rattle.nq_logtext.specs.Fields.{Field, number, numeral, name, path, sign, mode, version, text, path_text, Kind, of_number, of_numeral, of_name, of_path, of_sign, of_mode, of_version, IsOf, IsPlace}
use Rattle.nq_logtext.specs.Reading.{◌>>=◌, number_of, places_of, path_of, field_of, parts_of}
use Rattle.nq_logtext.proofs.Cuts.{IsFree, rejoined, rejoined_cut, cut_rejoined, cut_some, is_false}
use Rattle.nq_logtext.proofs.Numbers.{number_takes, number_again}
use Rattle.nq_logtext.proofs.Constituents.{small64, small128}
use Rattle.nq_logtext.proofs.Runs.{bind_some, some_is}

-- ---- bytes that are no digits

digits_free : (at : ℕ) → 10 ≤ digit_value at → (ds : List ℕ) → AllDigits 10 ds → IsFree at ds
digits_free at high [] h = tt
digits_free at high (d ∷ ds) h =
    (is_false (nat_eq d at) (λ e. let same = eqb-true d at e in let low : digit_value at < 10 = subst (λ (x : ℕ). digit_value x < 10) same h.0 in omega arith), digits_free at high ds h.1)

decimal_free : (at : ℕ) → 10 ≤ digit_value at → (n : ℕ) → n < 10 ^ 64 → IsFree at (decimal n)
decimal_free at high n wide = digits_free at high (decimal n) (decimal_is_IsNumeral_wide n wide).0.1

-- ---- paths

pub flat_map_map : {A : Type 0} (at : ℕ) (f : A → List ℕ) (xs : List A) → flat_map (λ p. at ∷ p) (map f xs) ≡ flat_map (λ x. at ∷ f x) xs
flat_map_map at f [] = refl
flat_map_map at f (x ∷ xs) = ap (λ (r : List ℕ). (at ∷ f x) ++ r) (flat_map_map at f xs)

place_chosen : (b : Bool) (r : Option (List ℕ)) (ps : List ℕ) → cond b r None ≡ Some ps → (b ≡ true) × (r ≡ Some ps)
place_chosen true r ps e = (refl, e)
place_chosen false r ps e = absurd cc

places_take : (parts : List (List ℕ)) (ps : List ℕ) → places_of parts ≡ Some ps → (parts ≡ map decimal ps) × AllByRecursion IsPlace ps
unfolding places_of
places_take [] ps e = let same = some_is [] ps e in subst (λ (qs : List ℕ). ([] ≡ map decimal qs) × AllByRecursion IsPlace qs) same (refl, tt)
places_take (part ∷ parts) ps e =
    let a = bind_some (number_of (2 ^ 64) part) (λ place. cond (leb 1 place) (places_of parts >>= λ places. Some (place ∷ places)) None) ps e in
    let b = place_chosen (leb 1 a.0) (places_of parts >>= λ places. Some (a.0 ∷ places)) ps a.2 in
    let c = bind_some (places_of parts) (λ places. Some (a.0 ∷ places)) ps b.1 in
    let first = number_takes (2 ^ 64) part a.0 a.1 in
    let others = places_take parts c.0 c.1 in
    let whole : part ∷ parts ≡ map decimal (a.0 ∷ c.0) = ap (λ (w : List ℕ). w ∷ parts) first.0 ∙ ap (λ (ws : List (List ℕ)). decimal a.0 ∷ ws) others.0 in
    subst (λ (qs : List ℕ). (part ∷ parts ≡ map decimal qs) × AllByRecursion IsPlace qs) (some_is (a.0 ∷ c.0) ps c.2) (whole, ((leb-true 1 a.0 b.0, first.1), others.1))

places_again : (ps : List ℕ) → AllByRecursion IsPlace ps → places_of (map decimal ps) ≡ Some ps
unfolding places_of
places_again [] h = refl
places_again (p ∷ ps) h =
    let one = number_again (2 ^ 64) p (small64 p h.0.1) h.0.1 in
    let test : leb 1 p ≡ true = le-leb 1 p h.0.0 in
    rw (one, test, places_again ps h.1) refl

rejoined_places : (ps : List ℕ) → (ps ≡ [] → ⊥) → rejoined 46 (map decimal ps) ≡ path_text ps
rejoined_places [] some = absurd (some refl)
rejoined_places (p ∷ ps) some = ap (λ (r : List ℕ). decimal p ++ r) (flat_map_map 46 decimal ps)

places_all_free : (ps : List ℕ) → AllByRecursion IsPlace ps → AllByRecursion (IsFree 46) (map decimal ps)
places_all_free [] h = tt
places_all_free (p ∷ ps) h = (decimal_free 46 (lit≤ tt) p (small64 p h.0.1), places_all_free ps h.1)

-- the parts of a path that has places
path_parts : (p : ℕ) (ps : List ℕ) → AllByRecursion IsPlace (p ∷ ps) → parts_of 46 (path_text (p ∷ ps)) ≡ map decimal (p ∷ ps)
path_parts p ps h =
    let free = places_all_free (p ∷ ps) h in
    ap (λ (r : List ℕ). parts_of 46 (decimal p ++ r)) (sym (flat_map_map 46 decimal ps)) ∙ cut_rejoined 46 (decimal p) (map decimal ps) refl free.0 free.1

path_chosen : (b : Bool) (r : Option (List ℕ)) (ps : List ℕ) → cond b (Some []) r ≡ Some ps → ((b ≡ true) × (ps ≡ [])) ⊎ ((b ≡ false) × (r ≡ Some ps))
path_chosen true r ps e = inl (refl, sym (some_is [] ps e))
path_chosen false r ps e = inr (refl, e)

path_takes : (w : List ℕ) (ps : List ℕ) → path_of w ≡ Some ps → (w ≡ path_text ps) × AllByRecursion IsPlace ps
unfolding path_of
path_takes w ps e = elim (path_chosen (bytes_eq w (codes "0")) (places_of (parts_of 46 w)) ps e) [
  | inl h ↦ subst (λ (qs : List ℕ). (w ≡ path_text qs) × AllByRecursion IsPlace qs) (sym h.1) ((bytes_eq-Decides w (codes "0")).0 h.0, tt)
  | inr h ↦
      let t = places_take (parts_of 46 w) ps h.1 in
      let some : ps ≡ [] → ⊥ = λ none. cut_some 46 w (t.0 ∙ ap (map decimal) none) in
      (sym (rejoined_cut 46 w) ∙ ap (rejoined 46) t.0 ∙ rejoined_places ps some, t.1)
]

-- a zero alone spells no places
zero_places : (p : ℕ) (ps : List ℕ) → places_of (parts_of 46 (codes "0")) ≡ Some (p ∷ ps) → ⊥
unfolding places_of
zero_places p ps e =
    let zero_is : number_of (2 ^ 64) (codes "0") ≡ Some 0 = ap (number_of (2 ^ 64)) (sym (decimal_digit 0 (omega arith))) ∙ number_again (2 ^ 64) 0 (omega arith) (omega arith) in
    let none : places_of (parts_of 46 (codes "0")) ≡ None = rw zero_is refl in
    cc

path_again : (ps : List ℕ) → AllByRecursion IsPlace ps → path_of (path_text ps) ≡ Some ps
unfolding path_of
path_again [] h = refl
path_again (p ∷ ps) h =
    let again = places_again (p ∷ ps) h in
    let parts = path_parts p ps h in
    let other : bytes_eq (path_text (p ∷ ps)) (codes "0") ≡ false = is_false _ (λ e.
    let same = (bytes_eq-Decides (path_text (p ∷ ps)) (codes "0")).0 e in
    let zero_path : places_of (parts_of 46 (codes "0")) ≡ Some (p ∷ ps) = ap (λ (w : List ℕ). places_of (parts_of 46 w)) (sym same) ∙ ap places_of parts ∙ again in
    zero_places p ps zero_path) in
    rw other (ap places_of parts ∙ again)

-- ---- fields

just_chosen : (b : Bool) (g : Field) (r : Option Field) (f : Field) → cond b (Some g) r ≡ Some f → ((b ≡ true) × (g ≡ f)) ⊎ (r ≡ Some f)
just_chosen true g r f e = inl (refl, some_is g f e)
just_chosen false g r f e = inr e

abbrev no_such : Option Field
no_such = None

no_field : (f : Field) → no_such ≡ Some f → ⊥
no_field f e = cc

pub field_takes : (k : Kind) (w : List ℕ) (f : Field) → field_of k w ≡ Some f → (w ≡ text f) × IsOf k f
unfolding field_of
field_takes of_number w f e =
    let a = bind_some (number_of (2 ^ 64) w) (λ n. Some (number n)) f e in
    subst (λ (g : Field). (w ≡ text g) × IsOf of_number g) (some_is (number a.0) f a.2) (number_takes (2 ^ 64) w a.0 a.1)
field_takes of_numeral w f e =
    let a = bind_some (number_of (2 ^ 128) w) (λ n. Some (numeral n)) f e in
    subst (λ (g : Field). (w ≡ text g) × IsOf of_numeral g) (some_is (numeral a.0) f a.2) (number_takes (2 ^ 128) w a.0 a.1)
field_takes of_name w f e =
    let a = just_chosen (is_symbol w) (name w) None f e in elim a [
      | inl h ↦ subst (λ (g : Field). (w ≡ text g) × IsOf of_name g) h.1 (refl, h.0)
      | inr h ↦ absurd (no_field f h)
    ]
field_takes of_path w f e =
    let a = bind_some (path_of w) (λ ps. Some (path ps)) f e in
    subst (λ (g : Field). (w ≡ text g) × IsOf of_path g) (some_is (path a.0) f a.2) (path_takes w a.0 a.1)
field_takes of_sign w f e =
    elim (just_chosen (bytes_eq w (codes "+")) (sign Plus) (cond (bytes_eq w (codes "-")) (Some (sign Minus)) None) f e) [
      | inl h ↦ subst (λ (g : Field). (w ≡ text g) × IsOf of_sign g) h.1 ((bytes_eq-Decides w (codes "+")).0 h.0, tt)
      | inr h ↦ elim (just_chosen (bytes_eq w (codes "-")) (sign Minus) None f h) [
        | inl i ↦ subst (λ (g : Field). (w ≡ text g) × IsOf of_sign g) i.1 ((bytes_eq-Decides w (codes "-")).0 i.0, tt)
        | inr i ↦ absurd (no_field f i)
      ]
    ]
field_takes of_mode w f e =
    elim (just_chosen (bytes_eq w (codes "ONE-OF")) (mode OneOf) (cond (bytes_eq w (codes "NONE-OF")) (Some (mode NoneOf)) None) f e) [
      | inl h ↦ subst (λ (g : Field). (w ≡ text g) × IsOf of_mode g) h.1 ((bytes_eq-Decides w (codes "ONE-OF")).0 h.0, tt)
      | inr h ↦ elim (just_chosen (bytes_eq w (codes "NONE-OF")) (mode NoneOf) None f h) [
        | inl i ↦ subst (λ (g : Field). (w ≡ text g) × IsOf of_mode g) i.1 ((bytes_eq-Decides w (codes "NONE-OF")).0 i.0, tt)
        | inr i ↦ absurd (no_field f i)
      ]
    ]
field_takes of_version w f e =
    elim (just_chosen (bytes_eq w (codes "1")) (version First) None f e) [
      | inl h ↦ subst (λ (g : Field). (w ≡ text g) × IsOf of_version g) h.1 ((bytes_eq-Decides w (codes "1")).0 h.0, tt)
      | inr h ↦ absurd (no_field f h)
    ]

holds : (b : Bool) → IsTrue b → b ≡ true
holds b h = h

pub field_again : (k : Kind) (f : Field) → IsOf k f → field_of k (text f) ≡ Some f
unfolding field_of
field_again of_number (number n) h = rw (number_again (2 ^ 64) n (small64 n h) h) refl
field_again of_numeral (numeral n) h = rw (number_again (2 ^ 128) n (small128 n h) h) refl
field_again of_name (name w) h = rw (holds (is_symbol w) h) refl
field_again of_path (path ps) h = rw (path_again ps h) refl
field_again of_sign (sign Plus) h = refl
field_again of_sign (sign Minus) h = refl
field_again of_mode (mode OneOf) h = refl
field_again of_mode (mode NoneOf) h = refl
field_again of_version (version First) h = refl
field_again k f h = absurd h
