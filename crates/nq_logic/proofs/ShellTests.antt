-- A shell is refused exactly where it is not accepted, or where there is no room.
use Rattle.std.proofs.Common.{◌≡◌, ◌<◌, ℕ, Bool, true, false, Option, Some, None, List, [], ◌∷◌, length, refl, ap, ◌∙◌}
use Rattle.std.specs.Prelude.{◌↔◌, not, nat_lt, if◌then◌else◌}
use Rattle.std.proofs.lemmas.Bool.{ltb-true, lt-ltb}
use Rattle.nq_logic.specs.Terms.{Name, IsAmong, Each}
use Rattle.nq_logic.specs.Histories.{Restriction, OneOf, NoneOf, Part, Shell}
use Rattle.nq_logic.specs.Names.{has_name}
use Rattle.nq_logic.specs.Admissible.{AreDistinct}
use Rattle.nq_logic.specs.ShellPrinciple.{first_used, first_repeated, first_outside, first_of, first_unknown, meets, kind_meets, kind_of_default, is_default, first_bad_default, Meets, IsDefault, known_recognizers, listed, shell_names, shell_limit, ShellRefusal, InUse, Repeated, Unknown, Bad, Full, refused}
use Rattle.nq_logic.specs.Tests.{ShellsRefused}
use Rattle.nq_logic.proofs.Tests.{true_not_false, names_found_law}

not_true : (b : Bool) → (b ≡ true → ⊥) → b ≡ false
not_true true h = absurd (h refl)
not_true false h = refl

not_found : (n : Name) (ms : List Name) → has_name n ms ≡ false ↔ (IsAmong n ms → ⊥)
not_found n ms = (
  (λ h among. true_not_false (has_name n ms) ((names_found_law n ms).1 among) h),
  (λ h. not_true (has_name n ms) (λ is. h ((names_found_law n ms).0 is))),
)

no_some : {X : Type 0} (x : X) → Some x ≡ None → ⊥
no_some x h = cc

-- nothing, by a test that would give something where it is true, or where it is false
if_true : (b : Bool) (n : Name) (rest : Option Name) → (if b then Some n else rest) ≡ None ↔ (b ≡ false) × (rest ≡ None)
if_true true n rest = ((λ h. absurd (no_some n h)), (λ h. absurd (true_not_false true refl h.0)))
if_true false n rest = ((λ h. (refl, h)), (λ h. h.1))

if_false : (b : Bool) (n : Name) (rest : Option Name) → (if b then rest else Some n) ≡ None ↔ (b ≡ true) × (rest ≡ None)
if_false true n rest = ((λ h. (refl, h)), (λ h. h.1))
if_false false n rest = ((λ h. absurd (no_some n h)), (λ h. absurd (true_not_false false h.0 refl)))

none_first : (first rest : Option Name) → first_of first rest ≡ None ↔ (first ≡ None) × (rest ≡ None)
none_first None rest = ((λ h. (refl, h)), (λ h. h.1))
none_first (Some n) rest = ((λ h. absurd (no_some n h)), (λ h. absurd (no_some n h.0)))

unused : (in_use : Name → Bool) (names : List Name) → first_used in_use names ≡ None ↔ Each (λ n. in_use n ≡ false) names
unused in_use [] = ((λ h. tt), (λ h. refl))
unused in_use (n ∷ names) =
    let test = if_true (in_use n) n (first_used in_use names) in
    let rest = unused in_use names in (
      (λ h. ((test.0 h).0, rest.0 (test.0 h).1)),
      (λ h. test.1 (h.0, rest.1 h.1)),
    )

pub distinct : (names : List Name) → first_repeated names ≡ None ↔ AreDistinct names
distinct [] = ((λ h. tt), (λ h. refl))
distinct (n ∷ names) =
    let test = if_true (has_name n names) n (first_repeated names) in
    let rest = distinct names in (
      (λ h. ((not_found n names).0 (test.0 h).0, rest.0 (test.0 h).1)),
      (λ h. test.1 ((not_found n names).1 h.0, rest.1 h.1)),
    )

pub known_in : (known rs : List Name) → first_outside known rs ≡ None ↔ Each (λ r. IsAmong r known) rs
known_in known [] = ((λ h. tt), (λ h. refl))
known_in known (r ∷ rs) =
    let test = if_false (has_name r known) r (first_outside known rs) in
    let rest = known_in known rs in (
      (λ h. ((names_found_law r known).0 (test.0 h).0, rest.0 (test.0 h).1)),
      (λ h. test.1 ((names_found_law r known).1 h.0, rest.1 h.1)),
    )

known_all : (known : List Name) (parts : List Part) → first_unknown known parts ≡ None ↔ Each (λ part. Each (λ r. IsAmong r known) (listed part.restriction)) parts
known_all known [] = ((λ h. tt), (λ h. refl))
known_all known (part ∷ parts) =
    let test = none_first (first_outside known (listed part.restriction)) (first_unknown known parts) in
    let here = known_in known (listed part.restriction) in
    let rest = known_all known parts in (
      (λ h. (here.0 (test.0 h).0, rest.0 (test.0 h).1)),
      (λ h. test.1 (here.1 h.0, rest.1 h.1)),
    )

not_not : (b : Bool) → not b ≡ true → b ≡ false
not_not true h = cc
not_not false h = refl

pub meets_is : (restriction : Restriction) (r : Name) → meets restriction r ≡ true ↔ Meets restriction r
meets_is (OneOf rs) r = names_found_law r rs
meets_is (NoneOf rs) r = ((λ h. (not_found r rs).0 (not_not (has_name r rs) h)), (λ h. ap not ((not_found r rs).1 h)))

kind_told : (restriction : Restriction) (o : Option Name) → kind_meets restriction o ≡ true → (kind : Name) × (o ≡ Some kind) × Meets restriction kind
kind_told restriction None h = absurd (true_not_false false h refl)
kind_told restriction (Some r) h = (r, refl, (meets_is restriction r).0 h)

default_is : (earlier : List Shell) (s : Shell) (part : Part) → is_default earlier s part ≡ true ↔ IsDefault earlier s part
default_is earlier s part = (
  (λ h. let told = kind_told part.restriction (kind_of_default earlier s part.default) h in record { kind = told.0; is = told.1; meets = told.2 }),
  (λ h. ap (kind_meets part.restriction) h.is ∙ (meets_is part.restriction h.kind).1 h.meets),
)

defaults : (earlier : List Shell) (s : Shell) (parts : List Part) → first_bad_default earlier s parts ≡ None ↔ Each (IsDefault earlier s) parts
defaults earlier s [] = ((λ h. tt), (λ h. refl))
defaults earlier s (part ∷ parts) =
    let test = if_false (is_default earlier s part) part.default (first_bad_default earlier s parts) in
    let here = default_is earlier s part in
    let rest = defaults earlier s parts in (
      (λ h. (here.0 (test.0 h).0, rest.0 (test.0 h).1)),
      (λ h. test.1 (here.1 h.0, rest.1 h.1)),
    )

not_refused : (why : Name → ShellRefusal) (o : Option Name) (rest : Option ShellRefusal) → refused why o rest ≡ None ↔ (o ≡ None) × (rest ≡ None)
not_refused why None rest = ((λ h. (refl, h)), (λ h. h.1))
not_refused why (Some n) rest = ((λ h. absurd (no_some (why n) h)), (λ h. absurd (no_some n h.0)))

room_test : (b : Bool) → (if b then None else Some Full) ≡ None ↔ (b ≡ true)
room_test true = ((λ h. refl), (λ h. refl))
room_test false = ((λ h. absurd (no_some Full h)), (λ h. absurd (true_not_false false h refl)))

room : (n : ℕ) → nat_lt n shell_limit ≡ true ↔ (n < shell_limit)
room n = (ltb-true n shell_limit, lt-ltb n shell_limit)

pub shells_refused_law : ShellsRefused
shells_refused_law in_use earlier s =
    let last = room_test (nat_lt (length earlier) shell_limit) in
    let rest_4 : Option ShellRefusal = if nat_lt (length earlier) shell_limit then None else Some Full in
    let rest_3 : Option ShellRefusal = refused Bad (first_bad_default earlier s s.parts) rest_4 in
    let rest_2 : Option ShellRefusal = refused Unknown (first_unknown (known_recognizers earlier s) s.parts) rest_3 in
    let rest_1 : Option ShellRefusal = refused Repeated (first_repeated (shell_names s)) rest_2 in
    let one = not_refused InUse (first_used in_use (shell_names s)) rest_1 in
    let two = not_refused Repeated (first_repeated (shell_names s)) rest_2 in
    let three = not_refused Unknown (first_unknown (known_recognizers earlier s) s.parts) rest_3 in
    let four = not_refused Bad (first_bad_default earlier s s.parts) rest_4 in (
      (λ h.
          let h1 = one.0 h in
          let h2 = two.0 h1.1 in
          let h3 = three.0 h2.1 in
          let h4 = four.0 h3.1 in (
            record {
              unused = (unused in_use (shell_names s)).0 h1.0;
              distinct = (distinct (shell_names s)).0 h2.0;
              known = (known_all (known_recognizers earlier s) s.parts).0 h3.0;
              defaults = (defaults earlier s s.parts).0 h4.0;
            },
            (room (length earlier)).0 (last.0 h4.1),
          )),
      (λ h.
          one.1 (
            (unused in_use (shell_names s)).1 h.0.unused,
            two.1 (
              (distinct (shell_names s)).1 h.0.distinct,
              three.1 (
                (known_all (known_recognizers earlier s) s.parts).1 h.0.known,
                four.1 ((defaults earlier s s.parts).1 h.0.defaults, last.1 ((room (length earlier)).1 h.1)),
              ),
            ),
          )),
    )
