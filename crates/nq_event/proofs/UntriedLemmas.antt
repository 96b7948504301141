-- Numerals behind a name that make the names of events.
use Rattle.std.proofs.Common.{◌≡◌, ℕ, zero, suc, ◌+◌, ◌-◌, ◌*◌, ◌/◌, ◌%◌, ◌<◌, ◌≤◌, ◌^◌, Bool, true, false, ◌&&◌, ◌||◌, List, [], ◌∷◌, ◌++◌, length, get_or, take, map, refl, sym, ap, ◌∙◌, arith}
use Rattle.std.specs.Prelude.{All, bytes_eq, nat_eq, decimal}
use Rattle.std.proofs.lemmas.List.{append_assoc, take_all, take_more}
use Rattle.std.proofs.lemmas.Fmt.{decimal_step, decimal_digit}
use Rattle.std.proofs.lemmas.Bool.{eqb-true}
use Rattle.std.proofs.lemmas.Slice.Eq.{bytes_eq-Decides}
use Rattle.nq_logic.specs.Terms.{Name}
use Rattle.nq_logic.specs.Histories.{History, Event}
use Rattle.nq_logic.specs.Ground.{ground_history}
use Rattle.nq_logic.specs.Names.{event_name, event_names, events_names, has_name, is_in_use, is_reserved}
use Rattle.nq_bank.specs.Content.{Content, text_at}
use Rattle.nq_bank.proofs.NodesLemmas.{All-head, All-tail}
use Rattle.nq_history.specs.declared.entry.Entry.{Entry}
use Rattle.nq_history.specs.Events.{event_at, EntryStands}
use Rattle.nq_history.proofs.LookupLemmas.{event_name_of}
use Rattle.nq_events.specs.MadeNames.{numbered_from}
use Rattle.nq_event.specs.Untried.{front_of, IsUntried}
use Rattle.nq_event.proofs.NumberedLemmas.{numbered_used}

-- a front and a digit are the name and a numeral
front_digit : (name : Name) (tens digit : ℕ) → digit < 10 → 10 * tens + digit < 2 ^ 64 → front_of name tens ++ (48 + digit) ∷ [] ≡ name ++ decimal (10 * tens + digit)
front_digit name zero digit small few =
    let same : digit ≡ 10 * 0 + digit = omega arith in
    ap (λ ds. name ++ ds) (sym (decimal_digit digit small)) ∙ ap (λ n. name ++ decimal n) same
front_digit name (suc tens) digit small few =
    let n = 10 * suc tens + digit in
    let front : n / 10 ≡ suc tens = omega arith in
    let last : n % 10 ≡ digit = omega arith in
    let step = decimal_step n (omega arith) few in
    append_assoc name (decimal (suc tens)) ((48 + digit) ∷ [])
    ∙ ap (λ ds. name ++ ds) (sym (step ∙ ap (λ m. decimal m ++ (48 + n % 10) ∷ []) front ∙ ap (λ d. decimal (suc tens) ++ (48 + d) ∷ []) last))

pub front_last : (name : Name) (number : ℕ) → number < 2 ^ 64 → front_of name (number / 10) ++ (48 + number % 10) ∷ [] ≡ name ++ decimal number
front_last name number few =
    let parts : 10 * (number / 10) + number % 10 ≡ number = omega arith in
    front_digit name (number / 10) (number % 10) (omega arith) (omega (arith, parts, few)) ∙ ap (λ n. name ++ decimal n) parts

-- the name of an event is in use
or_left : (a b : Bool) → a ≡ true → (a || b) ≡ true
or_left a b h = ap (λ c. c || b) h

or_right : (a b : Bool) → b ≡ true → (a || b) ≡ true
or_right true b h = refl
or_right false b h = h

has_right : (x : Name) (ys zs : List Name) → has_name x zs ≡ true → has_name x (ys ++ zs) ≡ true
has_right x [] zs h = h
has_right x (y ∷ ys) zs h = or_right (bytes_eq x y) (has_name x (ys ++ zs)) (has_right x ys zs h)

has_later : (x : Name) (g h : List Event) → has_name x (events_names h) ≡ true → has_name x (events_names (g ++ h)) ≡ true
has_later x [] h k = k
has_later x (e ∷ g) h k = has_right x (event_names e) (events_names (g ++ h)) (has_later x g h k)

has_entry : (bank : Content) (entries : List Entry) (i : ℕ) (e : Entry) → All (EntryStands bank) entries → i < length entries → e ≡ get_or entries i e → has_name (text_at bank e.name) (events_names (map (event_at bank) entries)) ≡ true
has_entry bank [] i e stand below is = absurd (omega arith)
has_entry bank (d ∷ entries) zero e stand below is =
    or_left (bytes_eq (text_at bank e.name) (event_name (event_at bank d))) _
    ((bytes_eq-Decides (text_at bank e.name) (event_name (event_at bank d))).1
    (ap (λ (x : Entry). text_at bank x.name) is ∙ sym (event_name_of bank d.name d.kind (All-head (EntryStands bank) d entries stand).kind)))
has_entry bank (d ∷ entries) (suc i) e stand below is =
    has_right (text_at bank e.name) (event_names (event_at bank d)) (events_names (map (event_at bank) entries))
    (has_entry bank entries i e (All-tail (EntryStands bank) d entries stand) (omega (arith, below)) is)

pub entry_used : (bank : Content) (entries : List Entry) (i : ℕ) (e : Entry) → All (EntryStands bank) entries → i < length entries → e ≡ get_or entries i e → is_in_use (text_at bank e.name) (map (event_at bank) entries) ≡ true
entry_used bank entries i e stand below is =
    or_right (is_reserved (text_at bank e.name)) _ (has_later (text_at bank e.name) ground_history (map (event_at bank) entries) (has_entry bank entries i e stand below is))

-- one number more is not tried
pub untried_more : (h : History) (name text front : Name) (count number : ℕ) → count < 2 ^ 64 - 1 → IsUntried h name count number → number ≤ count → front ≡ front_of name (number / 10) → bytes_eq text (front ++ (48 + number % 10) ∷ []) ≡ true → is_in_use text h ≡ true → IsUntried h name count (number + 1)
untried_more h name text front count number few before most is same used =
    let named : text ≡ name ++ decimal number = (bytes_eq-Decides text (front ++ (48 + number % 10) ∷ [])).0 same ∙ ap (λ x. x ++ (48 + number % 10) ∷ []) is ∙ front_last name number (omega (arith, few, most)) in
    let next : count + 1 - number - 1 ≡ count + 1 - (number + 1) = omega arith in
    record {
      some = omega arith;
      most = omega (arith, most);
      same = before.same ∙ numbered_used h name number (count + 1 - number) (omega (arith, most)) (ap (λ x. is_in_use x h) (sym named) ∙ used) ∙ ap (numbered_from h name (number + 1)) next;
    }

-- the front stays where the number gets no new ten
pub front_same : (name : Name) (number : ℕ) → ((number + 1) % 10 ≡ 0 → ⊥) → front_of name (number / 10) ≡ front_of name ((number + 1) / 10)
front_same name number none = ap (front_of name) (let same : number / 10 ≡ (number + 1) / 10 = omega (arith, none) in same)

-- texts with a last byte
empty_last : (ys : List ℕ) (b : ℕ) → bytes_eq [] (ys ++ b ∷ []) ≡ false
empty_last [] b = refl
empty_last (y ∷ ys) b = refl

last_empty : (xs : List ℕ) (a : ℕ) → bytes_eq (xs ++ a ∷ []) [] ≡ false
last_empty [] a = refl
last_empty (x ∷ xs) a = refl

both_false : (a b c : Bool) → c ≡ false → (a && c) ≡ (b && false)
both_false true true c h = h
both_false true false c h = h
both_false false true c h = refl
both_false false false c h = refl

swapped : (a b c : Bool) → (a && (b && c)) ≡ (b && (a && c))
swapped true true c = refl
swapped true false c = refl
swapped false true c = refl
swapped false false c = refl

last_same : (xs ys : List ℕ) (a b : ℕ) → bytes_eq (xs ++ a ∷ []) (ys ++ b ∷ []) ≡ (nat_eq a b && bytes_eq xs ys)
last_same [] [] a b = refl
last_same [] (y ∷ ys) a b = both_false (nat_eq a y) (nat_eq a b) (bytes_eq [] (ys ++ b ∷ [])) (empty_last ys b)
last_same (x ∷ xs) [] a b = both_false (nat_eq x b) (nat_eq a b) (bytes_eq (xs ++ a ∷ []) []) (last_empty xs a)
last_same (x ∷ xs) (y ∷ ys) a b = ap (λ c. nat_eq x y && c) (last_same xs ys a b) ∙ swapped (nat_eq x y) (nat_eq a b) (bytes_eq xs ys)

-- a text that isn't empty is compared by its last byte and what is before it
pub compared_last : (text front : List ℕ) (d : ℕ) → 1 ≤ length text → bytes_eq text (front ++ d ∷ []) ≡ (nat_eq (get_or text (length text - 1) 0) d && bytes_eq (take (length text - 1) text) front)
compared_last text front d some =
    let n = length text - 1 in
    let whole : text ≡ take n text ++ get_or text n 0 ∷ [] = sym (take_all (n + 1) text (omega (arith, some))) ∙ take_more text n 0 (omega (arith, some)) in
    ap (λ x. bytes_eq x (front ++ d ∷ [])) whole ∙ last_same (take n text) front (get_or text n 0) d

pub is_empty_text : (front : List ℕ) (d : ℕ) (text : List ℕ) → length text ≡ 0 → false ≡ bytes_eq text (front ++ d ∷ [])
is_empty_text front d [] e = sym (empty_last front d)
is_empty_text front d (x ∷ xs) e = absurd (omega arith)

-- what a comparison tells
pub told : (r : Bool) (x text y front : List ℕ) (d : ℕ) → r ≡ bytes_eq x (y ++ d ∷ []) → x ≡ text → y ≡ front → r ≡ true → bytes_eq text (front ++ d ∷ []) ≡ true
told r x text y front d is read kept h = ap (λ t. bytes_eq t (front ++ d ∷ [])) (sym read) ∙ ap (λ f. bytes_eq x (f ++ d ∷ [])) (sym kept) ∙ sym is ∙ h

pub not_equal : (m n : ℕ) → (m ≡ n → ⊥) → nat_eq m n ≡ false
not_equal m n apart = by_test (nat_eq m n) refl where
  by_test : (b : Bool) → nat_eq m n ≡ b → nat_eq m n ≡ false
  by_test true e = absurd (apart (eqb-true m n e))
  by_test false e = e

pub false_first : (a b : Bool) → a ≡ false → a ≡ (a && b)
false_first true b h = absurd cc
false_first false b h = refl
