-- Terms in the place of the variables of parts.
use Rattle.std.proofs.Common.{◌≡◌, ◌+◌, ◌*◌, ◌-◌, ◌/◌, ◌%◌, ◌<◌, ◌≤◌, ◌^◌, ◌∙◌, ℕ, zero, suc, nat_lt, Bool, true, false, not, ◌&&◌, if◌then◌else◌, List, [], ◌∷◌, ◌++◌, map, length, get_or, take, refl, sym, ap, ap₂, subst, arith}
use Rattle.std.specs.Prelude.{All, bytes_eq, ◌||◌}
use Rattle.std.proofs.lemmas.List.{take_more, map_push, length-map, length-take}
use Rattle.std.proofs.lemmas.Bool.Decides.{nat_tests}
use Rattle.nq_logic.specs.Terms.{Name, Term, Function, Applied, Substitution, Each, applied, call, value_at, substituted}
use Rattle.nq_logic.specs.Names.{has_name}
use Rattle.nq_logic.specs.Histories.{Part, Shell}
use Rattle.nq_logic.specs.Shells.{digits_of, part_variables, made}
use Rattle.nq_proof.specs.Rules.{is_substitution, pair_terms}
use Rattle.nq_proof.proofs.Tests.{names_same}
use Rattle.nq_steps.proofs.NameLemmas.{part_symbol}
use Rattle.nq_logic.specs.Ground.{symbols_of}
use Rattle.nq_bank.specs.declared.node.Sym.{Sym}
use Rattle.nq_bank.specs.declared.node.TermId.{TermId}
use Rattle.nq_bank.specs.Content.{NamesText, text_at, term_at, terms_at}
use Rattle.nq_bank.proofs.Standing.{All-push}
use Rattle.nq_clause.specs.declared.substitution.Pair.{Pair}
use Rattle.nq_clause.specs.Substitution.{substitution_at, PairStands}
use Rattle.nq_clause.proofs.SubstitutionLemmas.{substitution_at-grown, pairs_grown}
use Rattle.nq_history.specs.declared.entry.Entry.{Entry}
use Rattle.nq_history.specs.Events.{events_at}
use Rattle.nq_kernel.specs.declared.work.Work.{Work}
use Rattle.nq_kernel.specs.Growing.{WorkStands, WorkGrows}
use Rattle.nq_kernel.proofs.GrowingLemmas.{WorkGrows-trans}
use Rattle.nq_kernel.specs.Over.{IsVariable, IsTermOf, pair_names}
use Rattle.nq_lines.specs.Lines.{IsTermIn}
use Rattle.nq_lines.specs.Instances.{ArePairsIn}
use Rattle.nq_lines.proofs.TermLemmas.{term_grown, same_term_grown}
use Rattle.nq_lines.proofs.PairLemmas.{over_still}
use Rattle.nq_types.specs.Parts.{part_name, part_bindings}

-- digits read back
read_back : ℕ → List ℕ → ℕ
read_back n [] = n
read_back n (d ∷ ds) = read_back (n * 10 + (d - 48)) ds

read_last : (n d : ℕ) (ds : List ℕ) → read_back n (ds ++ (d ∷ [])) ≡ read_back n ds * 10 + (d - 48)
unfolding read_back
read_last n d [] = refl
read_last n d (c ∷ ds) = read_last (n * 10 + (c - 48)) d ds

digits_read : (places n : ℕ) → n ≤ places → read_back 0 (digits_of places n) ≡ n
unfolding read_back
digits_read zero n l = omega arith
digits_read (suc places) n l = by_size (λ m. digits_read places (n / 10) m) (nat_lt n 10) refl
  where
    by_size : (n / 10 ≤ places → read_back 0 (digits_of places (n / 10)) ≡ n / 10) → (b : Bool) → nat_lt n 10 ≡ b → read_back 0 (if b then (48 + n) ∷ [] else digits_of places (n / 10) ++ ((48 + n % 10) ∷ [])) ≡ n
    by_size again true e = omega arith
    by_size again false e =
        let more : 10 ≤ n = grind (arith, nat_tests) in
        let fewer : n / 10 ≤ places = omega arith in
        let rest = again fewer in
        let last = read_last 0 (48 + n % 10) (digits_of places (n / 10)) in
        subst (λ m. m ≡ n) (sym last) (subst (λ m. m * 10 + (48 + n % 10 - 48) ≡ n) (sym rest) (omega arith))

tail_same : (x : ℕ) (xs ys : List ℕ) → ◌≡◌ {A = List ℕ} (x ∷ xs) (x ∷ ys) → xs ≡ ys
tail_same x xs ys e = cc

-- the names of two places differ
names_differ : (j k : ℕ) → k < j → bytes_eq (part_name j) (part_name k) ≡ false
names_differ j k l = by_test (bytes_eq (part_name j) (part_name k)) refl
  where
    by_test : (b : Bool) → bytes_eq (part_name j) (part_name k) ≡ b → b ≡ false
    by_test false e = refl
    by_test true e =
        let same = tail_same 88 (digits_of (j + 1) (j + 1)) (digits_of (k + 1) (k + 1)) (names_same (part_name j) (part_name k) e) in
        let lj : j + 1 ≤ j + 1 = omega arith in
        let lk : k + 1 ≤ k + 1 = omega arith in
        let rj = digits_read (j + 1) (j + 1) lj in
        let rk = digits_read (k + 1) (k + 1) lk in
        let numbers : j + 1 ≡ k + 1 = subst (λ n. n ≡ k + 1) rj (subst (λ ds. read_back 0 ds ≡ k + 1) (sym same) rk) in
        absurd (omega (arith, numbers))

bytes_turned : (xs ys : List ℕ) → bytes_eq xs ys ≡ false → bytes_eq ys xs ≡ false
bytes_turned xs ys e = by_test (bytes_eq ys xs) refl
  where
    by_test : (b : Bool) → bytes_eq ys xs ≡ b → b ≡ false
    by_test false h = refl
    by_test true h = let same : ys ≡ xs = names_same ys xs h in absurd (clash (bytes_eq xs ys) (subst (λ zs. bytes_eq zs ys ≡ true) same (itself ys)) e)
      where
        itself : (xs : List ℕ) → bytes_eq xs xs ≡ true
        itself [] = refl
        itself (x ∷ xs) = grind (arith, itself xs)

        clash : (b : Bool) → b ≡ true → b ≡ false → ⊥
        clash true h k = cc
        clash false h k = cc

name_itself : (xs : List ℕ) → bytes_eq xs xs ≡ true
name_itself [] = refl
name_itself (x ∷ xs) = grind (arith, name_itself xs)

-- what stands in the place of each variable is the term there
Gives : Substitution → ℕ → List Term → Type 0
Gives s k [] = Unit {0}
Gives s k (t ∷ ts) = (value_at s (part_name k) ≡ t) × Gives s (suc k) ts

gives_more : (s : Substitution) (k : ℕ) (u : Term) (j : ℕ) (ts : List Term) → k < j → Gives s j ts → Gives ((part_name k, u) ∷ s) j ts
unfolding Gives
gives_more s k u j [] l g = tt
gives_more s k u j (t ∷ ts) l g =
    let more : k < suc j = omega arith in
    (subst (λ b. (if b then u else value_at s (part_name j)) ≡ t) (sym (names_differ j k l)) g.0, gives_more s k u (suc j) ts more g.1)

gives_all : (k : ℕ) (ts : List Term) → Gives (part_bindings k ts) k ts
unfolding Gives
gives_all k [] = tt
gives_all k (t ∷ ts) =
    let more : k < suc k = omega arith in
    (subst (λ b. (if b then t else value_at (part_bindings (suc k) ts) (part_name k)) ≡ t) (sym (name_itself (part_name k))) refl, gives_more (part_bindings (suc k) ts) k t (suc k) ts more (gives_all (suc k) ts))

applied_at : (s : Substitution) (t : Term) (us : List Term) → substituted s (applied t us) ≡ applied (substituted s t) (map (substituted s) us)
applied_at s t [] = refl
applied_at s t (u ∷ us) = applied_at s (Applied t u) us

variables_given : (s : Substitution) (k : ℕ) (parts : List Part) (ts : List Term) → length ts ≡ length parts → Gives s k ts → map (substituted s) (part_variables k parts) ≡ ts
unfolding Gives
variables_given s k [] [] e g = refl
variables_given s k [] (t ∷ ts) e g = absurd (omega (arith, e))
variables_given s k (p ∷ parts) [] e g = absurd (omega (arith, e))
variables_given s k (p ∷ parts) (t ∷ ts) e g = ap₂ ◌∷◌ g.0 (variables_given s (suc k) parts ts (omega (arith, e)) g.1)

-- the constructor's call of its variables becomes its call of these terms
pub made_given : (s : Shell) (ts : List Term) → length ts ≡ length s.parts → substituted (part_bindings 0 ts) (made s) ≡ call s.constructor ts
made_given s ts e =
    applied_at (part_bindings 0 ts) (Function s.constructor) (part_variables 0 s.parts)
    ∙ ap (λ us. call s.constructor us) (variables_given (part_bindings 0 ts) 0 s.parts ts e (gives_all 0 ts))

-- ---- the pairs are a substitution of variables that a log can spell

later_names : (j k : ℕ) (ts : List Term) → j < k → has_name (part_name j) (pair_names (part_bindings k ts)) ≡ false
later_names j k [] l = refl
later_names j k (t ∷ ts) l =
    let more : j < suc k = omega arith in
    let first : bytes_eq (part_name j) (part_name k) ≡ false = bytes_turned (part_name k) (part_name j) (names_differ k j l) in
    by_test (bytes_eq (part_name j) (part_name k)) first (later_names j (suc k) ts more)
  where
    by_test : (b : Bool) → b ≡ false → has_name (part_name j) (pair_names (part_bindings (suc k) ts)) ≡ false → (b || has_name (part_name j) (pair_names (part_bindings (suc k) ts))) ≡ false
    by_test true h rest = absurd cc
    by_test false h rest = rest

pub bindings_distinct : (k : ℕ) (ts : List Term) → is_substitution (part_bindings k ts) ≡ true
bindings_distinct k [] = refl
bindings_distinct k (t ∷ ts) =
    ap₂ (λ a b. not a && b) (later_names k (suc k) ts (omega arith)) (bindings_distinct (suc k) ts)

pub bindings_spelled : (k : ℕ) (ts : List Term) → k + length ts ≤ 2 ^ 64 → Each IsVariable (pair_names (part_bindings k ts))
bindings_spelled k [] room = tt
bindings_spelled k (t ∷ ts) room = (record { symbol = part_symbol k (omega (arith, room)); other = refl }, bindings_spelled (suc k) ts (omega (arith, room)))

pub bindings_terms : (P : Term → Type 0) (k : ℕ) (ts : List Term) → Each P ts → Each P (pair_terms (part_bindings k ts))
bindings_terms P k [] each = tt
bindings_terms P k (t ∷ ts) each = (each.0, bindings_terms P (suc k) ts each.1)

pub bindings_push : (k n : ℕ) (ts : List Term) (t : Term) → n ≡ k + length ts → part_bindings k (ts ++ t ∷ []) ≡ part_bindings k ts ++ (part_name n, t) ∷ []
bindings_push k n [] t e = let same : k ≡ n = omega (arith, e) in ap (λ m. (part_name m, t) ∷ []) same
bindings_push k n (u ∷ ts) t e = ap (λ s. (part_name k, u) ∷ s) (bindings_push (suc k) n ts t (omega (arith, e)))

module _ (history : List Entry) (old one new : Work) (before : WorkGrows history old one) (after : WorkGrows history one new) (arguments : List TermId) (i : ℕ) (d : TermId) (below : i < length arguments) (there : All (IsTermIn history old) arguments) (pairs more : List Pair) (x : Sym) (are : more ≡ pairs ++ record { variable = x; term = get_or arguments i d } ∷ []) (name : NamesText new.bank x (part_name i)) (stand : All (PairStands one.bank) pairs) (stands : WorkStands history old) where
  both : WorkGrows history old new
  both = WorkGrows-trans history old one new before after

  -- one pair more
  pub pairs_more : substitution_at one.bank pairs ≡ part_bindings 0 (terms_at old.bank (take i arguments)) → substitution_at new.bank more ≡ part_bindings 0 (terms_at old.bank (take (i + 1) arguments))
  pairs_more so_far =
      let t : TermId = get_or arguments i d in
      let pair : Pair = record { variable = x; term = t } in
      let count : i ≡ 0 + length (terms_at old.bank (take i arguments)) = omega (arith, length-map (take i arguments) (term_at old.bank), length-take i arguments, below) in
      let here : (text_at new.bank x, term_at new.bank t) ≡ (part_name i, term_at old.bank t) = ap₂ (λ (n : Name) (u : Term). (n, u)) name.reads (same_term_grown history old new t both (there i d below)) in
      ap (substitution_at new.bank) are ∙ map_push _ pairs pair
      ∙ ap₂ (λ (s : Substitution) (p : Name × Term). s ++ p ∷ []) (substitution_at-grown one.bank new.bank pairs after.bank stand ∙ so_far) here
      ∙ sym (bindings_push 0 i (terms_at old.bank (take i arguments)) (term_at old.bank t) count)
      ∙ ap (part_bindings 0) (sym (map_push (term_at old.bank) (take i arguments) t))
      ∙ ap (λ ids. part_bindings 0 (terms_at old.bank ids)) (sym (take_more arguments i d below))

  pub stand_more : All (PairStands new.bank) more
  stand_more =
      subst (All (PairStands new.bank)) (sym are)
      (All-push (PairStands new.bank) pairs (record { variable = x; term = get_or arguments i d }) (pairs_grown one.bank new.bank pairs after.bank stand) (record { variable = name.named; term = (term_grown history old new (get_or arguments i d) stands both (there i d below)).stands }))

each_over : (history : List Entry) (old new : Work) (ids : List TermId) → WorkStands history old → WorkGrows history old new → All (IsTermIn history old) ids → Each (IsTermOf IsVariable (symbols_of (events_at new.bank history))) (terms_at old.bank ids)
each_over history old new [] stands grows h = tt
each_over history old new (t ∷ ids) stands grows h =
    (over_still history old new t stands grows (h 0 t (omega arith)), each_over history old new ids stands grows (λ k d below. h (suc k) d (omega (arith, below))))

-- the pairs are over the history
pub parts_paired : (history : List Entry) (old new : Work) (ids : List TermId) (pairs : List Pair) → WorkStands history old → WorkGrows history old new → All (IsTermIn history old) ids → length ids ≤ 2 ^ 64 → substitution_at new.bank pairs ≡ part_bindings 0 (terms_at old.bank ids) → All (PairStands new.bank) pairs → ArePairsIn history new pairs
parts_paired history old new ids pairs stands grows h room same stand =
    let ts : List Term = terms_at old.bank ids in
    let count : 0 + length ts ≤ 2 ^ 64 = omega (arith, room, length-map ids (term_at old.bank)) in
    record {
      stand = stand;
      distinct = subst (λ s. is_substitution s ≡ true) (sym same) (bindings_distinct 0 ts);
      terms = subst (λ s. Each (IsTermOf IsVariable (symbols_of (events_at new.bank history))) (pair_terms s)) (sym same) (bindings_terms (IsTermOf IsVariable (symbols_of (events_at new.bank history))) 0 ts (each_over history old new ids stands grows h));
      names = subst (λ s. Each IsVariable (pair_names s)) (sym same) (bindings_spelled 0 ts count);
    }
