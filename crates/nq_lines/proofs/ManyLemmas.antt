-- Calls with several arguments replaced.
use Rattle.std.proofs.Common.{◌≡◌, ◌<◌, ◌≤◌, ◌+◌, ◌-◌, ℕ, suc, Option, Some, None, List, [], ◌∷◌, ◌++◌, length, get_or, take, drop, refl, sym, ap, ap₂, ◌∙◌, subst, inl, inr, append_assoc, length-append, arith}
use Rattle.std.specs.Prelude.{All, slice_get, slice_set, IsSome, is_some}
use Rattle.std.proofs.lemmas.List.{take_all}
use Rattle.nq_logic.specs.Terms.{Name, Term, Variable, call}
use Rattle.nq_logic.specs.Words.{not_term, equal_term}
use Rattle.nq_logic.specs.Numerals.{number_of, number_of_call}
use Rattle.nq_bank.specs.Content.{Content, Stands, IsIdOf, term_at}
use Rattle.nq_bank.specs.declared.node.TermId.{TermId}
use Rattle.nq_bank.proofs.Standing.{id_grown}
use Rattle.nq_bank.specs.Parts.{parts_of}
use Rattle.nq_bank.proofs.CallLemmas.{parts_of-other}
use Rattle.nq_bank.proofs.Numerals.{number_of-call}
use Rattle.nq_proof.specs.Clauses.{literal_at}
use Rattle.nq_proof.specs.Paths.{replaced_at, around}
use Rattle.nq_proof.specs.Rules.{Forwards}
use Rattle.nq_rule.specs.Results.{with_argument}
use Rattle.nq_rule.proofs.PathLemmas.{with_argument-call}
use Rattle.nq_history.specs.declared.entry.Entry.{Entry}
use Rattle.nq_kernel.specs.declared.work.Work.{Work}
use Rattle.nq_kernel.specs.Growing.{WorkStands, WorkGrows}
use Rattle.nq_kernel.proofs.GrowingLemmas.{WorkGrows-trans}
use Rattle.nq_lines.specs.declared.calls.Equated.{Equated}
use Rattle.nq_lines.specs.Lines.{IsTermIn, LineHasOnly, LineLeads, DischargesTo}
use Rattle.nq_lines.specs.Arguments.{EquatedStands, ChangeStands, changed_terms, AreShown, CallAt, IsCallAt, CarriesOn, MakesOn, ReplacesArgument, IsChangedCall, CarriesAll}
use Rattle.nq_lines.proofs.Among.{none_among, beside, under, and_among, on_left, on_right}
use Rattle.nq_lines.proofs.LineLemmas.{leads_only, line_grown, only_grown, only_more}
use Rattle.nq_lines.proofs.TermLemmas.{term_grown, same_term_grown}

-- ---- the first of the changes and the rest

pub first_others : (xs : List (Option Equated)) (d : Option Equated) → 1 ≤ length xs → get_or xs 0 d ∷ take (length xs - 1) (drop 1 xs) ≡ xs
first_others [] d h = absurd (omega arith)
first_others (x ∷ xs) d h = ap (λ ys. x ∷ ys) (take_all (length (x ∷ xs) - 1) xs (omega arith))

pub others_stand : (P : Option Equated → Type 0) (xs : List (Option Equated)) → 1 ≤ length xs → All P xs → All P (take (length xs - 1) (drop 1 xs))
others_stand P [] h a = absurd (omega arith)
others_stand P (x ∷ xs) h a = subst (All P) (sym (take_all (length (x ∷ xs) - 1) xs (omega arith))) (λ k d below. a (suc k) d (omega (arith, below)))

-- ---- work that grew

module _ (history : List Entry) (old new : Work) (stands : WorkStands history old) (grows : WorkGrows history old new) where
  change_grown : (c : Option Equated) → ChangeStands history old c → ChangeStands history new c
  change_grown None h = tt
  change_grown (Some e) h = record { term = term_grown history old new e.term stands grows h.term; line = line_grown history old new e.line stands grows h.line }

  pub changes_grown : (changes : List (Option Equated)) → All (ChangeStands history old) changes → All (ChangeStands history new) changes
  changes_grown changes h = λ k d below. change_grown (get_or changes k d) (h k d below)

  pub changed_same : (later : List Term) (changes : List (Option Equated)) → All (ChangeStands history old) changes → changed_terms new.bank later changes ≡ changed_terms old.bank later changes
  changed_same [] changes h = refl
  changed_same (a ∷ later) [] h = refl
  changed_same (a ∷ later) (None ∷ changes) h = ap (λ ts. a ∷ ts) (changed_same later changes (λ k d below. h (suc k) d (omega (arith, below))))
  changed_same (a ∷ later) (Some e ∷ changes) h =
      let here : EquatedStands history old e = h 0 None (omega arith) in
      ap₂ (λ t ts. t ∷ ts) (same_term_grown history old new e.term grows here.term) (changed_same later changes (λ k d below. h (suc k) d (omega (arith, below))))

  pub shown_grown : (these later : List Term) (changes : List (Option Equated)) → All (ChangeStands history old) changes → AreShown old these later changes → AreShown new these later changes
  shown_grown these [] changes h shown = tt
  shown_grown these (a ∷ later) [] h shown = tt
  shown_grown these (a ∷ later) (None ∷ changes) h shown = shown_grown these later changes (λ k d below. h (suc k) d (omega (arith, below))) shown
  shown_grown these (a ∷ later) (Some e ∷ changes) h shown =
      let here : EquatedStands history old e = h 0 None (omega arith) in (
        only_grown history old new e.line (equal_term a (term_at new.bank e.term) ∷ these) stands grows (subst (λ u. LineHasOnly old e.line (equal_term a u ∷ these)) (sym (same_term_grown history old new e.term grows here.term)) shown.0),
        shown_grown these later changes (λ k d below. h (suc k) d (omega (arith, below))) shown.1,
      )

-- ---- places after those that are done

get_past : (done : List Term) (a : Term) (later : List Term) → slice_get (done ++ a ∷ later) (length done) ≡ Some a
get_past [] a later = refl
get_past (d ∷ done) a later = get_past done a later

set_past : (done : List Term) (a u : Term) (later : List Term) → slice_set (done ++ a ∷ later) (length done) u ≡ done ++ u ∷ later
set_past [] a u later = refl
set_past (d ∷ done) a u later = ap (λ ts. d ∷ ts) (set_past done a u later)

no_number : (ts : List Term) (f : Name) → 2 ≤ length ts → number_of_call f ts ≡ None
no_number [] f h = absurd (omega arith)
no_number (t ∷ []) f h = absurd (omega arith)
no_number (t ∷ (u ∷ ts)) f h = refl

one_more : (done : List Term) (u : Term) → length (done ++ u ∷ []) ≡ length done + 1
one_more done u = length-append done (u ∷ [])

module _ (f : Name) (done : List Term) (a : Term) (later : List Term) (place : ℕ) (c : Option Equated) (changes : List (Option Equated)) (t : Term) (is : CallAt f done (a ∷ later) place (c ∷ changes) t) where
  parts_are : parts_of t ≡ done ++ a ∷ later
  parts_are = ap parts_of is.whole ∙ parts_of-other f (done ++ a ∷ later) (ap number_of (sym is.whole) ∙ is.plain (omega arith))

  -- what stands at the place
  pub there : literal_at place (parts_of t) ≡ Some a
  there =
      let e : place ≡ suc (length done) = omega (arith, is.at) in
      ap (λ ts. literal_at place ts) parts_are ∙ ap (λ k. literal_at k (done ++ a ∷ later)) e ∙ get_past done a later

  pub replaced : (u : Term) → with_argument place u t ≡ call f (done ++ u ∷ later)
  replaced u =
      let e : place - 1 ≡ length done = omega (arith, is.at) in
      with_argument-call place f u t a (is.whole ∙ ap (call f) (sym parts_are)) there ∙
      ap (λ ts. call f (slice_set ts (place - 1) u)) parts_are ∙
      ap (λ k. call f (slice_set (done ++ a ∷ later) k u)) e ∙
      ap (call f) (set_past done a u later)

  next_plain : (u : Term) → 0 < length later → number_of (call f (done ++ u ∷ later)) ≡ None
  next_plain u h = number_of-call f (done ++ u ∷ later) ∙ no_number (done ++ u ∷ later) f (omega (arith, length-append done (u ∷ later)))

  -- the next place, after a change or without one
  pub next_changed : (u : Term) → CallAt f (done ++ u ∷ []) later (place + 1) changes (with_argument place u t)
  next_changed u =
      record {
        whole = replaced u ∙ ap (call f) (sym (append_assoc done (u ∷ []) later));
        at = omega (arith, is.at, one_more done u);
        count = omega (arith, is.count);
        plain = λ h. ap number_of (replaced u) ∙ next_plain u h;
      }

  pub next_kept : CallAt f (done ++ a ∷ []) later (place + 1) changes t
  next_kept =
      record {
        whole = is.whole ∙ ap (call f) (sym (append_assoc done (a ∷ []) later));
        at = omega (arith, is.at, one_more done a);
        count = omega (arith, is.count);
        plain = λ h. is.plain (omega arith);
      }

-- ---- lines

pub second_changed : (place : ℕ) (u s t a : Term) → replaced_at (place ∷ []) u t ≡ Some (a, with_argument place u t) → replaced_at (2 ∷ place ∷ []) u (equal_term s t) ≡ Some (a, equal_term s (with_argument place u t))
unfolding number_of
second_changed place u s t a h = ap (around (λ v. equal_term s v)) h

-- the hypothesis of a change discharged
pub change_shown : (w2 w3 : Work) (a u e : Term) (so_far these : List Term) (line equation n : ℕ) → DischargesTo w2 w3 Forwards a u line equation n → LineHasOnly w2 line (e ∷ ((not_term (equal_term a u) ∷ so_far) ++ these)) → LineHasOnly w2 equation (equal_term a u ∷ these) → LineHasOnly w3 n (e ∷ (so_far ++ these))
change_shown w2 w3 a u e so_far these line equation n discharges has shown =
    let d : Term = not_term (equal_term a u) in
    let rest : List Term = so_far ++ these in
    discharges (e ∷ rest)
    (only_more w2 line (e ∷ d ∷ rest) (d ∷ e ∷ rest) (and_among e (d ∷ rest) (d ∷ e ∷ rest) (inr (inl refl)) (beside d rest (e ∷ rest) (under e rest rest (λ v m. m)))) has)
    (only_more w2 equation (equal_term a u ∷ these) (equal_term a u ∷ e ∷ rest) (beside (equal_term a u) these (e ∷ rest) (under e these rest (on_right so_far these))) shown)

some_same : (a b : Term) → Some a ≡ Some b → a ≡ b
some_same a b e = cc

module _ (history : List Entry) (w0 w1 w2 w3 : Work) (place line law : ℕ) (e : Equated) (changes : List (Option Equated)) (t : Term) (made : Equated) (n : ℕ) (stands : WorkStands history w0) (one : WorkGrows history w0 w1) (h : All (ChangeStands history w0) (Some e ∷ changes)) where
  abbrev u : Term
  u = term_at w0.bank e.term

  tail_stand : All (ChangeStands history w0) changes
  tail_stand = λ k d below. h (suc k) d (omega (arith, below))

  now_same : (f : Name) (done later : List Term) → call f ((done ++ u ∷ []) ++ changed_terms w1.bank later changes) ≡ call f (done ++ u ∷ changed_terms w0.bank later changes)
  now_same f done later = ap (call f) (append_assoc done (u ∷ []) (changed_terms w1.bank later changes)) ∙ ap (λ ts. call f (done ++ u ∷ ts)) (changed_same history w0 w1 stands one later changes tail_stand)

  -- the line of the changes from a place on
  pub line_changed : (b : Term) → WorkGrows history w1 w2 → literal_at place (parts_of t) ≡ Some b → ReplacesArgument w0 w1 line place t u law → CarriesOn w1 w2 (place + 1) changes (with_argument place u t) law made → DischargesTo w2 w3 Forwards b u made.line e.line n → CarriesOn w0 w3 place (Some e ∷ changes) t line (record { term = made.term; line = n })
  line_changed b two at replaces again discharges f done [] is left so_far these leads shown = absurd (omega (arith, is.count))
  line_changed b two at replaces again discharges f done (a ∷ later) is left so_far these leads shown =
      let here : literal_at place (parts_of t) ≡ Some a = there f done a later place (Some e) changes t is in
      let same : b ≡ a = some_same b a (sym at ∙ here) in
      let d : Term = not_term (equal_term a u) in
      let leads1 : LineLeads w1 law (equal_term left (with_argument place u t)) (d ∷ so_far) = replaces left a so_far here leads in
      let has = again f (done ++ u ∷ []) later (next_changed f done a later place (Some e) changes t is u) left (d ∷ so_far) these leads1 (shown_grown history w0 w1 stands one these later changes tail_stand shown.1) in
      change_shown w2 w3 a u (equal_term left (call f (done ++ u ∷ changed_terms w0.bank later changes))) so_far these made.line e.line n
      (subst (λ v. DischargesTo w2 w3 Forwards v u made.line e.line n) same discharges)
      (subst (λ v. LineHasOnly w2 made.line (equal_term left v ∷ ((d ∷ so_far) ++ these))) (now_same f done later) has)
      (only_grown history w0 w2 e.line (equal_term a u ∷ these) stands (WorkGrows-trans history w0 w1 w2 one two) shown.0)

  -- and the call
  pub call_changed : WorkGrows history w2 w3 → MakesOn w1 w2 (place + 1) changes (with_argument place u t) made → MakesOn w0 w3 place (Some e ∷ changes) t (record { term = made.term; line = n })
  call_changed three again f done [] is = absurd (omega (arith, is.count))
  call_changed three again f done (a ∷ later) is =
      id_grown w2.bank w3.bank made.term (call f (done ++ u ∷ changed_terms w0.bank later changes)) three.bank
      (subst (IsIdOf w2.bank made.term) (now_same f done later) (again f (done ++ u ∷ []) later (next_changed f done a later place (Some e) changes t is u)))

module _ (w0 w1 : Work) (place line : ℕ) (changes : List (Option Equated)) (t : Term) (made : Equated) where
  -- an argument that stays
  pub line_kept : CarriesOn w0 w1 (place + 1) changes t line made → CarriesOn w0 w1 place (None ∷ changes) t line made
  line_kept again f done [] is left so_far these leads shown = absurd (omega (arith, is.count))
  line_kept again f done (a ∷ later) is left so_far these leads shown =
      subst (λ ts. LineHasOnly w1 made.line (equal_term left (call f ts) ∷ (so_far ++ these))) (append_assoc done (a ∷ []) (changed_terms w0.bank later changes))
      (again f (done ++ a ∷ []) later (next_kept f done a later place None changes t is) left so_far these leads shown)

  pub call_kept : MakesOn w0 w1 (place + 1) changes t made → MakesOn w0 w1 place (None ∷ changes) t made
  call_kept again f done [] is = absurd (omega (arith, is.count))
  call_kept again f done (a ∷ later) is =
      subst (λ ts. IsIdOf w1.bank made.term (call f ts)) (append_assoc done (a ∷ []) (changed_terms w0.bank later changes)) (again f (done ++ a ∷ []) later (next_kept f done a later place None changes t is))

  -- no changes
  pub line_done : CarriesOn w0 w0 place [] t line (record { term = made.term; line = line })
  line_done f done [] is left so_far these leads shown =
      subst (λ v. LineHasOnly w0 line (equal_term left v ∷ (so_far ++ these))) is.whole
      (only_more w0 line (equal_term left t ∷ so_far) (equal_term left t ∷ (so_far ++ these)) (beside (equal_term left t) so_far (so_far ++ these) (on_left so_far these)) (leads_only w0 line (equal_term left t) so_far leads))
  line_done f done (a ∷ later) is left so_far these leads shown = absurd (omega (arith, is.count))

pub call_done : (work : Work) (place : ℕ) (t : TermId) (line : ℕ) → Stands work.bank t → MakesOn work work place [] (term_at work.bank t) (record { term = t; line = line })
call_done work place t line stands f done [] is = record { stands = stands; denotes = is.whole }
call_done work place t line stands f done (a ∷ later) is = absurd (omega (arith, is.count))

-- the premises of the next step
pub next_is : (place : ℕ) (e : Equated) (changes : List (Option Equated)) (u t : Term) → IsCallAt place (Some e ∷ changes) t → IsCallAt (place + 1) changes (with_argument place u t)
next_is place e changes u t is = by_others is.others is.is
  where
    by_others : (others : List Term) → CallAt is.function is.done others place (Some e ∷ changes) t → IsCallAt (place + 1) changes (with_argument place u t)
    by_others [] k = absurd (omega (arith, k.count))
    by_others (a ∷ later) k = record { function = is.function; done = is.done ++ u ∷ []; others = later; is = next_changed is.function is.done a later place (Some e) changes t k u }

pub kept_is : (place : ℕ) (changes : List (Option Equated)) (t : Term) → IsCallAt place (None ∷ changes) t → IsCallAt (place + 1) changes t
kept_is place changes t is = by_others is.others is.is
  where
    by_others : (others : List Term) → CallAt is.function is.done others place (None ∷ changes) t → IsCallAt (place + 1) changes t
    by_others [] k = absurd (omega (arith, k.count))
    by_others (a ∷ later) k = record { function = is.function; done = is.done ++ a ∷ []; others = later; is = next_kept is.function is.done a later place None changes t k }

pub there_is : (place : ℕ) (c : Option Equated) (changes : List (Option Equated)) (t : Term) → IsCallAt place (c ∷ changes) t → IsSome (literal_at place (parts_of t))
there_is place c changes t is = by_others is.others is.is
  where
    by_others : (others : List Term) → CallAt is.function is.done others place (c ∷ changes) t → IsSome (literal_at place (parts_of t))
    by_others [] k = absurd (omega (arith, k.count))
    by_others (a ∷ later) k = ap is_some (there is.function is.done a later place c changes t k)

-- the whole call
pub call_first : (f : Name) (changes : List (Option Equated)) (t : Term) → t ≡ call f (parts_of t) → number_of t ≡ None → length (parts_of t) ≡ length changes → CallAt f [] (parts_of t) 1 changes t
call_first f changes t is none count = record { whole = is; at = refl; count = count; plain = λ h. none }

-- ---- the whole

none_changed : (bank : Content) (ts : List Term) (changes : List (Option Equated)) → ts ≡ [] → changed_terms bank ts changes ≡ ts
none_changed bank [] changes e = refl
none_changed bank (t ∷ ts) changes e = absurd cc

pub variable_parts : (x : Name) → parts_of (Variable x) ≡ []
unfolding number_of
variable_parts x = refl

module _ (history : List Entry) (w0 w1 : Work) (t : TermId) (changes : List (Option Equated)) (stands : WorkStands history w0) (one : WorkGrows history w0 w1) (there : IsTermIn history w0 t) where
  abbrev before : Term
  before = term_at w0.bank t

  abbrev now : Term
  now = term_at w1.bank t

  same_now : now ≡ before
  same_now = same_term_grown history w0 w1 t one there

  pub count_now : length (parts_of before) ≡ length changes → length (parts_of now) ≡ length changes
  count_now h = ap (λ u. length (parts_of u)) same_now ∙ h

  pub leads_now : (line : ℕ) → LineLeads w1 line (equal_term before before) [] → LineLeads w1 line (equal_term before now) []
  leads_now line leads = subst (λ u. LineLeads w1 line (equal_term before u) []) (sym same_now) leads

  -- a call
  module _ (w2 : Work) (line : ℕ) (e : Equated) (none : number_of now ≡ None) (count : length (parts_of before) ≡ length changes) (h : All (ChangeStands history w0) changes) where
    pub call_whole : MakesOn w1 w2 1 changes now e → IsChangedCall w0 w2 before changes e
    call_whole makes f whole =
        let is : CallAt f [] (parts_of before) 1 changes now = record { whole = same_now ∙ whole; at = refl; count = count; plain = λ k. none } in
        subst (λ ts. IsIdOf w2.bank e.term (call f ts)) (changed_same history w0 w1 stands one (parts_of before) changes h) (makes f [] (parts_of before) is)

    pub line_whole : (f : Name) → now ≡ call f (parts_of now) → LineLeads w1 line (equal_term before before) [] → MakesOn w1 w2 1 changes now e → CarriesOn w1 w2 1 changes now line e → CarriesAll w0 w2 before changes e
    line_whole f whole leads makes carries these shown =
        let is : CallAt f [] (parts_of now) 1 changes now = call_first f changes now whole none (count_now count) in
        let has : LineHasOnly w2 e.line (equal_term before (call f (changed_terms w1.bank (parts_of now) changes)) ∷ these) =
        carries f [] (parts_of now) is before [] these (leads_now line leads) (shown_grown history w0 w1 stands one these (parts_of now) changes h (subst (λ u. AreShown w0 these (parts_of u) changes) (sym same_now) shown)) in
        subst (λ u. LineHasOnly w2 e.line (equal_term before u ∷ these)) (sym (makes f [] (parts_of now) is).denotes) has

  -- what has no arguments
  pub call_plain : (line : ℕ) → parts_of now ≡ [] → IsChangedCall w0 w1 before changes (record { term = t; line = line })
  call_plain line none f whole =
      record {
        stands = (term_grown history w0 w1 t stands one there).stands;
        denotes = same_now ∙ whole ∙ ap (call f) (sym (none_changed w0.bank (parts_of before) changes (ap parts_of (sym same_now) ∙ none)));
      }

  pub line_plain : (line : ℕ) → LineLeads w1 line (equal_term before before) [] → CarriesAll w0 w1 before changes (record { term = t; line = line })
  line_plain line leads these shown =
      only_more w1 line (equal_term before now ∷ []) (equal_term before now ∷ these) (beside (equal_term before now) [] these (none_among these)) (leads_only w1 line (equal_term before now) [] (leads_now line leads))

pub no_changes : (xs : List (Option Equated)) → length xs < 1 → xs ≡ []
no_changes [] h = refl
no_changes (x ∷ xs) h = absurd (omega arith)

-- the changes, where the first is known
pub split_changes : (xs : List (Option Equated)) (d c : Option Equated) → 1 ≤ length xs → get_or xs 0 d ≡ c → xs ≡ c ∷ take (length xs - 1) (drop 1 xs)
split_changes xs d c h e = sym (first_others xs d h) ∙ ap (λ x. x ∷ take (length xs - 1) (drop 1 xs)) e
