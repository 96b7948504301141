-- The functions that terms may call, by their places and by their texts.
use Rattle.std.proofs.Common.{◌≡◌, ℕ, zero, suc, ◌+◌, ◌<◌, Bool, true, false, List, [], ◌∷◌, length, get_or, map, refl, sym, ap, ◌∙◌, arith, cond}
use Rattle.std.specs.Prelude.{All, bytes_eq, Option, None, Some}
use Rattle.std.proofs.lemmas.Slice.Eq.{bytes_eq-Decides}
use Rattle.std.proofs.Math.Path.{fun_ext}
use Rattle.nq_logic.specs.Terms.{Name}
use Rattle.nq_language.specs.Arities.{arity_in}
use Rattle.nq_bank.specs.declared.node.Sym.{Sym}
use Rattle.nq_bank.specs.Content.{Content, Grows, IsNamed, NamesNone, text_at}
use Rattle.nq_bank.specs.Soundness.{IsSound}
use Rattle.nq_bank.proofs.Growth.{text_at-grown, IsNamed-grown}
use Rattle.nq_bank.proofs.NodesLemmas.{All-head, All-tail}
use Rattle.nq_bank.proofs.SoundLemmas.{eqb-symbols}
use Rattle.nq_history.specs.declared.entry.Entry.{Entry}
use Rattle.nq_history.specs.Events.{events_at, HistoryStands}
use Rattle.nq_history.specs.Functions.{arity_among, functions_of, symbol_at}
use Rattle.nq_history.proofs.FunctionLemmas.{arity_is, symbols_are, symbols_stand}
use Rattle.nq_history.proofs.HistoryLemmas.{events_at-grown, history_grown}
use Rattle.nq_abbrev.specs.Known.{arity_from, arity_over}
use Rattle.nq_events.specs.TermRefusals.{arity_of}
use Rattle.nq_event.proofs.NameLemmas.{apart}
use Rattle.nq_event.specs.declared.arities.NewFunction.{NewFunction}
use Rattle.nq_event.specs.declared.arities.Functions.{Functions}
use Rattle.nq_event.specs.Arities.{arity_at, arity_before, arities_at, NewStands, FunctionsStand}

-- what is at each place of the name is what is at the name
absent_more : (n x : Name) (names : List Name) → bytes_eq x n ≡ false → ((k : ℕ) → k < length names → get_or names k [] ≡ x → ⊥) → (j : ℕ) → j < length (n ∷ names) → get_or (n ∷ names) j [] ≡ x → ⊥
absent_more n x names other absent zero lt is = let same : bytes_eq x n ≡ true = (bytes_eq-Decides x n).1 (sym is) in cc
absent_more n x names other absent (suc j) lt is = absent j (omega arith) is

found_from : (i : ℕ) (names : List Name) (at : ℕ → Option ℕ) (x : Name) (v : Option ℕ) → ((j : ℕ) → j < length names → get_or names j [] ≡ x → at (i + j) ≡ v)
    → (((j : ℕ) → j < length names → get_or names j [] ≡ x → ⊥) → None ≡ v) → arity_from i names at x ≡ v
found_from i [] at x v here none = none (λ j lt is. absurd (omega arith))
found_from i (n ∷ names) at x v here none = by_first (bytes_eq x n) refl (λ at_more none_more. found_from (suc i) names at x v at_more none_more) where
  by_first : (b : Bool) → bytes_eq x n ≡ b → (((j : ℕ) → j < length names → get_or names j [] ≡ x → at (suc i + j) ≡ v) → (((j : ℕ) → j < length names → get_or names j [] ≡ x → ⊥) → None ≡ v) → arity_from (suc i) names at x ≡ v)
      → cond b (at i) (arity_from (suc i) names at x) ≡ v
  by_first true e more = let place : i ≡ i + 0 = omega arith in ap at place ∙ here 0 (omega arith) (sym ((bytes_eq-Decides x n).0 e))
  by_first false e more =
      more
      (λ j lt is. let place : suc i + j ≡ i + suc j = omega arith in ap at place ∙ here (suc j) (omega arith) is)
      (λ absent. none (absent_more n x names e absent))

-- no function has a name that isn't in the bank
unnamed_among : (bank : Content) (x : Name) (fs : List (Sym × ℕ)) → NamesNone bank x → All (IsNamed bank) (map (λ f. f.0) fs) → arity_in (map (symbol_at bank) fs) x ≡ None
unnamed_among bank x [] none h = refl
unnamed_among bank x (f ∷ fs) none h =
    let other = apart x (text_at bank f.0) (λ same. none.none f.0 (All-head (IsNamed bank) f.0 (map (λ g. g.0) fs) h) (sym same)) in
    ap (λ b. cond b (Some f.1) (arity_in (map (symbol_at bank) fs) x)) other ∙ unnamed_among bank x fs none (All-tail (IsNamed bank) f.0 (map (λ g. g.0) fs) h)

pub unnamed_function : (bank : Content) (x : Name) (history : List Entry) → NamesNone bank x → HistoryStands bank history → arity_of (events_at bank history) x ≡ None
unnamed_function bank x history none h =
    sym (ap (λ fs. arity_in fs x) (symbols_are bank history h)) ∙ unnamed_among bank x (functions_of history) none (symbols_stand bank history h.entries)

module _ (bank : Content) (history : List Entry) (sound : IsSound bank) (h : HistoryStands bank history) where
  arity_of_name : (s : Sym) → IsNamed bank s → arity_among s (functions_of history) ≡ arity_of (events_at bank history) (text_at bank s)
  arity_of_name s named = arity_is bank s history sound named h

  at_place : (new : Option NewFunction) (x : Name) (j : ℕ) → NewStands bank new → j < length bank.names → get_or bank.names j [] ≡ x
      → arity_at new history j ≡ arity_before bank new (arity_of (events_at bank history)) x
  at_place None x j stands lt is = arity_of_name (record { 0 = j }) lt ∙ ap (arity_of (events_at bank history)) is
  at_place (Some f) x j stands lt is =
      let same = eqb-symbols bank (record { 0 = j }) f.name sound lt stands ∙ ap (λ y. bytes_eq y (text_at bank f.name)) is in
      let other = arity_of_name (record { 0 = j }) lt ∙ ap (arity_of (events_at bank history)) is in
      ap (λ b. cond b (Some f.arity) (arity_among (record { 0 = j }) (functions_of history))) same ∙
      ap (cond (bytes_eq x (text_at bank f.name)) (Some f.arity)) other

  at_no_place : (new : Option NewFunction) (x : Name) → NewStands bank new → NamesNone bank x → None ≡ arity_before bank new (arity_of (events_at bank history)) x
  at_no_place None x stands none = sym (unnamed_function bank x history none h)
  at_no_place (Some f) x stands none =
      let other = apart x (text_at bank f.name) (λ same. none.none f.name stands (sym same)) in
      sym (ap (λ b. cond b (Some f.arity) (arity_of (events_at bank history) x)) other ∙ unnamed_function bank x history none h)

-- the arities by the places of names are the arities by their texts
pub arities_are : (bank : Content) (functions : Functions) → IsSound bank → FunctionsStand bank functions → arity_over bank.names (λ i. arity_at functions.defined functions.history.now i) ≡ arities_at bank functions
unfolding arities_at
arities_are bank functions sound h =
    fun_ext (λ x. found_from 0 bank.names (λ i. arity_at functions.defined functions.history.now i) x (arity_before bank functions.defined (arity_of (events_at bank functions.history.now)) x)
    (λ j lt is. ap (λ i. arity_at functions.defined functions.history.now i) (zero_plus j) ∙ at_place bank functions.history.now sound h.history functions.defined x j h.defined lt is)
    (λ absent. at_no_place bank functions.history.now sound h.history functions.defined x h.defined (record { none = λ s named is. absent s.0 named is }))) where
      zero_plus : (j : ℕ) → 0 + j ≡ j
      zero_plus j = omega arith

-- they stay as the bank grows
before_grown : (old new : Content) (f : Option NewFunction) (arity : Name → Option ℕ) → Grows old new → NewStands old f → arity_before new f arity ≡ arity_before old f arity
before_grown old new None arity grows stands = refl
before_grown old new (Some f) arity grows stands =
    let by : Name → Name → Option ℕ = λ y g. cond (bytes_eq g y) (Some f.arity) (arity g) in
    ap by (text_at-grown old new f.name grows stands)

pub arities_grown : (old new : Content) (functions : Functions) → Grows old new → FunctionsStand old functions → arities_at new functions ≡ arities_at old functions
unfolding arities_at
arities_grown old new functions grows h =
    ap (λ es. arity_before new functions.defined (arity_of es)) (events_at-grown old new grows functions.history.now h.history.entries) ∙
    before_grown old new functions.defined (arity_of (events_at old functions.history.now)) grows h.defined

new_grown : (old new : Content) (f : Option NewFunction) → Grows old new → NewStands old f → NewStands new f
new_grown old new None grows stands = tt
new_grown old new (Some f) grows stands = IsNamed-grown old new f.name grows stands

pub functions_grown : (old new : Content) (functions : Functions) → Grows old new → FunctionsStand old functions → FunctionsStand new functions
functions_grown old new functions grows h =
    record { history = history_grown old new grows functions.history.now h.history; defined = new_grown old new functions.defined grows h.defined }

-- with no function that is being defined they are those of the history
pub history_arities : (bank : Content) (functions : Functions) (history : List Entry) → functions ≡ (record { history = functions.history; defined = None }) → functions.history.now ≡ history → arities_at bank functions ≡ arity_of (events_at bank history)
unfolding arities_at
history_arities bank functions history e k =
    ap (λ f. arity_before bank f.defined (arity_of (events_at bank functions.history.now))) e ∙ ap (λ h. arity_of (events_at bank h)) k
