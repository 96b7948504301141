-- The try of a recursive definition, over a bank that its proof grows.
use Rattle.std.proofs.Common.{◌≡◌, inl, inr, ℕ, zero, suc, Bool, true, false, List, [], ◌∷◌, ◌++◌, length, map, refl, sym, subst}
use Rattle.std.specs.Prelude.{All, IfNone, IfSome, MatchOption, Option, None, Some, if◌then◌else◌, slice_get}
use Rattle.std.specs.Option.{option_map}
use Rattle.nq_logic.specs.Terms.{Applied, Each, Function, IsAmong, Name, Symbol, Term, Variable}
use Rattle.nq_logic.specs.Words.{call1}
use Rattle.nq_logic.specs.Ground.{symbols_of}
use Rattle.nq_logic.specs.Histories.{Defines, History}
use Rattle.nq_logic.specs.Admissible.{Call, HasVariables, IsAdmissible, IsMeasured, calls_of}
use Rattle.nq_logic.proofs.Symbols.{count_symbol, fix_symbol, not_symbol}
use Rattle.nq_logic.proofs.Tests.{names_distinct_law, variables_told_law}
use Rattle.nq_bank.specs.declared.node.Sym.{Sym}
use Rattle.nq_bank.specs.declared.node.TermId.{TermId}
use Rattle.nq_bank.specs.Content.{Content, Grows, Stands, term_at, terms_at, text_at}
use Rattle.nq_bank.specs.Shells.{texts_at}
use Rattle.nq_bank.proofs.Growth.{IsNamed-grown, Stands-grown, term_at-grown, text_at-grown}
use Rattle.nq_proof.specs.Clauses.{Clause}
use Rattle.nq_proof.specs.Laws.{LinesHold}
use Rattle.nq_history.specs.declared.entry.Entry.{Entry}
use Rattle.nq_history.specs.Events.{events_at, HistoryStands}
use Rattle.nq_history.proofs.HistoryLemmas.{events_at-grown}
use Rattle.nq_history.proofs.ShellLemmas.{names-grown, texts-grown}
use Rattle.nq_kernel.specs.declared.work.Work.{Work}
use Rattle.nq_kernel.specs.Meaning.{clause_at}
use Rattle.nq_kernel.specs.Over.{IsVariable, VariablesAre}
use Rattle.nq_kernel.specs.Ready.{WorkHolds}
use Rattle.nq_block.specs.Blocks.{IsBlock}
use Rattle.nq_block.specs.Closings.{CanRecur, FunctionNames, recursion_at}
use Rattle.nq_block.specs.Closings as block
use Rattle.nq_log.specs.States.{Adds, Claim}
use Rattle.nq_language.specs.Abbreviations.{is_word}
use Rattle.nq_events.specs.Events.{Measure}
use Rattle.nq_events.specs.Measures.{ordinal_of, size_measure, tried_measures}
use Rattle.nq_measures.specs.declared.finding.Admitting.{Admitting}
use Rattle.nq_measures.specs.Admitting.{AdmittingIsMeasure, IsAdmitting, IsNewFunction, NoneIsStructural}
use Rattle.nq_measures.specs.Admitting as found
use Rattle.nq_measures.specs.Trials.{AreLeft, IsTrial}
use Rattle.nq_measures.specs.declared.left.Left.{Left}
use Rattle.nq_measures.proofs.CalledLemmas.{body_calls}
use Rattle.nq_calls.specs.Calls.{counted_calls}
use Rattle.nq_events.specs.AllowedEvents.{plain_definition}
use Rattle.nq_comment.specs.Reports.{Trial}
use Rattle.nq_answers.specs.Measuring.{AreTrials}
use Rattle.nq_spelling.specs.SpelledEvents.{IsSpelledMeasure}
use Rattle.nq_answers.specs.Steps.{measured_definition}
use Rattle.nq_run.specs.declared.recursions.Kept.{Kept}
use Rattle.nq_run.specs.Outcome.{AreBlocks}
use Rattle.nq_run.specs.Recursions.{IsKept, IsTriable, IsTriedTerm, LeftStands, kept_claims, kept_of, trials_at}
use Rattle.nq_run.proofs.HintLemmas.{each_all}
use Rattle.nq_run.proofs.TrialLemmas.{left_stand, trials_told}
use Rattle.nq_run.proofs.ReadyLemmas.{small_depth}

-- ---- lists

each_both : {X : Type 0} (P : X → Type 0) (xs ys : List X) → Each P xs → Each P ys → Each P (xs ++ ys)
each_both P [] ys first second = second
each_both P (x ∷ xs) ys first second = (first.0, each_both P xs ys first.1 second)

each_of : {X : Type 0} (P : X → Type 0) (x : X) (xs : List X) → IsAmong x xs → Each P xs → P x
each_of P x [] among each = absurd among
each_of P x (y ∷ ys) (inl same) each = subst P (sym same) each.0
each_of P x (y ∷ ys) (inr among) each = each_of P x ys among each.1

each_get : {X : Type 0} (P : X → Type 0) (xs : List X) (k : ℕ) (x : X) → slice_get xs k ≡ Some x → Each P xs → P x
each_get P [] k x e each = absurd cc
each_get P (y ∷ ys) zero x e each = let same : y ≡ x = cc in subst P same each.0
each_get P (y ∷ ys) (suc k) x e each = each_get P ys k x e each.1

-- ---- the measures that are tried

module _ (h : History) (name : Name) (formals : List Name) (spelled : Each IsVariable formals) where
  abbrev symbols : List Symbol
  symbols = (name, length formals) ∷ symbols_of h

  variables_of : (t : Term) → HasVariables formals t → VariablesAre IsVariable t
  variables_of (Variable x) among = each_of IsVariable x formals among spelled
  variables_of (Function f) among = tt
  variables_of (Applied t u) among = (variables_of t among.0, variables_of u among.1)

  of_hint : (m : Measure) (b : Bool) → IsSpelledMeasure symbols m → HasVariables formals m.term → IsTriedTerm symbols formals (if b then call1 "FIX" m.term else m.term)
  of_hint m true is within =
      record { of = record { over = (inr (fix_symbol h), is.over); variables = (tt, variables_of m.term within) }; within = (tt, within) }
  of_hint m false is within = record { of = record { over = is.over; variables = variables_of m.term within }; within = within }

  of_hints : (ms : List Measure) → Each (IsSpelledMeasure symbols) ms → Each (λ m. HasVariables formals m.term) ms → Each (IsTriedTerm symbols formals) (map ordinal_of ms)
  of_hints [] are within = tt
  of_hints (m ∷ ms) are within = (of_hint m (is_word "LESSP" m.relation) are.0 within.0, of_hints ms are.1 within.1)

  of_sizes : (xs : List Name) → ((x : Name) → IsAmong x xs → IsAmong x formals) → Each (IsTriedTerm symbols formals) (map size_measure xs)
  of_sizes [] there = tt
  of_sizes (x ∷ xs) there =
      let among : IsAmong x formals = there x (inl refl) in
      (record { of = record { over = (inr (count_symbol h), tt); variables = (tt, each_of IsVariable x formals among spelled) }; within = (tt, among) }, of_sizes xs (λ y a. there y (inr a)))

  -- those of the hint and the sizes of the formals
  pub tried_terms : (ms : List Measure) → Each (IsSpelledMeasure symbols) ms → Each (λ m. HasVariables formals m.term) ms → Each (IsTriedTerm symbols formals) (tried_measures formals ms)
  tried_terms ms are within =
      each_both (IsTriedTerm symbols formals) (map ordinal_of ms) (map size_measure formals) (of_hints ms are within) (of_sizes formals (λ x among. among))

-- the sizes of the formals are among them
after_among : (x : Term) (ys zs : List Term) → IsAmong x zs → IsAmong x (ys ++ zs)
after_among x [] zs among = among
after_among x (y ∷ ys) zs among = inr (after_among x ys zs among)

sizes_among : (xs : List Name) (ts : List Term) → ((x : Term) → IsAmong x (map size_measure xs) → IsAmong x ts) → Each (λ x. IsAmong (size_measure x) ts) xs
sizes_among [] ts there = tt
sizes_among (x ∷ xs) ts there = (there (size_measure x) (inl refl), sizes_among xs ts (λ y among. there y (inr among)))

pub sizes_tried : (ms : List Measure) (xs : List Name) → Each (λ x. IsAmong (size_measure x) (tried_measures xs ms)) xs
sizes_tried ms xs = sizes_among xs (tried_measures xs ms) (λ x among. after_among x (map ordinal_of ms) (map size_measure xs) among)

-- ---- what a block asks

falls_are : (lines : ℕ → Option Clause) (f : Name) (xs : List Name) (m : Term) (calls : List Call) (rs : List ℕ) → found.AreFalls lines f xs m calls rs → block.AreFalls lines f xs m calls rs
falls_are lines f xs m [] [] are = tt
falls_are lines f xs m [] (r ∷ rs) are = absurd are
falls_are lines f xs m (c ∷ calls) [] are = absurd are
falls_are lines f xs m (c ∷ calls) (r ∷ rs) are = (record { older = are.0.older; less = are.0.less }, falls_are lines f xs m calls rs are.1)

-- ---- a definition that is tried

module _ (bank : Content) (history : List Entry) (name : Sym) (formals : List Sym) (body : TermId) (tried : List TermId) (is : IsTriable bank history name formals body tried) where
  abbrev symbols_at : List Symbol
  symbols_at = (text_at bank name, length (texts_at bank formals)) ∷ symbols_of (events_at bank history)

  pub new_function : IsNewFunction history bank name formals body
  new_function = record {
    function = is.function.named;
    formals_named = is.function.formals_named;
    body_stands = is.function.stands;
    unused = is.can.free.unused;
    over = is.can.spelled.over;
    shallow = small_depth (term_at bank body) is.can.spelled.small;
  }

  each_tried : All (λ t. IsTriedTerm symbols_at (texts_at bank formals) (term_at bank t)) tried
  each_tried = each_all (term_at bank) (IsTriedTerm symbols_at (texts_at bank formals)) (λ t. IsTriedTerm symbols_at (texts_at bank formals) (term_at bank t)) (λ t it. it) tried is.terms

  pub trials : All (IsTrial history bank name formals) tried
  trials = λ i d below. record {
    function = is.function.named;
    formals_named = is.function.formals_named;
    measure_stands = is.stand i d below;
    unused = is.can.free.unused;
    over = (each_tried i d below).of;
  }

  within_formals : (k : ℕ) (m : Term) → slice_get (terms_at bank tried) k ≡ Some m → HasVariables (texts_at bank formals) m
  within_formals k m told = (each_get (IsTriedTerm symbols_at (texts_at bank formals)) (terms_at bank tried) k m told is.terms).within

  -- a measure that was found, over the bank as it was
  recur_here : (work : Work) (a : Admitting) → IsAdmitting history bank work name formals body tried a
      → CanRecur (events_at bank history) (clause_at work.bank work.log) (text_at bank name) (texts_at bank formals) (term_at bank body) (term_at bank a.measure) a.ordinal a.falls.items
  recur_here work a it = record {
    free = is.can.free;
    count = is.can.spelled.function.few;
    spelled = is.can.variables;
    distinct = is.can.distinct;
    over = is.can.spelled.over;
    small = is.can.spelled.small;
    within = (variables_told_law (texts_at bank formals) (term_at bank body)).1 is.can.closed;
    recursive = is.can.recursive;
    measure_over = it.measure_over;
    measure_within = (variables_told_law (texts_at bank formals) (term_at bank a.measure)).1 (within_formals a.place (term_at bank a.measure) it.told);
    is_ordinal = it.is_ordinal;
    each_falls = falls_are (clause_at work.bank work.log) (text_at bank name) (texts_at bank formals) (term_at bank a.measure) (calls_of (text_at bank name) (term_at bank body)) a.falls.items it.each_falls;
  }

  -- it admits the definition
  admissible_by : (work : Work) (a : Admitting) → AdmittingIsMeasure → LinesHold (events_at bank history) (clause_at work.bank work.log) → IsAdmitting history bank work name formals body tried a
      → IsAdmissible (events_at bank history) (measured_definition (text_at bank name) (texts_at bank formals) (term_at bank body) (term_at bank a.measure))
  admissible_by work a law lines it =
      let h : History = events_at bank history in
      let m : Term = term_at bank a.measure in
      record {
        unused = is.can.free.unused;
        distinct = (names_distinct_law (texts_at bank formals)).0 is.can.distinct;
        closed = is.can.closed;
        over = is.can.spelled.over.over;
        measured = subst (λ (b : Bool). IsMeasured h (measured_definition (text_at bank name) (texts_at bank formals) (term_at bank body) m) b (Some m)) (sym is.can.recursive)
            (law history bank work name formals body tried a new_function it lines (within_formals a.place m it.told));
      }

  -- ---- over the bank of the work

  module _ (begun : Content) (work : Work) (stands : HistoryStands bank history) (same : begun ≡ bank) (grows : Grows begun work.bank) where
    grew : Grows bank work.bank
    grew = subst (λ (b : Content). Grows b work.bank) same grows

    events_later : events_at work.bank history ≡ events_at bank history
    events_later = events_at-grown bank work.bank grew history stands.entries

    name_later : text_at work.bank name ≡ text_at bank name
    name_later = text_at-grown bank work.bank name grew is.function.named

    formals_later : texts_at work.bank formals ≡ texts_at bank formals
    formals_later = texts-grown bank work.bank grew formals is.function.formals_named

    body_later : term_at work.bank body ≡ term_at bank body
    body_later = term_at-grown bank work.bank body grew is.function.stands

    pub names_later : FunctionNames work.bank name formals body
    names_later = record {
      named = IsNamed-grown bank work.bank name grew is.function.named;
      formals_named = names-grown bank work.bank grew formals is.function.formals_named;
      stands = Stands-grown bank work.bank body grew is.function.stands;
    }

    -- of what is told of a bank, what it is in the bank of the work
    later : (P : History → Name → List Name → Term → Term → Type 0) (m : TermId) → Stands bank m → P (events_at bank history) (text_at bank name) (texts_at bank formals) (term_at bank body) (term_at bank m)
        → P (events_at work.bank history) (text_at work.bank name) (texts_at work.bank formals) (term_at work.bank body) (term_at work.bank m)
    later P m there is_so =
        subst (λ (h : History). P h (text_at work.bank name) (texts_at work.bank formals) (term_at work.bank body) (term_at work.bank m)) (sym events_later)
        (subst (λ (n : Name). P (events_at bank history) n (texts_at work.bank formals) (term_at work.bank body) (term_at work.bank m)) (sym name_later)
        (subst (λ (xs : List Name). P (events_at bank history) (text_at bank name) xs (term_at work.bank body) (term_at work.bank m)) (sym formals_later)
        (subst (λ (t : Term). P (events_at bank history) (text_at bank name) (texts_at bank formals) t (term_at work.bank m)) (sym body_later)
        (subst (λ (t : Term). P (events_at bank history) (text_at bank name) (texts_at bank formals) (term_at bank body) t) (sym (term_at-grown bank work.bank m grew there)) is_so))))

    here : (a : Admitting) → IsAdmitting history begun work name formals body tried a → IsAdmitting history bank work name formals body tried a
    here a it = subst (λ (b : Content). IsAdmitting history b work name formals body tried a) same it

    pub closes_if : (o : Option Admitting) → MatchOption o (NoneIsStructural history begun name formals body tried) (IsAdmitting history begun work name formals body tried)
        → IfSome o (λ a. CanRecur (events_at work.bank history) (clause_at work.bank work.log) (text_at work.bank name) (texts_at work.bank formals) (term_at work.bank body) (term_at work.bank a.measure) a.ordinal a.falls.items)
    closes_if None it = tt
    closes_if (Some a) it =
        later (λ (h : History) (n : Name) (xs : List Name) (b m : Term). CanRecur h (clause_at work.bank work.log) n xs b m a.ordinal a.falls.items) a.measure (here a it).measure_stands (recur_here work a (here a it))

    pub stands_if : (o : Option Admitting) → MatchOption o (NoneIsStructural history begun name formals body tried) (IsAdmitting history begun work name formals body tried)
        → IfSome o (λ a. Stands work.bank a.measure)
    stands_if None it = tt
    stands_if (Some a) it = Stands-grown bank work.bank a.measure grew (here a it).measure_stands

    kept_by : (o : Option Admitting) → MatchOption o (NoneIsStructural history begun name formals body tried) (IsAdmitting history begun work name formals body tried) → WorkHolds history work → AdmittingIsMeasure
        → MatchOption (option_map kept_of o) (NoneIsStructural history bank name formals body tried) (IsKept bank history name formals body tried)
    kept_by None it holds law = subst (λ (b : Content). NoneIsStructural history b name formals body tried) same it
    kept_by (Some a) it holds law = record {
      stands = (here a it).measure_stands;
      told = (here a it).told;
      admissible = admissible_by work a law (subst (λ (h : History). LinesHold h (clause_at work.bank work.log)) events_later holds) (here a it);
    }

    -- the measure that is kept
    pub kept_is : (o : Option Admitting) (kept : Option Kept) → kept ≡ option_map kept_of o → MatchOption o (NoneIsStructural history begun name formals body tried) (IsAdmitting history begun work name formals body tried)
        → WorkHolds history work → AdmittingIsMeasure → MatchOption kept (NoneIsStructural history bank name formals body tried) (IsKept bank history name formals body tried)
    kept_is o kept e it holds law = subst (λ (k : Option Kept). MatchOption k (NoneIsStructural history bank name formals body tried) (IsKept bank history name formals body tried)) (sym e) (kept_by o it holds law)

    recursion_later : (m : TermId) → Stands bank m → recursion_at work.bank name formals body m ≡ recursion_at bank name formals body m
    recursion_later m there =
        later (λ (h : History) (n : Name) (xs : List Name) (b u : Term). Adds (Defines (record { function = n; formals = xs; body = b; measure = Some u })) ≡ recursion_at bank name formals body m) m there refl

    block_by : (o : Option Admitting) (text : List ℕ) → MatchOption o (NoneIsStructural history begun name formals body tried) (IsAdmitting history begun work name formals body tried)
        → AreBlocks (events_at work.bank history) (kept_claims work.bank name formals body (option_map kept_of o)) text → AreBlocks (events_at bank history) (kept_claims bank name formals body (option_map kept_of o)) text
    block_by None text it written = written
    block_by (Some a) text it written =
        subst (λ (h : History). IsBlock h (recursion_at bank name formals body a.measure) text) events_later
        (subst (λ (c : Claim). IsBlock (events_at work.bank history) c text) (recursion_later a.measure (here a it).measure_stands) written)

    -- the block of the definition
    pub block_is : (o : Option Admitting) (kept : Option Kept) (text : List ℕ) → kept ≡ option_map kept_of o → MatchOption o (NoneIsStructural history begun name formals body tried) (IsAdmitting history begun work name formals body tried)
        → AreBlocks (events_at work.bank history) (kept_claims work.bank name formals body (option_map kept_of o)) text → AreBlocks (events_at bank history) (kept_claims bank name formals body kept) text
    block_is o kept text e it written = subst (λ (k : Option Kept). AreBlocks (events_at bank history) (kept_claims bank name formals body k) text) (sym e) (block_by o text it written)

    -- what is told of each measure that was tried, where none is kept
    trials_by : (ls : List Left) → WorkHolds history work → AreLeft work (text_at begun name) (texts_at begun formals) (counted_calls (text_at begun name) (term_at begun body)) (terms_at begun tried) ls
        → AreTrials (events_at bank history) (plain_definition (text_at bank name) (texts_at bank formals) (term_at bank body)) (terms_at bank tried) (trials_at work.bank ls)
    trials_by ls holds left =
        trials_told (events_at bank history) (plain_definition (text_at bank name) (texts_at bank formals) (term_at bank body)) work (subst (λ (h : History). LinesHold h (clause_at work.bank work.log)) events_later holds)
        (body_calls symbols_at (inr (not_symbol (events_at bank history))) (text_at bank name) (term_at bank body) is.can.spelled.over (small_depth (term_at bank body) is.can.spelled.small))
        (terms_at bank tried) ls is.terms
        (subst (λ (b : Content). AreLeft work (text_at b name) (texts_at b formals) (counted_calls (text_at b name) (term_at b body)) (terms_at b tried) ls) same left)

    pub trials_if : (o : Option Admitting) (kept : Option Kept) (ls : List Left) (trials : List Trial) → kept ≡ option_map kept_of o
        → IfNone o (AreLeft work (text_at begun name) (texts_at begun formals) (counted_calls (text_at begun name) (term_at begun body)) (terms_at begun tried) ls)
        → IfNone o (trials ≡ trials_at work.bank ls) → WorkHolds history work
        → IfNone kept (AreTrials (events_at bank history) (plain_definition (text_at bank name) (texts_at bank formals) (term_at bank body)) (terms_at bank tried) trials)
    trials_if (Some a) kept ls trials e left are holds = subst (λ (k : Option Kept). IfNone k (AreTrials (events_at bank history) (plain_definition (text_at bank name) (texts_at bank formals) (term_at bank body)) (terms_at bank tried) trials)) (sym e) tt
    trials_if None kept ls trials e left are holds =
        subst (λ (k : Option Kept). IfNone k (AreTrials (events_at bank history) (plain_definition (text_at bank name) (texts_at bank formals) (term_at bank body)) (terms_at bank tried) trials)) (sym e)
        (subst (λ (rs : List Trial). AreTrials (events_at bank history) (plain_definition (text_at bank name) (texts_at bank formals) (term_at bank body)) (terms_at bank tried) rs) (sym are) (trials_by ls holds left))

    pub left_if : (o : Option Admitting) (ls : List Left) → IfNone o (AreLeft work (text_at begun name) (texts_at begun formals) (counted_calls (text_at begun name) (term_at begun body)) (terms_at begun tried) ls) → IfNone o (All (LeftStands work.bank) ls)
    left_if (Some a) ls left = tt
    left_if None ls left = left_stand work (text_at begun name) (texts_at begun formals) (counted_calls (text_at begun name) (term_at begun body)) (terms_at begun tried) ls left
