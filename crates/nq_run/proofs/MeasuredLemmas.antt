-- A recursive definition, from the session before its form to the one after it.
use Rattle.std.proofs.Common.{◌≡◌, inl, inr, Bool, true, List, [], ◌∷◌, ◌++◌, ℕ, length, map, refl, ap, sym, subst, ◌∙◌}
use Rattle.std.specs.Prelude.{◌≤◌, All, IfOk, MatchOption, Option, None, Some, Result, Ok, Err, slice_get}
use Rattle.nq_logic.specs.Terms.{Each, IsAmong, Name, Term}
use Rattle.nq_logic.specs.Ground.{symbols_of}
use Rattle.nq_logic.specs.Sizes.{depth_of}
use Rattle.nq_logic.specs.Histories.{Defines, History}
use Rattle.nq_logic.specs.Admissible.{IsAdmissible, mentions}
use Rattle.nq_form.specs.Form.{Form}
use Rattle.nq_bank.specs.declared.node.Mark.{Mark}
use Rattle.nq_bank.specs.declared.node.Sym.{Sym}
use Rattle.nq_bank.specs.declared.node.TermId.{TermId}
use Rattle.nq_bank.specs.Content.{Content, Grows, Stands, term_at, terms_at, text_at}
use Rattle.nq_bank.specs.Marks.{released}
use Rattle.nq_bank.specs.Shells.{texts_at}
use Rattle.nq_bank.proofs.Growth.{Grows-trans, IsNamed-grown, Stands-grown, term_at-grown, text_at-grown}
use Rattle.nq_history.specs.Events.{events_at}
use Rattle.std.specs.declared.alloc.AllocError.{AllocError}
use Rattle.nq_history.specs.declared.entry.Entry.{Entry}
use Rattle.nq_history.proofs.ShellLemmas.{names-grown, texts-grown}
use Rattle.nq_language.specs.Printing.{printed}
use Rattle.nq_arith.specs.Structural.{IsStructural}
use Rattle.nq_event.specs.declared.event.Measure.{Measure}
use Rattle.nq_event.specs.EventsAt.{DefnStands, measure_at}
use Rattle.nq_events.specs.Events as model
use Rattle.nq_events.specs.AllowedEvents.{plain_definition}
use Rattle.nq_events.specs.Effects.{defined}
use Rattle.nq_events.specs.Measures.{size_measure, tried_measures}
use Rattle.nq_kernel.specs.Ready.{IsReadyEvent, body_depth}
use Rattle.nq_block.specs.Blocks.{IsBlock}
use Rattle.nq_block.specs.Closings.{FunctionNames, IsFree}
use Rattle.nq_log.specs.States.{Adds}
use Rattle.nq_comment.specs.Reports.{Answer, AcceptedBy, Unmeasured, Trial}
use Rattle.nq_comment.specs.ReportViews.{answer_of}
use Rattle.nq_measures.specs.Admitting.{NoneIsStructural}
use Rattle.nq_spelling.specs.SpelledEvents.{IsSpelledMeasure, IsSpelledRecursion}
use Rattle.nq_answers.specs.Claims.{claims_of}
use Rattle.nq_answers.specs.Measuring.{AreTrials}
use Rattle.nq_answers.specs.Steps.{AnswersUnless, IsDefined, after_event, is_taken, measured_definition, untaken}
use Rattle.nq_run.specs.declared.recursions.Kept.{Kept}
use Rattle.nq_run.specs.declared.session.Session.{Session}
use Rattle.nq_run.specs.declared.session.Taken.{Taken}
use Rattle.nq_run.specs.Banks.{LeavesBy}
use Rattle.nq_run.specs.HistoryView.{history_of, SessionStands}
use Rattle.nq_run.specs.Outcome.{AreBlocks}
use Rattle.nq_run.specs.Recursions.{CanTry, IsKept, IsTriable, IsTriedTerm, kept_claims}
use Rattle.nq_run.specs.Sessions.{IsMarkBefore, IsUntaken, TakesEvent}
use Rattle.nq_run.proofs.DefinitionLemmas.{can_try, definition_ready, tries_within}
use Rattle.nq_run.proofs.HintLemmas.{each_all}
use Rattle.nq_run.proofs.ReadyLemmas.{small_depth}
use Rattle.nq_run.proofs.RecursionLemmas.{sizes_tried, tried_terms}
use Rattle.nq_run.proofs.SessionLemmas.{same_history, stands_grown}
use Rattle.nq_run.proofs.TakingLemmas.{untaken_as}

-- the hints are not too deep
pub hints_shallow : (bank : Content) (h : History) (name : Name) (formals : List Name) (body : Term) (measures : List Measure) → IsSpelledRecursion h name formals body (map (measure_at bank) measures)
    → All (λ m. depth_of (term_at bank m.term) ≤ body_depth) measures
hints_shallow bank h name formals body measures spelled =
    each_all (measure_at bank) (IsSpelledMeasure ((name, length formals) ∷ symbols_of h)) (λ m. depth_of (term_at bank m.term) ≤ body_depth) (λ m is. small_depth (term_at bank m.term) is.small) measures spelled.hinted

module _ (old : Session) (grown : Content) (name : Sym) (formals : List Sym) (body : TermId) (measures : List Measure) (tried : List TermId) (stands : SessionStands old) (grows : Grows old.bank grown)
    (there : DefnStands old.bank name formals body measures)
    (spelled : IsSpelledRecursion (history_of old) (text_at old.bank name) (texts_at old.bank formals) (term_at old.bank body) (map (measure_at old.bank) measures))
    (none : untaken (history_of old) (model.Defn (text_at old.bank name) (texts_at old.bank formals) (term_at old.bank body) (map (measure_at old.bank) measures)) ≡ None)
    (again : mentions (text_at old.bank name) (term_at old.bank body) ≡ true) where
  abbrev h : History
  h = history_of old

  abbrev f : Name
  f = text_at old.bank name

  abbrev xs : List Name
  xs = texts_at old.bank formals

  abbrev t : Term
  t = term_at old.bank body

  abbrev ms : List model.Measure
  ms = map (measure_at old.bank) measures

  can : CanTry h f xs t
  can = can_try h f xs t ms none again spelled.definition

  -- what is told of the bank before is so of the one that has grown, and the other way round
  moved : (P : History → Name → List Name → Term → Type 0) → P h f xs t → P (events_at grown old.history) (text_at grown name) (texts_at grown formals) (term_at grown body)
  moved P is =
      subst (λ (k : History). P k (text_at grown name) (texts_at grown formals) (term_at grown body)) (sym (same_history old grown stands grows))
      (subst (λ (n : Name). P h n (texts_at grown formals) (term_at grown body)) (sym (text_at-grown old.bank grown name grows there.declared.name_is))
      (subst (λ (ys : List Name). P h f ys (term_at grown body)) (sym (texts-grown old.bank grown grows formals there.declared.formals_are))
      (subst (λ (u : Term). P h f xs u) (sym (term_at-grown old.bank grown body grows there.body_is)) is)))

  back : (P : History → Name → List Name → Term → Type 0) → P (events_at grown old.history) (text_at grown name) (texts_at grown formals) (term_at grown body) → P h f xs t
  back P is =
      subst (λ (k : History). P k f xs t) (same_history old grown stands grows)
      (subst (λ (n : Name). P (events_at grown old.history) n xs t) (text_at-grown old.bank grown name grows there.declared.name_is)
      (subst (λ (ys : List Name). P (events_at grown old.history) (text_at grown name) ys t) (texts-grown old.bank grown grows formals there.declared.formals_are)
      (subst (λ (u : Term). P (events_at grown old.history) (text_at grown name) (texts_at grown formals) u) (term_at-grown old.bank grown body grows there.body_is) is)))

  names_grown : FunctionNames grown name formals body
  names_grown = record {
    named = IsNamed-grown old.bank grown name grows there.declared.name_is;
    formals_named = names-grown old.bank grown grows formals there.declared.formals_are;
    stands = Stands-grown old.bank grown body grows there.body_is;
  }

  -- the measures that are tried
  pub triable : All (Stands grown) tried → terms_at grown tried ≡ tried_measures xs ms → IsTriable grown old.history name formals body tried
  triable stand told = record {
    function = names_grown;
    can = moved (λ (k : History) (n : Name) (ys : List Name) (u : Term). CanTry k n ys u) can;
    stand = stand;
    terms = moved (λ (k : History) (n : Name) (ys : List Name) (u : Term). Each (IsTriedTerm ((n, length ys) ∷ symbols_of k) ys) (terms_at grown tried))
        (subst (Each (IsTriedTerm ((f, length xs) ∷ symbols_of h) xs)) (sym told) (tried_terms h f xs can.variables ms spelled.hinted (tries_within h f xs t ms none)));
  }

  -- ---- the session with that bank

  module _ (bank : Content) (same : bank ≡ grown) where
    pub session_stands : SessionStands (record { bank = bank; history = old.history })
    session_stands = subst (λ (b : Content). SessionStands (record { bank = b; history = old.history })) (sym same) (stands_grown old grown stands grows)

    grew_on : (earlier : Content) → Grows earlier old.bank → Grows earlier bank
    grew_on earlier grew = Grows-trans earlier old.bank bank grew (subst (Grows old.bank) (sym same) grows)

    pub mark_kept : (mark : Mark) → IsMarkBefore old.bank old.history mark → IsMarkBefore bank old.history mark
    mark_kept mark is = record { earlier = is.earlier; mark_of = is.mark_of; grew = grew_on is.earlier is.grew; held = is.held }

    pub names_kept : FunctionNames bank name formals body
    names_kept = subst (λ (b : Content). FunctionNames b name formals body) (sym same) names_grown

    pub free_kept : IsFree (events_at bank old.history) (text_at bank name)
    free_kept = subst (λ (b : Content). IsFree (events_at b old.history) (text_at b name)) (sym same) (moved (λ (k : History) (n : Name) (ys : List Name) (u : Term). IsFree k n) can.free)

    pub measure_kept : (kept : Kept) → IsKept grown old.history name formals body tried kept → Stands bank kept.measure
    measure_kept kept is = subst (λ (b : Content). Stands b kept.measure) (sym same) is.stands

    admissible_here : (kept : Kept) → IsKept grown old.history name formals body tried kept → IsAdmissible h (measured_definition f xs t (term_at grown kept.measure))
    admissible_here kept is =
        back (λ (k : History) (n : Name) (ys : List Name) (u : Term). IsAdmissible k (measured_definition n ys u (term_at grown kept.measure))) is.admissible

    pub ready_kept : (kept : Kept) → IsKept grown old.history name formals body tried kept
        → IsReadyEvent (events_at bank old.history) (Defines (measured_definition (text_at bank name) (texts_at bank formals) (term_at bank body) (term_at bank kept.measure)))
    ready_kept kept is =
        subst (λ (b : Content). IsReadyEvent (events_at b old.history) (Defines (measured_definition (text_at b name) (texts_at b formals) (term_at b body) (term_at b kept.measure)))) (sym same)
        (moved (λ (k : History) (n : Name) (ys : List Name) (u : Term). IsReadyEvent k (Defines (measured_definition n ys u (term_at grown kept.measure))))
        (definition_ready h f xs t ms (Some (term_at grown kept.measure)) none spelled.definition (admissible_here kept is)))

    session_same : events_at bank old.history ≡ h
    session_same = ap (λ (b : Content). events_at b old.history) same ∙ same_history old grown stands grows

    -- nothing is kept
    not_structural : terms_at grown tried ≡ tried_measures xs ms → NoneIsStructural old.history grown name formals body tried → IsStructural h (plain_definition f xs t) → ⊥
    not_structural told is = back (λ (k : History) (n : Name) (ys : List Name) (u : Term). Each (λ x. IsAmong (size_measure x) (terms_at grown tried)) ys → IsStructural k (plain_definition n ys u) → ⊥) is
        (subst (λ (ts : List Term). Each (λ x. IsAmong (size_measure x) ts) xs) (sym told) (sizes_tried ms xs))

    pub left : (limit : ℕ) (mark : Mark) (form : Form) (logging : Bool) (trials : List Trial) (r : Taken) → IsMarkBefore old.bank old.history mark → terms_at grown tried ≡ tried_measures xs ms → NoneIsStructural old.history grown name formals body tried
        → AreTrials (events_at grown old.history) (plain_definition (text_at grown name) (texts_at grown formals) (term_at grown body)) (terms_at grown tried) trials
        → IsUntaken (record { bank = bank; history = old.history }) mark (Unmeasured trials) r → TakesEvent limit old mark form (model.Defn f xs t ms) logging r
    left limit mark form logging trials r before told is all kept =
        let answer : Answer = Unmeasured trials in
        let released_same : released bank mark ≡ released old.bank mark = before.mark_of.returns bank (grew_on before.earlier before.grew) ∙ sym (before.mark_of.returns old.bank before.grew) in
        let own : IsUntaken old mark answer r = record { bank = kept.bank ∙ released_same; entries = kept.entries; same = kept.same ∙ session_same; stands = kept.stands; answer_is = kept.answer_is; block_is = kept.block_is } in
        let here : AreTrials h (plain_definition f xs t) (tried_measures xs ms) trials = subst (λ (ts : List Term). AreTrials h (plain_definition f xs t) ts trials) told
        (back (λ (k : History) (n : Name) (ys : List Name) (u : Term). AreTrials k (plain_definition n ys u) (terms_at grown tried) trials) all) in
        untaken_as limit old mark form (model.Defn f xs t ms) logging answer r own refl
        (subst (λ (o : Option Answer). AnswersUnless limit o h form (model.Defn f xs t ms) answer) (sym none)
        (subst (λ (b : Bool). IsDefined b h f xs t ms answer) (sym again) (inr (record { plain = not_structural told is; trials = trials; told = here; answer_is = refl }))))

    -- a measure is kept
    pub taken : (limit : ℕ) (mark : Mark) (form : Form) (logging : Bool) (kept : Kept) (block : List ℕ) (r : Taken) → grown.names ≡ old.bank.names → terms_at grown tried ≡ tried_measures xs ms → IsKept grown old.history name formals body tried kept
        → (logging ≡ true → AreBlocks (events_at grown old.history) (kept_claims grown name formals body (Some kept)) block)
        → history_of r.session ≡ events_at bank old.history ++ Defines (measured_definition (text_at bank name) (texts_at bank formals) (term_at bank body) (term_at bank kept.measure)) ∷ []
        → SessionStands r.session → r.session.bank ≡ bank → answer_of r.answer ≡ AcceptedBy kept.place (printed (term_at bank kept.measure)) → r.block ≡ block → TakesEvent limit old mark form (model.Defn f xs t ms) logging r
    taken limit mark form logging kept block r names told is written after held bank_is answered block_is =
        let m : Term = term_at grown kept.measure in
        let event : model.Event = model.Defn f xs t ms in
        let says : answer_of r.answer ≡ AcceptedBy kept.place (printed m) = answered ∙ ap (λ (b : Content). AcceptedBy kept.place (printed (term_at b kept.measure))) same in
        let place : slice_get (tried_measures xs ms) kept.place ≡ Some m = ap (λ (ts : List Term). slice_get ts kept.place) (sym told) ∙ is.told in
        let later : history_of r.session ≡ h ++ Defines (measured_definition f xs t m) ∷ [] =
        after ∙ ap (λ (b : Content). events_at b old.history ++ Defines (measured_definition (text_at b name) (texts_at b formals) (term_at b body) (term_at b kept.measure)) ∷ []) same
        ∙ back (λ (k : History) (n : Name) (ys : List Name) (u : Term). events_at grown old.history ++ Defines (measured_definition (text_at grown name) (texts_at grown formals) (term_at grown body) m) ∷ [] ≡ k ++ Defines (measured_definition n ys u m) ∷ []) refl in
        record {
          answered = subst (AnswersUnless limit (untaken h event) h form event) (sym says)
              (subst (λ (o : Option Answer). AnswersUnless limit o h form event (AcceptedBy kept.place (printed m))) (sym none)
              (subst (λ (b : Bool). IsDefined b h f xs t ms (AcceptedBy kept.place (printed m))) (sym again)
              (inl (record { place = kept.place; measure = m; tried = place; admissible = admissible_here kept is; answer_is = refl }))));
          after_is = later ∙ ap (λ (o : Option Term). h ++ defined f xs t o ∷ []) (sym place) ∙ sym (ap (after_event h event) says);
          stands = held;
          bank = subst (λ (a : Answer). LeavesBy (is_taken a) event mark old r.session) (sym says)
              (subst (Grows old.bank) (sym (bank_is ∙ same)) grows, ap (λ (b : Content). b.names) (bank_is ∙ same) ∙ names);
          written = λ on.
              subst (λ (a : Answer). AreBlocks h (claims_of event a) r.block) (sym says)
              (subst (λ (o : Option Term). IsBlock h (Adds (defined f xs t o)) r.block) (sym place)
              (subst (IsBlock h (Adds (Defines (measured_definition f xs t m)))) (sym block_is)
              (back (λ (k : History) (n : Name) (ys : List Name) (u : Term). IsBlock k (Adds (Defines (measured_definition n ys u m))) block) (written on))));
        }

    -- the same of what is answered to it
    pub taken_on : (limit : ℕ) (mark : Mark) (form : Form) (logging : Bool) (kept : Kept) (block : List ℕ) (o : Result Taken AllocError) → grown.names ≡ old.bank.names → terms_at grown tried ≡ tried_measures xs ms → IsKept grown old.history name formals body tried kept
        → (logging ≡ true → AreBlocks (events_at grown old.history) (kept_claims grown name formals body (Some kept)) block)
        → IfOk o (λ r. history_of r.session ≡ events_at bank old.history ++ Defines (measured_definition (text_at bank name) (texts_at bank formals) (term_at bank body) (term_at bank kept.measure)) ∷ [])
        → IfOk o (λ r. SessionStands r.session) → IfOk o (λ r. r.session.bank ≡ bank) → IfOk o (λ r. answer_of r.answer ≡ AcceptedBy kept.place (printed (term_at bank kept.measure))) → IfOk o (λ r. r.block ≡ block)
        → IfOk o (TakesEvent limit old mark form (model.Defn f xs t ms) logging)
    taken_on limit mark form logging kept block (Err why) names told is written after held bank_is answered block_is = tt
    taken_on limit mark form logging kept block (Ok r) names told is written after held bank_is answered block_is =
        taken limit mark form logging kept block r names told is written after held bank_is answered block_is

-- what is kept of a measure that was found
pub kept_some : (bank : Content) (history : List Entry) (name : Sym) (formals : List Sym) (body : TermId) (tried : List TermId) (o : Option Kept) (kept : Kept) → o ≡ Some kept
    → MatchOption o (NoneIsStructural history bank name formals body tried) (IsKept bank history name formals body tried) → IsKept bank history name formals body tried kept
kept_some bank history name formals body tried o kept is of = subst (λ (k : Option Kept). MatchOption k (NoneIsStructural history bank name formals body tried) (IsKept bank history name formals body tried)) is of

pub kept_none : (bank : Content) (history : List Entry) (name : Sym) (formals : List Sym) (body : TermId) (tried : List TermId) (o : Option Kept) → o ≡ None
    → MatchOption o (NoneIsStructural history bank name formals body tried) (IsKept bank history name formals body tried) → NoneIsStructural history bank name formals body tried
kept_none bank history name formals body tried o is of = subst (λ (k : Option Kept). MatchOption k (NoneIsStructural history bank name formals body tried) (IsKept bank history name formals body tried)) is of
