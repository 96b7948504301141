-- What is known of a definition and its calls, as the work grows.
use Rattle.std.proofs.Common.{◌≡◌, ℕ, false, List, [], ◌∷◌, ◌++◌, length, get_or, refl, sym, ap, ap₂, ◌∙◌, subst}
use Rattle.std.specs.Prelude.{All}
use Rattle.nq_logic.specs.Terms.{Name, Term, Each}
use Rattle.nq_logic.specs.Histories.{History}
use Rattle.nq_logic.specs.Ground.{symbols_of}
use Rattle.nq_logic.specs.Names.{is_in_use}
use Rattle.nq_logic.specs.Admissible.{mentions, Call}
use Rattle.nq_bank.specs.declared.node.Sym.{Sym}
use Rattle.nq_bank.specs.declared.node.TermId.{TermId}
use Rattle.nq_bank.specs.Content.{Content, Grows, Stands, IsNamed, text_at, term_at}
use Rattle.nq_bank.specs.Shells.{texts_at}
use Rattle.nq_bank.proofs.Growth.{Stands-grown, IsNamed-grown, text_at-grown, term_at-grown, terms_at-grown}
use Rattle.nq_bank.proofs.Standing.{stand_grown}
use Rattle.nq_bank.proofs.NodesLemmas.{All-head, All-tail}
use Rattle.nq_history.specs.declared.entry.Entry.{Entry}
use Rattle.nq_history.specs.Events.{events_at, HistoryStands}
use Rattle.nq_history.proofs.HistoryLemmas.{events_at-grown}
use Rattle.nq_kernel.specs.declared.work.Work.{Work}
use Rattle.nq_kernel.specs.Growing.{WorkStands, WorkGrows}
use Rattle.nq_kernel.specs.Over.{IsVariable, IsTermOf}
use Rattle.nq_lines.proofs.LineLemmas.{only_grown}
use Rattle.nq_replay.proofs.NameLemmas.{texts_grown}
use Rattle.nq_calls.specs.declared.calls.Guard.{Guard}
use Rattle.nq_calls.specs.declared.calls.Site.{Site}
use Rattle.nq_calls.specs.Calls.{GuardStands, SiteStands, guards_at, site_at, sites_at}
use Rattle.nq_calls.proofs.FallLemmas.{guard_at-grown, guards_stand-grown}
use Rattle.nq_measures.specs.Trials.{IsTrial, IsSiteOf, IsCounted, FallsBy, AllFallBy, IsFallLine, AreFallLines, IsSizeOf, AllDescend, Descends, size_of_variable}

named_grown : (old new : Content) (names : List Sym) → Grows old new → All (IsNamed old) names → All (IsNamed new) names
named_grown old new names h named i d below = IsNamed-grown old new (get_or names i d) h (named i d below)

pub guards_grown : (old new : Content) (guards : List Guard) → Grows old new → All (GuardStands old) guards → guards_at new guards ≡ guards_at old guards
guards_grown old new [] h stand = refl
guards_grown old new (g ∷ guards) h stand = ap₂ (λ (t : Term) (ts : List Term). t ∷ ts) (guard_at-grown old new g h (All-head (GuardStands old) g guards stand)) (guards_grown old new guards h (All-tail (GuardStands old) g guards stand))

pub site_same : (old new : Content) (s : Site) → Grows old new → SiteStands old s → site_at new s ≡ site_at old s
site_same old new s h stand =
    ap₂ (λ (ts us : List Term). record { tests = ts; arguments = us }) (guards_grown old new s.guards.items h stand.guards) (terms_at-grown old new s.arguments.items h stand.arguments)

pub sites_same : (old new : Content) (sites : List Site) → Grows old new → All (SiteStands old) sites → sites_at new sites ≡ sites_at old sites
sites_same old new [] h stand = refl
sites_same old new (s ∷ sites) h stand = ap₂ (λ (c : Call) (cs : List Call). c ∷ cs) (site_same old new s h (All-head (SiteStands old) s sites stand)) (sites_same old new sites h (All-tail (SiteStands old) s sites stand))

site_stands : (old new : Content) (s : Site) → Grows old new → SiteStands old s → SiteStands new s
site_stands old new s h stand = record { guards = guards_stand-grown old new s.guards.items h stand.guards; arguments = stand_grown old new s.arguments.items h stand.arguments }

module _ (history : List Entry) (old new : Content) (f : Sym) (formals : List Sym) (h : Grows old new) (stands : HistoryStands old history) (named : IsNamed old f) (formals_named : All (IsNamed old) formals) where
  name_same : text_at new f ≡ text_at old f
  name_same = text_at-grown old new f h named

  pub formals_same : texts_at new formals ≡ texts_at old formals
  formals_same = texts_grown old new formals h formals_named

  history_same : events_at new history ≡ events_at old history
  history_same = events_at-grown old new h history stands.entries

  -- what is told of a history, a function, its formals and a term stays so
  pub told_still : (P : History → Name → List Name → Type 0) → P (events_at old history) (text_at old f) (texts_at old formals) → P (events_at new history) (text_at new f) (texts_at new formals)
  told_still P p =
      subst (λ (e : History). P e (text_at new f) (texts_at new formals)) (sym history_same)
      (subst (λ (n : Name). P (events_at old history) n (texts_at new formals)) (sym name_same) (subst (λ (xs : List Name). P (events_at old history) (text_at old f) xs) (sym formals_same) p))

  pub trial_still : (m : TermId) → IsTrial history old f formals m → IsTrial history new f formals m
  trial_still m w =
      record {
        function = IsNamed-grown old new f h w.function;
        formals_named = named_grown old new formals h w.formals_named;
        measure_stands = Stands-grown old new m h w.measure_stands;
        unused = told_still (λ e n xs. is_in_use n e ≡ false) w.unused;
        over = told_still (λ e n xs. IsTermOf IsVariable ((n, length xs) ∷ symbols_of e) (term_at new m)) (subst (λ (t : Term). IsTermOf IsVariable ((text_at old f, length (texts_at old formals)) ∷ symbols_of (events_at old history)) t) (sym (term_at-grown old new m h w.measure_stands)) w.over);
      }

  pub site_still : (s : Site) → IsSiteOf history old f formals s → IsSiteOf history new f formals s
  site_still s w =
      record {
        stands = site_stands old new s h w.stands;
        counted = told_still (λ e n xs. IsCounted e n (length xs) (site_at new s)) (subst (λ (c : Call). IsCounted (events_at old history) (text_at old f) (length (texts_at old formals)) c) (sym (site_same old new s h w.stands)) w.counted);
      }

  pub sites_still : (sites : List Site) → All (IsSiteOf history old f formals) sites → All (IsSiteOf history new f formals) sites
  sites_still sites w i d below = site_still (get_or sites i d) (w i d below)

  pub trials_still : (ms : List TermId) → All (IsTrial history old f formals) ms → All (IsTrial history new f formals) ms
  trials_still ms w i d below = trial_still (get_or ms i d) (w i d below)

  -- what descends does so still
  pub descends_still : (x : Name) (s : Site) → SiteStands old s → Descends (events_at old history) (texts_at old formals) x (site_at old s) → Descends (events_at new history) (texts_at new formals) x (site_at new s)
  descends_still x s stand w = told_still (λ e n xs. Descends e xs x (site_at new s)) (subst (λ (c : Call). Descends (events_at old history) (texts_at old formals) x c) (sym (site_same old new s h stand)) w)

  pub all_descend_still : (x : Name) (sites : List Site) → All (SiteStands old) sites → AllDescend history old formals x sites → AllDescend history new formals x sites
  all_descend_still x sites stand w = told_still (λ e n xs. Each (Descends e xs x) (sites_at new sites)) (subst (λ (cs : List Call). Each (Descends (events_at old history) (texts_at old formals) x) cs) (sym (sites_same old new sites h stand)) w)

  pub older_still : (m : TermId) → Stands old m → mentions (text_at old f) (term_at old m) ≡ false → mentions (text_at new f) (term_at new m) ≡ false
  older_still m stand e = subst (λ (n : Name). mentions n (term_at new m) ≡ false) (sym name_same) (subst (λ (t : Term). mentions (text_at old f) t ≡ false) (sym (term_at-grown old new m h stand)) e)

pub all_stand : (history : List Entry) (bank : Content) (f : Sym) (formals : List Sym) (sites : List Site) → All (IsSiteOf history bank f formals) sites → All (SiteStands bank) sites
all_stand history bank f formals sites w i d below = (w i d below).stands

pub size_grown : (old new : Content) (m : TermId) (x : Sym) → Grows old new → Stands old m → IsSizeOf old m x → IsSizeOf new m x
size_grown old new m x h stand w =
    record {
      named = IsNamed-grown old new x h w.named;
      size = term_at-grown old new m h stand ∙ w.size ∙ ap size_of_variable (sym (text_at-grown old new x h w.named));
    }

-- lines stay
pub falls_later : (history : List Entry) (old new : Work) (f : Name) (xs : List Name) (m : Term) (c : Call) (n : ℕ) → WorkStands history old → WorkGrows history old new → FallsBy old f xs m c n → FallsBy new f xs m c n
falls_later history old new f xs m c n stands grows w = record { older = w.older; less = only_grown history old new n _ stands grows w.less }

pub all_fall_later : (history : List Entry) (old new : Work) (f : Name) (xs : List Name) (m : Term) (calls : List Call) (ns : List ℕ) → WorkStands history old → WorkGrows history old new → AllFallBy old f xs m calls ns → AllFallBy new f xs m calls ns
all_fall_later history old new f xs m [] [] stands grows w = tt
all_fall_later history old new f xs m [] (n ∷ ns) stands grows w = absurd w
all_fall_later history old new f xs m (c ∷ calls) [] stands grows w = absurd w
all_fall_later history old new f xs m (c ∷ calls) (n ∷ ns) stands grows w = (falls_later history old new f xs m c n stands grows w.0, all_fall_later history old new f xs m calls ns stands grows w.1)

module _ (history : List Entry) (old new : Work) (f : Sym) (formals : List Sym) (m : TermId) (stands : WorkStands history old) (grows : WorkGrows history old new) (trial : IsTrial history old.bank f formals m) where
  -- lines of the falls, where the work grows
  pub fall_lines_grown : (sites : List Site) (ns : List ℕ) → All (SiteStands old.bank) sites → AreFallLines old f formals m sites ns → AreFallLines new f formals m sites ns
  fall_lines_grown sites ns stand w =
      subst (λ (g : Name). AllFallBy new g (texts_at new.bank formals) (term_at new.bank m) (sites_at new.bank sites) ns) (sym (text_at-grown old.bank new.bank f grows.bank trial.function))
      (subst (λ (xs : List Name). AllFallBy new (text_at old.bank f) xs (term_at new.bank m) (sites_at new.bank sites) ns) (sym (texts_grown old.bank new.bank formals grows.bank trial.formals_named))
      (subst (λ (t : Term). AllFallBy new (text_at old.bank f) (texts_at old.bank formals) t (sites_at new.bank sites) ns) (sym (term_at-grown old.bank new.bank m grows.bank trial.measure_stands))
      (subst (λ (cs : List Call). AllFallBy new (text_at old.bank f) (texts_at old.bank formals) (term_at old.bank m) cs ns) (sym (sites_same old.bank new.bank sites grows.bank stand))
      (all_fall_later history old new (text_at old.bank f) (texts_at old.bank formals) (term_at old.bank m) (sites_at old.bank sites) ns stands grows w))))

  -- what is told of a new line over the old bank is so over the new one
  pub fall_line_now : (s : Site) (n : ℕ) → SiteStands old.bank s → FallsBy new (text_at old.bank f) (texts_at old.bank formals) (term_at old.bank m) (site_at old.bank s) n → IsFallLine new f formals m s n
  fall_line_now s n stand w =
      subst (λ (g : Name). FallsBy new g (texts_at new.bank formals) (term_at new.bank m) (site_at new.bank s) n) (sym (text_at-grown old.bank new.bank f grows.bank trial.function))
      (subst (λ (xs : List Name). FallsBy new (text_at old.bank f) xs (term_at new.bank m) (site_at new.bank s) n) (sym (texts_grown old.bank new.bank formals grows.bank trial.formals_named))
      (subst (λ (t : Term). FallsBy new (text_at old.bank f) (texts_at old.bank formals) t (site_at new.bank s) n) (sym (term_at-grown old.bank new.bank m grows.bank trial.measure_stands))
      (subst (λ (c : Call). FallsBy new (text_at old.bank f) (texts_at old.bank formals) (term_at old.bank m) c n) (sym (site_same old.bank new.bank s grows.bank stand)) w)))

-- one more fall
pub falls_pushed : (work : Work) (f : Name) (xs : List Name) (m : Term) (calls : List Call) (ns : List ℕ) (c : Call) (n : ℕ) → AllFallBy work f xs m calls ns → FallsBy work f xs m c n → AllFallBy work f xs m (calls ++ c ∷ []) (ns ++ n ∷ [])
falls_pushed work f xs m [] [] c n w k = (k, tt)
falls_pushed work f xs m [] (k ∷ ns) c n w h = absurd w
falls_pushed work f xs m (d ∷ calls) [] c n w h = absurd w
falls_pushed work f xs m (d ∷ calls) (k ∷ ns) c n w h = (w.0, falls_pushed work f xs m calls ns c n w.1 h)
