-- What the lines of a measure say of the calls within the body.
use Rattle.std.proofs.Common.{◌≡◌, ◌<◌, ◌≤◌, ℕ, zero, suc, Bool, true, false, ◌||◌, Option, Some, None, List, [], ◌∷◌, ◌+◌, map, length, take, get_or, inl, inr, refl, sym, ap, ap₂, ◌∙◌, subst}
use Rattle.std.specs.Prelude.{All, MatchOption, slice_get}
use Rattle.nq_logic.specs.Terms.{Name, Term, IsAmong, Each}
use Rattle.nq_logic.specs.Histories.{History}
use Rattle.nq_logic.specs.Ground.{symbols_of}
use Rattle.nq_logic.specs.Admissible.{mentions, Call, calls_of, obligation}
use Rattle.nq_bank.specs.declared.node.Sym.{Sym}
use Rattle.nq_bank.specs.declared.node.TermId.{TermId}
use Rattle.nq_bank.specs.Content.{Content, term_at, terms_at}
use Rattle.nq_kernel.specs.declared.work.Work.{Work}
use Rattle.nq_kernel.specs.Meaning.{clause_at}
use Rattle.nq_lines.specs.Lines.{LineHasOnly}
use Rattle.nq_lines.proofs.OnlyLemmas.{only_true}
use Rattle.nq_calls.specs.Calls.{beneath, counted_calls}
use Rattle.std.proofs.lemmas.List.{take_more, take_all}
use Rattle.nq_logic.specs.Sizes.{depth_of}
use Rattle.nq_logic.specs.Names.{is_in_use}
use Rattle.nq_logic.proofs.Lists.{each_at}
use Rattle.nq_bank.specs.Content.{Grows, text_at}
use Rattle.nq_bank.specs.Shells.{texts_at}
use Rattle.nq_bank.proofs.Growth.{Grows-trans, Stands-grown, IsNamed-grown, text_at-grown, term_at-grown, terms_at-grown}
use Rattle.nq_bank.proofs.Standing.{All-push}
use Rattle.nq_bank.proofs.NodesLemmas.{All-head, All-tail}
use Rattle.nq_history.specs.declared.entry.Entry.{Entry}
use Rattle.nq_history.specs.Events.{events_at, HistoryStands}
use Rattle.nq_kernel.specs.Growing.{WorkGrows}
use Rattle.nq_kernel.specs.Over.{IsVariable, IsTermOf}
use Rattle.nq_kernel.specs.Ready.{IsReady, body_depth}
use Rattle.nq_replay.proofs.NameLemmas.{texts_grown}
use Rattle.nq_calls.specs.declared.calls.Site.{Site}
use Rattle.nq_calls.specs.Calls.{SiteStands, site_at, sites_at}
use Rattle.nq_measures.specs.declared.finding.Admitting.{Admitting}
use Rattle.nq_measures.specs.declared.left.Left.{Left}
use Rattle.nq_measures.specs.Measures.{ordinal_clause}
use Rattle.nq_measures.specs.Admitting.{AreFalls, IsAdmitting, IsFoundAmong, IsNewFunction, NoneIsStructural}
use Rattle.nq_measures.specs.Trials.{AllFallBy, AllDescend, AreLeft, AreLeftAt, Descends, IsCounted, IsNotStructural, IsSiteOf, IsTrial, size_of_variable}
use Rattle.nq_measures.proofs.CalledLemmas.{calls_counted}
use Rattle.nq_measures.proofs.StructuralLemmas.{structural_descends}
use Rattle.nq_measures.proofs.GrownLemmas.{all_descend_still, all_stand, sites_same, told_still}
use Rattle.nq_measures.proofs.ReadyLemmas.{shells_accepted}
use Rattle.nq_measures.proofs.SearchLemmas.{each_get, older_over}

test_either : (a b : Bool) → a ≡ true → a || b ≡ true
test_either true b e = refl
test_either false b e = absurd cc

pub falls_told : (work : Work) (f : Name) (xs : List Name) (m : Term) (calls : List Call) (ns : List ℕ) → AllFallBy work f xs m (beneath f [] calls) ns → AreFalls (clause_at work.bank work.log) f xs m calls ns
falls_told work f xs m [] [] w = tt
falls_told work f xs m [] (n ∷ ns) w = absurd w
falls_told work f xs m (c ∷ calls) [] w = absurd w
falls_told work f xs m (c ∷ calls) (n ∷ ns) w =
    (record { older = w.0.older; less = only_true (clause_at work.bank work.log n) (obligation f xs m c.tests c.arguments) w.0.less }, falls_told work f xs m calls ns w.1)

all_got : {X : Type 0} (P : X → Type 0) (xs : List X) (i : ℕ) (x : X) → All P xs → slice_get xs i ≡ Some x → P x
all_got P [] i x h e = absurd cc
all_got P (y ∷ xs) zero x h e = subst P (same y x e) (All-head P y xs h)
  where
    same : {X : Type 0} (a b : X) → Some a ≡ Some b → a ≡ b
    same a b e = cc
all_got P (y ∷ xs) (suc i) x h e = all_got P xs i x (All-tail P y xs h) e

map_got : {X Y : Type 0} (f : X → Y) (xs : List X) (i : ℕ) (x : X) → slice_get xs i ≡ Some x → slice_get (map f xs) i ≡ Some (f x)
map_got f [] i x e = absurd cc
map_got f (y ∷ xs) zero x e = ap (λ z. Some (f z)) (same y x e)
  where
    same : {X : Type 0} (a b : X) → Some a ≡ Some b → a ≡ b
    same a b e = cc
map_got f (y ∷ xs) (suc i) x e = map_got f xs i x e

pub record Told (bank : Content) (P : TermId → Type 0) (t : Term) : Type 0 where
  pub id : TermId
  pub holds : P id
  pub denotes : term_at bank id ≡ t

among_told : (bank : Content) (P : TermId → Type 0) (ids : List TermId) (t : Term) → All P ids → IsAmong t (terms_at bank ids) → Told bank P t
among_told bank P [] t h m = absurd m
among_told bank P (a ∷ ids) t h (inl e) = record { id = a; holds = All-head P a ids h; denotes = sym e }
among_told bank P (a ∷ ids) t h (inr m) = among_told bank P ids t (All-tail P a ids h) m

pub none_next : {X : Type 0} (P : X → Type 0) (xs : List X) (i : ℕ) (d : X) → i < length xs → All P (take i xs) → P (get_or xs i d) → All P (take (i + 1) xs)
none_next P xs i d below h p = subst (λ l. All P l) (sym (take_more xs i d below)) (All-push P (take i xs) (get_or xs i d) h p)

pub none_left : {X : Type 0} (P : X → Type 0) (xs : List X) (i : ℕ) → length xs ≤ i → All P (take i xs) → All P xs
none_left P xs i past h = subst (λ l. All P l) (take_all i xs past) h

-- what is not structural as the work stands was not before
pub structural_before : (history : List Entry) (old mid : Content) (f : Sym) (formals : List Sym) (m : TermId) (sites : List Site) → Grows old mid → HistoryStands old history → IsTrial history old f formals m → All (IsSiteOf history old f formals) sites → IsNotStructural history mid formals m sites → IsNotStructural history old formals m sites
structural_before history old mid f formals m sites up stands trial here none =
    λ x e all.
    none x (term_at-grown old mid m up trial.measure_stands ∙ e) (all_descend_still history old mid f formals up stands trial.function trial.formals_named x sites (all_stand history old f formals sites here) all)

module _ (history : List Entry) (old mid : Content) (f : Sym) (formals : List Sym) (body : TermId) (grows : Grows old mid) (stands : HistoryStands old history) (function : IsNewFunction history old f formals body) where
  pub function_still : IsNewFunction history mid f formals body
  function_still =
      let body_same : term_at mid body ≡ term_at old body = term_at-grown old mid body grows function.body_stands in
      record {
        function = IsNamed-grown old mid f grows function.function;
        formals_named = λ i d below. IsNamed-grown old mid (get_or formals i d) grows (function.formals_named i d below);
        body_stands = Stands-grown old mid body grows function.body_stands;
        unused = told_still history old mid f formals grows stands function.function function.formals_named (λ e n xs. is_in_use n e ≡ false) function.unused;
        over = told_still history old mid f formals grows stands function.function function.formals_named (λ e n xs. IsTermOf IsVariable ((n, length xs) ∷ symbols_of e) (term_at mid body)) (subst (λ (t : Term). IsTermOf IsVariable ((text_at old f, length (texts_at old formals)) ∷ symbols_of (events_at old history)) t) (sym body_same) function.over);
        shallow = subst (λ (t : Term). depth_of t ≤ body_depth) (sym body_same) function.shallow;
      }

-- the calls within the body
pub sites_are : (history : List Entry) (bank : Content) (f : Sym) (formals : List Sym) (body : TermId) (sites : List Site) → IsNewFunction history bank f formals body → All (SiteStands bank) sites → sites_at bank sites ≡ counted_calls (text_at bank f) (term_at bank body) → All (IsSiteOf history bank f formals) sites
sites_are history bank f formals body sites function stand are =
    let h : History = events_at bank history in
    let n : ℕ = length (texts_at bank formals) in
    let all : Each (IsCounted h (text_at bank f) n) (sites_at bank sites) = subst (λ (cs : List Call). Each (IsCounted h (text_at bank f) n) cs) (sym are) (calls_counted h (text_at bank f) n (term_at bank body) function.over function.shallow) in
    λ i d below. record { stands = stand i d below; counted = each_get (IsCounted h (text_at bank f) n) (site_at bank) sites i d below all }

module _ (history : List Entry) (old : Content) (mid new : Work) (f : Sym) (formals : List Sym) (body : TermId) (tried : List TermId) (sites : List Site) (first : Grows old mid.bank) (second : WorkGrows history mid new) (stands : HistoryStands old history) (function : IsNewFunction history old f formals body) (trials : All (IsTrial history old f formals) tried)
    (stand : All (SiteStands mid.bank) sites) (are : sites_at mid.bank sites ≡ counted_calls (text_at mid.bank f) (term_at mid.bank body)) where
  calls_are : sites_at mid.bank sites ≡ counted_calls (text_at old f) (term_at old body)
  calls_are = are ∙ ap₂ (λ (g : Name) (t : Term). counted_calls g t) (text_at-grown old mid.bank f first function.function) (term_at-grown old mid.bank body first function.body_stands)

  up : Grows old new.bank
  up = Grows-trans old mid.bank new.bank first second.bank

  pub none_found : IsReady (events_at old history) → All (λ m. IsNotStructural history mid.bank formals m sites) tried → NoneIsStructural history old f formals body tried
  none_found ready none =
      λ sizes structural.
      let h : History = events_at old history in
      let x : Name = structural.formal in
      let all : Each (Descends h (texts_at old formals) x) (counted_calls (text_at old f) (term_at old body)) = structural_descends h (text_at old f) function.unused (shells_accepted h ready) (texts_at old formals) x (term_at old body) structural.descends in
      let now : AllDescend history mid.bank formals x sites =
      told_still history old mid.bank f formals first stands function.function function.formals_named (λ e n xs. Each (Descends e xs x) (sites_at mid.bank sites)) (subst (λ (cs : List Call). Each (Descends h (texts_at old formals) x) cs) (sym calls_are) all) in
      let there : IsAmong (size_of_variable x) (terms_at mid.bank tried) =
      subst (λ (ts : List Term). IsAmong (size_of_variable x) ts) (sym (terms_at-grown old mid.bank tried first (λ i d below. (trials i d below).measure_stands))) (each_at (λ y. IsAmong (size_of_variable y) (terms_at old tried)) x (texts_at old formals) sizes structural.is_formal) in
      let told = among_told mid.bank (λ m. IsNotStructural history mid.bank formals m sites) tried (size_of_variable x) none there in
      told.holds x told.denotes now

  pub measure_found : (a : Admitting) → IsFoundAmong new f formals sites tried a → IsAdmitting history old new f formals body tried a
  measure_found a w =
      let trial : IsTrial history old f formals a.measure = all_got (IsTrial history old f formals) tried a.place a.measure trials w.told in
      let name : text_at new.bank f ≡ text_at old f = text_at-grown old new.bank f up function.function in
      let xs : texts_at new.bank formals ≡ texts_at old formals = texts_grown old new.bank formals up function.formals_named in
      let m : term_at new.bank a.measure ≡ term_at old a.measure = term_at-grown old new.bank a.measure up trial.measure_stands in
      let calls : sites_at new.bank sites ≡ counted_calls (text_at old f) (term_at old body) = sites_same mid.bank new.bank sites second.bank stand ∙ calls_are in
      let older : mentions (text_at old f) (term_at old a.measure) ≡ false = subst (λ (g : Name). mentions g (term_at old a.measure) ≡ false) name (subst (λ (t : Term). mentions (text_at new.bank f) t ≡ false) m w.evidence.older) in
      record {
        told = map_got (term_at old) tried a.place a.measure w.told;
        measure_stands = trial.measure_stands;
        measure_over = older_over (events_at old history) (text_at old f) (length (texts_at old formals)) (term_at old a.measure) older trial.over;
        is_ordinal = only_true (clause_at new.bank new.log a.ordinal) (ordinal_clause (term_at old a.measure)) (subst (λ (t : Term). LineHasOnly new a.ordinal (ordinal_clause t)) m w.evidence.ordinal);
        each_falls =
            falls_told new (text_at old f) (texts_at old formals) (term_at old a.measure) (calls_of (text_at old f) (term_at old body)) a.falls.items
            (subst (λ (cs : List Call). AllFallBy new (text_at old f) (texts_at old formals) (term_at old a.measure) cs a.falls.items) calls
            (subst (λ (t : Term). AllFallBy new (text_at old f) (texts_at old formals) t (sites_at new.bank sites) a.falls.items) m
            (subst (λ (ys : List Name). AllFallBy new (text_at old f) ys (term_at new.bank a.measure) (sites_at new.bank sites) a.falls.items) xs
            (subst (λ (g : Name). AllFallBy new g (texts_at new.bank formals) (term_at new.bank a.measure) (sites_at new.bank sites) a.falls.items) name w.evidence.falls))));
      }

  pub option_found : IsReady (events_at old history) → (found : Option Admitting) → MatchOption found (All (λ m. IsNotStructural history mid.bank formals m sites) tried) (IsFoundAmong new f formals sites tried) → MatchOption found (NoneIsStructural history old f formals body tried) (IsAdmitting history old new f formals body tried)
  option_found ready None w = none_found ready w
  option_found ready (Some a) w = measure_found a w

-- what is left of each measure, told of the calls within the body
pub left_as_called : (history : List Entry) (old mid : Content) (new : Work) (f : Sym) (formals : List Sym) (body : TermId) (tried : List TermId) (sites : List Site) → Grows old mid → IsNewFunction history old f formals body → All (IsTrial history old f formals) tried → sites_at mid sites ≡ counted_calls (text_at mid f) (term_at mid body) →
    (ls : List Left) → AreLeftAt mid new f formals sites tried ls → AreLeft new (text_at old f) (texts_at old formals) (counted_calls (text_at old f) (term_at old body)) (terms_at old tried) ls
left_as_called history old mid new f formals body tried sites up function trials are ls w =
    let calls : sites_at mid sites ≡ counted_calls (text_at old f) (term_at old body) = are ∙ ap₂ (λ (g : Name) (t : Term). counted_calls g t) (text_at-grown old mid f up function.function) (term_at-grown old mid body up function.body_stands) in
    subst (λ (g : Name). AreLeft new g (texts_at old formals) (counted_calls (text_at old f) (term_at old body)) (terms_at old tried) ls) (text_at-grown old mid f up function.function)
    (subst (λ (xs : List Name). AreLeft new (text_at mid f) xs (counted_calls (text_at old f) (term_at old body)) (terms_at old tried) ls) (texts_grown old mid formals up function.formals_named)
    (subst (λ (cs : List Call). AreLeft new (text_at mid f) (texts_at mid formals) cs (terms_at old tried) ls) calls
    (subst (λ (ts : List Term). AreLeft new (text_at mid f) (texts_at mid formals) (sites_at mid sites) ts ls) (terms_at-grown old mid tried up (λ i d below. (trials i d below).measure_stands)) w)))
