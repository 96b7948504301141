-- What is left of measures, as the work grows.
use Rattle.std.proofs.Common.{◌≡◌, ◌<◌, ℕ, zero, suc, false, Option, Some, None, List, [], ◌∷◌, ◌++◌, ◌+◌, inl, inr, map, length, take, get_or, refl, sym, ap, ap₂, ◌∙◌, subst, arith}
use Rattle.std.specs.Prelude.{All, IfNone, IfOk, IfErr, Result, Ok, Err}
use Rattle.std.specs.declared.vec.Vec.{Vec}
use Rattle.std.specs.declared.alloc.Global.{Global}
use Rattle.std.proofs.lemmas.List.{take_more, map_push}
use Rattle.nq_logic.specs.Terms.{Name, Term}
use Rattle.nq_logic.specs.Histories.{History}
use Rattle.nq_logic.specs.Admissible.{mentions, Call}
use Rattle.nq_bank.specs.declared.node.Sym.{Sym}
use Rattle.nq_bank.specs.declared.node.TermId.{TermId}
use Rattle.nq_bank.specs.Content.{Content, Grows, Stands, IsIdOf, IsNamed, text_at, term_at, terms_at}
use Rattle.nq_bank.specs.Shells.{texts_at}
use Rattle.nq_bank.proofs.Growth.{Grows-trans, text_at-grown, term_at-grown, terms_at-grown, Stands-grown}
use Rattle.nq_bank.proofs.Standing.{id_grown, stand_grown}
use Rattle.nq_history.specs.declared.entry.Entry.{Entry}
use Rattle.nq_history.specs.Events.{events_at}
use Rattle.nq_kernel.specs.declared.work.Work.{Work}
use Rattle.nq_kernel.specs.Growing.{WorkStands, WorkGrows}
use Rattle.nq_lines.specs.Lines.{LineHasOnly}
use Rattle.nq_lines.proofs.LineLemmas.{only_grown}
use Rattle.nq_replay.proofs.NameLemmas.{texts_grown}
use Rattle.nq_calls.specs.declared.calls.Site.{Site}
use Rattle.nq_calls.specs.Calls.{SiteStands, site_at, sites_at}
use Rattle.nq_calls.specs.Falls.{obligation_at}
use Rattle.nq_measures.specs.declared.judging.Judged.{Judged}
use Rattle.nq_measures.specs.declared.left.Left.{Left}
use Rattle.nq_measures.specs.Judging.{IsJudged, IsFallJudged}
use Rattle.nq_measures.specs.Measures.{ordinal_clause}
use Rattle.nq_measures.specs.Trials.{AllFallBy, AreFallLines, AreLeft, FallUntil, FallsBy, IsFallLeft, IsFallLine, IsFirstLeft, IsLeft, IsOrdinalFallLeft, IsOwed, IsTrial, line_of}
use Rattle.nq_measures.specs.declared.falls.Owed.{Owed}
use Rattle.nq_measures.proofs.GrownLemmas.{site_same, sites_same, falls_later}
use Rattle.nq_measures.proofs.SearchLemmas.{judged_found, fall_found}

pub ok_told : {X Y : Type 0} (P : X → Type 0) (r : Result X Y) (x : X) → r ≡ Ok x → IfOk r P → P x
ok_told P (Err y) x e w = absurd cc
ok_told P (Ok z) x e w = let same : z ≡ x = cc in subst P same w

pub err_told : {X Y : Type 0} (P : Y → Type 0) (r : Result X Y) (y : Y) → r ≡ Err y → IfErr r P → P y
err_told P (Ok x) y e w = absurd cc
err_told P (Err z) y e w = let same : z ≡ y = cc in subst P same w

pub err_weaker : {X Y : Type 0} (r : Result X Y) (P Q : Y → Type 0) → ((y : Y) → P y → Q y) → IfErr r P → IfErr r Q
err_weaker (Ok x) P Q f w = tt
err_weaker (Err y) P Q f w = f y w

pub none_weaker : {X : Type 0} (o : Option X) (A B : Type 0) → (A → B) → IfNone o A → IfNone o B
none_weaker None A B f w = f w
none_weaker (Some x) A B f w = tt

-- ---- what is judged

pub judged_told : (h : History) (work : Work) (these : List Term) (j : Judged) (r : Result ℕ Left) → IsJudged h work these j → IfOk r (λ n. line_of j ≡ Some n) → IfOk r (λ n. LineHasOnly work n these)
judged_told h work these j (Err l) w e = tt
judged_told h work these j (Ok n) w e = judged_found h work these j (Some n) w (sym e)

pub fall_told : (history : List Entry) (mid new : Work) (f : Sym) (formals : List Sym) (m : TermId) (s : Site) (owed : Owed) (literals : List TermId) (j : Judged) (r : Result ℕ Left) → WorkStands history mid → WorkGrows history mid new → IsTrial history mid.bank f formals m → SiteStands mid.bank s →
    IsOwed mid.bank formals m s owed → literals ≡ owed.literals.items → IsFallJudged (events_at mid.bank history) new (mentions (text_at mid.bank f) (term_at mid.bank owed.smaller)) (terms_at mid.bank literals) j → IfOk r (λ n. line_of j ≡ Some n) → IfOk r (IsFallLine new f formals m s)
fall_told history mid new f formals m s owed literals j (Err l) stands grows trial stand w same judged e = tt
fall_told history mid new f formals m s owed literals j (Ok n) stands grows trial stand w same judged e = fall_found history mid new f formals m s owed literals j (Some n) stands grows trial stand w same judged (sym e)

-- what is told of a measure and of literals is left
pub left_told : (work : Work) (t : Term) (these : List Term) (r : Result ℕ Left) (m : TermId) (ids : Vec TermId Global) → IfErr r (λ l. l.measure ≡ m) → IfErr r (λ l. l.literals ≡ ids) → IsIdOf work.bank m t → terms_at work.bank ids.items ≡ these → All (Stands work.bank) ids.items → IfErr r (IsLeft work t these)
left_told work t these (Ok n) m ids same literals is are stand = tt
left_told work t these (Err l) m ids same literals is are stand =
    record {
      measure = subst (λ (k : TermId). IsIdOf work.bank k t) (sym same) is;
      literals = ap (λ (v : Vec TermId Global). terms_at work.bank v.items) literals ∙ are;
      stand = subst (λ (v : Vec TermId Global). All (Stands work.bank) v.items) (sym literals) stand;
    }

pub id_later : (old new : Content) (m : TermId) → Grows old new → Stands old m → IsIdOf new m (term_at old m)
id_later old new m up stands = record { stands = Stands-grown old new m up stands; denotes = term_at-grown old new m up stands }

pub ordinal_left : (history : List Entry) (old : Content) (mid new : Work) (m : TermId) (ids : Vec TermId Global) (r : Result ℕ Left) → Grows old mid.bank → WorkGrows history mid new → Stands old m → terms_at mid.bank ids.items ≡ ordinal_clause (term_at old m) → All (Stands mid.bank) ids.items →
    IfErr r (λ l. l.measure ≡ m) → IfErr r (λ l. l.literals ≡ ids) → IfErr r (IsLeft new (term_at old m) (ordinal_clause (term_at old m)))
ordinal_left history old mid new m ids r first second there are stand same literals =
    left_told new (term_at old m) (ordinal_clause (term_at old m)) r m ids same literals (id_later old new.bank m (Grows-trans old mid.bank new.bank first second.bank) there)
    (terms_at-grown mid.bank new.bank ids.items second.bank stand ∙ are) (stand_grown mid.bank new.bank ids.items second.bank stand)

pub fall_left : (history : List Entry) (old : Content) (mid new : Work) (f : Sym) (formals : List Sym) (m : TermId) (s : Site) (owed : Owed) (r : Result ℕ Left) → Grows old mid.bank → WorkGrows history mid new → IsTrial history old f formals m → SiteStands old s → IsOwed mid.bank formals m s owed →
    IfErr r (λ l. l.measure ≡ m) → IfErr r (λ l. l.literals ≡ owed.literals) → IfErr r (IsLeft new (term_at old m) (obligation_at (texts_at old formals) (term_at old m) (site_at old s)))
fall_left history old mid new f formals m s owed r first second trial stand w same literals =
    let before : obligation_at (texts_at mid.bank formals) (term_at mid.bank m) (site_at mid.bank s) ≡ obligation_at (texts_at old formals) (term_at old m) (site_at old s) =
    ap (λ (ys : List Name). obligation_at ys (term_at mid.bank m) (site_at mid.bank s)) (texts_grown old mid.bank formals first trial.formals_named) ∙
    ap₂ (λ (u : Term) (d : Call). obligation_at (texts_at old formals) u d) (term_at-grown old mid.bank m first trial.measure_stands) (site_same old mid.bank s first stand) in
    left_told new (term_at old m) (obligation_at (texts_at old formals) (term_at old m) (site_at old s)) r m owed.literals same literals (id_later old new.bank m (Grows-trans old mid.bank new.bank first second.bank) trial.measure_stands)
    (terms_at-grown mid.bank new.bank owed.literals.items second.bank w.stand ∙ w.literals ∙ before) (stand_grown mid.bank new.bank owed.literals.items second.bank w.stand)

-- ---- what is left stays so

pub left_grown : (history : List Entry) (old new : Work) (m : Term) (these : List Term) (l : Left) → WorkGrows history old new → IsLeft old m these l → IsLeft new m these l
left_grown history old new m these l grows w =
    record {
      measure = id_grown old.bank new.bank l.measure m grows.bank w.measure;
      literals = terms_at-grown old.bank new.bank l.literals.items grows.bank w.stand ∙ w.literals;
      stand = stand_grown old.bank new.bank l.literals.items grows.bank w.stand;
    }

pub until_grown : (history : List Entry) (old new : Work) (f : Name) (xs : List Name) (m : Term) (calls : List Call) (ns : List ℕ) (these : List Term) → WorkStands history old → WorkGrows history old new → FallUntil old f xs m calls ns these → FallUntil new f xs m calls ns these
until_grown history old new f xs m [] ns these stands grows w = absurd w
until_grown history old new f xs m (c ∷ calls) [] these stands grows w = w
until_grown history old new f xs m (c ∷ calls) (n ∷ ns) these stands grows w = (falls_later history old new f xs m c n stands grows w.0, until_grown history old new f xs m calls ns these stands grows w.1)

fall_left_grown : (history : List Entry) (old new : Work) (f : Name) (xs : List Name) (m : Term) (calls : List Call) (l : Left) → WorkStands history old → WorkGrows history old new → IsFallLeft old f xs m calls l → IsFallLeft new f xs m calls l
fall_left_grown history old new f xs m calls l stands grows w =
    record { lines = w.lines; these = w.these; falls = until_grown history old new f xs m calls w.lines w.these stands grows w.falls; is = left_grown history old new m w.these l grows w.is }

first_left_grown : (history : List Entry) (old new : Work) (f : Name) (xs : List Name) (m : Term) (calls : List Call) (l : Left) → WorkStands history old → WorkGrows history old new → IsFirstLeft old f xs m calls l → IsFirstLeft new f xs m calls l
first_left_grown history old new f xs m calls l stands grows (inl w) = inl (left_grown history old new m (ordinal_clause m) l grows w)
first_left_grown history old new f xs m calls l stands grows (inr w) =
    inr (record { older = w.older; ordinal = w.ordinal; is_ordinal = only_grown history old new w.ordinal _ stands grows w.is_ordinal; fall = fall_left_grown history old new f xs m calls l stands grows w.fall })

pub are_left_grown : (history : List Entry) (old new : Work) (f : Name) (xs : List Name) (calls : List Call) (ms : List Term) (ls : List Left) → WorkStands history old → WorkGrows history old new → AreLeft old f xs calls ms ls → AreLeft new f xs calls ms ls
are_left_grown history old new f xs calls [] [] stands grows w = tt
are_left_grown history old new f xs calls [] (l ∷ ls) stands grows w = absurd w
are_left_grown history old new f xs calls (m ∷ ms) [] stands grows w = absurd w
are_left_grown history old new f xs calls (m ∷ ms) (l ∷ ls) stands grows w = (first_left_grown history old new f xs m calls l stands grows w.0, are_left_grown history old new f xs calls ms ls stands grows w.1)

-- ---- what is told over a bank that has grown is so of the one before

module _ (history : List Entry) (old mid : Content) (f : Sym) (formals : List Sym) (m : TermId) (sites : List Site) (up : Grows old mid) (trial : IsTrial history old f formals m) (stand : All (SiteStands old) sites) where
  -- of a function, its formals, a measure and calls
  pub told_before : (P : Name → List Name → Term → List Call → Type 0) → P (text_at mid f) (texts_at mid formals) (term_at mid m) (sites_at mid sites) → P (text_at old f) (texts_at old formals) (term_at old m) (sites_at old sites)
  told_before P w =
      subst (λ (g : Name). P g (texts_at old formals) (term_at old m) (sites_at old sites)) (text_at-grown old mid f up trial.function)
      (subst (λ (xs : List Name). P (text_at mid f) xs (term_at old m) (sites_at old sites)) (texts_grown old mid formals up trial.formals_named)
      (subst (λ (t : Term). P (text_at mid f) (texts_at mid formals) t (sites_at old sites)) (term_at-grown old mid m up trial.measure_stands)
      (subst (λ (cs : List Call). P (text_at mid f) (texts_at mid formals) (term_at mid m) cs) (sites_same old mid sites up stand) w)))

-- ---- the call that is left

-- lines of the calls before one show the falls up to it
pub until_at : (work : Work) (bank : Content) (f : Name) (xs : List Name) (m : Term) (sites : List Site) (i : ℕ) (d : Site) (ns : List ℕ) → i < length sites → AllFallBy work f xs m (sites_at bank (take i sites)) ns → FallUntil work f xs m (sites_at bank sites) ns (obligation_at xs m (site_at bank (get_or sites i d)))
until_at work bank f xs m [] i d ns below w = absurd (omega (arith, below))
until_at work bank f xs m (s ∷ sites) zero d [] below w = refl
until_at work bank f xs m (s ∷ sites) zero d (n ∷ ns) below w = absurd w
until_at work bank f xs m (s ∷ sites) (suc i) d [] below w = absurd w
until_at work bank f xs m (s ∷ sites) (suc i) d (n ∷ ns) below w = (w.0, until_at work bank f xs m sites i d ns (omega (arith, below)) w.1)

-- ---- one measure more

left_pushed : (work : Work) (f : Name) (xs : List Name) (calls : List Call) (ms : List Term) (ls : List Left) (m : Term) (l : Left) → AreLeft work f xs calls ms ls → IsFirstLeft work f xs m calls l → AreLeft work f xs calls (ms ++ m ∷ []) (ls ++ l ∷ [])
left_pushed work f xs calls [] [] m l w k = (k, tt)
left_pushed work f xs calls [] (h ∷ ls) m l w k = absurd w
left_pushed work f xs calls (h ∷ ms) [] m l w k = absurd w
left_pushed work f xs calls (h ∷ ms) (g ∷ ls) m l w k = (w.0, left_pushed work f xs calls ms ls m l w.1 k)

pub left_next : (work : Work) (bank : Content) (f : Name) (xs : List Name) (calls : List Call) (tried : List TermId) (i : ℕ) (d : TermId) (ls more : List Left) (l : Left) → i < length tried → AreLeft work f xs calls (terms_at bank (take i tried)) ls → IsFirstLeft work f xs (term_at bank (get_or tried i d)) calls l → more ≡ ls ++ l ∷ [] → AreLeft work f xs calls (terms_at bank (take (i + 1) tried)) more
left_next work bank f xs calls tried i d ls more l below w k are =
    let terms : terms_at bank (take (i + 1) tried) ≡ terms_at bank (take i tried) ++ term_at bank (get_or tried i d) ∷ [] = ap (terms_at bank) (take_more tried i d below) ∙ map_push (term_at bank) (take i tried) (get_or tried i d) in
    subst (λ (ts : List Term). AreLeft work f xs calls ts more) (sym terms)
    (subst (λ (gs : List Left). AreLeft work f xs calls (terms_at bank (take i tried) ++ term_at bank (get_or tried i d) ∷ []) gs) (sym are)
    (left_pushed work f xs calls (terms_at bank (take i tried)) ls (term_at bank (get_or tried i d)) l w k))

-- ---- what a proof leaves

module _ (history : List Entry) (old mid new : Work) (f : Sym) (formals : List Sym) (m : TermId) (sites : List Site) (stands : WorkStands history old) (first : WorkGrows history old mid) (second : WorkGrows history mid new) (trial : IsTrial history old.bank f formals m) (stand : All (SiteStands old.bank) sites) where
  -- the call at which a proof of the falls stops
  pub falls_stop : (i : ℕ) (d : Site) (ns : List ℕ) (l : Left) → i < length sites → AreFallLines mid f formals m (take i sites) ns → IsLeft new (term_at mid.bank m) (obligation_at (texts_at mid.bank formals) (term_at mid.bank m) (site_at mid.bank (get_or sites i d))) l
      → IsFallLeft new (text_at old.bank f) (texts_at old.bank formals) (term_at old.bank m) (sites_at old.bank sites) l
  falls_stop i d ns l below w k =
      told_before history old.bank mid.bank f formals m sites first.bank trial stand (λ g xs t cs. IsFallLeft new g xs t cs l)
      (record {
        lines = ns;
        these = obligation_at (texts_at mid.bank formals) (term_at mid.bank m) (site_at mid.bank (get_or sites i d));
        falls =
            until_grown history mid new (text_at mid.bank f) (texts_at mid.bank formals) (term_at mid.bank m) (sites_at mid.bank sites) ns _ first.stands second
            (until_at mid mid.bank (text_at mid.bank f) (texts_at mid.bank formals) (term_at mid.bank m) sites i d ns below w);
        is = k;
      })

  -- the ordinal stands, and a fall is left
  pub proof_stops : (n : ℕ) (l : Left) → mentions (text_at old.bank f) (term_at old.bank m) ≡ false → LineHasOnly mid n (ordinal_clause (term_at old.bank m))
      → IsFallLeft new (text_at mid.bank f) (texts_at mid.bank formals) (term_at mid.bank m) (sites_at mid.bank sites) l → IsFirstLeft new (text_at old.bank f) (texts_at old.bank formals) (term_at old.bank m) (sites_at old.bank sites) l
  proof_stops n l older line w =
      inr (record {
        older = older;
        ordinal = n;
        is_ordinal = only_grown history mid new n _ first.stands second line;
        fall = told_before history old.bank mid.bank f formals m sites first.bank trial stand (λ g xs t cs. IsFallLeft new g xs t cs l) w;
      })

  -- what is left over a later bank
  pub left_before : (l : Left) → IsFirstLeft new (text_at mid.bank f) (texts_at mid.bank formals) (term_at mid.bank m) (sites_at mid.bank sites) l → IsFirstLeft new (text_at old.bank f) (texts_at old.bank formals) (term_at old.bank m) (sites_at old.bank sites) l
  left_before l w = told_before history old.bank mid.bank f formals m sites first.bank trial stand (λ g xs t cs. IsFirstLeft new g xs t cs l) w
