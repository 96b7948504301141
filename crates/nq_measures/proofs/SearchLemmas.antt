-- What is owed to a measure, and what is found of it.
use Rattle.std.proofs.Common.{◌≡◌, ◌<◌, ◌+◌, ℕ, zero, suc, Bool, true, false, Option, Some, None, List, [], ◌∷◌, ◌++◌, map, length, take, get_or, refl, sym, ap, ◌∙◌, subst, arith}
use Rattle.std.specs.Prelude.{All, IfSome, slice_get}
use Rattle.std.proofs.lemmas.List.{take_more, map_push}
use Rattle.nq_logic.specs.Terms.{Name, Symbol, Term, Variable, Function, Applied, Takes, Each, substituted}
use Rattle.nq_logic.specs.Words.{call2, not_term}
use Rattle.nq_logic.specs.Numerals.{number_of}
use Rattle.nq_logic.specs.Sizes.{tree_depth}
use Rattle.nq_logic.specs.Histories.{History}
use Rattle.nq_logic.specs.Ground.{symbols_of}
use Rattle.nq_logic.specs.Admissible.{mentions, matched, Call}
use Rattle.nq_logic.proofs.Lists.{each_append}
use Rattle.nq_logic.proofs.Symbols.{not_symbol, ord_lessp_symbol, ordinalp_symbol}
use Rattle.nq_bank.specs.declared.node.Sym.{Sym}
use Rattle.nq_bank.specs.declared.node.TermId.{TermId}
use Rattle.nq_bank.specs.Content.{Content, text_at, term_at, terms_at}
use Rattle.nq_bank.specs.Shells.{texts_at}
use Rattle.nq_bank.proofs.NodesLemmas.{All-head, All-tail}
use Rattle.nq_proof.proofs.CalledTerms.{without_function}
use Rattle.nq_history.specs.declared.entry.Entry.{Entry}
use Rattle.nq_history.specs.Events.{events_at}
use Rattle.nq_kernel.specs.declared.work.Work.{Work}
use Rattle.nq_kernel.specs.Growing.{WorkStands, WorkGrows}
use Rattle.nq_kernel.specs.Over.{IsVariable, IsTermOf, VariablesAre}
use Rattle.nq_lines.specs.Lines.{LineHasOnly}
use Rattle.nq_calls.specs.declared.calls.Site.{Site}
use Rattle.nq_calls.specs.Calls.{SiteStands, site_at, sites_at}
use Rattle.nq_calls.specs.Falls.{smaller_at, obligation_at}
use Rattle.nq_measures.specs.declared.judging.Judged.{Judged}
use Rattle.nq_measures.specs.declared.judging.Judged.TheVariants.{Shown, Open}
use Rattle.nq_measures.specs.declared.falls.Owed.{Owed}
use Rattle.nq_measures.specs.Judging.{AreIn, IsJudged, IsFallJudged}
use Rattle.nq_measures.specs.Measures.{ordinal_clause}
use Rattle.nq_measures.specs.Trials.{IsShallowTerm, IsCounted, IsTrial, IsSiteOf, IsOwed, IsFallLine, AreFallLines, AllFallBy, line_of}
use Rattle.nq_measures.proofs.CalledLemmas.{value_shallow}
use Rattle.nq_measures.proofs.GrownLemmas.{fall_line_now, fall_lines_grown, falls_pushed}

pub some_told : {X : Type 0} (P : X → Type 0) (o : Option X) (x : X) → o ≡ Some x → IfSome o P → P x
some_told P None x e w = absurd cc
some_told P (Some y) x e w = subst P (same y x e) w
  where
    same : {X : Type 0} (a b : X) → Some a ≡ Some b → a ≡ b
    same a b e = cc

pub variable_shallow : (symbols : List Symbol) (x : Name) → IsVariable x → IsShallowTerm symbols (Variable x)
unfolding number_of tree_depth
variable_shallow symbols x v = record { of = record { over = tt; variables = v }; shallow = omega arith }

-- a term at the arguments of a call
pub instance_of : (symbols : List Symbol) (xs : List Name) (ts : List Term) → Each (IsShallowTerm symbols) ts → (t : Term) (k : ℕ) → Takes symbols t k → VariablesAre IsVariable t → Takes symbols (substituted (matched xs ts) t) k × VariablesAre IsVariable (substituted (matched xs ts) t)
instance_of symbols xs ts w (Variable x) zero o v = let here = value_shallow symbols xs ts x (variable_shallow symbols x v) w in (here.of.over, here.of.variables)
instance_of symbols xs ts w (Variable x) (suc k) o v = absurd o
instance_of symbols xs ts w (Function f) k o v = (o, tt)
instance_of symbols xs ts w (Applied t u) k o v =
    let left = instance_of symbols xs ts w t (suc k) o.0 v.0 in
    let right = instance_of symbols xs ts w u zero o.1 v.1 in
    ((left.0, right.0), (left.1, right.1))

denied_in : (h : History) (tests : List Term) → Each (IsShallowTerm (symbols_of h)) tests → AreIn h (map not_term tests)
denied_in h [] w = tt
denied_in h (t ∷ tests) w = (record { over = (not_symbol h, w.0.of.over); variables = (tt, w.0.of.variables) }, denied_in h tests w.1)

pub older_over : (h : History) (f : Name) (n : ℕ) (t : Term) → mentions f t ≡ false → IsTermOf IsVariable ((f, n) ∷ symbols_of h) t → IsTermOf IsVariable (symbols_of h) t
older_over h f n t e w = record { over = without_function f n (symbols_of h) t zero e w.over; variables = w.variables }

-- the obligation of a call is over the history's functions
pub obligation_in : (h : History) (f : Name) (n : ℕ) (xs : List Name) (m : Term) (c : Call) → IsTermOf IsVariable ((f, n) ∷ symbols_of h) m → mentions f m ≡ false → IsCounted h f n c → mentions f (smaller_at xs m c) ≡ false → AreIn h (obligation_at xs m c)
obligation_in h f n xs m c over older counted absent =
    let there = instance_of ((f, n) ∷ symbols_of h) xs c.arguments counted.arguments m zero over.over over.variables in
    let smaller : IsTermOf IsVariable (symbols_of h) (smaller_at xs m c) = older_over h f n (smaller_at xs m c) absent (record { over = there.0; variables = there.1 }) in
    let here : IsTermOf IsVariable (symbols_of h) m = older_over h f n m older over in
    each_append (IsTermOf IsVariable (symbols_of h)) (map not_term c.tests) (call2 "ORD-LESSP" (smaller_at xs m c) m ∷ []) (denied_in h c.tests counted.tests)
    (record { over = ((ord_lessp_symbol h, smaller.over), here.over); variables = ((tt, smaller.variables), here.variables) }, tt)

pub ordinal_in : (h : History) (m : Term) → IsTermOf IsVariable (symbols_of h) m → AreIn h (ordinal_clause m)
ordinal_in h m w = (record { over = (ordinalp_symbol h, w.over); variables = (tt, w.variables) }, tt)

pub owed_in : (history : List Entry) (bank : Content) (f : Sym) (formals : List Sym) (m : TermId) (s : Site) (owed : Owed) (literals : List TermId) → IsTrial history bank f formals m → mentions (text_at bank f) (term_at bank m) ≡ false → IsSiteOf history bank f formals s → IsOwed bank formals m s owed →
    literals ≡ owed.literals.items → mentions (text_at bank f) (term_at bank owed.smaller) ≡ false → AreIn (events_at bank history) (terms_at bank literals)
owed_in history bank f formals m s owed literals trial older site w same absent =
    subst (λ (ts : List Term). AreIn (events_at bank history) ts) (sym (ap (terms_at bank) same ∙ w.literals))
    (obligation_in (events_at bank history) (text_at bank f) (length (texts_at bank formals)) (texts_at bank formals) (term_at bank m) (site_at bank s) trial.over older site.counted
    (subst (λ (t : Term). mentions (text_at bank f) t ≡ false) w.smaller.denotes absent))

-- a judged obligation that is shown has its line
judged_line : (h : History) (work : Work) (these : List Term) (j : Judged) (n : ℕ) → IsJudged h work these j → line_of j ≡ Some n → LineHasOnly work n these
judged_line h work these (Shown k) n w e = subst (λ (i : ℕ). LineHasOnly work i these) (same k n e) w
  where
    same : (a b : ℕ) → Some a ≡ Some b → a ≡ b
    same a b e = cc
judged_line h work these (Open why) n w e = absurd cc

pub judged_found : (h : History) (work : Work) (these : List Term) (j : Judged) (r : Option ℕ) → IsJudged h work these j → r ≡ line_of j → IfSome r (λ n. LineHasOnly work n these)
judged_found h work these j None w e = tt
judged_found h work these j (Some n) w e = judged_line h work these j n w (sym e)

fall_judged : (h : History) (work : Work) (b : Bool) (these : List Term) (j : Judged) (n : ℕ) → IsFallJudged h work b these j → line_of j ≡ Some n → (b ≡ false) × LineHasOnly work n these
fall_judged h work true these (Shown k) n w e = absurd w
fall_judged h work true these (Open why) n w e = absurd cc
fall_judged h work false these j n w e = (refl, judged_line h work these j n w e)

pub fall_found : (history : List Entry) (mid new : Work) (f : Sym) (formals : List Sym) (m : TermId) (s : Site) (owed : Owed) (literals : List TermId) (j : Judged) (r : Option ℕ) → WorkStands history mid → WorkGrows history mid new → IsTrial history mid.bank f formals m → SiteStands mid.bank s →
    IsOwed mid.bank formals m s owed → literals ≡ owed.literals.items → IsFallJudged (events_at mid.bank history) new (mentions (text_at mid.bank f) (term_at mid.bank owed.smaller)) (terms_at mid.bank literals) j → r ≡ line_of j → IfSome r (IsFallLine new f formals m s)
fall_found history mid new f formals m s owed literals j None stands grows trial stand w same told e = tt
fall_found history mid new f formals m s owed literals j (Some n) stands grows trial stand w same told e =
    let both = fall_judged (events_at mid.bank history) new (mentions (text_at mid.bank f) (term_at mid.bank owed.smaller)) (terms_at mid.bank literals) j n told (sym e) in
    fall_line_now history mid new f formals m stands grows trial s n stand
    (record {
      older = subst (λ (t : Term). mentions (text_at mid.bank f) t ≡ false) w.smaller.denotes both.0;
      less = subst (λ (ts : List Term). LineHasOnly new n ts) (ap (terms_at mid.bank) same ∙ w.literals) both.1;
    })

pub all_cons : {X : Type 0} (P : X → Type 0) (x : X) (xs : List X) → P x → All P xs → All P (x ∷ xs)
all_cons P x xs p h zero d below = p
all_cons P x xs p h (suc k) d below = h k d (omega (arith, below))

pub all_take : {X : Type 0} (P : X → Type 0) (i : ℕ) (xs : List X) → All P xs → All P (take i xs)
all_take P zero [] h = λ k d below. absurd (omega (arith, below))
all_take P zero (x ∷ xs) h = λ k d below. absurd (omega (arith, below))
all_take P (suc i) [] h = λ k d below. absurd (omega (arith, below))
all_take P (suc i) (x ∷ xs) h = all_cons P x (take i xs) (All-head P x xs h) (all_take P i xs (All-tail P x xs h))

-- one call more has its line
pub lines_next : (history : List Entry) (mid new : Work) (f : Sym) (formals : List Sym) (m : TermId) (sites : List Site) (i : ℕ) (d : Site) (ns more : List ℕ) (n : ℕ) → WorkStands history mid → WorkGrows history mid new → IsTrial history mid.bank f formals m → All (SiteStands mid.bank) sites → i < length sites →
    AreFallLines mid f formals m (take i sites) ns → more ≡ ns ++ n ∷ [] → IsFallLine new f formals m (get_or sites i d) n → AreFallLines new f formals m (take (i + 1) sites) more
lines_next history mid new f formals m sites i d ns more n stands grows trial stand below w are here =
    let g : Name = text_at new.bank f in
    let xs : List Name = texts_at new.bank formals in
    let t : Term = term_at new.bank m in
    let now : AllFallBy new g xs t (sites_at new.bank (take i sites)) ns = fall_lines_grown history mid new f formals m stands grows trial (take i sites) ns (all_take (SiteStands mid.bank) i sites stand) w in
    let calls : sites_at new.bank (take (i + 1) sites) ≡ sites_at new.bank (take i sites) ++ site_at new.bank (get_or sites i d) ∷ [] = ap (sites_at new.bank) (take_more sites i d below) ∙ map_push (site_at new.bank) (take i sites) (get_or sites i d) in
    subst (λ (ks : List ℕ). AllFallBy new g xs t (sites_at new.bank (take (i + 1) sites)) ks) (sym are)
    (subst (λ (cs : List Call). AllFallBy new g xs t cs (ns ++ n ∷ [])) (sym calls) (falls_pushed new g xs t (sites_at new.bank (take i sites)) ns (site_at new.bank (get_or sites i d)) n now here))

pub each_get : {X : Type 0} {Y : Type 0} (P : Y → Type 0) (f : X → Y) (xs : List X) (i : ℕ) (d : X) → i < length xs → Each P (map f xs) → P (f (get_or xs i d))
each_get P f [] i d below w = absurd (omega (arith, below))
each_get P f (x ∷ xs) zero d below w = w.0
each_get P f (x ∷ xs) (suc i) d below w = each_get P f xs i d (omega (arith, below)) w.1

pub got : {X : Type 0} (xs : List X) (i : ℕ) (d : X) → i < length xs → slice_get xs i ≡ Some (get_or xs i d)
got [] i d below = absurd (omega (arith, below))
got (x ∷ xs) zero d below = refl
got (x ∷ xs) (suc i) d below = got xs i d (omega (arith, below))
