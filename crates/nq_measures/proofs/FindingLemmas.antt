-- What is told of the measures that are tried.
use Rattle.std.proofs.Common.{◌≡◌, ◌<◌, ℕ, zero, false, Option, Some, None, List, [], ◌∷◌, length, get_or, sym, subst}
use Rattle.std.specs.Prelude.{All, MatchOption, codes}
use Rattle.nq_logic.specs.Terms.{Name, Term, Variable}
use Rattle.nq_logic.specs.Admissible.{mentions}
use Rattle.nq_bank.specs.declared.node.Sym.{Sym}
use Rattle.nq_bank.specs.declared.node.TermId.{TermId}
use Rattle.nq_bank.specs.Content.{Content, Grows, IsNamed, text_at, term_at}
use Rattle.nq_bank.specs.Shells.{texts_at}
use Rattle.nq_bank.specs.Parts.{parts_of}
use Rattle.nq_bank.proofs.CallLemmas.{parts_of-other}
use Rattle.nq_bank.proofs.Numerals.{number_of-call}
use Rattle.nq_bank.proofs.Growth.{text_at-grown, term_at-grown}
use Rattle.nq_history.specs.declared.entry.Entry.{Entry}
use Rattle.nq_history.specs.Events.{events_at, HistoryStands}
use Rattle.nq_calls.specs.declared.calls.Site.{Site}
use Rattle.nq_calls.specs.Calls.{SiteStands, site_at}
use Rattle.nq_logic.proofs.Symbols.{count_symbol}
use Rattle.std.specs.declared.vec.Vec.{Vec}
use Rattle.std.specs.declared.alloc.Global.{Global}
use Rattle.nq_kernel.specs.declared.work.Work.{Work}
use Rattle.nq_kernel.specs.Growing.{WorkStands, WorkGrows}
use Rattle.nq_kernel.proofs.GrowingLemmas.{WorkGrows-trans}
use Rattle.nq_lines.specs.Lines.{LineHasOnly}
use Rattle.nq_lines.proofs.LineLemmas.{only_grown}
use Rattle.nq_measures.specs.Measures.{ordinal_clause}
use Rattle.nq_measures.specs.Trials.{AllDescend, AreFallLines, Descends, DescendsAt, IsEvidence, IsSiteOf, IsSizeOf, IsTrial, size_of_variable}
use Rattle.nq_measures.proofs.NewNames.{not_mentioned}
use Rattle.nq_measures.proofs.GrownLemmas.{all_stand, descends_still, fall_lines_grown, older_still, sites_still, trial_still}
use Rattle.nq_measures.proofs.SearchLemmas.{each_get}

pub match_none : {X : Type 0} (o : Option X) (A : Type 0) (P : X → Type 0) → o ≡ None → MatchOption o A P → A
match_none None A P e w = w
match_none (Some x) A P e w = absurd cc

pub match_some : {X : Type 0} (o : Option X) (x : X) (A : Type 0) (P : X → Type 0) → o ≡ Some x → MatchOption o A P → P x
match_some None x A P e w = absurd cc
match_some (Some y) x A P e w = subst P (same y x e) w
  where
    same : {X : Type 0} (a b : X) → Some a ≡ Some b → a ≡ b
    same a b e = cc

-- where one call does not descend, not all do
pub none_descends : (history : List Entry) (old mid : Content) (f : Sym) (formals : List Sym) (x : Sym) (sites : List Site) (i : ℕ) (d : Site) → Grows old mid → HistoryStands old history → IsNamed old f → All (IsNamed old) formals → IsNamed old x → All (SiteStands old) sites → i < length sites →
    (DescendsAt history mid formals x (get_or sites i d) → ⊥) → AllDescend history old formals (text_at old x) sites → ⊥
none_descends history old mid f formals x sites i d up stands named formals_named x_named stand below none all =
    let here : Descends (events_at old history) (texts_at old formals) (text_at old x) (site_at old (get_or sites i d)) = each_get (Descends (events_at old history) (texts_at old formals) (text_at old x)) (site_at old) sites i d below all in
    none (subst (λ (y : Name). Descends (events_at mid history) (texts_at mid formals) y (site_at mid (get_or sites i d))) (sym (text_at-grown old mid x up x_named))
    (descends_still history old mid f formals up stands named formals_named (text_at old x) (get_or sites i d) (stand i d below) here))

-- the argument of a size
pub size_parts : (x : Name) → parts_of (size_of_variable x) ≡ Variable x ∷ []
size_parts x = parts_of-other (codes "COUNT") (Variable x ∷ []) (number_of-call (codes "COUNT") (Variable x ∷ []))

older_size : (history : List Entry) (bank : Content) (f : Sym) (formals : List Sym) (m : TermId) (x : Sym) → IsTrial history bank f formals m → IsSizeOf bank m x → mentions (text_at bank f) (term_at bank m) ≡ false
older_size history bank f formals m x trial size =
    subst (λ (t : Term). mentions (text_at bank f) t ≡ false) (sym size.size) (not_mentioned (events_at bank history) (text_at bank f) (size_of_variable (text_at bank x)) zero trial.unused (count_symbol (events_at bank history), tt))

module _ (history : List Entry) (old mid new : Work) (f : Sym) (formals : List Sym) (m : TermId) (sites : List Site) (n : ℕ) (falls : Vec ℕ Global) (stands : WorkStands history old) (first : WorkGrows history old mid) (second : WorkGrows history mid new) (trial : IsTrial history old.bank f formals m) (here : All (IsSiteOf history old.bank f formals) sites) where
  up : WorkGrows history old new
  up = WorkGrows-trans history old mid new first second

  trial_then : IsTrial history mid.bank f formals m
  trial_then = trial_still history old.bank mid.bank f formals first.bank stands.history trial.function trial.formals_named m trial

  sites_then : All (SiteStands mid.bank) sites
  sites_then = all_stand history mid.bank f formals sites (sites_still history old.bank mid.bank f formals first.bank stands.history trial.function trial.formals_named sites here)

  older_now : mentions (text_at old.bank f) (term_at old.bank m) ≡ false → mentions (text_at new.bank f) (term_at new.bank m) ≡ false
  older_now e = older_still history old.bank new.bank f formals up.bank stands.history trial.function trial.formals_named m trial.measure_stands e

  -- the lines of the size of a variable
  pub size_found : (x : Sym) → IsSizeOf old.bank m x → AreFallLines mid f formals m sites falls.items → LineHasOnly new n (ordinal_clause (term_at mid.bank m)) → IsEvidence new f formals m sites (record { ordinal = n; falls = falls })
  size_found x size lines ordinal =
      record {
        older = older_now (older_size history old.bank f formals m x trial size);
        ordinal = subst (λ (t : Term). LineHasOnly new n (ordinal_clause t)) (sym (term_at-grown mid.bank new.bank m second.bank trial_then.measure_stands)) ordinal;
        falls = fall_lines_grown history mid new f formals m first.stands second trial_then sites falls.items sites_then lines;
      }

  -- those of a proof
  pub proof_found : mentions (text_at old.bank f) (term_at old.bank m) ≡ false → LineHasOnly mid n (ordinal_clause (term_at old.bank m)) → AreFallLines new f formals m sites falls.items → IsEvidence new f formals m sites (record { ordinal = n; falls = falls })
  proof_found older ordinal lines =
      record {
        older = older_now older;
        ordinal = only_grown history mid new n _ first.stands second (subst (λ (t : Term). LineHasOnly mid n (ordinal_clause t)) (sym (term_at-grown old.bank new.bank m up.bank trial.measure_stands)) ordinal);
        falls = lines;
      }

pub same_some : (a b : Term) → Some a ≡ Some b → a ≡ b
same_some a b e = cc
