-- Shells and what is made by them, however the work grows.
use Rattle.std.proofs.Common.{◌≡◌, ℕ, zero, suc, true, Option, Some, None, List, [], ◌∷◌, map, refl, sym, ap, ap₂, ◌∙◌, subst, inl, inr, arith}
use Rattle.std.specs.Prelude.{All, Vec, Result, Ok, Err, IfOk}
use Rattle.std.specs.declared.alloc.Global.{Global}
use Rattle.nq_logic.specs.Terms.{Name, Term, Variable, Function, Each, IsAmong, call}
use Rattle.nq_logic.specs.Histories.{Shell as ShellOfTexts}
use Rattle.nq_logic.specs.Shells.{accessed, recognizes}
use Rattle.nq_logic.specs.Words.{equal_term, not_term}
use Rattle.nq_bank.specs.declared.node.TermId.{TermId}
use Rattle.nq_bank.specs.declared.node.Sym.{Sym}
use Rattle.nq_bank.specs.declared.shell.Shell.{Shell}
use Rattle.nq_bank.specs.Content.{Content, IsIdOf, IsNamed, Stands, term_at, terms_at, text_at}
use Rattle.nq_bank.specs.Shells.{BaseStands, ShellStands, parts_at, shell_at, text_if}
use Rattle.nq_bank.proofs.Growth.{IsNamed-grown, terms_at-grown, text_at-grown}
use Rattle.nq_bank.proofs.Standing.{id_grown, stand_grown}
use Rattle.nq_proof.specs.Clauses.{Clause, distinct}
use Rattle.nq_proof.specs.Rows.{axiom_clause}
use Rattle.nq_history.specs.declared.entry.Entry.{Entry}
use Rattle.nq_history.specs.Events.{events_at}
use Rattle.nq_history.proofs.HistoryLemmas.{events_at-grown}
use Rattle.nq_history.proofs.ShellLemmas.{shell_at-grown}
use Rattle.nq_kernel.specs.declared.work.Work.{Work}
use Rattle.nq_kernel.specs.declared.work.Stop.{Stop}
use Rattle.nq_kernel.specs.Growing.{WorkStands, WorkGrows}
use Rattle.nq_kernel.specs.Over.{IsVariable}
use Rattle.nq_lines.specs.Lines.{IsTermIn, LineHasOnly}
use Rattle.nq_lines.specs.OwnTerms.{IsOver}
use Rattle.nq_lines.proofs.LineLemmas.{from_distinct}
use Rattle.nq_lines.proofs.TermLemmas.{same_term_grown, term_grown}
use Rattle.nq_goals.specs.Eliminating.{has_parts, whole_of}
use Rattle.nq_moves.proofs.OverLemmas.{ids_in}
use Rattle.nq_eliminate.specs.declared.shells.Made.{Made}
use Rattle.nq_eliminate.specs.Instances.{IsInstance}
use Rattle.nq_eliminate.specs.Made.{base_denied, IsBaseEquation, IsMade, IsShellOver, hypotheses_on, made_on, made_row}
use Rattle.nq_eliminate.specs.Shells.{eliminating_by}
use Rattle.nq_eliminate.proofs.InstanceLemmas.{row_grown}
use Rattle.nq_eliminate.proofs.KnownLemmas.{no_ids_in}
use Rattle.nq_eliminate.proofs.MadeLemmas.{destructors_made, hypotheses_made, whole_made}

-- ---- the base

pub base_named : (bank : Content) (o : Option Sym) (name : Sym) → BaseStands bank o → o ≡ Some name → IsNamed bank name
base_named bank None name h e = absurd (cc)
base_named bank (Some s) name h e = let same : s ≡ name = cc in subst (IsNamed bank) same h

pub base_made : (history : List Entry) (new : Work) (bank : Content) (t : Term) (o : Option Sym) (name : Sym) (e : TermId) → o ≡ Some name → IsTermIn history new e → term_at new.bank e ≡ equal_term t (Function (text_at bank name)) → IsBaseEquation history new t (text_if bank o) (Some e)
base_made history new bank t o name e some over is = subst (λ p. IsBaseEquation history new t (text_if bank p) (Some e)) (sym some) (over, is)

pub base_none : (history : List Entry) (new : Work) (bank : Content) (t : Term) (o : Option Sym) → o ≡ None → IsBaseEquation history new t (text_if bank o) None
base_none history new bank t o none = subst (λ p. IsBaseEquation history new t (text_if bank p) None) (sym none) tt

-- what the equation of the base says
pub record BaseSays (history : List Entry) (work : Work) (t : Term) (o : Option Name) (e : TermId) : Type 0 where
  pub base : Name
  pub some : o ≡ Some base
  pub over : IsTermIn history work e
  pub is : term_at work.bank e ≡ equal_term t (Function base)

pub base_says : (history : List Entry) (work : Work) (t : Term) (o : Option Name) (base : Option TermId) (e : TermId) → IsBaseEquation history work t o base → base ≡ Some e → BaseSays history work t o e
base_says history work t None None e h is = absurd (cc)
base_says history work t None (Some f) e h is = absurd h
base_says history work t (Some b) None e h is = absurd h
base_says history work t (Some b) (Some f) e h is =
    let same : f ≡ e = cc in
    record { base = b; some = refl; over = subst (IsTermIn history work) same h.0; is = subst (λ g. term_at work.bank g ≡ equal_term t (Function b)) same h.1 }

pub base_absent : (history : List Entry) (work : Work) (t : Term) (o : Option Name) (base : Option TermId) → IsBaseEquation history work t o base → base ≡ None → o ≡ None
base_absent history work t None base h is = refl
base_absent history work t (Some b) None h is = absurd h
base_absent history work t (Some b) (Some f) h is = absurd (cc)

-- ---- growth

module _ (history : List Entry) (old new : Work) (stood : WorkStands history old) (grows : WorkGrows history old new) where
  pub events_same : events_at new.bank history ≡ events_at old.bank history
  events_same = events_at-grown old.bank new.bank grows.bank history stood.history.entries

  pub over_grown : (t : Term) → IsOver (events_at old.bank history) t → IsOver (events_at new.bank history) t
  over_grown t h = subst (λ es. IsOver es t) (sym events_same) h

  pub shell_over_grown : (shell : Shell) (t u : Term) → ShellStands old.bank shell → u ≡ t → IsShellOver (events_at old.bank history) (shell_at old.bank shell) t → IsShellOver (events_at new.bank history) (shell_at new.bank shell) u
  shell_over_grown shell t u stands same h =
      subst (λ es. IsShellOver es (shell_at new.bank shell) u) (sym events_same)
      (subst (λ s. IsShellOver (events_at old.bank history) s u) (sym (shell_at-grown old.bank new.bank grows.bank shell stands))
      (subst (IsShellOver (events_at old.bank history) (shell_at old.bank shell)) (sym same) h))

  base_grown : (t : Term) (o : Option Name) (base : Option TermId) → IsBaseEquation history old t o base → IsBaseEquation history new t o base
  base_grown t None None h = tt
  base_grown t None (Some e) h = absurd h
  base_grown t (Some b) None h = absurd h
  base_grown t (Some b) (Some e) h = (term_grown history old new e stood grows h.0, same_term_grown history old new e grows h.0 ∙ h.1)

  pub base_equation_grown : (shell : Shell) (t u : Term) (base : Option TermId) → ShellStands old.bank shell → u ≡ t → IsBaseEquation history old t (shell_at old.bank shell).base base → IsBaseEquation history new u (shell_at new.bank shell).base base
  base_equation_grown shell t u base stands same h =
      subst (λ s. IsBaseEquation history new u s.base base) (sym (shell_at-grown old.bank new.bank grows.bank shell stands))
      (subst (λ v. IsBaseEquation history new v (shell_at old.bank shell).base base) (sym same) (base_grown t (shell_at old.bank shell).base base h))

  pub id_over : (t : TermId) (u : Term) → IsIdOf new.bank t u → IsOver (events_at old.bank history) u → IsTermIn history new t
  id_over t u id over = record { stands = id.stands; over = subst (λ v. IsOver (events_at new.bank history) v) (sym id.denotes) (over_grown u over) }

-- the variable, and what it is made of
module _ (history : List Entry) (old one two three : Work) (first : WorkGrows history old one) (second : WorkGrows history one two) (third : WorkGrows history two three) (shell : Shell) (stands : ShellStands old.bank shell) (name : Sym) (named : IsNamed old.bank name) where
  pub made_it : (variable whole : TermId) (calls : Vec TermId Global) → IsIdOf one.bank variable (Variable (text_at old.bank name)) → terms_at two.bank calls.items ≡ accessed (term_at one.bank variable) (parts_at one.bank shell.parts.items) → All (Stands two.bank) calls.items →
      IsIdOf three.bank whole (call (text_at two.bank shell.constructor) (terms_at two.bank calls.items)) → IsMade history three (shell_at old.bank shell) (text_at old.bank name) (record { variable = variable; calls = calls; whole = whole })
  made_it variable whole calls id are stand is =
      let one_shell = shell_at-grown old.bank one.bank first.bank shell stands in
      let told : terms_at two.bank calls.items ≡ accessed (Variable (text_at old.bank name)) (shell_at old.bank shell).parts =
      are ∙ ap (λ t. accessed t (parts_at one.bank shell.parts.items)) id.denotes ∙ ap (λ (s : ShellOfTexts). accessed (Variable (text_at old.bank name)) s.parts) one_shell in
      let constructor : text_at two.bank shell.constructor ≡ text_at old.bank shell.constructor =
      text_at-grown one.bank two.bank shell.constructor second.bank (IsNamed-grown old.bank one.bank shell.constructor first.bank stands.constructor) ∙ text_at-grown old.bank one.bank shell.constructor first.bank stands.constructor in
      record {
        variable = id_grown two.bank three.bank variable (Variable (text_at old.bank name)) third.bank (id_grown one.bank two.bank variable (Variable (text_at old.bank name)) second.bank id);
        calls = terms_at-grown two.bank three.bank calls.items third.bank stand ∙ told;
        stand = stand_grown two.bank three.bank calls.items third.bank stand;
        whole = subst (IsIdOf three.bank whole) (ap₂ (λ (f : Name) (ts : List Term). call f ts) constructor told) is;
      }

-- the instance
each_among : (P : Term → Type 0) (c : Clause) (t : Term) → Each P c → IsAmong t c → P t
each_among P [] t h m = absurd m
each_among P (u ∷ c) t h (inl e) = subst P (sym e) h.0
each_among P (u ∷ c) t h (inr m) = each_among P c t h.1 m

module _ (history : List Entry) (old new : Work) (stood : WorkStands history old) (grows : WorkGrows history old new) (s : ShellOfTexts) (name : Sym) (named : IsNamed old.bank name) (plain : IsVariable (text_at old.bank name)) (some : has_parts (map (λ part. part.accessor) s.parts) ≡ true)
    (over : IsShellOver (events_at old.bank history) s (Variable (text_at old.bank name))) (m : Made) (made : IsMade history old s (text_at old.bank name) m) where
  abbrev x : Name
  x = text_at old.bank name

  made_variable_in : IsTermIn history old m.variable
  made_variable_in = record { stands = made.variable.stands; over = subst (λ t. IsOver (events_at old.bank history) t) (sym made.variable.denotes) (record { over = tt; variables = plain }) }

  pub instance_made : (others calls hypotheses : Vec TermId Global) (line : ℕ) → others.items ≡ [] → terms_at new.bank calls.items ≡ distinct (terms_at new.bank m.calls.items) → All (Stands new.bank) calls.items → terms_at new.bank hypotheses.items ≡ hypotheses_on (Variable x) s → All (IsTermIn history new) hypotheses.items →
      LineHasOnly new line (equal_term (made_on (Variable x) s) (Variable x) ∷ map not_term (hypotheses_on (Variable x) s)) → IsInstance history new (eliminating_by s x) (record { name = name; variable = m.variable; others = others; whole = m.whole; calls = calls; hypotheses = hypotheses; line = line })
  instance_made others calls hypotheses line none calls_are stand hyps_are hyps_in says =
      let told : terms_at new.bank calls.items ≡ distinct (accessed (Variable x) s.parts) = calls_are ∙ ap distinct (terms_at-grown old.bank new.bank m.calls.items grows.bank made.stand ∙ made.calls) in
      record {
        name = IsNamed-grown old.bank new.bank name grows.bank named;
        named = text_at-grown old.bank new.bank name grows.bank named;
        variable = term_grown history old new m.variable stood grows made_variable_in;
        variable_is = (id_grown old.bank new.bank m.variable (Variable x) grows.bank made.variable).denotes;
        others = subst (All (IsTermIn history new)) (sym none) (no_ids_in history new);
        others_are = ap (terms_at new.bank) none;
        whole = id_over history old new stood grows m.whole (made_on (Variable x) s) (id_grown old.bank new.bank m.whole (made_on (Variable x) s) grows.bank made.whole) over.made;
        whole_is = (id_grown old.bank new.bank m.whole (made_on (Variable x) s) grows.bank made.whole).denotes ∙ sym (whole_made s x);
        calls = ids_in history new calls.items stand (λ t k. over_grown history old new stood grows t (each_among (IsOver (events_at old.bank history)) (accessed (Variable x) s.parts) t over.calls (from_distinct t (accessed (Variable x) s.parts) (subst (IsAmong t) told k))));
        calls_are = told ∙ sym (destructors_made s x some);
        hypotheses = hyps_in;
        hypotheses_are = hyps_are ∙ sym (hypotheses_made s x);
        says =
            subst (λ hs. LineHasOnly new line (equal_term (whole_of (eliminating_by s x)) (Variable x) ∷ map not_term hs)) (sym (hypotheses_made s x))
            (subst (λ w. LineHasOnly new line (equal_term w (Variable x) ∷ map not_term (hypotheses_on (Variable x) s))) (sym (whole_made s x)) says);
      }

-- ---- the hypotheses

pub two_in : (history : List Entry) (work : Work) (a b : TermId) → IsTermIn history work a → IsTermIn history work b → All (IsTermIn history work) (a ∷ b ∷ [])
two_in history work a b h k zero d below = h
two_in history work a b h k (suc zero) d below = k
two_in history work a b h k (suc (suc j)) d below = absurd (omega (arith, below))

pub one_in_list : (history : List Entry) (work : Work) (a : TermId) → IsTermIn history work a → All (IsTermIn history work) (a ∷ [])
one_in_list history work a h zero d below = h
one_in_list history work a h (suc j) d below = absurd (omega (arith, below))

-- with the base
pub hypotheses_with : (bank : Content) (t : Term) (s : ShellOfTexts) (b : Name) (recognized denied : TermId) (ids : List TermId) → s.base ≡ Some b → term_at bank recognized ≡ recognizes s t → term_at bank denied ≡ not_term (equal_term t (Function b)) → ids ≡ recognized ∷ denied ∷ [] → terms_at bank ids ≡ hypotheses_on t s
hypotheses_with bank t s b recognized denied ids some first second is =
    ap (terms_at bank) is
    ∙ ap₂ (λ (u v : Term). u ∷ v ∷ []) first second
    ∙ ap (λ o. recognizes s t ∷ base_denied t o) (sym some)

pub hypotheses_without : (bank : Content) (t : Term) (s : ShellOfTexts) (recognized : TermId) (ids : List TermId) → s.base ≡ None → term_at bank recognized ≡ recognizes s t → ids ≡ recognized ∷ [] → terms_at bank ids ≡ hypotheses_on t s
hypotheses_without bank t s recognized ids none first is =
    ap (terms_at bank) is
    ∙ ap (λ u. u ∷ []) first
    ∙ ap (λ o. recognizes s t ∷ base_denied t o) (sym none)

pub ids_ok : (P : TermId → Type 0) (r : Result (Vec TermId Global) Stop) (ids : List TermId) → All P ids → IfOk r (λ v. v.items ≡ ids) → IfOk r (λ v. All P v.items)
ids_ok P (Ok v) ids h is = subst (All P) (sym is) h
ids_ok P (Err e) ids h is = is

pub told_ok : (bank : Content) (c : Clause) (r : Result (Vec TermId Global) Stop) (ids : List TermId) → ((these : List TermId) → these ≡ ids → terms_at bank these ≡ c) → IfOk r (λ v. v.items ≡ ids) → IfOk r (λ v. terms_at bank v.items ≡ c)
told_ok bank c (Ok v) ids f is = f v.items is
told_ok bank c (Err e) ids f is = is

-- ---- steps with the rule

pub made_in : (history : List Entry) (work : Work) (s : ShellOfTexts) (x : Name) (m : Made) → IsVariable x → IsMade history work s x m → IsTermIn history work m.variable
made_in history work s x m plain made = record { stands = made.variable.stands; over = subst (λ t. IsOver (events_at work.bank history) t) (sym made.variable.denotes) (record { over = tt; variables = plain }) }

pub base_moved : (history : List Entry) (work : Work) (t u : Term) (o p : Option Name) (base : Option TermId) → u ≡ t → p ≡ o → IsBaseEquation history work t o base → IsBaseEquation history work u p base
base_moved history work t u o p base same name h = subst (λ q. IsBaseEquation history work u q base) (sym name) (subst (λ v. IsBaseEquation history work v o base) (sym same) h)

module _ (history : List Entry) (old new : Work) (stood : WorkStands history old) (grows : WorkGrows history old new) (shell : Shell) (stands : ShellStands old.bank shell) where
  pub base_of_same : (shell_at new.bank shell).base ≡ (shell_at old.bank shell).base
  base_of_same = ap (λ (s : ShellOfTexts). s.base) (shell_at-grown old.bank new.bank grows.bank shell stands)

  pub row_there : axiom_clause (events_at old.bank history) (text_at old.bank shell.constructor) 5 0 ≡ Some (made_row (shell_at old.bank shell)) → axiom_clause (events_at new.bank history) (text_at new.bank shell.constructor) 5 0 ≡ Some (made_row (shell_at new.bank shell))
  row_there e = row_grown history old new stood grows shell stands (made_row (shell_at old.bank shell)) e ∙ ap (λ (s : ShellOfTexts). Some (made_row s)) (sym (shell_at-grown old.bank new.bank grows.bank shell stands))

  pub hypotheses_same : (t u : Term) (c : Clause) → u ≡ t → c ≡ hypotheses_on u (shell_at new.bank shell) → c ≡ hypotheses_on t (shell_at old.bank shell)
  hypotheses_same t u c same is = is ∙ ap (λ (s : ShellOfTexts). hypotheses_on u s) (shell_at-grown old.bank new.bank grows.bank shell stands) ∙ ap (λ v. hypotheses_on v (shell_at old.bank shell)) same

  pub line_same : (work : Work) (n : ℕ) (t u : Term) → u ≡ t → LineHasOnly work n (equal_term (made_on u (shell_at new.bank shell)) u ∷ map not_term (hypotheses_on u (shell_at new.bank shell))) → LineHasOnly work n (equal_term (made_on t (shell_at old.bank shell)) t ∷ map not_term (hypotheses_on t (shell_at old.bank shell)))
  line_same work n t u same h =
      subst (λ v. LineHasOnly work n (equal_term (made_on v (shell_at old.bank shell)) v ∷ map not_term (hypotheses_on v (shell_at old.bank shell)))) same
      (subst (λ (s : ShellOfTexts). LineHasOnly work n (equal_term (made_on u s) u ∷ map not_term (hypotheses_on u s))) (shell_at-grown old.bank new.bank grows.bank shell stands) h)
