-- What a call owes to a measure, as it is made.
use Rattle.std.proofs.Common.{◌≡◌, List, map, sym, ap, ap₂, ◌∙◌, subst}
use Rattle.std.specs.Prelude.{All}
use Rattle.std.specs.declared.vec.Vec.{Vec}
use Rattle.std.specs.declared.alloc.Global.{Global}
use Rattle.nq_logic.specs.Terms.{Name, Term}
use Rattle.nq_logic.specs.Admissible.{Call}
use Rattle.nq_bank.specs.declared.node.Sym.{Sym}
use Rattle.nq_bank.specs.declared.node.TermId.{TermId}
use Rattle.nq_bank.specs.Content.{Content, Grows, Stands, IsIdOf, text_at, term_at, terms_at}
use Rattle.nq_bank.specs.Shells.{texts_at}
use Rattle.nq_bank.proofs.Growth.{Grows-trans, term_at-grown}
use Rattle.nq_bank.proofs.Standing.{id_grown}
use Rattle.nq_calls.specs.declared.calls.Guard.{Guard}
use Rattle.nq_calls.specs.declared.calls.Site.{Site}
use Rattle.nq_calls.specs.Calls.{SiteStands, guards_at, site_at}
use Rattle.nq_calls.specs.Falls.{fall_clause, smaller_at}
use Rattle.nq_measures.specs.Trials.{IsOwed}
use Rattle.nq_measures.proofs.GrownLemmas.{site_same, guards_grown}

texts_same : (old new : Content) (names : List Sym) → new.names ≡ old.names → texts_at new names ≡ texts_at old names
texts_same old new names e = ap (λ ns. map (λ s. text_at (record { names = ns; terms = old.terms }) s) names) e

pub owed_made : (old mid new : Content) (formals : List Sym) (m : TermId) (s : Site) (smaller : TermId) (literals : Vec TermId Global) (guards : List Guard) → Grows old mid → mid.names ≡ old.names → Grows mid new → new.names ≡ mid.names → Stands old m → SiteStands old s → guards ≡ s.guards.items →
    IsIdOf mid smaller (smaller_at (texts_at old formals) (term_at old m) (site_at old s)) → terms_at new literals.items ≡ fall_clause (term_at mid smaller) (term_at mid m) (guards_at mid guards) → All (Stands new) literals.items → IsOwed new formals m s (record { smaller = smaller; literals = literals })
owed_made old mid new formals m s smaller literals guards first named second named_on there stand same is made stands =
    let up : Grows old new = Grows-trans old mid new first second in
    let xs : texts_at new formals ≡ texts_at old formals = texts_same old new formals (named_on ∙ named) in
    let t : term_at new m ≡ term_at old m = term_at-grown old new m up there in
    let c : site_at new s ≡ site_at old s = site_same old new s up stand in
    let low : smaller_at (texts_at new formals) (term_at new m) (site_at new s) ≡ smaller_at (texts_at old formals) (term_at old m) (site_at old s) =
    ap (λ (ys : List Name). smaller_at ys (term_at new m) (site_at new s)) xs ∙ ap₂ (λ (u : Term) (d : Call). smaller_at (texts_at old formals) u d) t c in
    record {
      smaller = subst (λ (u : Term). IsIdOf new smaller u) (sym low) (id_grown mid new smaller _ second is);
      literals =
          made ∙ ap (λ gs. fall_clause (term_at mid smaller) (term_at mid m) (guards_at mid gs)) same ∙
          ap₂ (λ (u v : Term). fall_clause u v (guards_at mid s.guards.items)) (is.denotes ∙ sym low) (term_at-grown old mid m first there ∙ sym t) ∙
          ap (λ (ts : List Term). fall_clause (smaller_at (texts_at new formals) (term_at new m) (site_at new s)) (term_at new m) ts) (guards_grown old mid s.guards.items first stand.guards ∙ sym (guards_grown old new s.guards.items up stand.guards));
      stand = stands;
    }
