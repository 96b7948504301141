use Rattle.std.proofs.Common.{◌≡◌, List, ◌<◌, ◌∙◌, ap, refl, sym, subst, arith}
use Rattle.std.proofs.lemmas.Result.{err_from_is_err_and}
use Rattle.nq_sexp.specs.declared.Sexp.{Sexp}
use Rattle.nq_form.specs.Form.{Forms, end}
use Rattle.nq_sexp.specs.Tree.{tree, trees}
use Rattle.nq_form.specs.Form.{push}
use Rattle.nq_sexp.specs.Held.{Reading}
use Rattle.nq_sexp.specs.Whole.{SoFar}
use Rattle.nq_sexp.proofs.Stacks.{trees-last}
use Rattle.nq_sexp.proofs.Whole.{so_far-start, so_far-next, so_far-end, so_far-fault, found-longer, some_forms, memory_ends}
use Rattle.nq_sexp.proofs.reader.read_all.Goals as goal

pub loop-forms-init : goal.loop-forms-init
loop-forms-init g c =
    let left = g.S.Source.left c.args.source.now in
    let made = c.new-reader.ensures in (
      subst (λ (z : List Sexp). SoFar (g.S.Source.left c.args.source.now) c.new-reader.result.held (g.S.Source.left c.args.source.now) (trees z end)) (sym c.new-forms.ensures.items)
          (so_far-start _ _ _ (ap (λ (r : Reading). r.held.bytes) made) (ap (λ (r : Reading). r.held.at) made) (ap (λ (r : Reading). r.held.told) made) refl),
      ap (λ (r : Reading). r.live) made,
    )

pub loop-forms-preserved : goal.loop-forms-preserved
loop-forms-preserved g c =
    let found = rw c.in-Some.is at c.in_ok-form.ensures.form in
    let forms_are : trees c.push.new.self.items end ≡ push (trees c.loop-forms.forms.items end) (tree c.in-Some.form) =
    ap (λ (z : List Sexp). trees z end) c.in_ok-push.ensures.items ∙ trees-last _ _ in (
      subst (λ (z : Forms). SoFar (g.S.Source.left c.args.source.now) c.next.new.self.held (g.S.Source.left c.next.new.source) z) (sym forms_are)
          (so_far-next g.S.Source.left (g.S.Source.left c.args.source.now) _ _ _ _ _ _ c.loop-forms.invariant.0 found),
      c.in_ok-form.ensures.live,
    )

pub loop-forms-smaller : goal.loop-forms-smaller
loop-forms-smaller g c =
    let found = rw c.in-Some.is at c.in_ok-form.ensures.form in
    let longer : c.loop-forms.reader.held.at < c.next.new.self.held.at = found-longer g.S.Source.left (g.S.Source.left c.args.source.now) _ _ _ _ _ found in
    omega (arith, longer, (found.taken).within)

pub returns : goal.returns
returns g c = record {
  whole = so_far-end _ c.loop-forms.reader.held (g.S.Source.left c.loop-forms.source) _ c.loop-forms.invariant.0 (rw c.in_default.is at c.in_ok-form.ensures.none);
  fault = tt;
}

pub returns-in_err-form-clause-fault : goal.returns-in_err-form-clause-fault
returns-in_err-form-clause-fault g c =
    let p = err_from_is_err_and c.from_residual.result c.from_residual.ensures.1 in
    rw (p.1, p.2) (some_forms _ _ (trees c.loop-forms.forms.items end) _
    (so_far-fault _ c.loop-forms.reader.held c.next.new.self.held (g.S.Source.left c.loop-forms.source) _ _ _ c.loop-forms.invariant.0 c.in_err-form.ensures.fault))

pub returns-in_err-push-clause-fault : goal.returns-in_err-push-clause-fault
returns-in_err-push-clause-fault g c =
    let p = err_from_is_err_and c.from_residual-in_err-push.result c.from_residual-in_err-push.ensures.1 in rw (p.1, p.2) (memory_ends _ (g.S.Source.left c.next.new.source))
