use Rattle.std.proofs.Common.{rules, ◌≡◌, ◌≤◌, ◌+◌, ◌^◌, ◌<◌, true, ap, refl, sym, subst, arith, length, ◌∙◌}
use Rattle.nq_form.specs.Form.{end, next, push}
use Rattle.nq_sexp.specs.Tree.{tree}
use Rattle.nq_sexp.specs.Held.{Reading}
use Rattle.nq_sexp.proofs.Whole.{so_far-start, so_far-next, so_far-end, so_far-fault, found-longer}
use Rattle.nq_comment.specs.Totals.{Totals, totals_in}
use Rattle.nq_run.specs.HistoryView.{history_of}
use Rattle.nq_run.proofs.RunLemmas.{Ran-start, Ran-more, Ran-full, Ran-stopped, begun_interrupted, begun_of, forms_after, on_err, ran_as, stopped_as, turned_as}
use Rattle.nq_run.proofs.LogLemmas.{logs_within_none}
use Rattle.nq_run.proofs.NarrowLemmas.{first_narrow}
use Rattle.nq_run.proofs.SpelledLemmas.{items_spelled}
use Rattle.nq_run.proofs.runs.run_forms.Goals as goal

pub returns-in_err-session-clause-stopped : goal.returns-in_err-session-clause-stopped
returns-in_err-session-clause-stopped g c = on_err c.from_residual.result _ (begun_interrupted c.args.limit c.args.logging _ _ _ refl (logs_within_none c.args.logging _ _ _ refl))

pub returns-in_err-begin-clause-stopped : goal.returns-in_err-begin-clause-stopped
returns-in_err-begin-clause-stopped g c = on_err c.from_residual-in_err-begin.result _ (begun_interrupted c.args.limit c.args.logging _ _ _ refl c.in_err-begin.ensures.err)

pub loop-form-init : goal.loop-form-init
loop-form-init g c =
    let made = c.new-reader.ensures in
    let none : c.zero.result.forms ≡ 0 = ap (λ (t : Totals). t.forms) c.zero.ensures in (
      (
        end,
        so_far-start _ _ _ (ap (λ (r : Reading). r.held.bytes) made) (ap (λ (r : Reading). r.held.at) made) (ap (λ (r : Reading). r.held.told) made) refl,
        Ran-start c.args.limit c.args.logging _ _ _ _ _ c.zero.ensures c.in_ok-session.ensures.none refl c.in_ok-begin.ensures.ok c.in_ok-begin.ensures.count,
      ),
      ap (λ (r : Reading). r.live) made,
      omega (arith, none),
      omega arith,
      omega arith,
      c.in_ok-begin.ensures.later,
      c.in_ok-session.ensures.stands,
      c.in_ok-begin.ensures.same,
      c.in_ok-begin.ensures.bound,
      c.in_ok-begin.ensures.alone,
      subst (g.P.Prover.has_learnt c.args.prover.now) (c.in_ok-session.ensures.whole)
          (c.requires.learnt c.in_ok-session.session.bank c.in_ok-session.session.history (c.in_ok-session.ensures.stands).history),
    )

pub returns-in_err-turn-in-Ok-Some-clause-full : goal.returns-in_err-turn-in-Ok-Some-clause-full
returns-in_err-turn-in-Ok-Some-clause-full g c e =
    let left = g.S.Source.left in
    let start = left c.args.src.now in
    let before = c.loop-form.invariant.0 in
    let form = tree c.in-Ok-Some.form in
    let found = rw c.in-Ok-Some.field-0-is at c.in-Ok-Some.ensures.form in
    let more = so_far-next left start _ _ _ _ before.0 form before.1 found in
    let full = c.in_err-turn-in-Ok-Some.ensures.full (search rules) in
    let logging = sym c.loop-form.invariant.7 ∙ full.0 in (
      logging,
      Ran-full c.args.limit start before.0 form (history_of c.loop-form.session) (totals_in c.loop-form.progress.counts) c.loop-form.progress.log.count _ _ _
          (ran_as c.args.limit c.args.logging true _ _ _ _ _ _ logging before.2) (begun_of start c.next.new.self.held (left c.next.new.source) (push before.0 form) more) c.loop-form.invariant.8 full.1,
    )

pub returns-in_err-turn-in-Ok-Some-clause-stopped : goal.returns-in_err-turn-in-Ok-Some-clause-stopped
returns-in_err-turn-in-Ok-Some-clause-stopped g c =
    let left = g.S.Source.left in
    let start = left c.args.src.now in
    let before = c.loop-form.invariant.0 in
    let form = tree c.in-Ok-Some.form in
    let found = rw c.in-Ok-Some.field-0-is at c.in-Ok-Some.ensures.form in
    let more = so_far-next left start _ _ _ _ before.0 form before.1 found in
    on_err c.from_residual-in_err-turn-in-Ok-Some.result _ (Ran-stopped c.args.limit c.args.logging start before.0 form (history_of c.loop-form.session) (totals_in c.loop-form.progress.counts)
    c.loop-form.progress.log.count _ _ _ before.2
    (begun_of start c.loop-form.reader.held (left c.loop-form.src) before.0 before.1)
    (begun_of start c.next.new.self.held (left c.next.new.source) (push before.0 form) more)
    (stopped_as c.args.limit _ c.args.logging _ _ _ _ _ c.loop-form.invariant.7 c.in_err-turn-in-Ok-Some.ensures.stopped))

pub returns-in-Ok-None-clause-walked : goal.returns-in-Ok-None-clause-walked
returns-in-Ok-None-clause-walked g c =
    let left = g.S.Source.left in
    let start = left c.args.src.now in
    let before = c.loop-form.invariant.0 in (
      before.0,
      (history_of c.loop-form.session, before.2),
      begun_of start c.loop-form.reader.held (left c.loop-form.src) before.0 before.1,
      so_far-end start c.loop-form.reader.held (left c.loop-form.src) before.0 before.1 (rw c.in-Ok-None.field-0-is at c.in-Ok-None.ensures.none),
    )

pub returns-in-Err-clause-walked : goal.returns-in-Err-clause-walked
returns-in-Err-clause-walked g c =
    let left = g.S.Source.left in
    let start = left c.args.src.now in
    let before = c.loop-form.invariant.0 in (
      before.0,
      (history_of c.loop-form.session, before.2),
      begun_of start c.loop-form.reader.held (left c.loop-form.src) before.0 before.1,
      so_far-fault start c.loop-form.reader.held c.next.new.self.held (left c.loop-form.src) _ before.0 c.in-Err.fault before.1 c.in-Err.ensures.fault,
    )

-- what is read can be spelled
pub turn-requires-clause-spelled : goal.turn-requires-clause-spelled
turn-requires-clause-spelled g c =
    let found = rw c.in-Ok-Some.field-0-is at c.in-Ok-Some.ensures.form in
    (items_spelled 500 found.text (next (tree c.in-Ok-Some.form) end) found.is.spelled).0

-- and it has no list that is too long
pub turn-requires-clause-narrow : goal.turn-requires-clause-narrow
turn-requires-clause-narrow g c =
    let found = rw c.in-Ok-Some.field-0-is at c.in-Ok-Some.ensures.form in
    let few : length found.text ≤ 2 ^ 25 = omega (arith, (found.taken).count, (found.taken).within) in
    first_narrow (2 ^ 25) 500 found.text (tree c.in-Ok-Some.form) found.is.spelled few

pub loop-form-smaller : goal.loop-form-smaller
loop-form-smaller g c =
    let found = rw c.in-Ok-Some.field-0-is at c.in-Ok-Some.ensures.form in
    let longer : c.loop-form.reader.held.at < c.next.new.self.held.at = found-longer g.S.Source.left (g.S.Source.left c.args.src.now) _ _ _ _ _ found in
    omega (arith, longer, (found.taken).within)

pub loop-form-preserved : goal.loop-form-preserved
loop-form-preserved g c =
    let left = g.S.Source.left in
    let start = left c.args.src.now in
    let before = c.loop-form.invariant.0 in
    let form = tree c.in-Ok-Some.form in
    let found = rw c.in-Ok-Some.field-0-is at c.in-Ok-Some.ensures.form in
    let later = c.in_ok-turn-in-Ok-Some.turn in
    let told = c.in_ok-turn-in-Ok-Some.ensures in
    let turned = turned_as c.args.limit _ c.args.logging _ _ _ _ _ _ _ _ _ c.loop-form.invariant.7 told.turned in
    let longer : c.loop-form.reader.held.at < c.next.new.self.held.at = found-longer left start _ _ _ _ _ found in
    let one : later.progress.counts.forms ≡ c.loop-form.progress.counts.forms + 1 = forms_after turned.report _ _ turned.totals in (
      (
        push before.0 form,
        so_far-next left start _ _ _ _ before.0 form before.1 found,
        Ran-more c.args.limit c.args.logging before.0 form c.loop-form.session later.session _ _ _ _ _ _ _ before.2 turned,
      ),
      c.in-Ok-Some.ensures.live,
      omega (arith, one, longer, c.loop-form.invariant.2),
      omega (arith, c.loop-form.invariant.3, c.in-Ok-Some.ensures.later),
      omega (arith, c.loop-form.invariant.4, told.later_comment),
      omega (arith, c.loop-form.invariant.5, told.later_log),
      told.stands,
      told.same ∙ c.loop-form.invariant.7,
      told.bound,
      λ off. told.alone (c.loop-form.invariant.7 ∙ off) ∙ c.loop-form.invariant.9 off,
      told.learnt,
    )
