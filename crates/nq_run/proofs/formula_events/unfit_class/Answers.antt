use Rattle.std.proofs.Common.{◌∙◌, sym, arith}
use Rattle.nq_bank.specs.Content.{term_at}
use Rattle.nq_run.proofs.ShapeLemmas.{no_shape, shape_here}
use Rattle.nq_run.proofs.formula_events.unfit_class.Goals as goal
use Rattle.std.specs.Prelude.{true, false}

pub loop-class-preserved : goal.loop-class-preserved
loop-class-preserved c =
    c.loop-class.invariant ∙ shape_here c.args.classes.now (term_at c.args.bank.now c.args.t) c.loop-class.class-index _ true (omega (arith, c.loop-class-test)) (sym c.fits.ensures ∙ c.if-not-fits.false)

pub returns-then-not-fits : goal.returns-then-not-fits
returns-then-not-fits c =
    sym (c.loop-class.invariant ∙ shape_here c.args.classes.now (term_at c.args.bank.now c.args.t) c.loop-class.class-index _ false (omega (arith, c.loop-class-test)) (sym c.fits.ensures ∙ c.if-not-fits.true))

pub returns : goal.returns
returns c = sym (c.loop-class.invariant ∙ no_shape c.args.classes.now (term_at c.args.bank.now c.args.t) c.loop-class.class-index (omega (arith, c.loop-class-test)))
