use Rattle.nq_bank.specs.Content.{text_at, term_at}
use Rattle.nq_bank.specs.Parts.{parts_of}
use Rattle.nq_print.proofs.ShapeLemmas.{longer}
use Rattle.nq_print.proofs.shape.shape_of.Goals as goal

pub returns-in-len3-up : goal.returns-in-len3-up
returns-in-len3-up c =
    let t = term_at c.args.bank.now c.args.t in (
      c.in-App.ensures.head.0,
      c.in-App.ensures.head.3,
      longer c.args.bank.now.terms c.args-in-App.result.now t (text_at c.args.bank.now c.in-App.f) (parts_of t) c.in-len3-up.len_at_least c.args-in-App.ensures.parts c.in-App.ensures.head.1,
    )
