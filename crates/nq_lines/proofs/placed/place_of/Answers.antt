use Rattle.std.proofs.lemmas.Option.{IfSome_then}
use Rattle.nq_lines.proofs.PlacedLemmas.{literal_of_line}
use Rattle.nq_lines.proofs.placed.place_of.Goals as goal

pub returns : goal.returns
returns c = IfSome_then c.place_among.result c.place_among.ensures (λ k at. literal_of_line c.args.work.now c.args.line k c.clause_over.result.now c.args.literal c.clause_over.ensures.clause at.0 at.1)
