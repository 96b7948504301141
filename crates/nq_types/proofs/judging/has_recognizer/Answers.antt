use Rattle.std.proofs.Common.{◌∙◌, sym}
use Rattle.nq_types.proofs.judging.has_recognizer.Goals as goal

pub returns-then-place-lt63 : goal.returns-then-place-lt63
returns-then-place-lt63 c = λ e. record { place = c.in-Some.place; at = c.in-Some.ensures; has = sym c.has.ensures ∙ e }
