use Rattle.std.proofs.Common.{◌≡◌, ◌∷◌, [], subst}
use Rattle.std.specs.Prelude.{IfOk}
use Rattle.nq_logic.specs.Terms.{call}
use Rattle.nq_bank.specs.Content.{IsIdOf, term_at, text_at}
use Rattle.nq_lines.proofs.TermLemmas.{made_in_work}
use Rattle.nq_types.specs.Parts.{recognizer_of}
use Rattle.nq_types.specs.TypeSets.{recognized_by}
use Rattle.nq_types.proofs.ConstantLemmas.{recognized_over, name_is}
use Rattle.nq_types.proofs.constants.recognized.Goals as goal

pub returns-clause-over : goal.returns-clause-over
returns-clause-over c =
    let old = c.args.work.now in
    let new = c.app.new.self in
    let t = term_at old.bank c.args.t in
    let name : text_at old.bank c.ground_name-name.result ≡ recognizer_of c.args.truth = name_is (text_at old.bank c.ground_name-name.result) c.args.truth c.recognizer.result c.ground_name-name.ensures.reads c.recognizer.ensures.name in
    made_in_work c.args.history.now old new c.app.result (recognized_by (recognizer_of c.args.truth) t) c.requires.stands c.app.ensures.grows (recognized_over c.args.history.now old c.args.truth c.args.t c.requires.term)
    (subst (λ x. IfOk c.app.result (λ u. IsIdOf new.bank u (call x (t ∷ [])))) name c.app.ensures.call)
