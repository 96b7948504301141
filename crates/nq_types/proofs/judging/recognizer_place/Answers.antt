use Rattle.std.proofs.Common.{◌≡◌, ◌∙◌, Some, ap, subst, sym}
use Rattle.std.specs.Prelude.{codes}
use Rattle.nq_bank.specs.Content.{text_at}
use Rattle.nq_history.specs.Events.{events_at}
use Rattle.nq_proof.proofs.Tests.{names_same}
use Rattle.nq_types.specs.Finding.{first_from, recognizes_by}
use Rattle.nq_types.proofs.SetLemmas.{recognizer_found}
use Rattle.nq_types.proofs.judging.recognizer_place.Goals as goal

pub returns-then-is_ground : goal.returns-then-is_ground
returns-then-is_ground c = ap Some (sym (names_same (text_at c.args.bank.now c.args.f) (codes "TRUEP") (sym c.is_ground.ensures ∙ c.if-is_ground.true)))

pub returns-then-is_ground-2 : goal.returns-then-is_ground-2
returns-then-is_ground-2 c = ap Some (sym (names_same (text_at c.args.bank.now c.args.f) (codes "FALSEP") (sym c.is_ground-2.ensures ∙ c.if-is_ground-2.true)))

pub returns-then-place-lt61 : goal.returns-then-place-lt61
returns-then-place-lt61 c =
    let bank = c.args.bank.now in
    let h = events_at bank c.args.history.now in
    let f = text_at bank c.args.f in
    recognizer_found h f c.in-Some.place (subst (λ shells. first_from (recognizes_by f) 0 shells ≡ Some c.in-Some.place) (c.shells.ensures.logic bank c.requires.history) (sym c.in-Some.ensures))
