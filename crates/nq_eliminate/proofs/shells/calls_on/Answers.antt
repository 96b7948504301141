use Rattle.std.proofs.Common.{◌≡◌, ◌∙◌, List, sym, ap, ap₂, subst}
use Rattle.std.specs.Prelude.{All}
use Rattle.std.proofs.lemmas.List.{take_all}
use Rattle.nq_logic.specs.Terms.{Name, Term, Function, Applied}
use Rattle.nq_logic.specs.Shells.{accessed}
use Rattle.nq_bank.specs.declared.node.TermId.{TermId}
use Rattle.nq_bank.specs.Content.{Stands, term_at, terms_at, text_at}
use Rattle.nq_bank.specs.Shells.{PartStands, parts_at}
use Rattle.nq_bank.proofs.Growth.{IsNamed-grown, Stands-grown, term_at-grown, terms_at-grown, text_at-grown}
use Rattle.nq_bank.proofs.Standing.{All-push, stand_grown}
use Rattle.nq_kernel.proofs.GrowingLemmas.{WorkGrows-refl, WorkGrows-trans}
use Rattle.nq_moves.proofs.GrownLemmas.{none_stand}
use Rattle.nq_eliminate.proofs.InstanceLemmas.{calls_more, one_stands, part_there}
use Rattle.nq_eliminate.proofs.shells.calls_on.Goals as goal

pub loop-part-init : goal.loop-part-init
loop-part-init c =
    let w = c.args.work.now in
    record {
      grows = WorkGrows-refl c.args.history.now w c.requires.stands;
      stand = subst (All (Stands w.bank)) (sym c.new-calls.ensures.items) (none_stand w.bank);
      calls = ap (terms_at w.bank) c.new-calls.ensures.items;
    }

pub app-requires-clause-function : goal.app-requires-clause-function
app-requires-clause-function c =
    let part = c.part-item.result in
    let old = c.args.work.now.bank in
    IsNamed-grown old c.loop-part.work.bank part.accessor c.loop-part.invariant.grows.bank (part_there old c.args.parts.now c.loop-part.part-index part c.requires.parts c.loop-part-test.true c.part-item.is).accessor

pub app-requires-clause-arguments : goal.app-requires-clause-arguments
app-requires-clause-arguments c = one_stands c.loop-part.work.bank c.args.t (Stands-grown c.args.work.now.bank c.loop-part.work.bank c.args.t c.loop-part.invariant.grows.bank c.requires.term)

pub returns-in_err-call-clause-grows : goal.returns-in_err-call-clause-grows
returns-in_err-call-clause-grows c = WorkGrows-trans c.args.history.now c.args.work.now c.loop-part.work c.app.new.self c.loop-part.invariant.grows c.app.ensures.grows

pub returns-in_err-push_id-clause-grows : goal.returns-in_err-push_id-clause-grows
returns-in_err-push_id-clause-grows c = WorkGrows-trans c.args.history.now c.args.work.now c.loop-part.work c.app.new.self c.loop-part.invariant.grows c.app.ensures.grows

pub loop-part-preserved : goal.loop-part-preserved
loop-part-preserved c =
    let old = c.args.work.now in
    let mid = c.loop-part.work in
    let new = c.app.new.self in
    let i = c.loop-part.part-index in
    let part = c.part-item.result in
    let before = c.loop-part.invariant.grows in
    let after = c.app.ensures.grows in
    let ids : List TermId = c.loop-part.calls.items in
    let stands : PartStands old.bank part = part_there old.bank c.args.parts.now i part c.requires.parts c.loop-part-test.true c.part-item.is in
    let is : term_at new.bank c.in_ok-call.call ≡ Applied (Function (text_at old.bank part.accessor)) (term_at old.bank c.args.t) =
    c.in_ok-call.ensures.call.denotes
    ∙ ap₂ (λ (f : Name) (u : Term). Applied (Function f) u) (text_at-grown old.bank mid.bank part.accessor before.bank stands.accessor) (term_at-grown old.bank mid.bank c.args.t before.bank c.requires.term) in
    record {
      grows = WorkGrows-trans c.args.history.now old mid new before after;
      stand = subst (All (Stands new.bank)) (sym c.in_ok-push_id.ensures.ok) (All-push (Stands new.bank) ids c.in_ok-call.call (stand_grown mid.bank new.bank ids after.bank c.loop-part.invariant.stand) c.in_ok-call.ensures.call.stands);
      calls =
          ap (terms_at new.bank) c.in_ok-push_id.ensures.ok
          ∙ calls_more old.bank mid.bank new.bank (term_at old.bank c.args.t) ids c.in_ok-call.call c.args.parts.now i part c.loop-part-test.true c.part-item.is (terms_at-grown mid.bank new.bank ids after.bank c.loop-part.invariant.stand) c.loop-part.invariant.calls is;
    }

pub returns-clause-calls : goal.returns-clause-calls
returns-clause-calls c =
    let bank = c.args.work.now.bank in
    c.loop-part.invariant.calls ∙ ap (λ ps. accessed (term_at bank c.args.t) (parts_at bank ps)) (take_all c.loop-part.part-index c.args.parts.now c.loop-part-test.false)
