use Rattle.std.proofs.Common.{◌≡◌, ◌<◌, [], ◌∷◌, ◌++◌, get_or, sym, ap, subst, ◌∙◌, arith, rules}
use Rattle.std.specs.Prelude.{All}
use Rattle.nq_logic.specs.Words.{numeral}
use Rattle.nq_bank.specs.declared.node.TermId.{TermId}
use Rattle.nq_bank.specs.Content.{Content, term_at, terms_at, Stands, IsIdOf, Grows}
use Rattle.nq_bank.proofs.Growth.{Grows-trans, Stands-grown, term_at-grown}
use Rattle.nq_bank.proofs.Standing.{stand_grown, All-push}
use Rattle.nq_clause.proofs.SubstitutionLemmas.{arguments_stand}
use Rattle.nq_kernel.proofs.GrowingLemmas.{WorkGrows-refl, WorkGrows-trans}
use Rattle.nq_goals.specs.Replacing.{exchanged, exchanged_within}
use Rattle.nq_moves.specs.Exchanging.{exchange_at, HasImages, Stays, StandsFor}
use Rattle.nq_moves.proofs.GrownLemmas.{none_stand}
use Rattle.nq_moves.proofs.ImageLemmas.{exchange_grown, exchange_stands_grown, images_grown, images_kept, image_step, image_call, stays_as, stands_as}
use Rattle.nq_moves.proofs.exchanging.+exchange_within.Goals as goal

pub loop-a-init : goal.loop-a-init
loop-a-init t c =
    record { grows = WorkGrows-refl c.args.history.now c.args.work.now c.requires.stands; stand = subst (All (Stands c.args.work.now.bank)) (sym c.new-parts.ensures.items) (none_stand c.args.work.now.bank); ids = c.requires.ids; done = ap (terms_at c.args.work.now.bank) c.new-parts.ensures.items }

pub returns-in_err-arguments-in-None-clause-grows : goal.returns-in_err-arguments-in-None-clause-grows
returns-in_err-arguments-in-None-clause-grows t c =
    WorkGrows-refl c.args.history.now c.args.work.now c.requires.stands

pub exchange_within-requires : goal.exchange_within-requires
exchange_within-requires t c =
    let first : TermId = record { 0 = 0 } in
    let now : Content = c.loop-a.work.bank in
    let same = exchange_grown c.args.work.now.bank now c.args.exchange.now c.loop-a.invariant.grows.bank c.requires.exchange in
    let a : TermId = get_or c.deref-a-items.result.now c.loop-a.a-index first in
    let told : All (λ x. x.0 < c.args.t.0) c.deref-a-items.result.now = subst (All (λ x. x.0 < c.args.t.0)) (sym (c.deref-a-items.ensures.value ∙ c.in_ok-arguments-in-None.ensures.ok)) c.args-in-None.ensures.earlier in
    let earlier : a.0 < c.args.t.0 = told c.loop-a.a-index first c.loop-a-test.true in
    let stands : Stands c.args.work.now.bank a = omega (arith, earlier, c.requires.term) in (
      search rules,
      (
        c.loop-a.invariant.grows.stands,
        (
          Stands-grown c.args.work.now.bank now a c.loop-a.invariant.grows.bank stands,
          (
            exchange_stands_grown c.args.work.now.bank now c.args.exchange.now c.loop-a.invariant.grows.bank c.requires.exchange,
            (
              λ n small. ap (λ es. exchanged es (numeral n)) same ∙ c.requires.numerals n small,
              subst (λ es. HasImages now (exchanged es) c.loop-a.known) (sym same) c.loop-a.invariant.ids,
            ),
          ),
        ),
      ),
    )

pub returns-in_err-part-in-None-clause-grows : goal.returns-in_err-part-in-None-clause-grows
returns-in_err-part-in-None-clause-grows t c =
    WorkGrows-trans c.args.history.now c.args.work.now c.loop-a.work c.exchange_within.new.work c.loop-a.invariant.grows c.exchange_within.ensures.grows

pub returns-in_err-push_id-in-None-clause-grows : goal.returns-in_err-push_id-in-None-clause-grows
returns-in_err-push_id-in-None-clause-grows t c =
    WorkGrows-trans c.args.history.now c.args.work.now c.loop-a.work c.exchange_within.new.work c.loop-a.invariant.grows c.exchange_within.ensures.grows

pub loop-a-preserved : goal.loop-a-preserved
loop-a-preserved t c =
    let first : TermId = record { 0 = 0 } in
    let bank : Content = c.loop-a.work.bank in
    let new : Content = c.exchange_within.new.work.bank in
    let part : TermId = c.in_ok-part-in-None.part in
    let before : Grows c.args.work.now.bank bank = c.loop-a.invariant.grows.bank in
    let after : Grows bank new = c.exchange_within.ensures.grows.bank in
    let same = exchange_grown c.args.work.now.bank bank c.args.exchange.now before c.requires.exchange in
    let parts : c.push_id.new.ids.items ≡ c.loop-a.parts.items ++ part ∷ [] = c.in_ok-push_id-in-None.ensures.ok in
    let arguments = arguments_stand c.args.work.now.bank c.args.t c.args-in-None.result.now c.in_ok-arguments-in-None.arguments.items c.deref-a-items.result.now c.requires.term c.args-in-None.ensures.earlier c.in_ok-arguments-in-None.ensures.ok c.deref-a-items.ensures.value in
    let id : IsIdOf new part (exchanged (exchange_at c.args.work.now.bank c.args.exchange.now) (term_at bank (get_or c.deref-a-items.result.now c.loop-a.a-index first))) = subst (λ es. IsIdOf new part (exchanged es (term_at bank (get_or c.deref-a-items.result.now c.loop-a.a-index first)))) same c.in_ok-part-in-None.ensures.ok in
    record {
      grows = WorkGrows-trans c.args.history.now c.args.work.now c.loop-a.work c.exchange_within.new.work c.loop-a.invariant.grows c.exchange_within.ensures.grows;
      stand = subst (All (Stands new)) (sym parts) (All-push (Stands new) c.loop-a.parts.items part (stand_grown bank new c.loop-a.parts.items after c.loop-a.invariant.stand) c.in_ok-part-in-None.ensures.ok.stands);
      ids = subst (λ es. HasImages new (exchanged es) c.exchange_within.new.known) same c.in_ok-part-in-None.ensures.ids;
      done = ap (terms_at new) parts ∙ image_step c.args.work.now.bank bank new (exchanged (exchange_at c.args.work.now.bank c.args.exchange.now)) c.deref-a-items.result.now c.loop-a.parts.items c.loop-a.a-index first part before after c.loop-a.invariant.stand arguments c.loop-a-test.true c.loop-a.invariant.done id;
    }

pub returns-in_err-r-in-None-clause-grows : goal.returns-in_err-r-in-None-clause-grows
returns-in_err-r-in-None-clause-grows t c =
    WorkGrows-trans c.args.history.now c.args.work.now c.loop-a.work c.app.new.self c.loop-a.invariant.grows c.app.ensures.grows

pub returns-in_err-keep_id-in-None-clause-grows : goal.returns-in_err-keep_id-in-None-clause-grows
returns-in_err-keep_id-in-None-clause-grows t c =
    WorkGrows-trans c.args.history.now c.args.work.now c.loop-a.work c.app.new.self c.loop-a.invariant.grows c.app.ensures.grows

pub returns-in-Var-clause-ok : goal.returns-in-Var-clause-ok
returns-in-Var-clause-ok t c =
    record { stands = c.requires.term; denotes = c.in-Var.ensures.head.1 ∙ sym (stays_as (Stays c.args.work.now.bank c.args.exchange.now c.args.t) (StandsFor c.args.work.now.bank c.args.exchange.now c.args.t) c.replacing.result c.replacing.ensures c.in_default.is (exchanged_within (exchange_at c.args.work.now.bank c.args.exchange.now) (term_at c.args.work.now.bank c.args.t)) ∙ ap (exchanged_within (exchange_at c.args.work.now.bank c.args.exchange.now)) c.in-Var.ensures.head.1) }

pub returns-in-Var-clause-grows : goal.returns-in-Var-clause-grows
returns-in-Var-clause-grows t c =
    WorkGrows-refl c.args.history.now c.args.work.now c.requires.stands

pub returns-in-Num-clause-ok : goal.returns-in-Num-clause-ok
returns-in-Num-clause-ok t c =
    record { stands = c.requires.term; denotes = c.in-Num.ensures.head.1 ∙ sym (ap (exchanged (exchange_at c.args.work.now.bank c.args.exchange.now)) c.in-Num.ensures.head.1 ∙ c.requires.numerals c.in-Num.field-0 c.in-Num.ensures.head.0) }

pub returns-in-Num-clause-grows : goal.returns-in-Num-clause-grows
returns-in-Num-clause-grows t c =
    WorkGrows-refl c.args.history.now c.args.work.now c.requires.stands

pub returns-in-Some-clause-ok : goal.returns-in-Some-clause-ok
returns-in-Some-clause-ok t c =
    let found = stands_as (Stays c.args.work.now.bank c.args.exchange.now c.args.t) (StandsFor c.args.work.now.bank c.args.exchange.now c.args.t) c.replacing.result c.in-Some.id c.replacing.ensures c.in-Some.is in record { stands = found.stands; denotes = sym (found.is (exchanged_within (exchange_at c.args.work.now.bank c.args.exchange.now) (term_at c.args.work.now.bank c.args.t))) }

pub returns-in-Some-clause-grows : goal.returns-in-Some-clause-grows
returns-in-Some-clause-grows t c =
    WorkGrows-refl c.args.history.now c.args.work.now c.requires.stands

pub returns-in-Some-known_id-clause-ok : goal.returns-in-Some-known_id-clause-ok
returns-in-Some-known_id-clause-ok t c =
    c.requires.ids.right c.args.t c.in-Some-known_id.r (sym c.known_id.ensures ∙ c.in-Some-known_id.is)

pub returns-in-Some-known_id-clause-grows : goal.returns-in-Some-known_id-clause-grows
returns-in-Some-known_id-clause-grows t c =
    WorkGrows-refl c.args.history.now c.args.work.now c.requires.stands

pub returns-in_ok-keep_id-in-None-clause-ok : goal.returns-in_ok-keep_id-in-None-clause-ok
returns-in_ok-keep_id-in-None-clause-ok t c =
    subst (IsIdOf c.app.new.self.bank c.in_ok-r-in-None.r) (image_call (exchange_at c.args.work.now.bank c.args.exchange.now) c.args.work.now.bank c.loop-a.work.bank (term_at c.args.work.now.bank c.args.t) c.in-App.f c.args-in-None.result.now c.deref-a-items.result.now c.loop-a.parts.items c.as_slice.result.now c.loop-a.a-index c.loop-a.invariant.grows.bank c.in-App.ensures.head.0 c.in-App.ensures.head.1 c.args-in-None.ensures.parts (c.deref-a-items.ensures.value ∙ c.in_ok-arguments-in-None.ensures.ok) c.loop-a-test.false c.loop-a.invariant.done c.as_slice.ensures.value (stays_as (Stays c.args.work.now.bank c.args.exchange.now c.args.t) (StandsFor c.args.work.now.bank c.args.exchange.now c.args.t) c.replacing.result c.replacing.ensures c.in_default.is (exchanged_within (exchange_at c.args.work.now.bank c.args.exchange.now) (term_at c.args.work.now.bank c.args.t)))) c.in_ok-r-in-None.ensures.call

pub returns-in_ok-keep_id-in-None-clause-ids : goal.returns-in_ok-keep_id-in-None-clause-ids
returns-in_ok-keep_id-in-None-clause-ids t c =
    let bank : Content = c.loop-a.work.bank in
    let new : Content = c.app.new.self.bank in
    let after : Grows bank new = c.app.ensures.grows.bank in
    let grows = Grows-trans c.args.work.now.bank bank new c.loop-a.invariant.grows.bank after in
    let id = subst (IsIdOf new c.in_ok-r-in-None.r) ((image_call (exchange_at c.args.work.now.bank c.args.exchange.now) c.args.work.now.bank c.loop-a.work.bank (term_at c.args.work.now.bank c.args.t) c.in-App.f c.args-in-None.result.now c.deref-a-items.result.now c.loop-a.parts.items c.as_slice.result.now c.loop-a.a-index c.loop-a.invariant.grows.bank c.in-App.ensures.head.0 c.in-App.ensures.head.1 c.args-in-None.ensures.parts (c.deref-a-items.ensures.value ∙ c.in_ok-arguments-in-None.ensures.ok) c.loop-a-test.false c.loop-a.invariant.done c.as_slice.ensures.value (stays_as (Stays c.args.work.now.bank c.args.exchange.now c.args.t) (StandsFor c.args.work.now.bank c.args.exchange.now c.args.t) c.replacing.result c.replacing.ensures c.in_default.is (exchanged_within (exchange_at c.args.work.now.bank c.args.exchange.now) (term_at c.args.work.now.bank c.args.t)))) ∙ ap (exchanged (exchange_at c.args.work.now.bank c.args.exchange.now)) (sym (term_at-grown c.args.work.now.bank new c.args.t grows c.requires.term))) c.in_ok-r-in-None.ensures.call in
    images_kept new (exchanged (exchange_at c.args.work.now.bank c.args.exchange.now)) c.loop-a.known c.keep_id.new.known c.args.t c.in_ok-r-in-None.r (images_grown bank new (exchanged (exchange_at c.args.work.now.bank c.args.exchange.now)) c.loop-a.known after c.loop-a.invariant.ids) c.in_ok-keep_id-in-None.ensures.ok (Stands-grown c.args.work.now.bank new c.args.t grows c.requires.term) id

pub returns-in_ok-keep_id-in-None-clause-grows : goal.returns-in_ok-keep_id-in-None-clause-grows
returns-in_ok-keep_id-in-None-clause-grows t c =
    WorkGrows-trans c.args.history.now c.args.work.now c.loop-a.work c.app.new.self c.loop-a.invariant.grows c.app.ensures.grows
