use Rattle.std.proofs.Common.{◌≡◌, [], ◌∷◌, ◌++◌, get_or, ◌∙◌, sym, ap, subst, rules}
use Rattle.std.specs.Prelude.{All}
use Rattle.nq_logic.specs.Words.{numeral}
use Rattle.nq_bank.specs.declared.node.TermId.{TermId}
use Rattle.nq_bank.specs.Content.{Content, term_at, terms_at, Stands, IsIdOf, Grows}
use Rattle.nq_bank.proofs.Standing.{stand_grown, All-push}
use Rattle.nq_kernel.proofs.GrowingLemmas.{WorkGrows-refl, WorkGrows-trans}
use Rattle.nq_goals.specs.Replacing.{exchanged}
use Rattle.nq_moves.specs.Exchanging.{exchange_at, HasImages}
use Rattle.nq_moves.proofs.GrownLemmas.{none_stand}
use Rattle.nq_moves.proofs.ImageLemmas.{exchange_grown, exchange_stands_grown, image_step}
use Rattle.nq_moves.proofs.exchanging.exchange_all.Goals as goal

pub loop-t-init : goal.loop-t-init
loop-t-init c =
    record {
      grows = WorkGrows-refl c.args.history.now c.args.work.now c.requires.stands;
      stand = subst (All (Stands c.args.work.now.bank)) (sym c.new-parts.ensures.items) (none_stand c.args.work.now.bank);
      ids = search rules;
      done = ap (terms_at c.args.work.now.bank) c.new-parts.ensures.items;
    }

pub exchange_within-requires-clause-exchange : goal.exchange_within-requires-clause-exchange
exchange_within-requires-clause-exchange c = exchange_stands_grown c.args.work.now.bank c.loop-t.work.bank c.args.exchange.now c.loop-t.invariant.grows.bank c.requires.exchange

pub exchange_within-requires-clause-numerals : goal.exchange_within-requires-clause-numerals
exchange_within-requires-clause-numerals c = λ n small. ap (λ es. exchanged es (numeral n)) (exchange_grown c.args.work.now.bank c.loop-t.work.bank c.args.exchange.now c.loop-t.invariant.grows.bank c.requires.exchange) ∙ c.requires.numerals n small

pub exchange_within-requires-clause-ids : goal.exchange_within-requires-clause-ids
exchange_within-requires-clause-ids c = subst (λ es. HasImages c.loop-t.work.bank (exchanged es) c.loop-t.known) (sym (exchange_grown c.args.work.now.bank c.loop-t.work.bank c.args.exchange.now c.loop-t.invariant.grows.bank c.requires.exchange)) c.loop-t.invariant.ids

pub returns-in_err-part-clause-grows : goal.returns-in_err-part-clause-grows
returns-in_err-part-clause-grows c = WorkGrows-trans c.args.history.now c.args.work.now c.loop-t.work c.exchange_within.new.work c.loop-t.invariant.grows c.exchange_within.ensures.grows

pub returns-in_err-push_id-clause-grows : goal.returns-in_err-push_id-clause-grows
returns-in_err-push_id-clause-grows c = WorkGrows-trans c.args.history.now c.args.work.now c.loop-t.work c.exchange_within.new.work c.loop-t.invariant.grows c.exchange_within.ensures.grows

pub loop-t-preserved : goal.loop-t-preserved
loop-t-preserved c =
    let first : TermId = record { 0 = 0 } in
    let bank : Content = c.loop-t.work.bank in
    let new : Content = c.exchange_within.new.work.bank in
    let part : TermId = c.in_ok-part.part in
    let before : Grows c.args.work.now.bank bank = c.loop-t.invariant.grows.bank in
    let after : Grows bank new = c.exchange_within.ensures.grows.bank in
    let same = exchange_grown c.args.work.now.bank bank c.args.exchange.now before c.requires.exchange in
    let parts : c.push_id.new.ids.items ≡ c.loop-t.parts.items ++ part ∷ [] = c.in_ok-push_id.ensures.ok in
    let id : IsIdOf new part (exchanged (exchange_at c.args.work.now.bank c.args.exchange.now) (term_at bank (get_or c.args.terms.now c.loop-t.t-index first))) =
    subst (λ es. IsIdOf new part (exchanged es (term_at bank (get_or c.args.terms.now c.loop-t.t-index first)))) same c.in_ok-part.ensures.ok in
    record {
      grows = WorkGrows-trans c.args.history.now c.args.work.now c.loop-t.work c.exchange_within.new.work c.loop-t.invariant.grows c.exchange_within.ensures.grows;
      stand = subst (All (Stands new)) (sym parts) (All-push (Stands new) c.loop-t.parts.items part (stand_grown bank new c.loop-t.parts.items after c.loop-t.invariant.stand) c.in_ok-part.ensures.ok.stands);
      ids = subst (λ es. HasImages new (exchanged es) c.exchange_within.new.known) same c.in_ok-part.ensures.ids;
      done = ap (terms_at new) parts ∙ image_step c.args.work.now.bank bank new (exchanged (exchange_at c.args.work.now.bank c.args.exchange.now)) c.args.terms.now c.loop-t.parts.items c.loop-t.t-index first part before after c.loop-t.invariant.stand c.requires.terms c.loop-t-test.true c.loop-t.invariant.done id;
    }
