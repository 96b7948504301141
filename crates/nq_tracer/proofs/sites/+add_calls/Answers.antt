use Rattle.std.proofs.Common.{◌++◌, ◌∙◌, List, sym, ap, append-nil}
use Rattle.nq_logic.specs.Admissible.{Call, calls_of}
use Rattle.nq_bank.specs.declared.node.TermId.{TermId}
use Rattle.nq_bank.specs.Content.{text_at, term_at, terms_at}
use Rattle.nq_calls.specs.Calls.{guards_at, sites_at}
use Rattle.nq_tracer.specs.Sites.{beneath}
use Rattle.nq_calls.proofs.CallLemmas.{calls_of-numeral}
use Rattle.nq_tracer.proofs.SiteLemmas.{start_told, step_told, end_told}
use Rattle.nq_tracer.proofs.sites.+add_calls.Goals as goal

pub loop-place-init : goal.loop-place-init
loop-place-init t c =
    let bank = c.args.bank.now in
    record {
      calls = start_told (text_at bank c.args.f) (text_at bank c.in-App.g) (guards_at bank c.args.path.now) (terms_at bank c.args-args.result.now) c.is_ground-choice.result (term_at bank c.args.t) (sites_at bank c.args.sites.now.items) (sites_at bank c.add_own.new.sites.items) c.in-App.ensures.head.1 c.args-args.ensures.parts c.is_ground-choice.ensures c.in_ok-add_own-in-App.ensures.calls;
      stand = c.in_ok-add_own-in-App.ensures.stand;
    }

pub loop-place-preserved : goal.loop-place-preserved
loop-place-preserved t c =
    let bank = c.args.bank.now in
    let first : TermId = record { 0 = 0 } in
    record {
      calls = step_told (text_at bank c.args.f) bank (guards_at bank c.args.path.now) c.is_ground-choice.result c.args-args.result.now c.loop-place.place first (guards_at bank c.as_slice.result.now) (sites_at bank c.loop-place.sites.items) (sites_at bank c.add_calls.new.sites.items) (sites_at bank c.args.sites.now.items ++ beneath (guards_at bank c.args.path.now) (calls_of (text_at bank c.args.f) (term_at bank c.args.t)))
          c.loop-place-test.true (ap (guards_at bank) c.as_slice.ensures.value ∙ c.in_ok-inner-in-App.ensures.tests bank ∙ ap (λ ts. guards_at bank c.args.path.now ++ ts) (c.guard_of_place-guard.ensures.test bank)) c.in_ok-add_calls-in-App.ensures.calls c.loop-place.invariant.calls;
      stand = c.in_ok-add_calls-in-App.ensures.stand;
    }

pub returns-in-Num-clause-calls : goal.returns-in-Num-clause-calls
returns-in-Num-clause-calls t c =
    let bank = c.args.bank.now in
    let f = text_at bank c.args.f in
    sym (append-nil (sites_at bank c.args.sites.now.items)) ∙
    ap (λ (l : List Call). sites_at bank c.args.sites.now.items ++ beneath (guards_at bank c.args.path.now) l) (sym (calls_of-numeral f c.in-Num.field-0 c.requires.apart) ∙ ap (calls_of f) (sym c.in-Num.ensures.head.1))

pub returns-after-loop-place-clause-calls : goal.returns-after-loop-place-clause-calls
returns-after-loop-place-clause-calls t c =
    let bank = c.args.bank.now in
    end_told (text_at bank c.args.f) bank (guards_at bank c.args.path.now) c.is_ground-choice.result c.args-args.result.now c.loop-place.place (sites_at bank c.loop-place.sites.items) (sites_at bank c.args.sites.now.items ++ beneath (guards_at bank c.args.path.now) (calls_of (text_at bank c.args.f) (term_at bank c.args.t)))
    c.loop-place-test.false c.loop-place.invariant.calls
