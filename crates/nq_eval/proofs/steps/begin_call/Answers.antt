use Rattle.std.proofs.Common.{◌≡◌, ◌≤◌, ◌+◌, ◌-◌, List, length, drop, sym, ap, refl, subst, arith}
use Rattle.nq_logic.specs.Terms.{call}
use Rattle.nq_bank.specs.declared.node.TermId.{TermId}
use Rattle.nq_bank.specs.Content.{term_at, terms_at, text_at}
use Rattle.nq_bank.specs.Parts.{parts_of}
use Rattle.nq_eval.specs.declared.found.Known.{Known}
use Rattle.nq_eval.specs.Weights.{term_weight, terms_weight, gathering_weight}
use Rattle.nq_eval.specs.declared.frames.Gathering.{Gathering}
use Rattle.nq_eval.proofs.LineLemmas.{grown_refl}
use Rattle.nq_eval.proofs.FrameLemmas.{none_reached}
use Rattle.nq_eval.proofs.WeightLemmas.{call_weight, lead_less_ok}
use Rattle.nq_eval.proofs.steps.begin_call.Goals as goal

pub returns-in_err-arguments-clause-grows : goal.returns-in_err-arguments-clause-grows
returns-in_err-arguments-clause-grows c = grown_refl c.args.history.now c.args.work.now c.requires.stands

pub gather-requires-clause-gathering : goal.gather-requires-clause-gathering
gather-requires-clause-gathering c =
    let empty = c.new.ensures.items in
    record {
      head = c.requires.head;
      parts = c.in_ok-arguments.ensures.arguments;
      rooms = c.in_ok-arguments.ensures.room;
      some = subst (λ (ks : List Known). length ks ≤ length c.in_ok-arguments.arguments.items) (sym empty) (omega arith);
      reached = none_reached c.args.history.now c.args.work.now c.in_ok-arguments.arguments.items c.args.request.nesting c.args.request.calls (record { known = c.new.result; calls = 0; nesting = 0 }) empty refl refl;
    }

pub returns-clause-step : goal.returns-clause-step
returns-clause-step c =
    let bank = c.args.work.now.bank in
    let t = term_at bank c.args.request.term in
    let ids : List TermId = c.in_ok-arguments.arguments.items in
    let g : Gathering = record { function = c.args.f; arguments = c.in_ok-arguments.arguments; values = record { known = c.new.result; calls = 0; nesting = 0 } } in
    let all : gathering_weight bank g ≡ terms_weight (terms_at bank ids) + 2 = ap (λ (ks : List Known). terms_weight (terms_at bank (drop (length ks) ids)) + 2) c.new.ensures.items in
    let same : terms_weight (terms_at bank ids) ≡ terms_weight (parts_of t) = ap terms_weight c.in_ok-arguments.ensures.arguments in
    let whole : term_weight t ≡ term_weight (call (text_at bank c.args.f) (parts_of t)) = ap term_weight c.requires.head.is in
    let more : terms_weight (parts_of t) + 2 ≤ term_weight (call (text_at bank c.args.f) (parts_of t)) = call_weight (text_at bank c.args.f) (parts_of t) in
    lead_less_ok c.args.history.now c.gather.new.work c.args.request (gathering_weight bank g) (term_weight t) (c.args.request.calls - 0) c.args.request.calls c.gather.result (omega (arith, all, same, whole, more)) (omega arith) c.gather.ensures.step
