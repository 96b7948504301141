use Rattle.std.proofs.Common.{List, ap, subst, sym, ◌∙◌, ℕ}
use Rattle.std.specs.Prelude.{All}
use Rattle.nq_bank.specs.Content.{Content}
use Rattle.nq_bank.specs.Marks.{released}
use Rattle.nq_history.specs.Events.{events_at}
use Rattle.nq_kernel.specs.Ready.{IsReady}
use Rattle.nq_measures.specs.Admitting.{IsNewFunction}
use Rattle.nq_measures.specs.Trials.{IsTrial}
use Rattle.nq_run.specs.Outcome.{AreBlocks}
use Rattle.nq_run.specs.Recursions.{kept_claims}
use Rattle.nq_run.proofs.ProvingLemmas.{given_back_is, no_line_holds, symbols_kept}
use Rattle.nq_run.proofs.RecursionLemmas.{block_is, closes_if, kept_is, left_if, names_later, new_function, stands_if, trials, trials_if}
use Rattle.nq_measures.proofs.LeftLemmas.{none_weaker}
use Rattle.nq_comment.specs.declared.answer.Trial.{Trial}
use Rattle.nq_comment.specs.ReportViews.{trials_of}
use Rattle.std.specs.declared.vec.Vec.{Vec}
use Rattle.std.specs.declared.alloc.Global.{Global}
use Rattle.nq_run.proofs.recursions.try_recursion.Goals as goal

pub find_measure-requires-clause-ready : goal.find_measure-requires-clause-ready
find_measure-requires-clause-ready g c = subst (λ (b : Content). IsReady (events_at b c.args.history.now)) (sym c.new-work.ensures.bank) c.requires.ready

-- no line stands yet
pub find_measure-requires-clause-holds : goal.find_measure-requires-clause-holds
find_measure-requires-clause-holds g c = no_line_holds c.args.history.now c.new-work.result (c.new-work.ensures.log ∙ c.new.ensures)

pub find_measure-requires-clause-function : goal.find_measure-requires-clause-function
find_measure-requires-clause-function g c =
    let r = c.args.recursion in
    subst (λ (b : Content). IsNewFunction c.args.history.now b r.name r.formals.now r.body) (sym c.new-work.ensures.bank)
    (new_function c.args.bank c.args.history.now r.name r.formals.now r.body c.args.tried.now c.requires.triable)

pub find_measure-requires-clause-trials : goal.find_measure-requires-clause-trials
find_measure-requires-clause-trials g c =
    let r = c.args.recursion in
    subst (λ (b : Content). All (IsTrial c.args.history.now b r.name r.formals.now) c.args.tried.now) (sym c.new-work.ensures.bank)
    (trials c.args.bank c.args.history.now r.name r.formals.now r.body c.args.tried.now c.requires.triable)

pub recursion_by-requires-clause-symbols : goal.recursion_by-requires-clause-symbols
recursion_by-requires-clause-symbols g c =
    let r = c.args.recursion in
    symbols_kept c.args.bank c.new-work.result.bank c.find_measure.new.work.bank c.args.history.now r.name r.body c.requires.history c.requires.triable.function.named c.requires.triable.function.stands
    c.new-work.ensures.bank c.find_measure.ensures.grows.bank c.requires.symbols

pub recursion_by-requires-clause-names : goal.recursion_by-requires-clause-names
recursion_by-requires-clause-names g c =
    let r = c.args.recursion in
    names_later c.args.bank c.args.history.now r.name r.formals.now r.body c.args.tried.now c.requires.triable c.new-work.result.bank c.find_measure.new.work c.requires.history c.new-work.ensures.bank
    c.find_measure.ensures.grows.bank

pub recursion_by-requires-clause-measure : goal.recursion_by-requires-clause-measure
recursion_by-requires-clause-measure g c =
    let r = c.args.recursion in
    stands_if c.args.bank c.args.history.now r.name r.formals.now r.body c.args.tried.now c.requires.triable c.new-work.result.bank c.find_measure.new.work c.requires.history c.new-work.ensures.bank
    c.find_measure.ensures.grows.bank c.in_ok-measured.measured.found c.in_ok-measured.ensures.found

pub recursion_by-requires-clause-closes : goal.recursion_by-requires-clause-closes
recursion_by-requires-clause-closes g c =
    let r = c.args.recursion in
    closes_if c.args.bank c.args.history.now r.name r.formals.now r.body c.args.tried.now c.requires.triable c.new-work.result.bank c.find_measure.new.work c.requires.history c.new-work.ensures.bank
    c.find_measure.ensures.grows.bank c.in_ok-measured.measured.found c.in_ok-measured.ensures.found

pub recursion_by-requires-clause-left : goal.recursion_by-requires-clause-left
recursion_by-requires-clause-left g c =
    let r = c.args.recursion in
    left_if c.args.bank c.args.history.now r.name r.formals.now r.body c.args.tried.now c.requires.triable c.new-work.result.bank c.find_measure.new.work c.requires.history c.new-work.ensures.bank
    c.find_measure.ensures.grows.bank c.in_ok-measured.measured.found c.in_ok-measured.measured.left.items c.in_ok-measured.ensures.left

pub returns-clause-sought : goal.returns-clause-sought
returns-clause-sought g c =
    let r = c.args.recursion in
    let bank = c.args.bank in
    let h = c.args.history.now in
    let tried = c.args.tried.now in
    let sought = c.in_ok-sought.sought in
    let back = c.returned.ensures in
    let begun = c.new-work.result.bank in
    let work = c.find_measure.new.work in
    let kept = back.kept ∙ c.in_ok-sought.ensures.kept in
    let grows = c.find_measure.ensures.grows.bank in
    record {
      same = back.bank ∙ ap (λ (b : Content). released b c.mark-mark.result) c.in_ok-sought.ensures.bank
          ∙ given_back_is bank begun work.bank h r.name r.body c.requires.history c.requires.triable.function.named c.requires.triable.function.stands c.new-work.ensures.bank grows c.mark-mark.result c.mark-mark.ensures;
      kept = kept_is bank h r.name r.formals.now r.body tried c.requires.triable begun work c.requires.history c.new-work.ensures.bank grows c.in_ok-measured.measured.found c.returned.result.kept kept
          c.in_ok-measured.ensures.found c.find_measure.ensures.holds c.admitting_is_measure.ensures;
      told = trials_if bank h r.name r.formals.now r.body tried c.requires.triable begun work c.requires.history c.new-work.ensures.bank grows c.in_ok-measured.measured.found c.returned.result.kept c.in_ok-measured.measured.left.items
          (trials_of c.returned.result.trials.items) kept c.in_ok-measured.ensures.left
          (none_weaker c.in_ok-measured.measured.found _ _ (λ are. ap (λ (ts : Vec Trial Global). trials_of ts.items) back.trials ∙ are) c.in_ok-sought.ensures.trials) c.find_measure.ensures.holds;
      written = λ on.
          subst (λ (text : List ℕ). AreBlocks (events_at bank h) (kept_claims bank r.name r.formals.now r.body c.returned.result.kept) text) (sym back.block)
          (block_is bank h r.name r.formals.now r.body tried c.requires.triable begun work c.requires.history c.new-work.ensures.bank grows c.in_ok-measured.measured.found c.returned.result.kept sought.block kept
          c.in_ok-measured.ensures.found (c.in_ok-sought.ensures.written on));
    }
