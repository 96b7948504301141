use Rattle.std.proofs.Common.{Some, subst}
use Rattle.std.specs.Prelude.{nat_eq}
use Rattle.std.specs.HashMap.{Updates}
use Rattle.nq_eval.specs.Known.{IsReached, Knows}
use Rattle.nq_eval.specs.Frames.{IsFoundAt}
use Rattle.nq_eval.proofs.KnownLemmas.{knows_kept}
use Rattle.nq_eval.proofs.FrameLemmas.{on_ok}
use Rattle.nq_eval.proofs.evaluation.keep_found.Goals as goal

pub returns-in-Value : goal.returns-in-Value
returns-in-Value c =
    let h = c.args.history.now in
    let work = c.args.work.now in
    let r = c.args.request in
    let known = c.in-Value.known in
    let reached : IsReached h work r.term r.nesting r.calls known = subst (IsFoundAt h work r) c.in-Value.is c.requires.found in
    on_ok c.keep.result (Updates nat_eq c.args.memo.now c.keep.new.memo r.term.0 (Some known)) (Knows h work c.keep.new.memo) (λ kept. knows_kept h work c.args.memo.now c.keep.new.memo r.term known c.requires.knows kept c.requires.term reached.known) c.keep.ensures
