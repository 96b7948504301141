use Rattle.std.proofs.Common.{◌≡◌, ◌<◌, ◌+◌, ◌++◌, ◌∙◌, ℕ, List, [], ◌∷◌, length, take, sym, ap, refl, subst, arith}
use Rattle.nq_eval.specs.declared.found.Known.{Known}
use Rattle.nq_eval.specs.declared.gathered.Values.{Values}
use Rattle.nq_eval.specs.Gathered.{AreReached}
use Rattle.nq_eval.proofs.FrameLemmas.{length_more, one_more_reached}
use Rattle.nq_eval.proofs.resuming.with_value.Goals as goal

pub returns-clause-gathering : goal.returns-clause-gathering
returns-clause-gathering c =
    let h = c.args.history.now in
    let work = c.args.work.now in
    let r = c.args.request in
    let g = c.args.gathering in
    let k = c.requires.gathering in
    let ids = g.arguments.items in
    let ks : List Known = g.values.known.items in
    let all : List Known = c.push.new.self.items in
    let items : all ≡ ks ++ c.args.known ∷ [] = c.in_ok-push.ensures.items in
    let count : length all ≡ length ks + 1 = ap (λ (js : List Known). length js) items ∙ length_more ks c.args.known in
    let below : length ks < length ids = c.requires.can.0 in
    let values : Values = record { known = c.push.new.self; calls = g.values.calls + c.args.known.calls; nesting = c.max.result } in
    record {
      head = k.head;
      parts = k.parts;
      rooms = k.rooms;
      some = omega (arith, count, below);
      reached = subst (λ (i : ℕ). AreReached h work (take i ids) r.nesting r.calls values) (sym count) (one_more_reached h work ids r.nesting r.calls g.values values c.args.known (record { 0 = 0 }) below k.reached c.requires.known items refl c.max.ensures);
    }
