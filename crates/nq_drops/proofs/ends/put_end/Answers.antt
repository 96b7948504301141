use Rattle.std.proofs.Common.{◌≡◌, ℕ, List, ◌<◌, get_or, length, rules}
use Rattle.std.proofs.lemmas.Bool.{le-leb}
use Rattle.std.specs.Prelude.{Vec}
use Rattle.std.specs.declared.alloc.Global.{Global}
use Rattle.nq_drops.proofs.EndLemmas.{put_at}
use Rattle.nq_drops.proofs.ends.put_end.Goals as goal

pub returns-in_ok-push-clause-put : goal.returns-in_ok-push-clause-put
returns-in_ok-push-clause-put c =
    let within : c.args.n < length c.args.ends.now.items = search rules in
    let old : c.index_mut.result.now ≡ get_or c.args.ends.now.items c.args.n c.index_mut.result.now = search rules in
    let items : Vec ℕ Global → List ℕ = λ ls. ls.items in
    put_at items c.args.ends.now.items c.args.n c.args.line c.push.new.self c.index_mut.result.now (le-leb c.args.line c.args.n c.if-line-n.true) within old c.in_ok-push.ensures.items
