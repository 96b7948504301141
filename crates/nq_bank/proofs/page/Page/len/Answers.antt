use Rattle.std.proofs.Common.{◌≡◌, ◌∙◌, length, ap, sym, arith}
use Rattle.nq_bank.proofs.PageLemmas.{length-entries}
use Rattle.nq_bank.proofs.page.Page.len.Goals as goal

pub returns : goal.returns
returns c =
    let count : c.len.result ≡ length c.self.inside.records.items = omega (arith, c.len.ensures, c.self.inside.records.ok.0) in
    count ∙ sym (length-entries c.self.inside.words.items 0 c.self.inside.records.items) ∙ ap length c.self.view_is
