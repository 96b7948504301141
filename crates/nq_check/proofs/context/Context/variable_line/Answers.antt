use Rattle.std.proofs.Common.{List, ℕ, sym, ap, ◌∙◌}
use Rattle.nq_logic.specs.Terms.{Variable}
use Rattle.nq_bank.proofs.Growth.{Grows-trans}
use Rattle.nq_check.proofs.ContextLemmas.{variable_goes_on}
use Rattle.nq_check.proofs.context.Context.variable_line.Goals as goal

pub returns : goal.returns
returns c =
    variable_goes_on c.args.self.now c.var.new.self _ c.args.variable.now c.in_ok-t.t (sym c.is_constant.ensures ∙ c.if-is_constant.false) c.requires
    (Grows-trans c.args.self.now.bank c.name.new.self c.var.new.self c.in_ok-s.ensures.ok.grows c.in_ok-t.ensures.ok.grows)
    (record { stands = c.in_ok-t.ensures.ok.id.stands; denotes = c.in_ok-t.ensures.ok.id.denotes ∙ ap (λ (x : List ℕ). Variable x) c.in_ok-s.ensures.ok.reads })
    c.in_ok-push.ensures.items
