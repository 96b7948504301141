use Rattle.std.proofs.Common.{[], ◌∷◌, ◌++◌, sym, ap, ◌∙◌}
use Rattle.nq_bank.specs.Content.{terms_at}
use Rattle.nq_event.proofs.DefinitionLemmas.{arguments_zero, arguments_more}
use Rattle.nq_event.proofs.inductions.arguments_of_numeral.Goals as goal

pub returns-then-n-eq0-clause-are : goal.returns-then-n-eq0-clause-are
returns-then-n-eq0-clause-are c = ap (terms_at c.args.bank.now) c.new.ensures.items ∙ sym (arguments_zero c.args.n c.if-n-eq0.true)

pub returns-clause-are : goal.returns-clause-are
returns-clause-are c =
    ap (terms_at c.num.new.self) (c.in_ok-push.ensures.items ∙ ap (λ xs. xs ++ c.in_ok-less.less ∷ []) c.new-arguments.ensures.items) ∙
    ap (λ t. t ∷ []) c.in_ok-less.ensures.ok.id.denotes ∙ sym (arguments_more c.args.n c.if-n-eq0.false)
