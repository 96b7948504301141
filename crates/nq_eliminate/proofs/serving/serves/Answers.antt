use Rattle.std.proofs.Common.{◌≡◌, true, false}
use Rattle.nq_bank.specs.Content.{term_at, terms_at, text_at}
use Rattle.nq_logic.specs.Values.{is_value}
use Rattle.nq_goals.specs.Replacing.{stands_in_one}
use Rattle.nq_rule.proofs.Made.{for_ok}
use Rattle.nq_eliminate.specs.Serving.{IsServed, ServesNone}
use Rattle.nq_eliminate.proofs.ServingLemmas.{not_standing}
use Rattle.nq_eliminate.proofs.serving.serves.Goals as goal

pub returns-then-may_serve-clause-yes : goal.returns-then-may_serve-clause-yes
returns-then-may_serve-clause-yes c =
    let bank = c.args.bank.now in
    let x = text_at bank c.args.rule.name in
    let g = terms_at bank c.args.goal.now in
    let ds = terms_at bank c.args.destructors.now in
    let d = term_at bank c.args.d in
    let u = term_at bank c.args.u in
    for_ok c.stands_in_goal.result (λ b. b ≡ true → stands_in_one u g ≡ true) (λ b. b ≡ true → IsServed x g ds d u) (λ b told holds. record { may = c.may_serve.ensures.yes c.if-may_serve.true; stands = told holds }) c.stands_in_goal.ensures.yes

pub returns-then-may_serve-clause-no : goal.returns-then-may_serve-clause-no
returns-then-may_serve-clause-no c =
    let bank = c.args.bank.now in
    let x = text_at bank c.args.rule.name in
    let g = terms_at bank c.args.goal.now in
    let ds = terms_at bank c.args.destructors.now in
    let d = term_at bank c.args.d in
    let u = term_at bank c.args.u in
    for_ok c.stands_in_goal.result (λ b. b ≡ false → is_value u ≡ false → stands_in_one u g ≡ false) (λ b. b ≡ false → ServesNone x g ds d u) (λ b told fails. not_standing x g ds d u (told fails)) c.stands_in_goal.ensures.no

pub returns-else-may_serve-clause-no : goal.returns-else-may_serve-clause-no
returns-else-may_serve-clause-no c =
    let bank = c.args.bank.now in
    λ fails. c.may_serve.ensures.no c.if-may_serve.false (terms_at bank c.args.goal.now)
