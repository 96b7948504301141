use Rattle.std.proofs.Common.{◌<◌, ◌-◌, arith, length, get_or, take, drop, sym, subst}
use Rattle.nq_bank.specs.declared.node.TermId.{TermId}
use Rattle.nq_bank.specs.Content.{term_at, terms_at}
use Rattle.nq_history.specs.Events.{events_at}
use Rattle.nq_goals.specs.Spent.{IsGround}
use Rattle.nq_eval.proofs.LineLemmas.{grown_refl, grown_trans}
use Rattle.nq_ground_goals.proofs.FalseLemmas.{ground_parts, first_is, rest_shorter, rest_told, ready_grown, literals_grown, rest_same, false_back}
use Rattle.nq_ground_goals.proofs.goal.+are_false.Goals as goal

pub is_false_literal-requires-clause-no_variable : goal.is_false_literal-requires-clause-no_variable
is_false_literal-requires-clause-no_variable t c =
    let d : TermId = record { 0 = 0 } in
    let bank = c.args.work.now.bank in
    let goal_ids = c.args.goal.now in
    (ground_parts (term_at bank (get_or goal_ids 0 d)) (terms_at bank (take (length goal_ids - 1) (drop 1 goal_ids))) (subst IsGround (first_is bank goal_ids d c.in-len1-up.len_at_least) c.requires.without)).0

pub are_false-requires : goal.are_false-requires
are_false-requires t c =
    let d : TermId = record { 0 = 0 } in
    let h = c.args.history.now in
    let bank = c.args.work.now.bank in
    let middle = c.is_false_literal.new.work.bank in
    let grows = c.is_false_literal.ensures.grows.grows.bank in
    let held = c.requires.stands.history in
    let goal_ids = c.args.goal.now in
    let rest = take (length goal_ids - 1) (drop 1 goal_ids) in
    let parts = ground_parts (term_at bank (get_or goal_ids 0 d)) (terms_at bank rest) (subst IsGround (first_is bank goal_ids d c.in-len1-up.len_at_least) c.requires.without) in
    let without : IsGround (terms_at middle rest) = subst IsGround (sym (rest_same h bank middle grows held goal_ids c.requires.literals)) parts.1 in
    let shorter : length rest < length goal_ids = rest_shorter goal_ids c.in-len1-up.len_at_least in
    let falls : length rest < t = omega (arith, shorter, c.decreases) in
    (falls, (c.is_false_literal.ensures.grows.grows.stands, (ready_grown h bank middle grows held c.requires.ready, (literals_grown h bank middle grows held goal_ids c.requires.literals, without))))

pub returns-in_err-answer-in-len1-up-clause-grows : goal.returns-in_err-answer-in-len1-up-clause-grows
returns-in_err-answer-in-len1-up-clause-grows t c =
    grown_trans c.args.history.now c.args.work.now c.is_false_literal.new.work c.are_false.new.work c.is_false_literal.ensures.grows c.are_false.ensures.grows

pub returns-in-empty-clause-grows : goal.returns-in-empty-clause-grows
returns-in-empty-clause-grows t c = grown_refl c.args.history.now c.args.work.now c.requires.stands

pub returns-in_ok-answer-in-len1-up-clause-answer : goal.returns-in_ok-answer-in-len1-up-clause-answer
returns-in_ok-answer-in-len1-up-clause-answer t c =
    let d : TermId = record { 0 = 0 } in
    let h = c.args.history.now in
    let bank = c.args.work.now.bank in
    let middle = c.is_false_literal.new.work.bank in
    let grows = c.is_false_literal.ensures.grows.grows.bank in
    let goal_ids = c.args.goal.now in
    let rest = take (length goal_ids - 1) (drop 1 goal_ids) in
    rest_told (events_at bank h) (terms_at bank goal_ids) (term_at bank (get_or goal_ids 0 d)) (terms_at bank rest) c.in_ok-is_false_literal-in-len1-up.field-0 c.in_ok-answer-in-len1-up.answer
    (first_is bank goal_ids d c.in-len1-up.len_at_least) c.in_ok-is_false_literal-in-len1-up.ensures.answer c.if-branch.true
    (false_back h bank middle grows c.requires.stands.history rest c.in_ok-answer-in-len1-up.answer (rest_same h bank middle grows c.requires.stands.history goal_ids c.requires.literals) c.in_ok-answer-in-len1-up.ensures.answer)

pub returns-in_ok-answer-in-len1-up-clause-grows : goal.returns-in_ok-answer-in-len1-up-clause-grows
returns-in_ok-answer-in-len1-up-clause-grows t c =
    grown_trans c.args.history.now c.args.work.now c.is_false_literal.new.work c.are_false.new.work c.is_false_literal.ensures.grows c.are_false.ensures.grows
