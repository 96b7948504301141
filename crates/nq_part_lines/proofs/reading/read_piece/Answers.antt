use Rattle.std.proofs.Common.{◌≡◌, ◌∙◌, ap, ap₂, sym, subst}
use Rattle.std.specs.Prelude.{is_some}
use Rattle.nq_logic.specs.Words.{add1_term, call1, equal_term, if_term, zero_term}
use Rattle.nq_bank.specs.Content.{term_at}
use Rattle.nq_shell_parts.specs.Summands.{IsSum, summand}
use Rattle.nq_part_lines.proofs.ReadingLemmas.{allowed_there, count_there, found, object_there, sized_there, successor_there, sum_there, variable_there}
use Rattle.nq_part_lines.proofs.reading.read_piece.Goals as goal

pub small_argument-count-requires-clause-place : goal.small_argument-count-requires-clause-place
small_argument-count-requires-clause-place c =
    let b = c.args.work.now.bank in
    let v = c.requires.size in
    ap is_some (count_there c.args.place c.args.more (term_at b c.args.equation) v)

pub small_argument-successor-requires-clause-place : goal.small_argument-successor-requires-clause-place
small_argument-successor-requires-clause-place c =
    let b = c.args.work.now.bank in
    let v = c.requires.size in
    ap is_some (successor_there c.args.place c.args.more (term_at b c.args.equation) v)

pub small_argument-object-requires-clause-place : goal.small_argument-object-requires-clause-place
small_argument-object-requires-clause-place c =
    let b = c.args.work.now.bank in
    let v = c.requires.size in
    let is_count : term_at b c.small_argument-count.result ≡ call1 "COUNT" v.object = found 1 (term_at b c.args.equation) (call1 "COUNT" v.object) (term_at b c.small_argument-count.result) (count_there c.args.place c.args.more (term_at b c.args.equation) v) c.small_argument-count.ensures.argument in
    ap is_some (object_there c.args.place c.args.more (term_at b c.args.equation) v (term_at b c.small_argument-count.result) is_count)

pub small_argument-sum-requires-clause-place : goal.small_argument-sum-requires-clause-place
small_argument-sum-requires-clause-place c =
    let b = c.args.work.now.bank in
    let v = c.requires.size in
    let is_successor : term_at b c.small_argument-successor.result ≡ add1_term v.sum = found 2 (term_at b c.args.equation) (add1_term v.sum) (term_at b c.small_argument-successor.result) (successor_there c.args.place c.args.more (term_at b c.args.equation) v) c.small_argument-successor.ensures.argument in
    ap is_some (sum_there c.args.place c.args.more (term_at b c.args.equation) v (term_at b c.small_argument-successor.result) is_successor)

pub summand_at-size-requires-clause-sum : goal.summand_at-size-requires-clause-sum
summand_at-size-requires-clause-sum c =
    let b = c.args.work.now.bank in
    let v = c.requires.size in
    let is_successor : term_at b c.small_argument-successor.result ≡ add1_term v.sum = found 2 (term_at b c.args.equation) (add1_term v.sum) (term_at b c.small_argument-successor.result) (successor_there c.args.place c.args.more (term_at b c.args.equation) v) c.small_argument-successor.ensures.argument in
    let is_sum : term_at b c.small_argument-sum.result ≡ v.sum = found 1 (term_at b c.small_argument-successor.result) v.sum (term_at b c.small_argument-sum.result) (sum_there c.args.place c.args.more (term_at b c.args.equation) v (term_at b c.small_argument-successor.result) is_successor) c.small_argument-sum.ensures.argument in
    subst (IsSum c.args.place c.args.more) (sym is_sum) v.is_sum

pub small_argument-allowed-requires-clause-place : goal.small_argument-allowed-requires-clause-place
small_argument-allowed-requires-clause-place c =
    let b = c.args.work.now.bank in
    let v = c.requires.size in
    let is_successor : term_at b c.small_argument-successor.result ≡ add1_term v.sum = found 2 (term_at b c.args.equation) (add1_term v.sum) (term_at b c.small_argument-successor.result) (successor_there c.args.place c.args.more (term_at b c.args.equation) v) c.small_argument-successor.ensures.argument in
    let is_sum : term_at b c.small_argument-sum.result ≡ v.sum = found 1 (term_at b c.small_argument-successor.result) v.sum (term_at b c.small_argument-sum.result) (sum_there c.args.place c.args.more (term_at b c.args.equation) v (term_at b c.small_argument-successor.result) is_successor) c.small_argument-sum.ensures.argument in
    let is_size : term_at b c.summand_at-size.result ≡ if_term v.allowed (call1 "COUNT" v.variable) zero_term = c.summand_at-size.ensures.summand ∙ ap (summand c.args.place c.args.more) is_sum ∙ v.summand_is in
    ap is_some (allowed_there c.args.place c.args.more (term_at b c.args.equation) v (term_at b c.summand_at-size.result) is_size)

pub small_argument-sized-requires-clause-place : goal.small_argument-sized-requires-clause-place
small_argument-sized-requires-clause-place c =
    let b = c.args.work.now.bank in
    let v = c.requires.size in
    let is_successor : term_at b c.small_argument-successor.result ≡ add1_term v.sum = found 2 (term_at b c.args.equation) (add1_term v.sum) (term_at b c.small_argument-successor.result) (successor_there c.args.place c.args.more (term_at b c.args.equation) v) c.small_argument-successor.ensures.argument in
    let is_sum : term_at b c.small_argument-sum.result ≡ v.sum = found 1 (term_at b c.small_argument-successor.result) v.sum (term_at b c.small_argument-sum.result) (sum_there c.args.place c.args.more (term_at b c.args.equation) v (term_at b c.small_argument-successor.result) is_successor) c.small_argument-sum.ensures.argument in
    let is_size : term_at b c.summand_at-size.result ≡ if_term v.allowed (call1 "COUNT" v.variable) zero_term = c.summand_at-size.ensures.summand ∙ ap (summand c.args.place c.args.more) is_sum ∙ v.summand_is in
    ap is_some (sized_there c.args.place c.args.more (term_at b c.args.equation) v (term_at b c.summand_at-size.result) is_size)

pub small_argument-variable-requires-clause-place : goal.small_argument-variable-requires-clause-place
small_argument-variable-requires-clause-place c =
    let b = c.args.work.now.bank in
    let v = c.requires.size in
    let is_successor : term_at b c.small_argument-successor.result ≡ add1_term v.sum = found 2 (term_at b c.args.equation) (add1_term v.sum) (term_at b c.small_argument-successor.result) (successor_there c.args.place c.args.more (term_at b c.args.equation) v) c.small_argument-successor.ensures.argument in
    let is_sum : term_at b c.small_argument-sum.result ≡ v.sum = found 1 (term_at b c.small_argument-successor.result) v.sum (term_at b c.small_argument-sum.result) (sum_there c.args.place c.args.more (term_at b c.args.equation) v (term_at b c.small_argument-successor.result) is_successor) c.small_argument-sum.ensures.argument in
    let is_size : term_at b c.summand_at-size.result ≡ if_term v.allowed (call1 "COUNT" v.variable) zero_term = c.summand_at-size.ensures.summand ∙ ap (summand c.args.place c.args.more) is_sum ∙ v.summand_is in
    let is_sized : term_at b c.small_argument-sized.result ≡ call1 "COUNT" v.variable = found 2 (term_at b c.summand_at-size.result) (call1 "COUNT" v.variable) (term_at b c.small_argument-sized.result) (sized_there c.args.place c.args.more (term_at b c.args.equation) v (term_at b c.summand_at-size.result) is_size) c.small_argument-sized.ensures.argument in
    ap is_some (variable_there c.args.place c.args.more (term_at b c.args.equation) v (term_at b c.small_argument-sized.result) is_sized)

pub returns-clause-piece : goal.returns-clause-piece
returns-clause-piece c =
    let b = c.args.work.now.bank in
    let v = c.requires.size in
    let is_count : term_at b c.small_argument-count.result ≡ call1 "COUNT" v.object = found 1 (term_at b c.args.equation) (call1 "COUNT" v.object) (term_at b c.small_argument-count.result) (count_there c.args.place c.args.more (term_at b c.args.equation) v) c.small_argument-count.ensures.argument in
    let is_successor : term_at b c.small_argument-successor.result ≡ add1_term v.sum = found 2 (term_at b c.args.equation) (add1_term v.sum) (term_at b c.small_argument-successor.result) (successor_there c.args.place c.args.more (term_at b c.args.equation) v) c.small_argument-successor.ensures.argument in
    let is_object : term_at b c.small_argument-object.result ≡ v.object = found 1 (term_at b c.small_argument-count.result) v.object (term_at b c.small_argument-object.result) (object_there c.args.place c.args.more (term_at b c.args.equation) v (term_at b c.small_argument-count.result) is_count) c.small_argument-object.ensures.argument in
    let is_sum : term_at b c.small_argument-sum.result ≡ v.sum = found 1 (term_at b c.small_argument-successor.result) v.sum (term_at b c.small_argument-sum.result) (sum_there c.args.place c.args.more (term_at b c.args.equation) v (term_at b c.small_argument-successor.result) is_successor) c.small_argument-sum.ensures.argument in
    let is_size : term_at b c.summand_at-size.result ≡ if_term v.allowed (call1 "COUNT" v.variable) zero_term = c.summand_at-size.ensures.summand ∙ ap (summand c.args.place c.args.more) is_sum ∙ v.summand_is in
    let is_allowed : term_at b c.small_argument-allowed.result ≡ v.allowed = found 1 (term_at b c.summand_at-size.result) v.allowed (term_at b c.small_argument-allowed.result) (allowed_there c.args.place c.args.more (term_at b c.args.equation) v (term_at b c.summand_at-size.result) is_size) c.small_argument-allowed.ensures.argument in
    let is_sized : term_at b c.small_argument-sized.result ≡ call1 "COUNT" v.variable = found 2 (term_at b c.summand_at-size.result) (call1 "COUNT" v.variable) (term_at b c.small_argument-sized.result) (sized_there c.args.place c.args.more (term_at b c.args.equation) v (term_at b c.summand_at-size.result) is_size) c.small_argument-sized.ensures.argument in
    let is_variable : term_at b c.small_argument-variable.result ≡ v.variable = found 1 (term_at b c.small_argument-sized.result) v.variable (term_at b c.small_argument-variable.result) (variable_there c.args.place c.args.more (term_at b c.args.equation) v (term_at b c.small_argument-sized.result) is_sized) c.small_argument-variable.ensures.argument in
    record {
      equation = c.requires.equation;
      object = c.small_argument-object.ensures.small;
      successor = c.small_argument-successor.ensures.small;
      sum = c.small_argument-sum.ensures.small;
      size = c.summand_at-size.ensures.small;
      allowed = c.small_argument-allowed.ensures.small;
      variable = c.small_argument-variable.ensures.small;
      equation_is = v.whole ∙ sym (ap₂ (λ o s. equal_term (call1 "COUNT" o) s) is_object is_successor);
      successor_is = is_successor ∙ sym (ap add1_term is_sum);
      is_sum = subst (IsSum c.args.place c.args.more) (sym is_sum) v.is_sum;
      size_is = sym c.summand_at-size.ensures.summand;
      size_of = is_size ∙ sym (ap₂ (λ m x. if_term m (call1 "COUNT" x) zero_term) is_allowed is_variable);
    }
