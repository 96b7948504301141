use Rattle.std.proofs.Common.{subst}
use Rattle.nq_bank.specs.Content.{term_at}
use Rattle.nq_rule.proofs.Made.{for_ok}
use Rattle.nq_arith.specs.Nests.{is_smaller}
use Rattle.nq_lines.specs.Lines.{CutsTo}
use Rattle.nq_lines.proofs.LineLemmas.{line_grown}
use Rattle.nq_lines.proofs.TermLemmas.{term_grown}
use Rattle.nq_replay.proofs.UncountedLemmas.{grown_trans}
use Rattle.nq_decrease.specs.Nests.{JoinsSizes}
use Rattle.nq_decrease.proofs.DescentLemmas.{joined, smaller_grown}
use Rattle.nq_decrease.proofs.joining.joined_sizes.Goals as goal

pub cut_smaller-requires-clause-left : goal.cut_smaller-requires-clause-left
cut_smaller-requires-clause-left c = term_grown c.args.history.now c.args.work.now c.descent_at.new.work c.args.t c.requires.stands c.descent_at.ensures.grows.grows c.requires.first_term

pub cut_smaller-requires-clause-right : goal.cut_smaller-requires-clause-right
cut_smaller-requires-clause-right c = term_grown c.args.history.now c.args.work.now c.descent_at.new.work c.args.y c.requires.stands c.descent_at.ensures.grows.grows c.requires.second_term

pub returns-in_err-rest-clause-grows : goal.returns-in_err-rest-clause-grows
returns-in_err-rest-clause-grows c = grown_trans c.args.history.now c.args.work.now c.descent_at.new.work c.cut_smaller.new.work c.descent_at.ensures.grows c.cut_smaller.ensures.grows

pub cut_smaller-requires-2-clause-first : goal.cut_smaller-requires-2-clause-first
cut_smaller-requires-2-clause-first c =
    let both = grown_trans c.args.history.now c.args.work.now c.descent_at.new.work c.cut_smaller.new.work c.descent_at.ensures.grows c.cut_smaller.ensures.grows in
    line_grown c.args.history.now c.args.work.now c.cut_smaller.new.work c.args.second c.requires.stands both.grows c.requires.second

pub cut_smaller-requires-2-clause-left : goal.cut_smaller-requires-2-clause-left
cut_smaller-requires-2-clause-left c =
    let both = grown_trans c.args.history.now c.args.work.now c.descent_at.new.work c.cut_smaller.new.work c.descent_at.ensures.grows c.cut_smaller.ensures.grows in
    term_grown c.args.history.now c.args.work.now c.cut_smaller.new.work c.args.y c.requires.stands both.grows c.requires.second_term

pub cut_smaller-requires-2-clause-right : goal.cut_smaller-requires-2-clause-right
cut_smaller-requires-2-clause-right c =
    let both = grown_trans c.args.history.now c.args.work.now c.descent_at.new.work c.cut_smaller.new.work c.descent_at.ensures.grows c.cut_smaller.ensures.grows in
    term_grown c.args.history.now c.args.work.now c.cut_smaller.new.work c.args.z c.requires.stands both.grows c.requires.third_term

pub returns-clause-line : goal.returns-clause-line
returns-clause-line c =
    let h = c.args.history.now in
    let old = c.args.work.now in
    let one = c.descent_at.new.work in
    let two = c.cut_smaller.new.work in
    let three = c.cut_smaller-2.new.work in
    let t = term_at old.bank c.args.t in
    let y = term_at old.bank c.args.y in
    let z = term_at old.bank c.args.z in
    let first = c.descent_at.ensures.grows.grows in
    let both = (grown_trans h old one two c.descent_at.ensures.grows c.cut_smaller.ensures.grows).grows in
    let lower = smaller_grown h old one first c.args.t c.args.y c.requires.first_term c.requires.second_term in
    let upper = smaller_grown h old two both c.args.y c.args.z c.requires.second_term c.requires.third_term in
    let inner = subst (λ v. CutsTo one two v c.args.first c.in_ok-law.law c.in_ok-rest.rest) lower c.in_ok-rest.ensures.line in
    for_ok c.cut_smaller-2.result (CutsTo two three (is_smaller (term_at two.bank c.args.y) (term_at two.bank c.args.z)) c.args.second c.in_ok-rest.rest) (JoinsSizes old three t y z c.args.first c.args.second) (λ n k.
    joined h old one two three t y z c.args.first c.args.second c.in_ok-law.law c.in_ok-rest.rest n c.requires.stands first first.stands c.cut_smaller.ensures.grows.grows c.in_ok-law.ensures.line inner (subst (λ v. CutsTo two three v c.args.second c.in_ok-rest.rest n) upper k)) c.cut_smaller-2.ensures.line

pub returns-clause-grows : goal.returns-clause-grows
returns-clause-grows c =
    grown_trans c.args.history.now c.args.work.now c.descent_at.new.work c.cut_smaller-2.new.work c.descent_at.ensures.grows (grown_trans c.args.history.now c.descent_at.new.work c.cut_smaller.new.work c.cut_smaller-2.new.work c.cut_smaller.ensures.grows c.cut_smaller-2.ensures.grows)
