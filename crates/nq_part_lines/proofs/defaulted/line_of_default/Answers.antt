use Rattle.std.proofs.Common.{◌≡◌, ◌∷◌, ◌∙◌, [], ap₂, length, arith, sym, subst}
use Rattle.std.specs.Prelude.{Some, slice_get}
use Rattle.nq_logic.specs.Terms.{Function}
use Rattle.nq_logic.specs.Histories.{Part, Shell}
use Rattle.nq_logic.specs.Words.{equal_term}
use Rattle.nq_logic.specs.Shells.{made, made_with}
use Rattle.nq_bank.specs.Content.{term_at}
use Rattle.nq_bank.specs.Shells.{shell_at}
use Rattle.nq_rule.proofs.Made.{for_ok}
use Rattle.nq_arith.specs.Nests.{accessor_of, is_smaller}
use Rattle.nq_lines.specs.Lines.{LineHasOnly}
use Rattle.nq_lines.proofs.LineLemmas.{only_grown}
use Rattle.nq_replay.proofs.UncountedLemmas.{grown_trans}
use Rattle.nq_part_lines.specs.Known.{allowed}
use Rattle.nq_part_lines.specs.Wholes.{part_name}
use Rattle.nq_part_lines.proofs.DefaultedLemmas.{defaulted_grown}
use Rattle.nq_part_lines.proofs.KnownGrowth.{accessed_grown, known_grown, shell_same, shell_stands, sized_grown, smaller_moved, three_steps}
use Rattle.nq_part_lines.proofs.ObjectLemmas.{some_part}
use Rattle.nq_part_lines.proofs.PartLemmas.{parts_many}
use Rattle.nq_part_lines.proofs.PutLemmas.{put_made}
use Rattle.nq_part_lines.proofs.defaulted.line_of_default.Goals as goal

pub wrong_line-requires-clause-shell : goal.wrong_line-requires-clause-shell
wrong_line-requires-clause-shell c = shell_stands c.args.history.now c.args.work.now c.same_line.new.work c.requires.stands c.same_line.ensures.grows.grows c.args.shell.now c.requires.shell

pub wrong_line-requires-clause-known : goal.wrong_line-requires-clause-known
wrong_line-requires-clause-known c = known_grown c.args.history.now c.args.work.now c.same_line.new.work c.requires.stands c.same_line.ensures.grows.grows c.args.shell.now c.requires.shell c.requires.known

pub others_line-requires-clause-terms : goal.others_line-requires-clause-terms
others_line-requires-clause-terms c =
    let h = c.args.history.now in
    let w0 = c.args.work.now in
    let w2 = c.wrong_line.new.work in
    let place = c.args.place in
    let s = shell_at w0.bank c.args.shell.now in
    let grows = grown_trans h w0 c.same_line.new.work w2 c.same_line.ensures.grows c.wrong_line.ensures.grows in
    let many : length s.parts ≡ length c.args.shell.now.parts.items = parts_many w0.bank c.args.shell.now.parts.items in
    let below = c.requires.place in
    let part = some_part s.parts place (omega (arith, many, below)) in
    let z = sized_grown h w0 w2 c.requires.stands grows.grows s place c.args.sized c.requires.sized in
    let t = accessed_grown h w0 w2 c.requires.stands grows.grows s place c.args.taken c.requires.taken in
    let k = defaulted_grown h w0 w2 c.requires.stands grows.grows (part_name place) (Function part.0.default) (made s) c.args.small (c.requires.small part.0 part.1) in
    record { a = t.small; b = z.piece.object; x = k.default; y = k.object; z = z.piece.allowed }

pub others_line-requires-clause-small : goal.others_line-requires-clause-small
others_line-requires-clause-small c =
    let h = c.args.history.now in
    let w0 = c.args.work.now in
    let w2 = c.wrong_line.new.work in
    let place = c.args.place in
    let s = shell_at w0.bank c.args.shell.now in
    let grows = grown_trans h w0 c.same_line.new.work w2 c.same_line.ensures.grows c.wrong_line.ensures.grows in
    let many : length s.parts ≡ length c.args.shell.now.parts.items = parts_many w0.bank c.args.shell.now.parts.items in
    let below = c.requires.place in
    let part = some_part s.parts place (omega (arith, many, below)) in
    let k = defaulted_grown h w0 w2 c.requires.stands grows.grows (part_name place) (Function part.0.default) (made s) c.args.small (c.requires.small part.0 part.1) in
    subst (λ l. LineHasOnly w2 c.args.small.line (l ∷ [])) (sym (ap₂ is_smaller k.default_is k.object_is)) k.line

pub others_line-requires-clause-same : goal.others_line-requires-clause-same
others_line-requires-clause-same c =
    let h = c.args.history.now in
    let w0 = c.args.work.now in
    let w1 = c.same_line.new.work in
    let w2 = c.wrong_line.new.work in
    let place = c.args.place in
    let s = shell_at w0.bank c.args.shell.now in
    let grows = grown_trans h w0 w1 w2 c.same_line.ensures.grows c.wrong_line.ensures.grows in
    let many : length s.parts ≡ length c.args.shell.now.parts.items = parts_many w0.bank c.args.shell.now.parts.items in
    let below = c.requires.place in
    let part = some_part s.parts place (omega (arith, many, below)) in
    let d = Function part.0.default in
    let z = sized_grown h w0 w2 c.requires.stands grows.grows s place c.args.sized c.requires.sized in
    let k = defaulted_grown h w0 w2 c.requires.stands grows.grows (part_name place) d (made s) c.args.small (c.requires.small part.0 part.1) in
    subst (LineHasOnly w2 c.in_ok-same.same) (sym (ap₂ (λ u v. u ∷ v ∷ []) (z.allowed_is part.0 part.1) (ap₂ equal_term z.object_is (k.object_is ∙ put_made s place d))))
    (only_grown h w1 w2 c.in_ok-same.same (allowed place part.0 ∷ equal_term (made s) (made_with s place d) ∷ []) c.same_line.ensures.grows.grows.stands c.wrong_line.ensures.grows.grows (c.in_ok-same.ensures.line part.0 part.1))

pub others_line-requires-clause-wrong : goal.others_line-requires-clause-wrong
others_line-requires-clause-wrong c =
    let h = c.args.history.now in
    let w0 = c.args.work.now in
    let w1 = c.same_line.new.work in
    let w2 = c.wrong_line.new.work in
    let place = c.args.place in
    let s = shell_at w0.bank c.args.shell.now in
    let grows = grown_trans h w0 w1 w2 c.same_line.ensures.grows c.wrong_line.ensures.grows in
    let many : length s.parts ≡ length c.args.shell.now.parts.items = parts_many w0.bank c.args.shell.now.parts.items in
    let below = c.requires.place in
    let part = some_part s.parts place (omega (arith, many, below)) in
    let d = Function part.0.default in
    let z = sized_grown h w0 w2 c.requires.stands grows.grows s place c.args.sized c.requires.sized in
    let t = accessed_grown h w0 w2 c.requires.stands grows.grows s place c.args.taken c.requires.taken in
    let k = defaulted_grown h w0 w2 c.requires.stands grows.grows (part_name place) d (made s) c.args.small (c.requires.small part.0 part.1) in
    let same = shell_same h w0 w1 c.requires.stands c.same_line.ensures.grows.grows c.args.shell.now c.requires.shell in
    let line = subst (λ (r : Shell). (q : Part) → slice_get r.parts place ≡ Some q → LineHasOnly w2 c.in_ok-wrong.wrong (allowed place q ∷ equal_term (accessor_of q (made r)) (Function q.default) ∷ [])) same c.in_ok-wrong.ensures.line in
    subst (LineHasOnly w2 c.in_ok-wrong.wrong) (sym (ap₂ (λ u v. u ∷ v ∷ []) (z.allowed_is part.0 part.1) (ap₂ equal_term (t.is part.0 part.1) k.default_is))) (line part.0 part.1)

pub returns-in_err-wrong-clause-grows : goal.returns-in_err-wrong-clause-grows
returns-in_err-wrong-clause-grows c = grown_trans c.args.history.now c.args.work.now c.same_line.new.work c.wrong_line.new.work c.same_line.ensures.grows c.wrong_line.ensures.grows

pub returns-clause-grows : goal.returns-clause-grows
returns-clause-grows c = three_steps c.args.history.now c.args.work.now c.same_line.new.work c.wrong_line.new.work c.others_line.new.work c.same_line.ensures.grows c.wrong_line.ensures.grows c.others_line.ensures.grows

pub returns-clause-line : goal.returns-clause-line
returns-clause-line c =
    let h = c.args.history.now in
    let w0 = c.args.work.now in
    let w2 = c.wrong_line.new.work in
    let new = c.others_line.new.work in
    let p = c.args.sized.piece in
    let k = c.requires.sized.piece in
    let grows = grown_trans h w0 c.same_line.new.work w2 c.same_line.ensures.grows c.wrong_line.ensures.grows in
    for_ok c.others_line.result (λ n. LineHasOnly new n (term_at w2.bank p.allowed ∷ is_smaller (term_at w2.bank c.args.taken) (term_at w2.bank p.object) ∷ [])) (λ n. LineHasOnly new n (term_at w0.bank p.allowed ∷ is_smaller (term_at w0.bank c.args.taken) (term_at w0.bank p.object) ∷ [])) (λ n line.
    smaller_moved h w0 w2 c.requires.stands grows.grows new n (λ v. v) p.allowed c.args.taken p.object k.allowed c.requires.taken.small k.object line) c.others_line.ensures.line
