use Rattle.std.proofs.Common.{◌≡◌, ◌∷◌, [], ◌∙◌, ap, subst}
use Rattle.std.specs.Prelude.{bytes_eq}
use Rattle.nq_bank.specs.Content.{text_at}
use Rattle.nq_bank.proofs.Growth.{IsNamed-grown, text_at-grown}
use Rattle.nq_lines.specs.Lines.{LineHasOnly}
use Rattle.nq_lines.proofs.TermLemmas.{same_term_grown}
use Rattle.nq_replay.proofs.UncountedLemmas.{grown_trans}
use Rattle.nq_part_lines.specs.Decisions.{is_of, told}
use Rattle.nq_part_lines.specs.Defaults.{truth_kind}
use Rattle.nq_part_lines.proofs.KindLemmas.{kind_grown}
use Rattle.nq_part_lines.proofs.KnownGrowth.{rows_grown}
use Rattle.nq_part_lines.proofs.ReadingLemmas.{small_grown}
use Rattle.nq_part_lines.proofs.kinds.kind.Goals as goal

pub kind_line-requires-clause-rows : goal.kind_line-requires-clause-rows
kind_line-requires-clause-rows c = rows_grown c.args.history.now c.args.work.now c.kind_term.new.work c.requires.stands c.kind_term.ensures.grows.grows c.requires.rows

pub kind_line-requires-clause-named : goal.kind_line-requires-clause-named
kind_line-requires-clause-named c = IsNamed-grown c.args.work.now.bank c.kind_term.new.work.bank c.args.r c.kind_term.ensures.grows.grows.bank c.requires.named

pub kind_line-requires-clause-kind : goal.kind_line-requires-clause-kind
kind_line-requires-clause-kind c = kind_grown c.args.history.now c.args.work.now c.kind_term.new.work c.args.r c.requires.stands c.kind_term.ensures.grows.grows c.requires.named c.requires.kind

pub returns-in_err-line-clause-grows : goal.returns-in_err-line-clause-grows
returns-in_err-line-clause-grows c = grown_trans c.args.history.now c.args.work.now c.kind_term.new.work c.kind_line.new.work c.kind_term.ensures.grows c.kind_line.ensures.grows

pub returns-clause-grows : goal.returns-clause-grows
returns-clause-grows c = grown_trans c.args.history.now c.args.work.now c.kind_term.new.work c.kind_line.new.work c.kind_term.ensures.grows c.kind_line.ensures.grows

pub returns-clause-decided : goal.returns-clause-decided
returns-clause-decided c =
    let h = c.args.history.now in
    let old = c.args.work.now in
    let mid = c.kind_term.new.work in
    let new = c.kind_line.new.work in
    let r = text_at old.bank c.args.r in
    let own = truth_kind c.args.value in
    let term = c.in_ok-term.term in
    let line = c.in_ok-line.line in
    let later = c.kind_line.ensures.grows.grows in
    let same : text_at mid.bank c.args.r ≡ r = text_at-grown old.bank mid.bank c.args.r c.kind_term.ensures.grows.grows.bank c.requires.named in
    record {
      small = small_grown h mid new term c.kind_term.ensures.grows.grows.stands later c.in_ok-term.ensures.small;
      term_is = same_term_grown h mid new term later c.in_ok-term.ensures.small.inside ∙ c.in_ok-term.ensures.term.denotes;
      holds_is = c.is_same_name-holds.ensures ∙ ap (λ k. bytes_eq k r) c.kind_symbol-own.ensures.reads;
      line = subst (λ x. LineHasOnly new line (told (bytes_eq own x) (is_of x c.args.value) ∷ [])) same c.in_ok-line.ensures.line;
    }
