use Rattle.std.proofs.Common.{◌≤◌, ◌<◌, ◌∷◌, [], ◌∙◌, List, length, ap, sym, subst}
use Rattle.nq_logic.specs.Terms.{Each}
use Rattle.nq_logic.specs.Names.{has_name}
use Rattle.nq_logic.specs.Shells.{either_of, recognized, restricted}
use Rattle.nq_logic.specs.Words.{not_term}
use Rattle.nq_bank.specs.declared.node.Sym.{Sym}
use Rattle.nq_bank.specs.Content.{term_at}
use Rattle.nq_bank.specs.Shells.{part_at, texts_at}
use Rattle.nq_history.specs.Events.{events_at}
use Rattle.nq_kernel.specs.Ready.{recognizer_limit}
use Rattle.nq_lines.proofs.LineLemmas.{only_grown}
use Rattle.nq_replay.proofs.UncountedLemmas.{grown_trans}
use Rattle.nq_part_lines.specs.Decisions.{IsDecided}
use Rattle.nq_part_lines.specs.Defaults.{IsKind, truth_kind, truth_term}
use Rattle.nq_part_lines.proofs.MeetLemmas.{not_room}
use Rattle.nq_part_lines.proofs.PartKindLemmas.{denied_id, few_kinds, few_names, kinds_named, kinds_of, restriction_line, some_names}
use Rattle.nq_part_lines.proofs.meets.default_meets.Goals as goal

-- the kinds that the part names
pub one_of_kinds-requires-clause-some : goal.one_of_kinds-requires-clause-some
one_of_kinds-requires-clause-some c =
    let bank = c.args.work.now.bank in
    subst (λ (ns : List Sym). 0 < length ns) (sym c.deref.ensures.value) (some_names (events_at bank c.args.history.now) bank c.args.part.now c.args.yes c.requires.restricted c.requires.default)

pub one_of_kinds-requires-clause-kinds : goal.one_of_kinds-requires-clause-kinds
one_of_kinds-requires-clause-kinds c =
    let bank = c.args.work.now.bank in
    let h = events_at bank c.args.history.now in
    subst (λ (ns : List Sym). Each (IsKind h) (texts_at bank ns)) (sym c.deref.ensures.value) (kinds_named h bank c.args.part.now c.args.yes c.requires.default)

pub one_of_kinds-requires-clause-few : goal.one_of_kinds-requires-clause-few
one_of_kinds-requires-clause-few c = subst (λ (ns : List Sym). length ns ≤ recognizer_limit) (sym c.deref.ensures.value) (few_names c.args.work.now.bank c.args.part.now c.requires.few)

pub denied-requires-clause-room : goal.denied-requires-clause-room
denied-requires-clause-room c =
    let bank = c.args.work.now.bank in
    let mid = c.one_of_kinds.new.work in
    let same = ap (λ (ns : List Sym). either_of (recognized (texts_at bank ns) (truth_term c.args.yes))) c.deref.ensures.value in
    not_room (kinds_of bank c.args.part.now) c.args.yes (term_at mid.bank c.in_ok-kinds.kinds.term) (few_kinds bank c.args.part.now c.requires.few) (c.in_ok-kinds.ensures.decided.term_is ∙ same)

-- where one of them is asked for
pub returns-then-part-clause-line : goal.returns-then-part-clause-line
returns-then-part-clause-line c =
    let h = c.args.history.now in
    let bank = c.args.work.now.bank in
    let mid = c.one_of_kinds.new.work in
    let value = c.args.yes in
    let kinds = c.in_ok-kinds.kinds in
    let decided = subst (λ (ns : List Sym). IsDecided h mid (either_of (recognized (texts_at bank ns) (truth_term value))) (has_name (truth_kind value) (texts_at bank ns)) kinds) c.deref.ensures.value c.in_ok-kinds.ensures.decided in
    restriction_line (events_at bank h) bank c.args.part.now value c.requires.restricted c.requires.default mid kinds.line decided.line

-- where none of them is allowed
pub returns-in_ok-term-clause-term : goal.returns-in_ok-term-clause-term
returns-in_ok-term-clause-term c =
    let bank = c.args.work.now.bank in
    let new = c.denied.new.work in
    let same = ap (λ (ns : List Sym). either_of (recognized (texts_at bank ns) (truth_term c.args.yes))) c.deref.ensures.value in
    let is = c.in_ok-term.ensures.term in
    denied_id (events_at bank c.args.history.now) bank c.args.part.now c.args.yes c.requires.restricted c.requires.default new.bank c.in_ok-term.term c.if-part.false (record { stands = is.stands; denotes = is.denotes ∙ ap not_term (c.in_ok-kinds.ensures.decided.term_is ∙ same) })

pub returns-in_ok-term-clause-line : goal.returns-in_ok-term-clause-line
returns-in_ok-term-clause-line c =
    let h = c.args.history.now in
    let bank = c.args.work.now.bank in
    let mid = c.one_of_kinds.new.work in
    let new = c.denied.new.work in
    let value = c.args.yes in
    let kinds = c.in_ok-kinds.kinds in
    let decided = subst (λ (ns : List Sym). IsDecided h mid (either_of (recognized (texts_at bank ns) (truth_term value))) (has_name (truth_kind value) (texts_at bank ns)) kinds) c.deref.ensures.value c.in_ok-kinds.ensures.decided in
    only_grown h mid new kinds.line (restricted (part_at bank c.args.part.now).restriction (truth_term value) ∷ []) c.one_of_kinds.ensures.grows.grows.stands c.denied.ensures.grows.grows
    (restriction_line (events_at bank h) bank c.args.part.now value c.requires.restricted c.requires.default mid kinds.line decided.line)

-- how the work grew
pub returns-in_err-term-clause-grows : goal.returns-in_err-term-clause-grows
returns-in_err-term-clause-grows c = grown_trans c.args.history.now c.args.work.now c.one_of_kinds.new.work c.denied.new.work c.one_of_kinds.ensures.grows c.denied.ensures.grows

pub returns-in_ok-term-clause-grows : goal.returns-in_ok-term-clause-grows
returns-in_ok-term-clause-grows c = grown_trans c.args.history.now c.args.work.now c.one_of_kinds.new.work c.denied.new.work c.one_of_kinds.ensures.grows c.denied.ensures.grows
