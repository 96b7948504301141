-- Outlines and their refusals, as the program has them.
use Rattle.std.specs.Prelude.{true, false, List, Result, Ok, Err}
use Rattle.nq_form.specs.Form.{Form}
use Rattle.nq_events.specs.Refusals as refusals
use Rattle.nq_events.specs.Outlines as model
use Rattle.nq_events.specs.Outlines.{Outlined, boot_strap_outline, add_shell_outline, dcl_outline, defn_outline, add_axiom_outline, prove_lemma_outline, toggle_outline, switch_outline, undo_outline}
use Rattle.nq_sexp.specs.Tree.{tree}
use Rattle.nq_event.specs.Shapes.{names_at, types_at, measures_at, shell_at}
use Rattle.nq_event.specs.Hints.{hints_at}
use Rattle.nq_event.specs.declared.refusal.EventPart.{EventPart}
use Rattle.nq_event.specs.declared.refusal.EventPart.TheVariants as part
use Rattle.nq_event.specs.declared.refusal.Refusal.{Refusal}
use Rattle.nq_event.specs.declared.refusal.Refusal.TheVariants.{NotAnEvent, BadShape, OutOfScope, BadHint}
use Rattle.nq_event.specs.declared.outline.Outline.{Outline}
use Rattle.nq_event.specs.declared.outline.Outline.TheVariants.{BootStrap, AddShell, Dcl, Defn, AddAxiom, ProveLemma, Toggle, Switch, Undo, Skipped}
use Rattle.nq_event.specs.declared.words.EventWord.{EventWord}
use Rattle.nq_event.specs.declared.words.EventWord.TheVariants as word

abbrev pub part_of : EventPart → refusals.Part
part_of part.Form = refusals.WholeForm
part_of part.Name = refusals.NamePart
part_of part.Formals = refusals.FormalsPart
part_of part.Types = refusals.TypesPart
part_of part.Measure = refusals.MeasurePart
part_of part.Hints = refusals.HintsPart
part_of part.Parts = refusals.PartsPart

abbrev pub refusal_at : Refusal → refusals.Refusal
refusal_at NotAnEvent = refusals.NotAnEvent
refusal_at (BadShape part) = refusals.BadShape (part_of part)
refusal_at (OutOfScope name) = refusals.out_of_scope name.now
refusal_at (BadHint word) = refusals.BadHint word.now

abbrev pub outline_at : Outline → model.Outline
outline_at BootStrap = model.BootStrap
outline_at (AddShell shell) = model.AddShell (shell_at shell)
outline_at (Dcl name formals) = model.Dcl name.now (names_at formals.now)
outline_at (Defn name formals body measures) = model.Defn name.now (names_at formals.now) (tree body.now) (measures_at measures.now)
outline_at (AddAxiom name types term) = model.AddAxiom name.now (types_at types.now) (tree term.now)
outline_at (ProveLemma name types term hints) = model.ProveLemma name.now (types_at types.now) (tree term.now) (hints_at hints.now)
outline_at (Toggle name old disabled) = model.Toggle name.now old.now disabled
outline_at (Switch old disabled) = model.Switch old.now disabled
outline_at (Undo name) = model.Undo name.now
outline_at Skipped = model.Skipped

-- the outline, or why there is none
abbrev pub outlined : Result Outline Refusal → Outlined
outlined (Ok o) = Ok (outline_at o)
outlined (Err refusal) = Err (refusal_at refusal)

-- how the events of a word are read
abbrev pub reader_as : EventWord → List Form → Outlined
reader_as word.BootStrap = boot_strap_outline
reader_as word.AddShell = add_shell_outline
reader_as word.Dcl = dcl_outline
reader_as word.Defn = defn_outline
reader_as word.AddAxiom = add_axiom_outline
reader_as word.ProveLemma = prove_lemma_outline
reader_as word.Toggle = toggle_outline
reader_as word.Disable = switch_outline true
reader_as word.Enable = switch_outline false
reader_as word.Undo = undo_outline
