-- Hints, as the program has them.
use Rattle.std.specs.Prelude.{List, [], map, Option, None, Some}
use Rattle.nq_logic.specs.Terms.{Name}
use Rattle.std.proofs.Common.{Bor}
use Rattle.nq_form.specs.Form.{Form, symbol}
use Rattle.nq_events.specs.WrittenHints as model
use Rattle.nq_events.specs.WrittenHints.{WrittenPair, WrittenInstance, WrittenHint, pair_in, instance_in, hint_in}
use Rattle.nq_sexp.specs.declared.Sexp.{Sexp}
use Rattle.nq_sexp.specs.Tree.{tree}
use Rattle.nq_event.specs.Reads.{forms_of, read_each}
use Rattle.nq_event.specs.Shapes.{names_at}
use Rattle.nq_event.specs.declared.instances.PairOutline.{PairOutline}
use Rattle.nq_event.specs.declared.instances.InstanceOutline.{InstanceOutline}
use Rattle.nq_event.specs.declared.hints.HintKind.{HintKind}
use Rattle.nq_event.specs.declared.hints.HintKind.TheVariants as kind
use Rattle.nq_event.specs.declared.hints.HintOutline.{HintOutline}

abbrev pub pair_at : PairOutline → WrittenPair
pair_at p = record { variable = p.variable.now; form = tree p.form.now }

abbrev pub pair_if : Option PairOutline → Option WrittenPair
pair_if None = None
pair_if (Some p) = Some (pair_at p)

abbrev pub no_pair : WrittenPair
no_pair = record { variable = []; form = symbol [] }

abbrev pub pairs_at : List Sexp → List WrittenPair
pairs_at items = read_each pair_in no_pair items

-- the variables of pairs
abbrev pub variables_at : List Sexp → List Name
variables_at items = map (λ p. p.variable) (pairs_at items)

abbrev pub instance_at : InstanceOutline → WrittenInstance
instance_at i = record { name = i.name.now; pairs = pairs_at i.pairs.now }

abbrev pub instance_if : Option InstanceOutline → Option WrittenInstance
instance_if None = None
instance_if (Some i) = Some (instance_at i)

abbrev pub no_instance : WrittenInstance
no_instance = record { name = []; pairs = [] }

abbrev pub instances_at : List Sexp → List WrittenInstance
instances_at items = read_each instance_in no_instance items

abbrev pub form_if : Option (Bor Sexp) → Option Form
form_if None = None
form_if (Some form) = Some (tree form.now)

abbrev pub kind_at : HintKind → model.HintKind
kind_at (kind.Use instances) = model.Use (instances_at instances.now)
kind_at (kind.Enable names) = model.Enable (names_at names.now)
kind_at (kind.Disable names) = model.Disable (names_at names.now)
kind_at (kind.Expand forms) = model.Expand (forms_of forms.now)
kind_at (kind.Induct form) = model.Induct (tree form.now)
kind_at kind.DoNotInduct = model.DoNotInduct
kind_at kind.DoNotGeneralize = model.DoNotGeneralize
kind_at (kind.HandsOff functions) = model.HandsOff (names_at functions.now)
kind_at kind.NoArithmetic = model.NoArithmetic
kind_at kind.Time = model.Time

abbrev pub kind_if : Option HintKind → Option model.HintKind
kind_if None = None
kind_if (Some kind) = Some (kind_at kind)

abbrev pub hint_at : HintOutline → WrittenHint
hint_at hint = record { word = hint.word.now; kind = kind_if hint.kind }

abbrev pub hint_if : Option HintOutline → Option WrittenHint
hint_if None = None
hint_if (Some hint) = Some (hint_at hint)

abbrev pub no_hint : WrittenHint
no_hint = record { word = []; kind = None }

-- the hints of forms
abbrev pub hints_at : List Sexp → List WrittenHint
hints_at items = read_each hint_in no_hint items

-- the words of hints
abbrev pub words_at : List Sexp → List Name
words_at items = map (λ hint. hint.word) (hints_at items)
