-- Definitions.
use Rattle.std.proofs.Common.{◌≡◌, Bool, false, true, List, [], ◌∷◌, length, refl, ap, sym, subst, ◌∙◌}
use Rattle.std.specs.Prelude.{IsTrue, Option, None, Some}
use Rattle.std.specs.Option.{option_map}
use Rattle.nq_logtext.specs.Symbols.{is_symbol}
use Rattle.nq_logic.specs.Terms.{Each, Name, Term}
use Rattle.nq_logic.specs.Histories.{Defines, History}
use Rattle.nq_logic.specs.Ground.{symbols_of}
use Rattle.nq_logic.specs.Names.{constant_names, has_name}
use Rattle.nq_logic.specs.Admissible.{HasVariables, mentions, IsAdmissible}
use Rattle.nq_logic.proofs.Tests.{names_distinct_law, variables_told_law}
use Rattle.nq_form.specs.Form.{Form}
use Rattle.nq_bank.specs.declared.node.Sym.{Sym}
use Rattle.nq_bank.specs.Content.{Content}
use Rattle.nq_bank.specs.Shells.{texts_at}
use Rattle.nq_kernel.specs.Over.{IsVariable}
use Rattle.nq_kernel.specs.Ready.{IsReadyEvent}
use Rattle.nq_log.proofs.Functions.{without_function}
use Rattle.nq_block.specs.Closings.{CanDefine, IsFree}
use Rattle.nq_admit.specs.Admission.{IsFault}
use Rattle.nq_admit.specs.declared.admission.AdmitFault.{AdmitFault}
use Rattle.nq_admit.specs.declared.admission.AdmitFault.TheVariants as admit
use Rattle.nq_events.specs.Events as model
use Rattle.nq_events.specs.Refusals.{Refusal}
use Rattle.nq_events.specs.OwnRefusals.{definition_refusal, own_refusal}
use Rattle.nq_events.specs.AllowedEvents.{IsDefinable, plain_definition}
use Rattle.nq_events.proofs.AllowedEvents.{events_are_allowed}
use Rattle.nq_comment.specs.Reports.{Answer, Accepted}
use Rattle.nq_comment.specs.ReportViews.{answer_of}
use Rattle.nq_comment.specs.declared.answer.FormAnswer.{FormAnswer}
use Rattle.nq_spelling.specs.SpelledEvents.{IsSpelledDefinition}
use Rattle.nq_answers.specs.Steps.{IsDefined, refused, untaken}
use Rattle.nq_answers.proofs.Deriving.{no_refusal}
use Rattle.nq_run.specs.Answers.{fault_refusal}
use Rattle.nq_run.specs.Recursions.{CanTry}
use Rattle.nq_run.proofs.NameLemmas.{free_name, none_told, some_told}
use Rattle.nq_run.proofs.ReadyLemmas.{defined_ready, small_depth}

-- ---- what a fault tells

-- a fault that refuses tells the refusal of the definition
pub refused_for : (bank : Content) (name : Name) (why : Option Refusal) (fault : AdmitFault) (answer : Answer) → IsFault bank name why fault
    → Some answer ≡ refused (fault_refusal bank name fault) → why ≡ fault_refusal bank name fault
refused_for bank name why admit.NameInUse answer is told = is
refused_for bank name why (admit.FormalIsConstant x) answer is told = is
refused_for bank name why (admit.RepeatedFormal x) answer is told = is
refused_for bank name why (admit.FreeVariable x) answer is told = is
refused_for bank name why admit.BadMeasureHint answer is told = is
refused_for bank name why admit.TooManyEvents answer is told = is
refused_for bank name why admit.Memory answer is told = absurd cc

-- ---- where nothing keeps a definition from being taken

pub variables : (xs : List Name) → Each (λ x. IsTrue (is_symbol x)) xs → Each (λ x. has_name x constant_names ≡ false) xs → Each IsVariable xs
variables [] symbols others = tt
variables (x ∷ xs) symbols others = (record { symbol = symbols.0; other = others.0 }, variables xs symbols.1 others.1)

module _ (h : History) (name : Name) (formals : List Name) (body : Term) (measures : List model.Measure) where
  defn_is : own_refusal h (model.Defn name formals body measures) ≡ definition_refusal h name formals body measures
  unfolding own_refusal
  defn_is = refl

  pub defn_admitted : definition_refusal h name formals body measures ≡ None → None ≡ untaken h (model.Defn name formals body measures)
  defn_admitted why = sym (ap refused (defn_is ∙ why))

  pub defn_refused : (answer : Answer) (why : Option Refusal) → definition_refusal h name formals body measures ≡ why → Some answer ≡ refused why → Some answer ≡ untaken h (model.Defn name formals body measures)
  defn_refused answer why w is = is ∙ sym (ap refused (defn_is ∙ w))

  definable : untaken h (model.Defn name formals body measures) ≡ None → IsDefinable h name formals body measures
  definable none = events_are_allowed h (model.Defn name formals body measures) (no_refusal (own_refusal h (model.Defn name formals body measures)) none)

  pub defn_free : untaken h (model.Defn name formals body measures) ≡ None → IsSpelledDefinition h name formals body → IsFree h name
  defn_free none spelled = free_name h name spelled.function.symbol (definable none).addable

  pub can_define : untaken h (model.Defn name formals body measures) ≡ None → mentions name body ≡ false → IsSpelledDefinition h name formals body → CanDefine h name formals body
  can_define none plain spelled =
      let is : IsDefinable h name formals body measures = definable none in
      record {
        free = free_name h name spelled.function.symbol is.addable;
        count = spelled.function.few;
        spelled = variables formals spelled.function.formals_spelled is.formals_are.variables;
        distinct = (names_distinct_law formals).1 is.formals_are.distinct;
        claimable = record {
          over = record { over = without_function name (length formals) (symbols_of h) body 0 plain spelled.over.over; variables = spelled.over.variables };
          small = spelled.small;
        };
        within = (variables_told_law formals body).1 is.closed;
        plain = plain;
      }

  -- a definition that meets the Definition Principle
  pub definition_ready : (m : Option Term) → untaken h (model.Defn name formals body measures) ≡ None → IsSpelledDefinition h name formals body
      → IsAdmissible h (record { function = name; formals = formals; body = body; measure = m }) → IsReadyEvent h (Defines (record { function = name; formals = formals; body = body; measure = m }))
  definition_ready m none spelled admissible = record {
    unused = admissible.unused;
    holds = admissible;
    spelled = (variables formals spelled.function.formals_spelled (definable none).formals_are.variables, small_depth body spelled.small);
  }

  pub defn_outcome : mentions name body ≡ false → IsDefined (mentions name body) h name formals body measures Accepted
  defn_outcome plain = subst (λ (b : Bool). IsDefined b h name formals body measures Accepted) (sym plain) refl

  -- a definition that calls its own function
  pub can_try : untaken h (model.Defn name formals body measures) ≡ None → mentions name body ≡ true → IsSpelledDefinition h name formals body → CanTry h name formals body
  can_try none again spelled =
      let is : IsDefinable h name formals body measures = definable none in
      record {
        free = free_name h name spelled.function.symbol is.addable;
        spelled = spelled;
        variables = variables formals spelled.function.formals_spelled is.formals_are.variables;
        distinct = (names_distinct_law formals).1 is.formals_are.distinct;
        closed = is.closed;
        recursive = again;
      }

  -- its hints have no other variables than the formals
  pub tries_within : untaken h (model.Defn name formals body measures) ≡ None → Each (λ m. HasVariables formals m.term) measures
  tries_within none = (definable none).measured

-- ---- what an answer tells of a definition with these formals

module _ (h : History) (bank : Content) (name : Name) (xs formals : List Sym) (body : Term) (measures : List model.Measure) (same : xs ≡ formals) (o : Option FormAnswer)
    (told : option_map answer_of o ≡ untaken h (model.Defn name (texts_at bank xs) body measures)) where
  told_so : option_map answer_of o ≡ untaken h (model.Defn name (texts_at bank formals) body measures)
  told_so = subst (λ (ys : List Sym). option_map answer_of o ≡ untaken h (model.Defn name (texts_at bank ys) body measures)) same told

  pub defn_hindered : (answer : FormAnswer) → o ≡ Some answer → Some (answer_of answer) ≡ untaken h (model.Defn name (texts_at bank formals) body measures)
  defn_hindered answer some = some_told o answer (untaken h (model.Defn name (texts_at bank formals) body measures)) told_so some

  pub defn_taken : o ≡ None → untaken h (model.Defn name (texts_at bank formals) body measures) ≡ None
  defn_taken none = none_told o (untaken h (model.Defn name (texts_at bank formals) body measures)) told_so none

  pub defn_closes : o ≡ None → mentions name body ≡ false → IsSpelledDefinition h name (texts_at bank formals) body → CanDefine h name (texts_at bank formals) body
  defn_closes none plain spelled = can_define h name (texts_at bank formals) body measures (defn_taken none) plain spelled

  pub defn_ready : o ≡ None → mentions name body ≡ false → IsSpelledDefinition h name (texts_at bank formals) body → IsReadyEvent h (Defines (plain_definition name (texts_at bank formals) body))
  defn_ready none plain spelled = defined_ready h name (texts_at bank formals) body (defn_closes none plain spelled) spelled
