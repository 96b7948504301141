-- The texts of terms of a run's histories are read back.
use Rattle.std.proofs.Common.{◌≡◌, Bool, true, false, List, [], ◌∷◌, ◌++◌, length, refl, sym, subst}
use Rattle.std.specs.Prelude.{IsTrue, Option, None, Some, Ok, Err}
use Rattle.nq_logic.specs.Terms.{Each, Name, Symbol, Term}
use Rattle.nq_logic.specs.Histories.{History, Part, Shell, accessor_symbols, base_symbols, event_symbols, shell_symbols}
use Rattle.nq_logic.specs.Histories as logic
use Rattle.nq_logic.specs.Ground.{symbols_of}
use Rattle.nq_logic.specs.Names.{is_in_use, symbol_names}
use Rattle.nq_logic.specs.Admissible.{AreDistinct}
use Rattle.nq_logic.specs.ShellPrinciple.{ShellRefusal, shells_of}
use Rattle.nq_logic.proofs.ShellTests.{shells_refused_law}
use Rattle.nq_language.specs.Printing.{printed}
use Rattle.nq_block.specs.Closings.{IsBaseSpelled, IsPartSpelled}
use Rattle.nq_logtext.specs.Symbols.{is_symbol}
use Rattle.nq_language.proofs.PrintedSymbols.{printed_over_symbols}
use Rattle.nq_abbrev.proofs.PrintedLemmas.{read_whole}
use Rattle.nq_events.specs.Effects.{history_after}
use Rattle.nq_events.specs.OwnRefusals.{in_use_refusal, of_shell, own_refusal, principle_refusal, refused_if, room_refusal}
use Rattle.nq_events.specs.Outlines.{Outline, Outlined, BootStrap, AddShell, Dcl, Defn, AddAxiom, ProveLemma, Toggle, Switch, Undo, Skipped, outline}
use Rattle.nq_events.specs.Reading.{event_after, event_of, event_refusal, outlined_event, refusal_after}
use Rattle.nq_events.specs.Refusals.{Refusal, NameInUse, FunctionInUse}
use Rattle.nq_events.specs.TermRefusals.{arity_of}
use Rattle.nq_events.proofs.EventTerms.{first_left}
use Rattle.nq_spelling.specs.ReadBack.{FormsGrowHistories, IsGrown, PrintedIsReadBack, ground, added, undone}
use Rattle.nq_spelling.specs.SpelledEvents.{IsSpelledShell}
use Rattle.nq_spelling.proofs.OutlineSpelling.{OutlineIs, OutlinedIs, outline_is}
use Rattle.nq_spelling.proofs.UsableFunctions.{grown_is_usable}

pub printed_is_read_back : PrintedIsReadBack
printed_is_read_back h t grown over names small =
    let r = printed_over_symbols (symbols_of h) (arity_of h) t (grown_is_usable h grown) over names small in
    (r.0, r.1, read_whole (printed t) r.0 r.2)

-- ---- the event of a form adds new functions

not_refused : (b : Bool) (refusal : Refusal) → refused_if b refusal ≡ None → b ≡ false
not_refused true refusal e = absurd (cc)
not_refused false refusal e = refl

none_of_shell : (o : Option ShellRefusal) → of_shell o ≡ None → o ≡ None
none_of_shell None e = refl
none_of_shell (Some refusal) e = absurd (cc)

accessors_spelled : (parts : List Part) → Each IsPartSpelled parts → Each (λ n. IsTrue (is_symbol n)) (symbol_names (accessor_symbols parts))
accessors_spelled [] all = tt
accessors_spelled (part ∷ parts) all = (all.0.accessor, accessors_spelled parts all.1)

shell_spelled : (shell : Shell) → IsSpelledShell shell → Each (λ n. IsTrue (is_symbol n)) (symbol_names (shell_symbols shell))
shell_spelled shell is = (is.constructor_spelled, by_base shell.base is.base_spelled)
  where
    rest : Each (λ n. IsTrue (is_symbol n)) (symbol_names ((shell.recognizer, 1) ∷ accessor_symbols shell.parts))
    rest = (is.recognizer_spelled, accessors_spelled shell.parts is.parts_spelled)

    by_base : (base : Option Name) → IsBaseSpelled base → Each (λ n. IsTrue (is_symbol n)) (symbol_names (base_symbols base ++ ((shell.recognizer, 1) ∷ accessor_symbols shell.parts)))
    by_base None spelled = rest
    by_base (Some b) spelled = (spelled.0, rest)

module _ (h : History) (grown : IsGrown h) where
  -- an event without functions
  plain : (e : logic.Event) → event_symbols e ≡ [] → IsGrown (h ++ e ∷ [])
  plain e none = added e grown (record {
    spelled = subst (λ (zs : List Symbol). Each (λ n. IsTrue (is_symbol n)) (symbol_names zs)) (sym none) tt;
    unused = subst (λ (zs : List Symbol). Each (λ n. is_in_use n h ≡ false) (symbol_names zs)) (sym none) tt;
    distinct = subst (λ (zs : List Symbol). AreDistinct (symbol_names zs)) (sym none) tt;
  })

  -- an event with one function
  single : (e : logic.Event) (s : Symbol) → event_symbols e ≡ s ∷ [] → IsTrue (is_symbol s.0) → is_in_use s.0 h ≡ false → IsGrown (h ++ e ∷ [])
  single e s one spelled unused = added e grown (record {
    spelled = subst (λ (zs : List Symbol). Each (λ n. IsTrue (is_symbol n)) (symbol_names zs)) (sym one) (spelled, tt);
    unused = subst (λ (zs : List Symbol). Each (λ n. is_in_use n h ≡ false) (symbol_names zs)) (sym one) (unused, tt);
    distinct = subst (λ (zs : List Symbol). AreDistinct (symbol_names zs)) (sym one) ((λ m. m), tt);
  })

  shell_added : (shell : Shell) → IsSpelledShell shell → principle_refusal h shell ≡ None → IsGrown (h ++ logic.AddShell shell ∷ [])
  shell_added shell is e =
      let accepted = ((shells_refused_law (λ name. is_in_use name h) (shells_of h) shell).0 (none_of_shell _ e)).0 in
      added (logic.AddShell shell) grown (record { spelled = shell_spelled shell is; unused = accepted.unused; distinct = accepted.distinct })

  after_outline : (m : Option Term) (o : Outline) → OutlineIs o → own_refusal h (outlined_event h o) ≡ None → IsGrown (history_after h (outlined_event h o) m)
  unfolding own_refusal
  after_outline m BootStrap is e = ground
  after_outline m (AddShell shell) is e = shell_added shell is (first_left (principle_refusal h shell) (room_refusal h) e)
  after_outline m (Dcl name formals) is e = single _ (name, length formals) refl is.symbol (not_refused (is_in_use name h) (NameInUse name) (first_left (in_use_refusal NameInUse h name) _ e))
  after_outline m (Defn name formals body measures) is e =
      single _ (name, length formals) refl is.0.symbol (not_refused (is_in_use name h) (FunctionInUse name) (first_left (in_use_refusal FunctionInUse h name) _ e))
  after_outline m (AddAxiom name types term) is e = plain _ refl
  after_outline m (ProveLemma name types term hints) is e = plain _ refl
  after_outline m (Toggle name old disabled) is e = plain _ refl
  after_outline m (Switch old disabled) is e = plain _ refl
  after_outline m (Undo name) is e = undone name grown
  after_outline m Skipped is e = grown

  after_outlined : (m : Option Term) (o : Outlined) → OutlinedIs o → refusal_after h o ≡ None → own_refusal h (event_after h o) ≡ None → IsGrown (history_after h (event_after h o) m)
  after_outlined m (Err refusal) is good own = absurd (cc)
  after_outlined m (Ok o) is good own = after_outline m o is own

pub forms_grow_histories : FormsGrowHistories
unfolding event_refusal event_of
forms_grow_histories h form m grown spelled narrow good own = after_outlined h grown m (outline form) (outline_is form spelled narrow) good own
