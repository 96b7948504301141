-- A term, written as its line.
use Rattle.std.proofs.Common.{◌≡◌, ℕ, ◌+◌, ◌<◌, ◌^◌, List, [], ◌∷◌, length, Some, sym, ap, ◌∙◌, subst}
use Rattle.std.specs.Prelude.{nat_eq, IsTrue, Result, Ok, Err, OnOk}
use Rattle.std.specs.List.{flat_map}
use Rattle.std.specs.HashMap.{Updates}
use Rattle.nq_logtext.specs.Fields.{name, numeral}
use Rattle.nq_logtext.specs.Symbols.{is_symbol}
use Rattle.nq_logtext.specs.Views.{one_number}
use Rattle.nq_logtext.specs.declared.word.Word.TheVariants as word
use Rattle.nq_logic.specs.Terms.{Term, Variable, call}
use Rattle.nq_logic.specs.Words.{numeral as numeral_term}
use Rattle.nq_bank.specs.declared.node.Sym.{Sym}
use Rattle.nq_bank.specs.declared.node.TermId.{TermId}
use Rattle.nq_bank.specs.Content.{Content, Stands, text_at, term_at, terms_at}
use Rattle.nq_log.specs.Sizes.{is_shallow}
use Rattle.nq_block.specs.declared.writer.Writer.{Writer}
use Rattle.nq_kernel.specs.Over.{IsTermOf, IsVariable}
use Rattle.nq_block.specs.Writing.{Frame, frame_symbols, IsWriting, IsVariableWritten, AddsTerm, number_in, term_of, variable_of}
use Rattle.nq_block.proofs.Numbering.{AreWritten, numbers_in, number_found, number_added}
use Rattle.nq_block.proofs.Named.{symbol_told}
use Rattle.nq_block.proofs.NewFunction.{block_function_spelled}
use Rattle.nq_block.proofs.TermParts.{call_parts}
use Rattle.nq_block.proofs.Stepping.{shallow, adds_term, variable_step, numeral_step, call_step, term_written, variable_written}
use Rattle.nq_block.proofs.RuleLemmas.{after, run_terms, run_fits}

pub on_ok_three : {A E P Q R S : Type 0} (r : Result A E) → (P → Q → R → S) → OnOk r P → OnOk r Q → OnOk r R → OnOk r S
on_ok_three (Ok x) f p q r = f p q r
on_ok_three (Err e) f p q r = tt

pub on_ok_two : {A E P Q S : Type 0} (r : Result A E) → (P → Q → S) → OnOk r P → OnOk r Q → OnOk r S
on_ok_two (Ok x) f p q = f p q
on_ok_two (Err e) f p q = tt

module _ (bank : Content) (frame : Frame) (old new : Writer) (v : IsWriting bank frame old) where
  pub new_variable : (s : Sym) (x : List ℕ) → x ≡ text_at bank s → IsVariable (text_at bank s) → AddsTerm (after word.Variable (name x ∷ [])) old new → new.terms ≡ old.terms →
      Updates nat_eq old.variables new.variables s.0 (Some (old.count + 1)) → IsWriting bank frame new
  new_variable s x reads is adds same updates =
      variable_written bank frame old new (after word.Variable (name (text_at bank s) ∷ [])) v s.0 (is.symbol, tt) (variable_step frame v.waiting v.terms (text_at bank s) is.other)
      (subst (λ x. AddsTerm (after word.Variable (name x ∷ [])) old new) reads adds) updates same

  pub new_numeral : (t : TermId) (n : ℕ) → term_at bank t ≡ numeral_term n → n < 2 ^ 128 → AddsTerm (after word.Numeral (numeral n ∷ [])) old new →
      Updates nat_eq old.terms new.terms t.0 (Some (old.count + 1)) → new.variables ≡ old.variables → IsWriting bank frame new
  new_numeral t n is fits adds updates same =
      term_written bank frame old new (after word.Numeral (numeral n ∷ [])) v t.0 (fits, tt) (numeral_step frame v.waiting v.terms n ∙ ap (adds_term frame v.waiting v.terms) (sym is)) adds updates same

  pub new_call : (t : TermId) (f : Sym) (ids : List TermId) (x ns : List ℕ) → x ≡ text_at bank f → ns ≡ numbers_in old.terms ids → Stands bank t → term_at bank t ≡ call (text_at bank f) (terms_at bank ids) →
      AreWritten old.terms ids → IsTermOf IsVariable (frame_symbols frame) (term_at bank t) → AddsTerm (after word.Call (name x ∷ flat_map one_number ns)) old new →
      Updates nat_eq old.terms new.terms t.0 (Some (old.count + 1)) → new.variables ≡ old.variables → IsWriting bank frame new
  new_call t f ids x ns reads same_numbers stands is written over adds updates same =
      let g : List ℕ = text_at bank f in
      let ts : List Term = terms_at bank ids in
      let ms : List ℕ = numbers_in old.terms ids in
      let parts = call_parts IsVariable (frame_symbols frame) g ts (subst (IsTermOf IsVariable (frame_symbols frame)) is over) in
      let symbol = symbol_told g (length ts) (frame_symbols frame) parts.0 in
      let low = ap is_shallow (sym is) ∙ shallow bank t v.sound stands in
      let spelled : IsTrue (is_symbol g) = block_function_spelled frame.history frame.introduced (g, length ts) v.names v.new parts.0 in
      let whole : AddsTerm (after word.Call (name g ∷ flat_map one_number ms)) old new =
      subst (λ x. AddsTerm (after word.Call (name x ∷ flat_map one_number ms)) old new) reads
      (subst (λ ns. AddsTerm (after word.Call (name x ∷ flat_map one_number ns)) old new) same_numbers adds) in
      term_written bank frame old new (after word.Call (name g ∷ flat_map one_number ms)) v t.0 (spelled, run_fits bank frame old v ids written)
      (call_step frame v.waiting v.terms g ms ts (run_terms bank frame old v ids written) symbol low ∙ ap (adds_term frame v.waiting v.terms) (sym is)) whole updates same

  -- the number of a variable is that of its term
  pub shared_number : (t : TermId) (s : Sym) → term_at bank t ≡ Variable (text_at bank s) → IsVariableWritten old s →
      Updates nat_eq old.terms new.terms t.0 (Some (number_in old.variables s.0)) → new ≡ record old { terms = new.terms } → IsWriting bank frame new
  shared_number t s is written updates same =
      let here = number_found (variable_of bank) v.terms old.variables s.0 v.of_variables written ∙ ap Some (sym is) in
      let grown : IsWriting bank frame (record old { terms = new.terms }) =
      record {
        terms = v.terms;
        waiting = v.waiting;
        leads = v.leads;
        cases = v.cases;
        count = v.count;
        fits = v.fits;
        of_terms = number_added (term_of bank) v.terms old.terms new.terms t.0 (number_in old.variables s.0) v.of_terms updates here;
        of_variables = v.of_variables;
        new = v.new;
        names = v.names;
        sound = v.sound;
      } in
      subst (IsWriting bank frame) (sym same) grown
