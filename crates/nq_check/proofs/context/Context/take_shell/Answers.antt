use Rattle.std.proofs.Common.{sym, ap, ◌∙◌, subst}
use Rattle.std.specs.Prelude.{All, Vec}
use Rattle.std.specs.declared.alloc.Global.{Global}
use Rattle.nq_bank.specs.declared.shell.Part.{Part}
use Rattle.nq_bank.specs.Shells.{PartStands}
use Rattle.nq_check.proofs.ContextLemmas.{all_none, whole_grown}
use Rattle.nq_check.proofs.context.Context.take_shell.Goals as goal

pub returns-clause-whole : goal.returns-clause-whole
returns-clause-whole c =
    let bank = c.shell_of.new.bank in
    let w = whole_grown c.args.self.now bank c.shell_of.ensures.grows c.requires in
    record {
      history = w.history;
      introduced = w.introduced;
      terms = w.terms;
      lines = w.lines;
      parts = subst (All (PartStands bank)) (sym (ap (λ (v : Vec Part Global). v.items) c.replace-parts.ensures.after ∙ c.new.ensures.items)) (all_none (PartStands bank));
    }
