use Rattle.std.proofs.Common.{◌≡◌, refl, subst}
use Rattle.nq_bank.specs.Shells.{part_at, parts_at, PartStands}
use Rattle.nq_history.specs.ShellLists.{IsPartCopy, Pairwise}
use Rattle.nq_history.proofs.CopyLemmas.{pairwise_all, pairwise_map}
use Rattle.nq_history.proofs.shell_list.copied_shell.Goals as goal

pub returns : goal.returns
returns c =
    let parts = c.args.shell.now.parts.items in
    let copies = c.in_ok-parts.parts.items in
    let copied : Pairwise IsPartCopy parts copies = subst (λ ps. Pairwise IsPartCopy ps copies) c.as_slice.ensures.value c.in_ok-parts.ensures in
    record {
      same = λ bank. let same : parts_at bank copies ≡ parts_at bank parts = pairwise_map IsPartCopy (part_at bank) (λ p q is. is.same bank) parts copies copied in rw same refl;
      stands = λ bank h.
          record {
            constructor = h.constructor;
            base = h.base;
            recognizer = h.recognizer;
            parts = pairwise_all IsPartCopy (PartStands bank) (λ p q is. is.stands bank) parts copies copied h.parts;
          };
    }
