use Rattle.nq_event.proofs.ReadLemmas.{elements_straight, elements_dotted}
use Rattle.nq_event.proofs.lists.elements_of.Goals as goal

pub returns-in-None : goal.returns-in-None
returns-in-None c = elements_straight c.args.form.now c.in-List.items c.in-List.tail c.in-List.is c.in-None.is

pub returns-in-Some : goal.returns-in-Some
returns-in-Some c = elements_dotted c.args.form.now c.in-List.items c.in-List.tail c.in-Some.field-0 c.in-List.is c.in-Some.is
