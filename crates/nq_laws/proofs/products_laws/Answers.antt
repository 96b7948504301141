use Rattle.nq_laws.proofs.Products.{laws_of_products_hold}
use Rattle.nq_laws.proofs.products_laws.Goals as goal

pub returns : goal.returns
returns c = laws_of_products_hold
