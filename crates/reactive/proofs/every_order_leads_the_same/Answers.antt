use Rattle.reactive.proofs.Theorems.{order_leads}
use Rattle.reactive.proofs.every_order_leads_the_same.Goals as goal

pub returns : goal.returns
returns c = order_leads
