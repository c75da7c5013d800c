-- `separate::certifying::ranges_certified` meets its contract. Whatever the sort gives, the order was tested.
use Rattle.separate.proofs.Certificate.{in_order_apart}
use Rattle.separate.proofs.certifying.ranges_certified.Goals as goal

pub returns-then-start-le-FEW_ROWS : goal.returns-then-start-le-FEW_ROWS
returns-then-start-le-FEW_ROWS c = λ e. in_order_apart (c.ranges_in_order.ensures e)

pub returns : goal.returns
returns c = λ e. in_order_apart (c.ranges_in_order-2.ensures e)
