use Rattle.command_log.proofs.Exact.{each_order_is_read, each_read_is_an_order}
use Rattle.command_log.proofs.laws.law_of_orders.Goals as goal

pub returns : goal.returns
returns c = record { read = each_order_is_read; only = each_read_is_an_order }
