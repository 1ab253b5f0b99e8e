use Rattle.std.proofs.Common.{length, arith}
use Rattle.tm_link.proofs.Spelled.{data_parts}
use Rattle.tm_link.proofs.data_field.put_data.Goals as goal

pub returns : goal.returns
returns c =
    rw (c.put_idle_tail.ensures, c.copy_from_slice.ensures.after, c.put_idle.ensures)
    (data_parts c.args.idle_left c.args.held.now (length c.args.out.now) (length c.split_at_mut-first.result.0.now)
    c.min-count.result (length c.split_at_mut-packets.result.1.now) c.requires.tail (omega arith) (omega arith)
    (omega arith))
