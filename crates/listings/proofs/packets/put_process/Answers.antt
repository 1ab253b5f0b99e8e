use Rattle.std.proofs.Common.{append_assoc}
use Rattle.listings.proofs.packets.put_process.Goals as goal

pub returns-clause-put : goal.returns-clause-put
returns-clause-put c =
    rw (c.put_field-next.ensures.put, c.put_word-next.ensures.put, append_assoc, append_assoc, append_assoc) at
    c.put_long_field.ensures.put
