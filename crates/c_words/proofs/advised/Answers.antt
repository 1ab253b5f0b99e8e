use Rattle.c_words.proofs.Zeros.{begins}
use Rattle.c_words.proofs.advised.Goals as goal

pub returns : goal.returns
returns c =
    begins c.args.sentence.now c.copy_from_slice.new.self c.as_bytes.result.now 160
    c.copy_from_slice.ensures.after c.as_bytes.ensures.value
