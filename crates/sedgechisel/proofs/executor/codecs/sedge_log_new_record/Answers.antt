use Rattle.std.proofs.Common.{◌≡◌, length, true, refl, ap, ◌∙◌, arith, eq-eqb}
use Rattle.std.specs.Prelude.{◌==◌}
use Rattle.command_log.specs.Layout.{place_octets}
use Rattle.sedgechisel.proofs.executor.codecs.sedge_log_new_record.Goals as goal

pub returns : goal.returns
returns c =
    let whole : (length c.args.out.now == 50) ≡ true =
    eq-eqb (length c.args.out.now) 50 (omega (arith, c.if-out-ne50.false)) in
    rw whole (record {
      answer = refl;
      left =
          c.copy_from_slice.ensures.after ∙ c.encode_record.ensures ∙ ap place_octets c.new_board.ensures;
    })
