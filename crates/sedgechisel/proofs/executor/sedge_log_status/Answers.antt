use Rattle.std.proofs.Common.{◌≡◌, length, true, refl, sym, ap, ◌∙◌, arith, eq-eqb, Ok}
use Rattle.std.specs.Prelude.{◌==◌, min}
use Rattle.command_log.specs.declared.status.Status.{Status}
use Rattle.command_log.specs.Status.{status_octets}
use Rattle.sedgechisel.specs.CommandLogs.{log_described}
use Rattle.sedgechisel.proofs.executor.sedge_log_status.Goals as goal

pub returns : goal.returns
returns c =
    let whole : (length c.args.out.now == 27) ≡ true =
    eq-eqb (length c.args.out.now) 27 (omega (arith, c.if-out-ne27.false)) in
    let board : log_described c.args.log.now ≡ Ok c.in-Ok.board = sym c.described.ensures ∙ c.in-Ok.is in
    rw (whole, board) (record {
      answer = refl;
      left =
          c.copy_from_slice.ensures.after ∙ c.encode_status.ensures
          ∙ ap (λ (s : Status). status_octets s (min c.args.waiting 255)) c.status.ensures;
    })
