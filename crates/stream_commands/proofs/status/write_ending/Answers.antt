use Rattle.std.proofs.Common.{◌≡◌, ◌∙◌, ◌++◌, List, ℕ, [], Result, Ok, refl, sym, ap, arith}
use Rattle.std.proofs.lemmas.List.{append-nil}
use Rattle.std.specs.Prelude.{codes}
use Rattle.listings.specs.Text.{line_end}
use Rattle.streams.specs.declared.fault.StreamFault.{StreamFault}
use Rattle.stream_commands.specs.declared.outcome.Outcome.{Outcome}
use Rattle.stream_commands.specs.Status.{ending_line}
use Rattle.stream_commands.proofs.status.write_ending.Goals as goal

abbrev done : Outcome → Result Outcome StreamFault
done outcome = Ok outcome

pub returns-in-Ok-Good : goal.returns-in-Ok-Good
returns-in-Ok-Good g c =
    let none : ending_line c.args.dumped.now ≡ [] =
    ap ending_line (c.in-Ok-Good.is ∙ ap done (rw c.in-Ok-Good.is at c.in-Ok-Good.field-0-is)) in
    record {
      ok = rw none (sym (append-nil (g.W.Sink.taken_octets c.args.errors.now)));
      beginning = rw none ([], refl);
      failures = omega arith;
    }

pub returns-in-Ok-Faulty : goal.returns-in-Ok-Faulty
returns-in-Ok-Faulty g c =
    let none : ending_line c.args.dumped.now ≡ [] =
    ap ending_line (c.in-Ok-Faulty.is ∙ ap done (rw c.in-Ok-Faulty.is at c.in-Ok-Faulty.field-0-is)) in
    record {
      ok = rw none (sym (append-nil (g.W.Sink.taken_octets c.args.errors.now)));
      beginning = rw none ([], refl);
      failures = omega arith;
    }

pub returns-in-Ok-Unreadable : goal.returns-in-Ok-Unreadable
returns-in-Ok-Unreadable g c =
    let line : ending_line c.args.dumped.now
    ≡ codes "tctool: line " ++ (c.format-number.result.now ++ (codes ": unreadable" ++ line_end)) =
    ap ending_line (c.in-Ok-Unreadable.is ∙ ap done (rw c.in-Ok-Unreadable.is at c.in-Ok-Unreadable.field-0-is))
    ∙ ap (λ (t : List ℕ). codes "tctool: line " ++ (t ++ (codes ": unreadable" ++ line_end)))
    (sym c.format-number.ensures.text) in
    let told = c.write_parts.ensures in
    record { ok = rw line told.ok; beginning = rw line told.beginning; failures = told.failures }

pub returns-in-Ok-OutOfRange : goal.returns-in-Ok-OutOfRange
returns-in-Ok-OutOfRange g c =
    let line : ending_line c.args.dumped.now
    ≡ codes "tctool: config out of range: " ++ (c.in-Ok-OutOfRange.field.now ++ line_end) =
    ap ending_line (c.in-Ok-OutOfRange.is ∙ ap done (rw c.in-Ok-OutOfRange.is at c.in-Ok-OutOfRange.field-0-is)) in
    let told = c.write_parts-in-Ok-OutOfRange.ensures in
    record { ok = rw line told.ok; beginning = rw line told.beginning; failures = told.failures }

pub returns-in-Err : goal.returns-in-Err
returns-in-Err g c =
    let line : ending_line c.args.dumped.now ≡ c.as_bytes.result.now =
    ap ending_line c.in-Err.is ∙ sym (c.as_bytes.ensures.value ∙ c.line_of.ensures) in
    let told = c.write_all.ensures in
    record { ok = rw line told.ok; beginning = rw line told.beginning; failures = told.failures }
