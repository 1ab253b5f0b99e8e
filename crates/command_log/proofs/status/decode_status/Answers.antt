use Rattle.std.proofs.Common.{◌≡◌, ℕ, List, true, false, ap, sym, ◌∙◌, subst, arith}
use Rattle.std.specs.Prelude.{not, slice_index}
use lib.Pointwise.{pointwise}
use lib.Dec.{eqb}
use Rattle.command_log.specs.Status.{status_octets}
use Rattle.command_log.specs.declared.status.Status.{Status}
use Rattle.command_log.proofs.ReadBack.{read_status, alike, same_lists, found_status}
use Rattle.command_log.proofs.status.decode_status.Goals as goal

pub returns-then-ne-clause-only : goal.returns-then-ne-clause-only
returns-then-ne-clause-only c status waiting is small e =
    let octets = c.args.octets.now in
    let read = read_status octets status waiting is e in
    let one : c.status_at-status.result ≡ status = c.status_at-status.ensures ∙ read.0 in
    let same : c.spelled.result ≡ octets =
    c.spelled.ensures ∙ ap (λ (s : Status). status_octets s (slice_index octets 22)) one
    ∙ ap (status_octets status) read.1 ∙ sym e in
    let alike_too : pointwise eqb c.spelled.result octets ≡ true =
    subst (λ (xs : List ℕ). pointwise eqb xs octets ≡ true) (sym same) (alike octets) in
    let differs : true ≡ not (pointwise eqb c.spelled.result octets) = sym c.if-ne.true ∙ c.ne.ensures in
    let none : true ≡ false = differs ∙ ap not alike_too in
    absurd cc

pub returns-clause-only : goal.returns-clause-only
returns-clause-only c status waiting is small e =
    let read = read_status c.args.octets.now status waiting is e in
    let one : c.status_at-status.result ≡ status = c.status_at-status.ensures ∙ read.0 in
    let two : slice_index c.args.octets.now 22 ≡ waiting = read.1 in
    cc

pub returns-clause-found : goal.returns-clause-found
returns-clause-found c = sym (same_lists c.spelled.result c.args.octets.now c.if-ne.ensures) ∙ c.spelled.ensures

pub returns-then-ne-clause-answer : goal.returns-then-ne-clause-answer
returns-then-ne-clause-answer c =
    found_status c.args.octets.now c.spelled.result c.status_at-status.result true
    (omega (arith, c.if-octets-ne27.false)) c.status_at-status.ensures c.spelled.ensures c.if-ne.ensures

pub returns-clause-answer : goal.returns-clause-answer
returns-clause-answer c =
    found_status c.args.octets.now c.spelled.result c.status_at-status.result false
    (omega (arith, c.if-octets-ne27.false)) c.status_at-status.ensures c.spelled.ensures c.if-ne.ensures
