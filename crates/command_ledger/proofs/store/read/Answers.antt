use Rattle.std.proofs.Common.{ℕ, ◌+◌, ◌-◌, length, ◌∙◌, arith}
use Rattle.command_ledger.proofs.Reading.{stop_read, one_read}
use Rattle.command_ledger.proofs.store.read.Goals as goal

pub read_at-requires : goal.read_at-requires
read_at-requires c = c.loop-entry.invariant.within

pub returns-then-len-eq0 : goal.returns-then-len-eq0
returns-then-len-eq0 c =
    let l = c.loop-entry in
    let octets = c.args.octets.now in
    let n : ℕ = length octets - l._entry in
    let m : ℕ = length octets - (l._entry + 1) in
    let read = c.in_ok-len.ensures in
    stop_read n m l.good l.state c.read_at.new.state octets c.in_ok-len.len (omega arith) read.len
    c.if-len-eq0.true read.state
    ∙ l.invariant.goes_on

pub loop-entry-preserved : goal.loop-entry-preserved
loop-entry-preserved c =
    let l = c.loop-entry in
    let octets = c.args.octets.now in
    let n : ℕ = length octets - l._entry in
    let m : ℕ = length octets - (l._entry + 1) in
    let read = c.in_ok-len.ensures in
    record {
      within = read.within;
      goes_on =
          one_read n m l.good l.state c.read_at.new.state octets c.in_ok-len.len (omega arith) read.len
          c.if-len-eq0.false read.state
          ∙ l.invariant.goes_on;
    }
