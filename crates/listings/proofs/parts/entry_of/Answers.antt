use Rattle.std.proofs.Common.{arith}
use Rattle.listings.proofs.Digits.{octet_entry}
use Rattle.listings.proofs.parts.entry_of.Goals as goal

pub returns-clause-room : goal.returns-clause-room
returns-clause-room c = (octet_entry _ c.args.octet c.from-at.ensures (omega (arith, c.ranges.octet.fits))).room

pub returns-clause-digits : goal.returns-clause-digits
returns-clause-digits c = (octet_entry _ c.args.octet c.from-at.ensures (omega (arith, c.ranges.octet.fits))).digits

pub returns-clause-count : goal.returns-clause-count
returns-clause-count c = (octet_entry _ c.args.octet c.from-at.ensures (omega (arith, c.ranges.octet.fits))).count

pub returns-clause-few : goal.returns-clause-few
returns-clause-few c = (octet_entry _ c.args.octet c.from-at.ensures (omega (arith, c.ranges.octet.fits))).few
