use Rattle.std.proofs.Common.{is_some, drop, sym, ap, ◌∙◌, arith}
use Rattle.std.specs.Prelude.{if◌then◌else◌}
use Rattle.cop1.specs.FopPull.{pull_step}
use Rattle.cop1.proofs.UnitsFollow.{map-unit-marked_last, next-goes}
use Rattle.cop1.proofs.fop.Fop.next.Goals as goal

pub take_first-requires : goal.take_first-requires
take_first-requires g c =
    let goes = next-goes c.self.invariant.sender c.self.invariant.fits c.first_bypass.ensures.unit c.in_default.is in
    let within = c.fields-nn.ensures.holds.ranges.within in
    let after = c.next-next.ensures.after in
    let sent = ap (λ s. s.sent.count) after in
    let room = ap (λ s. s.room) after in
    rw c.next-next.ensures.answer
    (omega (arith, goes.fits.units, within, sent, room, goes.same_room, c.self.invariant.room))

pub invariant_of-self-2 : goal.invariant_of-self-2
invariant_of-self-2 g c =
    let goes = next-goes c.self.invariant.sender c.self.invariant.fits c.first_bypass.ensures.unit c.in_default.is in
    let after = c.next-next.ensures.after in
    rw (c.take_first.ensures.sent, c.take_first.ensures.waiting, c.next-next.ensures.answer) (record {
      sender = c.fields-nn.ensures.holds;
      fits = record {
        waiting = goes.fits.waiting ∙ ap (λ s. s.waiting) (sym after);
        units = goes.fits.units ∙ ap (λ s. s.sent.count) (sym after);
      };
      room = omega (arith, ap (λ s. s.room) after, goes.same_room, c.self.invariant.room);
    })

pub returns : goal.returns
returns g c =
    let goes = next-goes c.self.invariant.sender c.self.invariant.fits c.first_bypass.ensures.unit c.in_default.is in
    let bypass = c.first_bypass.ensures.bypass ∙ ap (λ unit. drop
    (if is_some unit then 1 else 0) c.self.inside.bypass.items) c.in_default.is in
    let nn = ap (λ s. s.nn) c.fields-nn.ensures.fields in
    record {
      after = rw (c.take_first.ensures.sent, c.take_first.ensures.waiting, bypass)
          (rw (c.next-next.ensures.answer, c.next-next.ensures.after)
          (sym (ap (λ o. o.after) goes.same) ∙ ap (λ s. (pull_step s).after) c.self.view_is));
      answer = rw (map-unit-marked_last, c.take_first.ensures.sent, c.next_at.ensures, nn)
          (rw (c.next-next.ensures.answer, c.next-next.ensures.after)
          (sym (ap (λ o. o.answer) goes.same) ∙ ap (λ s. (pull_step s).answer) c.self.view_is));
      placed = rw (map-unit-marked_last, c.take_first.ensures.sent, c.next_at.ensures, nn)
          (rw (c.next-next.ensures.answer, c.next-next.ensures.after) goes.placed);
    }
