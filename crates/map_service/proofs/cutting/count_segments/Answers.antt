use Rattle.std.proofs.Common.{◌≡◌, ◌≤◌, ℕ, ◌+◌, ◌-◌, ◌/◌, [], List, length, ap, ◌∙◌, arith, length-append}
use Rattle.std.proofs.Math.Nat.{div-le_self}
use Rattle.tc_frame.specs.Layout.{SegmentView}
use Rattle.map_service.specs.Cutting.{parts_of, segments_of}
use Rattle.map_service.proofs.Parts.{parts-count}
use Rattle.map_service.proofs.Groups.{groups-cut, groups-none, none_from}
use Rattle.map_service.proofs.cutting.count_segments.Goals as goal

pub groups-preserved : goal.groups-preserved
groups-preserved c =
    let part : ℕ = c.args.part in
    let rest : List ℕ = c.groups.rest.now in
    let group : List ℕ = c.split_at.result.0.now in
    let behind : List ℕ = c.split_at.result.1.now in
    let some : 1 ≤ length rest = omega (arith, c.group_len.ensures.some, c.group_len.ensures.within) in
    let one : 1 ≤ length group = omega (arith, c.group_len.ensures.some, c.split_at.ensures.front_len) in
    let cut = λ (m : ℕ). groups-cut part m c.group_len.result rest group behind c.groups.invariant.whole some
    c.group_len.ensures.group c.split_at.ensures.front c.split_at.ensures.back in
    let few : (length group - 1) / part ≤ length group - 1 = div-le_self (length group - 1) part in
    record {
      whole = (cut 0).1;
      room = omega (
        arith,
        c.groups.invariant.room,
        c.split_at.ensures.front_len,
        c.split_at.ensures.back_len,
        c.group_len.ensures.within,
      );
      count = λ (m : ℕ).
          let here : List SegmentView = parts_of part m group in
          let next : List SegmentView = segments_of part m behind in
          let sum : length (segments_of part m rest) ≡ length here + length next =
          ap length (cut m).0 ∙ length-append here next in
          let parts : length here ≡ (length group - 1) / part + 1 = parts-count part m group c.requires.some_part one in
          omega (arith, c.groups.invariant.count m);
    }

pub returns : goal.returns
returns c = λ (m : ℕ).
    let part : ℕ = c.args.part in
    let rest : c.groups.rest.now ≡ [] = none_from c.groups.rest.now c.groups-test.ensures in
    let none : length (segments_of part m c.groups.rest.now) ≡ 0 =
    ap (λ (xs : List ℕ). length (segments_of part m xs)) rest ∙ ap length (groups-none part m) in
    omega (arith, c.groups.invariant.count m)
