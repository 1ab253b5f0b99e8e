use Rattle.std.proofs.Common.{◌≤◌, ℕ, ◌+◌, ◌-◌, ◌/◌, List, [], length, take, drop, sym, ap, ◌∙◌, arith}
use Rattle.std.specs.Prelude.{slice_get}
use Rattle.std.proofs.lemmas.List.{drop-drop}
use Rattle.std.proofs.lemmas.Option.{slice_get_past}
use Rattle.tc_frame.specs.Layout.{SegmentView}
use Rattle.map_service.specs.Cutting.{parts_of, segments_of}
use Rattle.map_service.proofs.Groups.{groups-cut, groups-none, none_from}
use Rattle.sedgechisel.specs.Cuttings.{octets_before}
use Rattle.sedgechisel.proofs.Pieces.{found_here, found_later, before_here, before_behind, placed}
use Rattle.sedgechisel.proofs.cutting.place_in.Goals as goal

pub returns-then-left-count-clause-there : goal.returns-then-left-count-clause-there
returns-then-left-count-clause-there c =
    let part : ℕ = c.args.part in
    let n : ℕ = c.group_len-len.result in
    let left : ℕ = c.groups.left in
    sym c.groups.invariant.left
    ∙ found_here part n c.groups.rest.now c.groups.invariant.whole c.requires.some_part c.group_len-len.ensures.some
    c.group_len-len.ensures.within
    c.group_len-len.ensures.group left c.if-left-count.true
    ∙ ap (λ (xs : List ℕ). slice_get (parts_of part 0 (take n xs)) left) c.groups.invariant.behind
    ∙ c.place_of.ensures.there

pub returns-then-left-count-clause-place : goal.returns-then-left-count-clause-place
returns-then-left-count-clause-place c =
    let part : ℕ = c.args.part in
    let n : ℕ = c.group_len-len.result in
    let left : ℕ = c.groups.left in
    let here = before_here part n c.groups.rest.now c.groups.invariant.whole c.requires.some_part
    c.group_len-len.ensures.some c.group_len-len.ensures.within c.group_len-len.ensures.group left
    c.if-left-count.true in
    placed c.args.octets.now (segments_of part 0 c.args.octets.now) c.args.k c.place_of.result
    (omega (arith, here, c.groups.invariant.before, c.place_of.ensures.from)) c.place_of.ensures.within

pub groups-preserved : goal.groups-preserved
groups-preserved c =
    let part : ℕ = c.args.part in
    let n : ℕ = c.group_len-len.result in
    let rest : List ℕ = c.groups.rest.now in
    let left : ℕ = c.groups.left in
    let count : ℕ = (n - 1) / part + 1 in
    let some : 1 ≤ length rest = omega (arith, c.group_len-len.ensures.some, c.group_len-len.ensures.within) in
    record {
      whole = (groups-cut part 0 n rest c.split_at.result.0.now c.split_at.result.1.now c.groups.invariant.whole some
          c.group_len-len.ensures.group c.split_at.ensures.front c.split_at.ensures.back).1;
      behind = c.split_at.ensures.back ∙ ap (drop n) c.groups.invariant.behind
          ∙ drop-drop n c.groups.from c.args.octets.now;
      within = omega (arith, c.groups.invariant.within, c.split_at.ensures.back_len, c.group_len-len.ensures.within);
      left =
          ap (λ (xs : List ℕ). slice_get (segments_of part 0 xs) (left - count)) c.split_at.ensures.back
          ∙ sym (found_later part n rest c.groups.invariant.whole c.requires.some_part c.group_len-len.ensures.some
          c.group_len-len.ensures.within
          c.group_len-len.ensures.group left c.if-left-count.false)
          ∙ c.groups.invariant.left;
      before =
          let later = before_behind part n rest c.groups.invariant.whole c.requires.some_part
          c.group_len-len.ensures.some c.group_len-len.ensures.within c.group_len-len.ensures.group left
          c.if-left-count.false in
          let same = ap (λ (xs : List ℕ). octets_before (segments_of part 0 xs) (left - count))
          c.split_at.ensures.back in
          omega (arith, later, same, c.groups.invariant.before);
    }

pub returns-clause-there : goal.returns-clause-there
returns-clause-there c =
    let part : ℕ = c.args.part in
    let left : ℕ = c.groups.left in
    let none : List SegmentView = [] in
    sym c.groups.invariant.left
    ∙ ap (λ (xs : List ℕ). slice_get (segments_of part 0 xs) left) (none_from c.groups.rest.now c.groups-test.ensures)
    ∙ ap (λ (l : List SegmentView). slice_get l left) (groups-none part 0)
    ∙ slice_get_past none left (omega arith)
