use Rattle.std.proofs.Common.{◌≡◌, ◌∙◌, ◌++◌, Ok, Err, sym, ap, subst, drop, length, arith}
use Rattle.std.specs.Prelude.{Some, None, ◌&&◌}
use Rattle.octets.specs.Splitter.{rest_after, failure_after}
use Rattle.octets.proofs.Streams.{IsNoRecord}
use Rattle.listings.specs.Layouts.{first_by}
use Rattle.listings.specs.Listing.{listed, standing}
use Rattle.listings.specs.Text.{written}
use Rattle.listings.proofs.Listed.{goes_on, shorter, listed-none}
use Rattle.listings.proofs.stream.list_records.Given.{Over}
use Rattle.listings.proofs.stream.list_records.Goals as goal
use Rattle.listings.proofs.stream.list_records.Goals.{After-next}

-- what was returned is the first record, and the octets after it are left
pub loop-answer-preserved : goal.loop-answer-preserved
loop-answer-preserved g c =
    let told = c.next.follows.holds-at-none in
    let got = rw c.in-Ok.is at c.in-Some.ensures.answer in
    let first : first_by g.S.Cutter.layout (g.S.Cutter.held c.loop-answer.cutter) ≡ Some (Ok c.in-Ok.octets.now) =
    sym got in
    let left : g.S.Cutter.held c.next.follows.lender-at-none
    ≡ drop (length c.in-Ok.octets.now) (g.S.Cutter.held c.loop-answer.cutter) =
    told.0 ∙ ap (λ o. rest_after o (g.S.Cutter.held c.loop-answer.cutter)) (c.next.ensures.answer ∙ first) in
    let less = shorter g.C.Listing.lines g.S.Cutter.layout g.met.S.Cutter.heads _ _ first in
    record {
      same = goes_on g.C.Listing.lines g.S.Cutter.layout g.met.S.Cutter.heads
          (standing (written c.loop-answer.text) c.loop-answer.listing c.loop-answer.progress
          (g.S.Cutter.held c.loop-answer.cutter))
          (standing (written c.take.new.text) c.take.new.self c.and.new.self
          (g.S.Cutter.held c.next.follows.lender-at-none))
          c.in-Ok.octets.now first
          (c.in_ok-good-in-Ok.ensures.text ∙ ap (λ n. written c.loop-answer.text
          ++ g.C.Listing.lines.line_of c.loop-answer.listing n c.in-Ok.octets.now) c.step.ensures)
          c.in_ok-good-in-Ok.ensures.state
          (ap (λ x. x.count) c.and.ensures ∙ c.step.ensures)
          (ap (λ x. x.all_good) c.and.ensures
          ∙ ap (λ b. c.loop-answer.progress.all_good && b) c.in_ok-good-in-Ok.ensures.good) left
          ∙ c.loop-answer.invariant.same;
      failed = told.1
          ∙ ap (λ o. failure_after o (g.S.Cutter.failure c.loop-answer.cutter)) (c.next.ensures.answer ∙ first)
          ∙ c.loop-answer.invariant.failed;
      room = omega (arith, ap (λ x. x.count) c.and.ensures, c.step.ensures, ap length left, less);
    }

-- no record comes first, so the listing ends as it is
ends : (g : Over) (c : After-next g) → IsNoRecord g.S.Cutter.layout.head g.S.Cutter.layout.extent
    (first_by g.S.Cutter.layout (g.S.Cutter.held c.loop-answer.cutter))
    → rest_after (first_by g.S.Cutter.layout (g.S.Cutter.held c.loop-answer.cutter))
    (g.S.Cutter.held c.loop-answer.cutter) ≡ g.S.Cutter.held c.loop-answer.cutter
    → standing (written c.loop-answer.text) c.loop-answer.listing c.loop-answer.progress
    (g.S.Cutter.held c.next.follows.lender-at-none)
    ≡ listed g.C.Listing.lines g.S.Cutter.layout (standing (written c.loop-answer.text) c.loop-answer.listing
    c.loop-answer.progress (g.S.Cutter.held c.loop-answer.cutter))
ends g c none all =
    let left : g.S.Cutter.held c.next.follows.lender-at-none ≡ g.S.Cutter.held c.loop-answer.cutter =
    c.next.follows.holds-at-none.0
    ∙ ap (λ o. rest_after o (g.S.Cutter.held c.loop-answer.cutter)) c.next.ensures.answer ∙ all in
    ap (standing (written c.loop-answer.text) c.loop-answer.listing c.loop-answer.progress) left
    ∙ sym (listed-none g.C.Listing.lines g.S.Cutter.layout g.met.S.Cutter.heads
    (standing (written c.loop-answer.text) c.loop-answer.listing c.loop-answer.progress
    (g.S.Cutter.held c.loop-answer.cutter)) none)

pub returns-clause-listed : goal.returns-clause-listed
returns-clause-listed g c =
    let first : first_by g.S.Cutter.layout (g.S.Cutter.held c.loop-answer.cutter) ≡ None =
    sym c.in_default.ensures.answer in
    ends g (goal.at.returns-clause-listed g c).After-next
    (subst (IsNoRecord g.S.Cutter.layout.head g.S.Cutter.layout.extent) (sym first) tt)
    (ap (λ o. rest_after o (g.S.Cutter.held c.loop-answer.cutter)) first)
    ∙ c.loop-answer.invariant.same

pub returns-in-Err-clause-listed : goal.returns-in-Err-clause-listed
returns-in-Err-clause-listed g c =
    let got = rw c.in-Err.is at c.in-Some.ensures.answer in
    let first : first_by g.S.Cutter.layout (g.S.Cutter.held c.loop-answer.cutter) ≡ Some (Err c.in-Err.fault.now) =
    sym got in
    ends g (goal.at.returns-in-Err-clause-listed g c).After-next
    (subst (IsNoRecord g.S.Cutter.layout.head g.S.Cutter.layout.extent) (sym first) tt)
    (ap (λ o. rest_after o (g.S.Cutter.held c.loop-answer.cutter)) first)
    ∙ c.loop-answer.invariant.same
