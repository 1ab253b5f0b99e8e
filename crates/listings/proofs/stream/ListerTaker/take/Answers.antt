use Rattle.std.proofs.Common.{◌≡◌, ◌∙◌, ◌++◌, ◌+◌, [], Err, sym, ap, arith, length, rules}
use Rattle.std.specs.Prelude.{Some}
use Rattle.std.proofs.lemmas.Result.{on_err_weaker}
use Rattle.std.proofs.lemmas.List.{length-append}
use Rattle.listings.specs.Layouts.{first_by}
use Rattle.listings.specs.Listing.{Standing, listed, rest_line, standing, where_refused}
use Rattle.listings.specs.Text.{written}
use Rattle.listings.specs.declared.stream.Lister.{Lister}
use Rattle.streams.proofs.Beginnings.{begins_more, begins_same}
use Rattle.listings.proofs.Listed.{rest_line-refused, listing_goes_on}
use Rattle.listings.proofs.stream.ListerTaker.take.Given.{Over}
use Rattle.listings.proofs.stream.ListerTaker.take.Goals as goal
use Rattle.listings.proofs.stream.ListerTaker.take.Goals.{In-Ok-list_records}

-- the state of the listing after its records
lists : (g : Over) (c : In-Ok-list_records g) → standing (written c.list_records.new.text) c.list_records.new.listing
    c.list_records.new.progress (g.S.Cutter.held c.list_records.new.cutter)
    ≡ listed g.C.Listing.lines g.S.Cutter.layout (standing [] c.args.listing.now c.args.self.now.progress
    (g.S.Cutter.held c.args.self.now.cutter ++ c.args.piece.now))
lists g c =
    let all = listed g.C.Listing.lines g.S.Cutter.layout in
    c.in-Ok-list_records.ensures.listed
    ∙ ap (λ t. all (standing t c.args.listing.now c.args.self.now.progress (g.S.Cutter.held c.feed.new.self)))
    c.clear.ensures
    ∙ ap (λ o. all (standing [] c.args.listing.now c.args.self.now.progress o)) c.in-Ok.ensures.ok

pub returns-in_default-fault-clause-goes_on : goal.returns-in_default-fault-clause-goes_on
returns-in_default-fault-clause-goes_on g c = λ e.
    let same = lists g (goal.at.returns-in_default-fault-clause-goes_on g c).In-Ok-list_records in
    let ok = rw e at c.put.ensures.ok in
    let none = ap where_refused c.in_default-fault.is in
    listing_goes_on g.C.Listing.lines g.S.Cutter.layout g.met.S.Cutter.heads
    (λ (l : Lister g.row.S.Denot). g.S.Cutter.failure l.cutter)
    (λ (l : Lister g.row.S.Denot) kept. standing [] kept l.progress (g.S.Cutter.held l.cutter)) _ _ _ _ _ _ _ _
    (record {
      written = ok.1 ∙ ap (λ x. g.W.Sink.taken_octets c.args.writer.now ++ x.text) same;
      next_is = ap (λ (x : Standing g.row.C.Denot). record x { text = [] }) same;
      is_open = ap (λ x. first_by g.S.Cutter.layout x.octets) (sym same) ∙ c.in-Ok-list_records.ensures.fault ∙ none;
    })
    (search rules)
    (omega (
      arith,
      c.in-Ok-list_records.ensures.count,
      ap length c.in-Ok.ensures.ok,
      length-append (g.S.Cutter.held c.args.self.now.cutter) c.args.piece.now,
      c.requires.open.2,
    ))

pub returns-in_default-fault-clause-beginning : goal.returns-in_default-fault-clause-beginning
returns-in_default-fault-clause-beginning g c =
    let line = rest_line g.C.Listing.lines g.S.Cutter.layout in
    let same = lists g (goal.at.returns-in_default-fault-clause-beginning g c).In-Ok-list_records in
    on_err_weaker c.put.result
    (begins_more _ _ (written c.list_records.new.text)
    (line (c.list_records.new.progress.count + 1) (g.S.Cutter.held c.list_records.new.cutter)) _
    (ap (λ x. x.text ++ line (x.count + 1) x.octets) (sym same)))
    c.put.ensures.beginning

pub returns-clause-beginning : goal.returns-clause-beginning
returns-clause-beginning g c =
    let line = rest_line g.C.Listing.lines g.S.Cutter.layout in
    let same = lists g (goal.at.returns-clause-beginning g c).In-Ok-list_records in
    let first : first_by g.S.Cutter.layout (g.S.Cutter.held c.list_records.new.cutter) ≡ Some (Err c.in-Some.fault) =
    c.in-Ok-list_records.ensures.fault ∙ ap where_refused c.in-Some.is in
    let refused = rest_line-refused g.C.Listing.lines g.S.Cutter.layout g.met.S.Cutter.heads
    (c.list_records.new.progress.count + 1) (g.S.Cutter.held c.list_records.new.cutter) c.in-Some.fault first in
    on_err_weaker c.put-2.result
    (begins_same _ _ (written c.refuse.new.text) _
    (ap (λ x. x.text ++ line (x.count + 1) x.octets) (sym same) ∙ ap (λ t. written c.list_records.new.text ++ t) refused
    ∙ ap (λ n. written c.list_records.new.text ++ g.C.Listing.lines.fault_line n c.in-Some.fault)
    (sym c.following-next.ensures)
    ∙ sym c.in-Ok-refuse.ensures))
    c.put-2.ensures.beginning
