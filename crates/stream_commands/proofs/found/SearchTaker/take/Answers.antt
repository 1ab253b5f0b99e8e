use Rattle.std.proofs.Common.{◌≡◌, ◌∙◌, ◌++◌, List, ℕ, [], ap, arith, drop, length, subst, sym}
use Rattle.std.proofs.lemmas.List.{append-nil, length-append, length-drop}
use Rattle.octets.specs.Beginning.{IsBeginning}
use Rattle.listings.specs.Text.{written}
use Rattle.stream_commands.specs.Found.{from_here, standing}
use Rattle.stream_commands.proofs.FoundPieces.{search_goes_on}
use Rattle.stream_commands.proofs.FoundSteps.{begins_written}
use Rattle.stream_commands.proofs.found.SearchTaker.take.Given.{Over}
use Rattle.stream_commands.proofs.found.SearchTaker.take.Goals as goal
use Rattle.stream_commands.proofs.found.SearchTaker.take.Goals.{In-Ok-list_found}

-- what is found from the state of the search, and from its state before
same : (g : Over) (c : In-Ok-list_found g) (more : List ℕ)
    → let l = c.args.self.now in let q = c.list_found.new.progress in
    from_here g.C.Listing.lines l.scid l.vcid (standing (written c.list_found.new.text) c.list_found.new.listing q)
    q.skipped (drop c.in-Ok-list_found.done c.extend_from_slice.new.self.items ++ more)
    ≡ from_here g.C.Listing.lines l.scid l.vcid (standing [] c.args.listing.now l.progress) l.progress.skipped
    ((l.held.items ++ c.args.piece.now) ++ more)
same g c more =
    let l = c.args.self.now in
    let q = c.list_found.new.progress in
    let from = from_here g.C.Listing.lines l.scid l.vcid in
    ap (λ (o : List ℕ). from (standing (written c.list_found.new.text) c.list_found.new.listing q) q.skipped
    (drop c.in-Ok-list_found.done o ++ more)) (sym c.as_slice.ensures.value)
    ∙ c.in-Ok-list_found.ensures.found more
    ∙ ap (λ (t : List ℕ). from (standing t c.args.listing.now l.progress) l.progress.skipped
    (c.as_slice.result.now ++ more)) c.clear.ensures
    ∙ ap (λ (o : List ℕ). from (standing [] c.args.listing.now l.progress) l.progress.skipped (o ++ more))
    (c.as_slice.ensures.value ∙ c.in-Ok.ensures.items)

pub returns-in-Ok-write_all-clause-goes_on : goal.returns-in-Ok-write_all-clause-goes_on
returns-in-Ok-write_all-clause-goes_on g c = λ e.
    let q = c.list_found.new.progress in
    search_goes_on g.C.Listing.lines _ _ _ _ _ _ _ (written c.list_found.new.text) _
    (c.in-Ok-write_all.ensures.ok
    ∙ ap (λ (t : List ℕ). g.W.Sink.taken_octets c.args.writer.now ++ t) c.as_bytes.ensures)
    (λ more. ap (λ (o : List ℕ). from_here g.C.Listing.lines c.args.self.now.scid c.args.self.now.vcid
    (standing (written c.list_found.new.text) c.list_found.new.listing q) q.skipped (o ++ more)) c.remove_front.ensures
    ∙ same g (goal.at.returns-in-Ok-write_all-clause-goes_on g c).In-Ok-list_found more)
    (omega (
      arith,
      c.in-Ok-list_found.ensures.count,
      c.in-Ok-list_found.ensures.within,
      ap length c.remove_front.ensures,
      length-drop c.in-Ok-list_found.done c.extend_from_slice.new.self.items,
      ap length c.as_slice.ensures.value,
      ap length c.in-Ok.ensures.items,
      length-append c.args.self.now.held.items c.args.piece.now,
      c.requires.open,
    ))

pub returns-in-Err-clause-beginning : goal.returns-in-Err-clause-beginning
returns-in-Err-clause-beginning g c =
    let l = c.args.self.now in
    let taken = g.W.Sink.taken_octets in
    let q = c.list_found.new.progress in
    let from = from_here g.C.Listing.lines l.scid l.vcid in
    begins_written g.C.Listing.lines l.scid l.vcid (taken c.args.writer.now) (written c.list_found.new.text)
    (taken c.write_all.new.writer) c.args.listing.now c.list_found.new.listing l.progress q l.progress.skipped q.skipped
    (drop c.in-Ok-list_found.done c.extend_from_slice.new.self.items ++ []) (l.held.items ++ c.args.piece.now)
    (subst (λ (t : List ℕ). IsBeginning (taken c.write_all.new.writer) (taken c.args.writer.now ++ t))
    c.as_bytes.ensures c.write_all.ensures.beginning)
    (same g (goal.at.returns-in-Err-clause-beginning g c).In-Ok-list_found []
    ∙ ap (λ (o : List ℕ). from (standing [] c.args.listing.now l.progress) l.progress.skipped o)
    (append-nil (l.held.items ++ c.args.piece.now)))
