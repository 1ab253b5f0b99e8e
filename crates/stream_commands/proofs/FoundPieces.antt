-- How a search continues with a piece of a stream.
use Rattle.std.proofs.Common.{◌≡◌, ◌≤◌, ℕ, ◌+◌, List, [], ◌++◌, length, sym, ap, append_assoc, ◌∙◌, arith}
use Rattle.std.proofs.lemmas.List.{length-append}
use Rattle.listings.specs.Listing.{Lines}
use Rattle.streams.specs.Pieces.{GoesOn}
use Rattle.listings.proofs.Listed.{same_summary}
use Rattle.stream_commands.specs.Found.{Found, from_here, found_on, searching, standing}
use Rattle.stream_commands.specs.declared.found.Search.{Search}
use Rattle.stream_commands.proofs.FoundSteps.{text_on}

module _ {S F : Type 0} (lines : Lines S F) where
  pub search_goes_on : (n : ℕ) (piece : List ℕ) (l next : Search) (s later : S) (before text now : List ℕ)
      → now ≡ before ++ text
      → ((more : List ℕ) → from_here lines next.scid next.vcid (standing text later next.progress)
      next.progress.skipped (next.held.items ++ more)
      ≡ from_here lines l.scid l.vcid (standing [] s l.progress) l.progress.skipped
      ((l.held.items ++ piece) ++ more))
      → next.progress.count + next.progress.skipped + length next.held.items ≤ n + length piece
      → GoesOn (searching lines) n piece l s before next later now
  search_goes_on n piece l next s later before text now is same bound =
      let on = λ (more : List ℕ).
      ap (from_here lines l.scid l.vcid (standing [] s l.progress) l.progress.skipped)
      (sym (append_assoc l.held.items piece more))
      ∙ sym (same more) ∙ text_on lines next.scid next.vcid text later next.progress next.progress.skipped
      (next.held.items ++ more) in
      record {
        is_open = bound;
        text = λ more. ap (λ (x : Found S). before ++ x.text) (on more)
            ∙ sym (append_assoc before text (found_on lines next later more).text)
            ∙ ap (λ (t : List ℕ). t ++ (found_on lines next later more).text) (sym is);
        ends = λ more answer last h. h ∙ same_summary _ _ (ap (λ (x : Found S). x.count) (sym (on more)))
            (omega (arith, length-append piece more)) (ap (λ (x : Found S). x.all_good) (sym (on more)));
        so_far = λ more text h. tt;
        stops = λ more h. h;
      }
