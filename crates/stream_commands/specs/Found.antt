-- The lines of the good frames of a channel, and of what is skipped between them. Each frame, and
-- each run of skipped octets, counts as a record.
use Rattle.std.specs.Prelude.{◌≡◌, ◌≤◌, ℕ, ◌+◌, Bool, true, false, List, [], ◌++◌, codes, decimal}
use Rattle.std.specs.Prelude.{length}
use Rattle.std.specs.List.{fold}
use Rattle.frame_search.specs.Parts.{Part, Frame, Skipped, parts_after, parts_of}
use Rattle.listings.specs.Listing.{Lines}
use Rattle.streams.specs.Pieces.{Taking}
use Rattle.listings.specs.Text.{line_end}
use Rattle.listings.specs.declared.stream.Summary.{Summary}
use Rattle.stream_commands.specs.declared.found_progress.Progress.{Progress}
use Rattle.stream_commands.specs.declared.found.Search.{Search}

-- the line of octets that were skipped
abbrev pub skipped_line : ℕ → ℕ → List ℕ
skipped_line i n = decimal i ++ (codes " skipped " ++ (decimal n ++ line_end))

-- The state of a listing: the text so far, what is kept between two frames, how many records there
-- were, and whether none of them was skipped.
pub record Found (S : Type 0) : Type 0 where
  pub text : List ℕ
  pub kept : S
  pub count : ℕ
  pub all_good : Bool

-- before the first record
abbrev pub fresh : {S : Type 0} → List ℕ → S → Found S
fresh text s = record { text = text; kept = s; count = 0; all_good = true }

-- the state of a listing, as the code sees it
abbrev pub standing : {S : Type 0} → List ℕ → S → Progress → Found S
standing text kept progress =
    record { text = text; kept = kept; count = progress.count; all_good = progress.all_good }

module _ {S F : Type 0} (lines : Lines S F) where
  abbrev pub with_part : Found S → Part → Found S
  with_part st (Frame frame) = record st {
    text = st.text ++ lines.line_of st.kept (st.count + 1) frame;
    kept = lines.after st.kept frame;
    count = st.count + 1;
  }
  with_part st (Skipped n) = record st {
    text = st.text ++ skipped_line (st.count + 1) n;
    count = st.count + 1;
    all_good = false;
  }

  abbrev pub with_parts : Found S → List Part → Found S
  with_parts st parts = fold with_part st parts

  -- all that is found in octets of this channel
  abbrev pub found : ℕ → ℕ → S → List ℕ → Found S
  found scid vcid s octets = with_parts (fresh [] s) (parts_of scid vcid octets)

  -- how many records and octets there are, and whether nothing was skipped
  abbrev pub found_summary : ℕ → ℕ → S → List ℕ → Summary
  found_summary scid vcid s octets = record {
    records = (found scid vcid s octets).count;
    octets = length octets;
    all_good = (found scid vcid s octets).all_good;
  }

  -- How a listing continues, as the code sees it: all that is found in the octets from here on,
  -- after this many skipped ones.
  abbrev pub from_here : ℕ → ℕ → Found S → ℕ → List ℕ → Found S
  from_here scid vcid st n octets = with_parts st (parts_after scid vcid n 0 octets)

  -- all that is found from the state of a search on
  abbrev pub found_on : Search → S → List ℕ → Found S
  found_on l s octets = from_here l.scid l.vcid (standing [] s l.progress) l.progress.skipped
      (l.held.items ++ octets)

  -- How a search takes a stream that arrives in pieces.
  abbrev pub searching : Taking Search S Summary
  searching = record {
    text = λ l s octets. (found_on l s octets).text;
    ends = λ l s n octets answer last. answer ≡ record {
      records = (found_on l s octets).count;
      octets = n + length octets;
      all_good = (found_on l s octets).all_good;
    };
    so_far = λ l s octets before now. Unit {0};
    stops = λ l s octets. ⊥;
    is_open = λ l s n.
        l.progress.count + l.progress.skipped + length l.held.items ≤ n;
  }
