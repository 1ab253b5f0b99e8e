-- Where a text is cut at its line feeds, and how far it is played by lines and pieces.
use Rattle.std.proofs.Common.{◌≡◌, ◌++◌, ℕ, Bool, true, false, List, [], ◌∷◌, refl, ap, ◌∙◌}
use Rattle.std.proofs.Common.{arith, ◌==◌, sym, append_assoc}
use Rattle.std.specs.List.{onto_first}
use Rattle.std.proofs.lemmas.List.Splits.{slice_split-cons_yes, slice_split-cons_no}
use Rattle.std.proofs.Math.Bool.{and_assoc, and-true}
use Rattle.std.specs.Prelude.{◌&&◌}
use Rattle.std.proofs.lemmas.List.{append-nil}
use Rattle.streams.proofs.Cuts.{HasParts, has_parts}
use Rattle.streams.specs.Pieces.{GoesOn}
use Rattle.streams.specs.Lines.{parts_of, all_but_last, last_part, ended_lines, left_of, line_left}
use Rattle.streams.specs.Player.{joined, Playing, Standing, HasPlayed, answers, after_lines, are_good, played, fed}
use Rattle.streams.specs.Player.{answers_of, after_text, is_all_good, playing_of}

text_has_parts : (text : List ℕ) → HasParts (parts_of text)
text_has_parts text = has_parts (λ (octet : ℕ). octet == 10) text

-- A part before others.

pub all_but_last-cons : (part : List ℕ) (parts : List (List ℕ)) → HasParts parts
    → all_but_last (part ∷ parts) ≡ part ∷ all_but_last parts
all_but_last-cons part parts has = rw has.is refl

pub last_part-cons : (part : List ℕ) (parts : List (List ℕ)) → HasParts parts
    → last_part (part ∷ parts) ≡ last_part parts
last_part-cons part parts has = rw has.is refl

-- before any octets there is no part of a line
pub joined-nothing : (parts : List (List ℕ)) → HasParts parts → joined [] parts ≡ parts
joined-nothing parts has = rw has.is refl

-- Parts before others, if there is at least one part.

all_but_last-append : (parts more : List (List ℕ)) → HasParts more
    → all_but_last (parts ++ more) ≡ parts ++ all_but_last more
all_but_last-append [] more has = refl
all_but_last-append (part ∷ []) more has = all_but_last-cons part more has
all_but_last-append (part ∷ next ∷ parts) more has =
    ap (λ (ps : List (List ℕ)). part ∷ ps) (all_but_last-append (next ∷ parts) more has)

last_part-append : (parts more : List (List ℕ)) → HasParts more → last_part (parts ++ more) ≡ last_part more
last_part-append [] more has = refl
last_part-append (part ∷ []) more has = last_part-cons part more has
last_part-append (part ∷ next ∷ parts) more has = last_part-append (next ∷ parts) more has

joined_has : (part : List ℕ) (more : List (List ℕ)) → HasParts (joined part more)
joined_has part [] = record { first = part; more = []; is = refl }
joined_has part (next ∷ more) = record { first = part ++ next; more = more; is = refl }

-- The parts of a text with more octets: the last part continues.

abbrev goes_on : List (List ℕ) → List (List ℕ) → List (List ℕ)
goes_on parts more = all_but_last parts ++ joined (last_part parts) more

goes_on-onto : (x : ℕ) (part : List ℕ) (parts more : List (List ℕ))
    → onto_first x (goes_on (part ∷ parts) more) ≡ goes_on (onto_first x (part ∷ parts)) more
goes_on-onto x part parts more = grind arith

joined-goes_on : (left : List ℕ) (parts more : List (List ℕ)) → HasParts parts
    → joined left (goes_on parts more) ≡ goes_on (joined left parts) more
joined-goes_on left parts more has = rw has.is (one left has.first has.more)
  where
    one : (left part : List ℕ) (parts : List (List ℕ))
        → joined left (goes_on (part ∷ parts) more) ≡ goes_on (joined left (part ∷ parts)) more
    one left part parts = grind (arith, append_assoc)

goes_on_case : (x : ℕ) (xs ys : List ℕ) (b : Bool) → (x == 10) ≡ b
    → parts_of (xs ++ ys) ≡ goes_on (parts_of xs) (parts_of ys)
    → parts_of (x ∷ (xs ++ ys)) ≡ goes_on (parts_of (x ∷ xs)) (parts_of ys)
goes_on_case x xs ys true e ih =
    let p = λ (octet : ℕ). octet == 10 in
    rw (
      slice_split-cons_yes p x (xs ++ ys) e,
      slice_split-cons_yes p x xs e,
      all_but_last-cons [] (parts_of xs) (text_has_parts xs),
      last_part-cons [] (parts_of xs) (text_has_parts xs),
      ih,
    ) refl
goes_on_case x xs ys false e ih =
    let p = λ (octet : ℕ). octet == 10 in
    let has = text_has_parts xs in
    rw (slice_split-cons_no p x (xs ++ ys) e, slice_split-cons_no p x xs e, ih, has.is)
    (goes_on-onto x has.first has.more (parts_of ys))

parts_more : (xs ys : List ℕ) → parts_of (xs ++ ys) ≡ goes_on (parts_of xs) (parts_of ys)
parts_more [] ys = sym (joined-nothing (parts_of ys) (text_has_parts ys))
parts_more (x ∷ xs) ys = goes_on_case x xs ys (x == 10) refl (parts_more xs ys)

-- What a line, and what a piece, adds to a text that is played.

module _ {S : Type 0} (playing : Playing S) where
  -- a line, and then others
  played_one : (st : Standing S) (line first : List ℕ) (more : List (List ℕ))
      → played playing (played playing st (line ∷ [] ∷ [])) (first ∷ more) ≡ played playing st (line ∷ first ∷ more)
  played_one st line first more =
      let then_on = playing.after st.player line in
      let lines = all_but_last (first ∷ more) in
      rw (
        append-nil (playing.answer st.player line),
        and-true (playing.is_good st.player line),
        append_assoc st.text (playing.answer st.player line) (answers playing then_on lines),
        and_assoc st.all_good (playing.is_good st.player line) (are_good playing then_on lines),
      ) refl

  -- octets in which a line feed ends a line
  fed_line : (st : Standing S) (part rest after : List ℕ) → parts_of rest ≡ part ∷ parts_of after
      → fed playing (played playing st ((st.left ++ part) ∷ [] ∷ [])) after ≡ fed playing st rest
  fed_line st part rest after e =
      let has = text_has_parts after in
      rw (e, has.is) (played_one st (st.left ++ part) has.first has.more)

  -- the same, expressed by what the code has: octets follow the part that is there, and the result is played as a line
  pub fed_after : (st next : Standing S) (line part rest after : List ℕ) → line ≡ st.left ++ part
      → next ≡ played playing (record st { left = line }) (line ∷ [] ∷ []) → parts_of rest ≡ part ∷ parts_of after
      → fed playing next after ≡ fed playing st rest
  fed_after st next line part rest after goes_on plays cuts =
      rw (plays, goes_on) (fed_line st part rest after cuts)

-- How a piece continues the playing of a text.

module _ {S : Type 0} (playing : Playing S) where
  -- lines, and then more lines

  answers-append : (s : S) (lines more : List (List ℕ))
      → answers playing s (lines ++ more)
      ≡ answers playing s lines ++ answers playing (after_lines playing s lines) more
  answers-append s [] more = refl
  answers-append s (line ∷ lines) more =
      rw (answers-append (playing.after s line) lines more, append_assoc) refl

  after_lines-append : (s : S) (lines more : List (List ℕ))
      → after_lines playing s (lines ++ more) ≡ after_lines playing (after_lines playing s lines) more
  after_lines-append s [] more = refl
  after_lines-append s (line ∷ lines) more = after_lines-append (playing.after s line) lines more

  are_good-append : (s : S) (lines more : List (List ℕ))
      → are_good playing s (lines ++ more)
      ≡ (are_good playing s lines && are_good playing (after_lines playing s lines) more)
  are_good-append s [] more = refl
  are_good-append s (line ∷ lines) more =
      rw (are_good-append (playing.after s line) lines more, and_assoc) refl

  -- a text with an answer before its own
  abbrev behind_text : List ℕ → Standing S → Standing S
  behind_text before st = record st { text = before ++ st.text }

  -- a text continues to be played from its state after a piece
  fed-piece : (st next : Standing S) (piece more : List ℕ) → next ≡ record (fed playing st piece) { text = [] }
      → fed playing st (piece ++ more) ≡ behind_text (fed playing st piece).text (fed playing next more)
  fed-piece st next piece more is =
      let parts = joined st.left (parts_of piece) in
      let lines = all_but_last parts in
      let later = joined (last_part parts) (parts_of more) in
      rw (
        is,
        parts_more piece more,
        joined-goes_on st.left (parts_of piece) (parts_of more) (text_has_parts piece),
        all_but_last-append lines later (joined_has (last_part parts) (parts_of more)),
        last_part-append lines later (joined_has (last_part parts) (parts_of more)),
        answers-append st.player lines (all_but_last later),
        after_lines-append st.player lines (all_but_last later),
        are_good-append st.player lines (all_but_last later),
        append_assoc st.text (answers playing st.player lines)
            (answers playing (after_lines playing st.player lines) (all_but_last later)),
        and_assoc st.all_good (are_good playing st.player lines)
            (are_good playing (after_lines playing st.player lines) (all_but_last later)),
      ) refl

  pub playing_goes_on : {L : Type 0} (stands : L → S → Standing S) (n : ℕ) (piece : List ℕ) (l next : L) (s later : S)
      (before now : List ℕ) → HasPlayed (fed playing (stands l s) piece) (stands next later) before now
      → GoesOn (playing_of playing stands) n piece l s before next later now
  playing_goes_on stands n piece l next s later before now has =
      let so = (fed playing (stands l s) piece).text in
      let on = λ (more : List ℕ). fed-piece (stands l s) (stands next later) piece more has.next_is in
      record {
        is_open = tt;
        text = λ more.
            let after = fed playing (stands next later) more in
            let rest = answers playing after.player (line_left after.left) in
            ap (λ (x : Standing S). before ++ (x.text ++ answers playing x.player (line_left x.left))) (on more)
            ∙ ap (λ (t : List ℕ). before ++ t) (append_assoc so after.text rest)
            ∙ sym (append_assoc before so (after.text ++ rest))
            ∙ ap (λ (t : List ℕ). t ++ (after.text ++ rest)) (sym has.written);
        ends = λ more good last h. (
          h.0 ∙ ap (λ (x : Standing S). x.all_good && are_good playing x.player (line_left x.left)) (sym (on more)),
          h.1 ∙ ap (λ (x : Standing S). after_lines playing x.player (line_left x.left)) (sym (on more)),
        );
        so_far = λ more text h.
            let after = fed playing (stands next later) more in
            h ∙ ap (λ (t : List ℕ). t ++ after.text) has.written ∙ append_assoc before so after.text
            ∙ ap (λ (x : Standing S). before ++ x.text) (sym (on more));
        stops = λ more h. h;
      }

  -- The outcome of a text that is played from its first octet.
  module _ (s : S) (left octets : List ℕ) (none : left ≡ []) where
    abbrev begun : Standing S
    begun = fed playing (record { text = []; player = s; all_good = true; left = left }) octets

    pub text_of_all : begun.text ++ answers playing begun.player (line_left begun.left) ≡ answers_of playing s octets
    text_of_all = rw (none, joined-nothing (parts_of octets) (text_has_parts octets))
        (sym (answers-append s (ended_lines octets) (line_left (left_of octets))))

    pub good_of_all : (begun.all_good && are_good playing begun.player (line_left begun.left))
        ≡ is_all_good playing s octets
    good_of_all = rw (none, joined-nothing (parts_of octets) (text_has_parts octets))
        (sym (are_good-append s (ended_lines octets) (line_left (left_of octets))))

    pub player_of_all : after_lines playing begun.player (line_left begun.left) ≡ after_text playing s octets
    player_of_all = rw (none, joined-nothing (parts_of octets) (text_has_parts octets))
        (sym (after_lines-append s (ended_lines octets) (line_left (left_of octets))))
