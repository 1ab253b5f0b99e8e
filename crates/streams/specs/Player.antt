-- What a player does with the lines of a text, one after another.
use Rattle.std.specs.Prelude.{◌≡◌, ℕ, Bool, true, ◌&&◌, List, [], ◌∷◌, ◌++◌}
use Rattle.streams.specs.Pieces.{Taking}
use Rattle.streams.specs.Lines.{parts_of, all_but_last, last_part, ended_lines, line_left}
use Rattle.streams.specs.Lines.{lines_of}
use Rattle.streams.specs.declared.play.Progress.{Progress}

-- What a player does with a line. S is the player.
pub record Playing (S : Type 0) : Type 0 where
  -- what is written in answer, with its line feed; nothing if the line has no answer
  pub answer : S → List ℕ → List ℕ
  -- the player after the line
  pub after : S → List ℕ → S
  -- whether the line is good
  pub is_good : S → List ℕ → Bool

-- How far a text is played: the answers so far, the player, whether all lines were good, and the
-- part of a line that no line feed has ended.
pub record Standing (S : Type 0) : Type 0 where
  pub text : List ℕ
  pub player : S
  pub all_good : Bool
  pub left : List ℕ

-- a part of a line, joined with the parts of the octets that follow it
abbrev pub joined : List ℕ → List (List ℕ) → List (List ℕ)
joined left [] = left ∷ []
joined left (part ∷ parts) = (left ++ part) ∷ parts

module _ {S : Type 0} (playing : Playing S) where
  -- the answers to lines
  abbrev pub answers : S → List (List ℕ) → List ℕ
  answers s [] = []
  answers s (line ∷ lines) = playing.answer s line ++ answers (playing.after s line) lines

  -- the player after lines
  abbrev pub after_lines : S → List (List ℕ) → S
  after_lines s [] = s
  after_lines s (line ∷ lines) = after_lines (playing.after s line) lines

  -- whether all lines are good
  abbrev pub are_good : S → List (List ℕ) → Bool
  are_good s [] = true
  are_good s (line ∷ lines) = playing.is_good s line && are_good (playing.after s line) lines

  -- all that is written for a text
  abbrev pub answers_of : S → List ℕ → List ℕ
  answers_of s text = answers s (lines_of text)

  -- what is written for a text that may continue: the answers to the lines that have ended
  abbrev pub answers_so_far : S → List ℕ → List ℕ
  answers_so_far s text = answers s (ended_lines text)

  -- whether all lines of a text are good
  abbrev pub is_all_good : S → List ℕ → Bool
  is_all_good s text = are_good s (lines_of text)

  -- the player after a text that has ended
  abbrev pub after_text : S → List ℕ → S
  after_text s text = after_lines s (lines_of text)

  -- a text that is played further; each of these parts except the last is a line
  abbrev pub played : Standing S → List (List ℕ) → Standing S
  played st parts = record {
    text = st.text ++ answers st.player (all_but_last parts);
    player = after_lines st.player (all_but_last parts);
    all_good = st.all_good && are_good st.player (all_but_last parts);
    left = last_part parts;
  }

  -- a text that is played further by these octets
  abbrev pub fed : Standing S → List ℕ → Standing S
  fed st octets = played st (joined st.left (parts_of octets))

  -- What a player makes of a text that arrives in pieces. L keeps how far the text is played.
  abbrev pub playing_of : {L : Type 0} → (L → S → Standing S) → Taking L S Bool
  playing_of stands = record {
    text = λ l s octets. let st = fed (stands l s) octets in
        st.text ++ answers st.player (line_left st.left);
    ends = λ l s n octets good last. let st = fed (stands l s) octets in
        (good ≡ (st.all_good && are_good st.player (line_left st.left)))
        × (last ≡ after_lines st.player (line_left st.left));
    so_far = λ l s octets before now. now ≡ before ++ (fed (stands l s) octets).text;
    stops = λ l s octets. ⊥;
    is_open = λ l s n. Unit {0};
  }

-- A piece of a text has been played: the answers are written, and the next piece may come.
pub record HasPlayed {S : Type 0} (st next : Standing S) (before now : List ℕ) : Type 0 where
  pub written : now ≡ before ++ st.text
  pub next_is : next ≡ record st { text = [] }

-- how far a text is played, as the code keeps it
abbrev pub standing : {S : Type 0} → List ℕ → S → Progress → Standing S
standing text player progress = record {
  text = text;
  player = player;
  all_good = progress.all_good;
  left = progress.left.items;
}
