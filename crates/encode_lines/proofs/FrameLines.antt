-- A line that spells a frame is the line of that frame, and the line of a frame spells it.
use Rattle.hex.specs.Hex.{encode_upper, IsBytes}
use Rattle.std.proofs.Common.{◌≡◌, ◌∙◌, ◌≤◌, ◌&&◌, ◌++◌, ℕ, List, [], ◌∷◌, Option, Some, refl, sym, ap}
use Rattle.std.proofs.Common.{arith, append_assoc, ◌<◌, true, length, None, Ok}
use Rattle.std.specs.Prelude.{codes, decimal, option_map, option_and_then, IfSome}
use Rattle.std.specs.Str.{bytes_eq}
use Rattle.std.proofs.lemmas.Bool.{and_parts}
use Rattle.std.proofs.lemmas.Option.{same_Some}
use Rattle.std.specs.List.{list_all}
use Rattle.std.proofs.lemmas.Grind.{common_steps}
use Rattle.tc_frame.specs.declared.frame.Command.TheVariants.{Unlock, SetVr}
use Rattle.tc_frame.specs.Layout.{SegmentView, BodyView, Ad, Bd, Bc, FrameView, flags_code, body_fits, segment_fits}
use Rattle.tc_frame.specs.Decoding.{flags_at, frame_with, frame_at}
use Rattle.tc_frame.specs.declared.frame.Check.{Check}
use Rattle.tc_frame.specs.declared.frame.SegmentFlags.{SegmentFlags}
use Rattle.tc_frame.specs.declared.frame.SegmentFlags.TheVariants.{First, Continuing, Last, Alone}
use Rattle.tc_frame.specs.Encoding.{frame_fits, spelling}
use Rattle.tc_frame.proofs.Spelled.{spelling_is, frame_again}
use Rattle.streams.specs.Words.{words_in, number_in_word}
use Rattle.streams.proofs.SpelledWords.{read, printed, is_word, number_word, mapped, chained}
use Rattle.encode_lines.specs.Fields.{number_after, octets_after, without_number}
use Rattle.encode_lines.specs.Frames.{frame_of, segment_of, segment_with, frame_in, sequence_line, bypass_line}
use Rattle.encode_lines.specs.Frames.{unlock_line, set_line, frame_octets}
use Rattle.encode_lines.specs.Listed.{IsLineOf, frame_text, HasOctets}
use Rattle.encode_lines.proofs.Words.{passed, same_word, number_within, number_read, data_read, ended, line_read}
use Rattle.encode_lines.proofs.Words.{number_spelled, data_spelled, digits_word, line_words}

-- A line that spells a frame is the line of that frame.

pub flags_again : (code : ℕ) → code ≤ 3 → flags_code (flags_at code) ≡ code
flags_again code le = grind (arith, le)

-- ---- the parts of a frame, and the words that spell them

pub record SaysChannel (scid vcid : List ℕ) (body : Option BodyView) (f : FrameView) : Type 0 where
  pub scid_is : scid ≡ codes "scid=" ++ decimal f.scid
  pub vcid_is : vcid ≡ codes "vcid=" ++ decimal f.vcid
  pub body_is : body ≡ Some f.body

channel_fields : (s v : Option ℕ) (body : Option BodyView) (f : FrameView)
    → option_and_then (λ (x : ℕ). option_and_then (λ (y : ℕ). option_map (frame_with x y) body) v) s ≡ Some f
    → (s ≡ Some f.scid) × (v ≡ Some f.vcid) × (body ≡ Some f.body)
channel_fields s v body f e = grind (arith, e)

says_channel : (scid vcid : List ℕ) (body : Option BodyView) (f : FrameView) → frame_of scid vcid body ≡ Some f
    → SaysChannel scid vcid body f
says_channel scid vcid body f e =
    let is = channel_fields (number_after (codes "scid=") 1023 scid) (number_after (codes "vcid=") 63 vcid) body f e in
    record {
      scid_is = (number_read (codes "scid=") 1023 scid f.scid (omega arith) is.0).0;
      vcid_is = (number_read (codes "vcid=") 63 vcid f.vcid (omega arith) is.1).0;
      body_is = is.2;
    }

pub record SaysSegment (flags map payload : List ℕ) (s : SegmentView) : Type 0 where
  pub flags_is : flags ≡ codes "seg=" ++ decimal (flags_code s.header.flags)
  pub map_is : map ≡ codes "map=" ++ decimal s.header.map
  pub payload_is : payload ≡ codes "data=" ++ encode_upper s.payload

segment_fields : (q m : Option ℕ) (o : Option (List ℕ)) (s : SegmentView)
    → option_and_then (λ (x : ℕ). option_and_then (λ (y : ℕ). option_map (segment_with x y) o) m) q ≡ Some s
    → IfSome q (λ n. n ≤ 3)
    → (q ≡ Some (flags_code s.header.flags)) × (m ≡ Some s.header.map) × (o ≡ Some s.payload)
segment_fields q m o s e small = grind (arith, flags_again, e, small)

says_segment : (flags map payload : List ℕ) (s : SegmentView) → segment_of flags map payload ≡ Some s
    → SaysSegment flags map payload s
says_segment flags map payload s e =
    let is = segment_fields (number_after (codes "seg=") 3 flags) (number_after (codes "map=") 63 map)
    (octets_after (codes "data=") payload) s e (number_within (codes "seg=") 3 flags (omega arith)) in
    record {
      flags_is = (number_read (codes "seg=") 3 flags (flags_code s.header.flags) (omega arith) is.0).0;
      map_is = (number_read (codes "map=") 63 map s.header.map (omega arith) is.1).0;
      payload_is = data_read (codes "data=") payload s.payload is.2;
    }

-- ---- the words of the line of a frame

abbrev pub channel_words : List ℕ → FrameView → List (List ℕ) → List (List ℕ)
channel_words kind f words = kind ∷ (codes "scid=" ++ decimal f.scid) ∷ (codes "vcid=" ++ decimal f.vcid) ∷ words

abbrev pub segment_words : SegmentView → List (List ℕ)
segment_words s =
    (codes "seg=" ++ decimal (flags_code s.header.flags)) ∷ (codes "map=" ++ decimal s.header.map)
    ∷ (codes "data=" ++ encode_upper s.payload)
    ∷ []

abbrev pub words_with : FrameView → BodyView → List (List ℕ)
words_with f (Ad n s) = channel_words (codes "AD") f ((codes "n=" ++ decimal n) ∷ segment_words s)
words_with f (Bd s) = channel_words (codes "BD") f (segment_words s)
words_with f (Bc Unlock) = channel_words (codes "BC") f (codes "unlock" ∷ [])
words_with f (Bc (SetVr x)) = channel_words (codes "BC") f (codes "set" ∷ decimal x ∷ [])

-- ---- these words, joined

joined_as : (f : FrameView) (b : BodyView) → ended (words_with f b) ≡ frame_text (frame_with f.scid f.vcid b)
joined_as f (Ad n s) = grind (arith, append_assoc)
joined_as f (Bd s) = grind (arith, append_assoc)
joined_as f (Bc Unlock) = grind (arith, append_assoc)
joined_as f (Bc (SetVr x)) = grind (arith, append_assoc)

-- the words of the line of a frame, joined, are that line
pub frame_words_joined : (f : FrameView) → ended (words_with f f.body) ≡ frame_text f
frame_words_joined f = joined_as f f.body

-- ---- the rows

sequence_row : (kind scid vcid n flags map payload : List ℕ) (f : FrameView)
    → sequence_line kind scid vcid n flags map payload ≡ Some f
    → kind ∷ scid ∷ vcid ∷ n ∷ flags ∷ map ∷ payload ∷ [] ≡ words_with f f.body
sequence_row kind scid vcid n flags map payload f e =
    let body = option_and_then (λ (x : ℕ). option_map (Ad x) (segment_of flags map payload))
    (number_after (codes "n=") 255 n) in
    let test = passed (bytes_eq kind (codes "AD")) (frame_of scid vcid body) f e in
    let channel = says_channel scid vcid body f test.1 in
    let number = chained (λ (x : ℕ). option_map (Ad x) (segment_of flags map payload)) (number_after (codes "n=") 255 n)
    f.body channel.body_is in
    let segment = mapped (Ad number.value) (segment_of flags map payload) f.body number.gives in
    let said = says_segment flags map payload segment.value segment.is in
    let kind_is = same_word kind (codes "AD") test.0 in
    let n_is = (number_read (codes "n=") 255 n number.value (omega arith) number.is).0 in
    let same : kind ∷ scid ∷ vcid ∷ n ∷ flags ∷ map ∷ payload ∷ [] ≡ words_with f (Ad number.value segment.value) =
    cc (kind_is, channel.scid_is, channel.vcid_is, n_is, said.flags_is, said.map_is, said.payload_is) in
    same ∙ ap (words_with f) segment.gives

bypass_row : (kind scid vcid flags map payload : List ℕ) (f : FrameView)
    → bypass_line kind scid vcid flags map payload ≡ Some f
    → kind ∷ scid ∷ vcid ∷ flags ∷ map ∷ payload ∷ [] ≡ words_with f f.body
bypass_row kind scid vcid flags map payload f e =
    let body = option_map Bd (segment_of flags map payload) in
    let test = passed (bytes_eq kind (codes "BD")) (frame_of scid vcid body) f e in
    let channel = says_channel scid vcid body f test.1 in
    let segment = mapped Bd (segment_of flags map payload) f.body channel.body_is in
    let said = says_segment flags map payload segment.value segment.is in
    let kind_is = same_word kind (codes "BD") test.0 in
    let same : kind ∷ scid ∷ vcid ∷ flags ∷ map ∷ payload ∷ [] ≡ words_with f (Bd segment.value) =
    cc (kind_is, channel.scid_is, channel.vcid_is, said.flags_is, said.map_is, said.payload_is) in
    same ∙ ap (words_with f) segment.gives

unlock_row : (kind scid vcid word : List ℕ) (f : FrameView) → unlock_line kind scid vcid word ≡ Some f
    → kind ∷ scid ∷ vcid ∷ word ∷ [] ≡ words_with f f.body
unlock_row kind scid vcid word f e =
    let test = passed (bytes_eq kind (codes "BC") && bytes_eq word (codes "unlock"))
    (frame_of scid vcid (Some (Bc Unlock))) f e in
    let words = and_parts (bytes_eq kind (codes "BC")) (bytes_eq word (codes "unlock")) test.0 in
    let channel = says_channel scid vcid (Some (Bc Unlock)) f test.1 in
    let kind_is = same_word kind (codes "BC") words.0 in
    let word_is = same_word word (codes "unlock") words.1 in
    let same : kind ∷ scid ∷ vcid ∷ word ∷ [] ≡ words_with f (Bc Unlock) =
    cc (kind_is, channel.scid_is, channel.vcid_is, word_is) in
    same ∙ ap (words_with f) (same_Some (Bc Unlock) f.body channel.body_is)

set_row : (kind scid vcid word number : List ℕ) (f : FrameView) → set_line kind scid vcid word number ≡ Some f
    → kind ∷ scid ∷ vcid ∷ word ∷ number ∷ [] ≡ words_with f f.body
set_row kind scid vcid word number f e =
    let body = option_map (λ (x : ℕ). Bc (SetVr x)) (number_in_word 255 number) in
    let test = passed (bytes_eq kind (codes "BC") && bytes_eq word (codes "set")) (frame_of scid vcid body) f e in
    let words = and_parts (bytes_eq kind (codes "BC")) (bytes_eq word (codes "set")) test.0 in
    let channel = says_channel scid vcid body f test.1 in
    let x = mapped (λ (x : ℕ). Bc (SetVr x)) (number_in_word 255 number) f.body channel.body_is in
    let kind_is = same_word kind (codes "BC") words.0 in
    let word_is = same_word word (codes "set") words.1 in
    let number_is = (read 255 x.value number (omega arith) x.is).0 in
    let same : kind ∷ scid ∷ vcid ∷ word ∷ number ∷ [] ≡ words_with f (Bc (SetVr x.value)) =
    cc (kind_is, channel.scid_is, channel.vcid_is, word_is, number_is) in
    same ∙ ap (words_with f) x.gives

frame_in_read : (words : List (List ℕ)) (f : FrameView) → frame_in words ≡ Some f → words ≡ words_with f f.body
frame_in_read (kind ∷ scid ∷ vcid ∷ n ∷ flags ∷ map ∷ payload ∷ []) f e =
    sequence_row kind scid vcid n flags map payload f e
frame_in_read (kind ∷ scid ∷ vcid ∷ flags ∷ map ∷ payload ∷ []) f e = bypass_row kind scid vcid flags map payload f e
frame_in_read (kind ∷ scid ∷ vcid ∷ word ∷ []) f e = unlock_row kind scid vcid word f e
frame_in_read (kind ∷ scid ∷ vcid ∷ word ∷ number ∷ []) f e = set_row kind scid vcid word number f e
frame_in_read words f e = cc e

pub frame_line_read : (line : List ℕ) (f : FrameView) → frame_in (without_number (words_in line)) ≡ Some f
    → IsLineOf (frame_text f) line
frame_line_read line f e =
    line_read frame_in frame_text refl (λ words g h. ap ended (frame_in_read words g h) ∙ frame_words_joined g) line f e

-- The line of a frame spells that frame.

-- ---- the fields are in range

pub record Ranges (f : FrameView) : Type 0 where
  pub scid : f.scid ≤ 1023
  pub vcid : f.vcid ≤ 63
  pub body : body_fits f.body ≡ true

ranges : (check : Check) (f : FrameView) → frame_fits check f ≡ true → Ranges f
ranges check f fits = grind (arith, common_steps, fits)

pub record InRange (s : SegmentView) : Type 0 where
  pub map : s.header.map ≤ 63
  pub some : 0 < length s.payload
  pub octets : IsBytes s.payload

in_range : (s : SegmentView) → segment_fits s ≡ true → IsBytes s.payload → InRange s
in_range s fits octets = grind (arith, common_steps, fits)

-- ---- its words spell it

flags_said : (flags : SegmentFlags) → (flags_code flags ≤ 3) × (flags_at (flags_code flags) ≡ flags)
flags_said First = (omega arith, refl)
flags_said Continuing = (omega arith, refl)
flags_said Last = (omega arith, refl)
flags_said Alone = (omega arith, refl)

segment_said : (s : SegmentView) → InRange s
    → segment_of (codes "seg=" ++ decimal (flags_code s.header.flags)) (codes "map=" ++ decimal s.header.map)
    (codes "data=" ++ encode_upper s.payload) ≡ Some s
segment_said s fits =
    let flags = flags_said s.header.flags in
    rw (
      number_spelled (codes "seg=") 3 (flags_code s.header.flags) (omega arith) flags.0,
      number_spelled (codes "map=") 63 s.header.map (omega arith) fits.map,
      data_spelled (codes "data=") s.payload fits.octets,
      flags.1,
    ) refl

frame_said : (f : FrameView) → Ranges f → (b : BodyView)
    → frame_of (codes "scid=" ++ decimal f.scid) (codes "vcid=" ++ decimal f.vcid) (Some b)
    ≡ Some (frame_with f.scid f.vcid b)
frame_said f fits b =
    rw (
      number_spelled (codes "scid=") 1023 f.scid (omega arith) fits.scid,
      number_spelled (codes "vcid=") 63 f.vcid (omega arith) fits.vcid,
    ) refl

words_said : (f : FrameView) → Ranges f → (b : BodyView) → body_fits b ≡ true → HasOctets b
    → frame_in (words_with f b) ≡ Some (frame_with f.scid f.vcid b)
words_said f fits (Ad n s) body octets =
    rw (
      number_spelled (codes "n=") 255 n (omega arith) (omega (arith, octets.0)),
      segment_said s (in_range s body octets.1),
    ) (frame_said f fits (Ad n s))
words_said f fits (Bd s) body octets = rw (segment_said s (in_range s body octets)) (frame_said f fits (Bd s))
words_said f fits (Bc Unlock) body octets = frame_said f fits (Bc Unlock)
words_said f fits (Bc (SetVr x)) body octets =
    rw (printed 255 x (omega arith) (omega (arith, octets))) (frame_said f fits (Bc (SetVr x)))

-- ---- its words are words

segment_are_words : (s : SegmentView) → InRange s → list_all is_word (segment_words s) ≡ true
segment_are_words s range =
    rw (
      number_word (flags_code s.header.flags) (omega (arith, (flags_said s.header.flags).0)),
      number_word s.header.map (omega (arith, range.map)),
      digits_word s.payload range.some range.octets,
    ) refl

module _ (f : FrameView) (fits : Ranges f) where
  scid_word : is_word (decimal f.scid) ≡ true
  scid_word = number_word f.scid (omega (arith, fits.scid))

  vcid_word : is_word (decimal f.vcid) ≡ true
  vcid_word = number_word f.vcid (omega (arith, fits.vcid))

  all_words : (b : BodyView) → body_fits b ≡ true → HasOctets b → list_all is_word (words_with f b) ≡ true
  all_words (Ad n s) body octets =
      rw (scid_word, vcid_word, number_word n (omega (arith, octets.0)))
      (segment_are_words s (in_range s body octets.1))
  all_words (Bd s) body octets = rw (scid_word, vcid_word) (segment_are_words s (in_range s body octets))
  all_words (Bc Unlock) body octets = rw (scid_word, vcid_word) refl
  all_words (Bc (SetVr x)) body octets = rw (scid_word, vcid_word, number_word x (omega (arith, octets))) refl

-- the first word is not a number
kinds_plain : (number_in_word 18446744073709551615 (codes "AD") ≡ None)
    × ((number_in_word 18446744073709551615 (codes "BD") ≡ None)
    × (number_in_word 18446744073709551615 (codes "BC") ≡ None))
unfolding number_in_word
kinds_plain = (refl, (refl, refl))

line_words_as : (f : FrameView) (b : BodyView) (line text : List ℕ) → list_all is_word (words_with f b) ≡ true
    → ended (words_with f b) ≡ text → IsLineOf text line
    → without_number (words_in line) ≡ words_with f b
line_words_as f (Ad n s) line text all spells is = line_words _ _ text all kinds_plain.0 spells line is
line_words_as f (Bd s) line text all spells is = line_words _ _ text all kinds_plain.1.0 spells line is
line_words_as f (Bc Unlock) line text all spells is = line_words _ _ text all kinds_plain.1.1 spells line is
line_words_as f (Bc (SetVr x)) line text all spells is = line_words _ _ text all kinds_plain.1.1 spells line is

pub frame_line_said : (check : Check) (line : List ℕ) (f : FrameView) → frame_fits check f ≡ true → HasOctets f.body
    → IsLineOf (frame_text f) line → frame_in (without_number (words_in line)) ≡ Some f
frame_line_said check line f fits octets is =
    let range = ranges check f fits in
    ap frame_in (line_words_as f f.body line (frame_text f) (all_words f range f.body range.body octets)
    (frame_words_joined f) is)
    ∙ words_said f range f.body range.body octets

-- ---- its octets are read as the frame

pub frame_octets_read : (check : Check) (f : FrameView) (octets : List ℕ) → frame_octets check f ≡ Some octets
    → frame_at check octets ≡ Ok f
frame_octets_read check f octets e =
    let test = passed (frame_fits check f) (Some (spelling check f)) octets e in
    ap (frame_at check) (sym (same_Some (spelling check f) octets test.1))
    ∙ frame_again check (spelling check f) f (spelling_is check f test.0)
