-- A line that spells a packet is the line of that packet, and the line of a packet spells it.
use Rattle.hex.specs.Hex.{encode_upper, IsBytes}
use Rattle.std.proofs.Common.{◌≡◌, ◌∙◌, ◌≤◌, ◌==◌, ◌||◌, ◌++◌, ℕ, Bool, true, false, cond, List, [], ◌∷◌}
use Rattle.std.proofs.Common.{Option, Some, None, refl, sym, ap, arith, append_assoc, ◌<◌, length, Ok}
use Rattle.std.specs.Prelude.{codes, decimal, option_map, is_some, IfSome}
use Rattle.std.specs.Str.{bytes_eq}
use Rattle.std.proofs.lemmas.Option.{same_Some}
use Rattle.std.specs.List.{list_all}
use Rattle.std.proofs.lemmas.Grind.{common_steps}
use Rattle.std.proofs.lemmas.List.{append-nil}
use Rattle.std.proofs.Math.Bool.{or-false, or-true}
use Rattle.space_packet.specs.declared.packet.PacketKind.{PacketKind}
use Rattle.space_packet.specs.declared.packet.PacketKind.TheVariants.{Telemetry, Telecommand}
use Rattle.space_packet.specs.Layout.{PacketView, secondary_bit, IsFirstPacket}
use Rattle.space_packet.specs.Decoding.{packet_at}
use Rattle.space_packet.specs.Encoding.{packet_fits, spelling}
use Rattle.space_packet.proofs.Encoded.{spelling_is, first_is}
use Rattle.space_packet.proofs.Decoded.{packet_again}
use Rattle.streams.specs.Words.{words_in, number_in_word}
use Rattle.streams.proofs.SpelledWords.{is_word, number_word, mapped}
use Rattle.listings.specs.PacketLines.{kind_word, gap_text}
use Rattle.encode_lines.specs.Fields.{number_after, octets_after, without_number}
use Rattle.encode_lines.specs.Packets.{kind_in, is_gap, packet_of, packet_line, packet_in, packet_octets}
use Rattle.encode_lines.specs.Listed.{IsLineOf, IsGap, packet_text}
use Rattle.encode_lines.proofs.Words.{passed, same_word, number_within, number_read, data_read, ended, line_read}
use Rattle.encode_lines.proofs.Words.{number_spelled, data_spelled, digits_word, line_words}

-- A line that spells a packet is the line of that packet.

-- ---- the words of the line of a packet

abbrev pub gap_word : Option ℕ → List ℕ
gap_word None = codes "gap=-"
gap_word (Some n) = codes "gap=" ++ decimal n

abbrev pub more_words_with : Option ℕ → PacketView → List (List ℕ)
more_words_with gap p =
    (codes "secondary=" ++ decimal (secondary_bit p.secondary)) ∷ (codes "apid=" ++ decimal p.apid)
    ∷ (codes "flags=" ++ decimal p.flags)
    ∷ (codes "count=" ++ decimal p.count)
    ∷ gap_word gap
    ∷ (codes "data=" ++ encode_upper p.payload)
    ∷ []

abbrev pub words_with : Option ℕ → PacketView → List (List ℕ)
words_with gap p = kind_word p.kind ∷ more_words_with gap p

-- ---- these words, joined

joined_gap : (gap : Option ℕ) (payload : List ℕ)
    → (32 ∷ (gap_word gap ++ 32 ∷ (codes "data=" ++ payload))) ++ 10 ∷ [] ≡ gap_text gap ++ (payload ++ 10 ∷ [])
joined_gap None payload = refl
joined_gap (Some n) payload = grind (arith, append_assoc)

joined : (kind secondary apid flags count rest whole : List ℕ) → rest ++ 10 ∷ [] ≡ whole
    → (kind ++ 32 ∷ ((codes "secondary=" ++ secondary) ++ 32 ∷ ((codes "apid=" ++ apid)
    ++ 32 ∷ ((codes "flags=" ++ flags) ++ 32 ∷ ((codes "count=" ++ count) ++ rest))))) ++ 10 ∷ []
    ≡ (kind ++ (codes " secondary=" ++ (secondary ++ (codes " apid=" ++ apid))))
    ++ ((codes " flags=" ++ (flags ++ (codes " count=" ++ count))) ++ whole)
joined kind secondary apid flags count rest whole e = grind (arith, append_assoc)

-- the words of the line of a packet, joined, are that line
pub packet_words_joined : (gap : Option ℕ) (p : PacketView) → ended (words_with gap p) ≡ packet_text gap p
packet_words_joined gap p =
    joined (kind_word p.kind) (decimal (secondary_bit p.secondary)) (decimal p.apid) (decimal p.flags) (decimal p.count)
    (32 ∷ (gap_word gap ++ 32 ∷ (codes "data=" ++ encode_upper p.payload))) _ (joined_gap gap (encode_upper p.payload))

-- ---- what is read from words

gap_case : (word : List ℕ) (gap : Option ℕ) → number_after (codes "gap=") 16383 word ≡ gap
    → bytes_eq word (codes "gap=-") || is_some gap ≡ true → (word ≡ gap_word gap) × IsGap gap
gap_case word None is e = (same_word word (codes "gap=-") (sym (or-false (bytes_eq word (codes "gap=-"))) ∙ e), tt)
gap_case word (Some n) is e = number_read (codes "gap=") 16383 word n (omega arith) is

kind_case : (word : List ℕ) (k : PacketKind) (a b : Bool) → bytes_eq word (codes "TC") ≡ a
    → bytes_eq word (codes "TM") ≡ b → cond a (Some Telecommand) (cond b (Some Telemetry) None) ≡ Some k
    → word ≡ kind_word k
unfolding kind_word
kind_case word k true b first second e =
    same_word word (codes "TC") first ∙ ap (λ (x : PacketKind). kind_word x) (same_Some Telecommand k e)
kind_case word k false true first second e =
    same_word word (codes "TM") second ∙ ap (λ (x : PacketKind). kind_word x) (same_Some Telemetry k e)
kind_case word k false false first second e = cc e

kind_read : (word : List ℕ) (k : PacketKind) → kind_in word ≡ Some k → word ≡ kind_word k
kind_read word k e = kind_case word k (bytes_eq word (codes "TC")) (bytes_eq word (codes "TM")) refl refl e

abbrev pub gap_in : List (List ℕ) → Option ℕ
gap_in (kind ∷ secondary ∷ apid ∷ flags ∷ count ∷ gap ∷ payload ∷ []) = number_after (codes "gap=") 16383 gap
gap_in words = None

-- the fields that make a packet
packet_fields : (k : Option PacketKind) (s a f c : Option ℕ) (d : Option (List ℕ)) (p : PacketView)
    → packet_of k s a f c d ≡ Some p → IfSome s (λ n. n ≤ 1)
    → (k ≡ Some p.kind) × (s ≡ Some (secondary_bit p.secondary)) × (a ≡ Some p.apid) × (f ≡ Some p.flags)
    × (c ≡ Some p.count) × (d ≡ Some p.payload)
packet_fields k s a f c d p e small = grind (arith, e, small)

packet_row : (kind secondary apid flags count gap payload : List ℕ) (p : PacketView)
    → packet_line kind secondary apid flags count gap payload ≡ Some p
    → (kind ∷ secondary ∷ apid ∷ flags ∷ count ∷ gap ∷ payload ∷ []
    ≡ words_with (number_after (codes "gap=") 16383 gap) p) × IsGap (number_after (codes "gap=") 16383 gap)
packet_row kind secondary apid flags count gap payload p e =
    let data_of = octets_after (codes "data=") payload in
    let count_of = number_after (codes "count=") 16383 count in
    let flags_of = number_after (codes "flags=") 3 flags in
    let apid_of = number_after (codes "apid=") 2047 apid in
    let secondary_of = number_after (codes "secondary=") 1 secondary in
    let test = passed (is_gap gap) (packet_of (kind_in kind) secondary_of apid_of flags_of count_of data_of) p e in
    let is = packet_fields (kind_in kind) secondary_of apid_of flags_of count_of data_of p test.1
    (number_within (codes "secondary=") 1 secondary (omega arith)) in
    let gap_is = gap_case gap (number_after (codes "gap=") 16383 gap) refl test.0 in
    let kind_is = kind_read kind p.kind is.0 in
    let secondary_is = (number_read (codes "secondary=") 1 secondary _ (omega arith) is.1).0 in
    let apid_is = (number_read (codes "apid=") 2047 apid _ (omega arith) is.2).0 in
    let flags_is = (number_read (codes "flags=") 3 flags _ (omega arith) is.3).0 in
    let count_is = (number_read (codes "count=") 16383 count _ (omega arith) is.4).0 in
    let payload_is = data_read (codes "data=") payload _ is.5 in
    (cc (kind_is, secondary_is, apid_is, flags_is, count_is, gap_is.0, payload_is), gap_is.1)

packet_in_read : (words : List (List ℕ)) (p : PacketView) → packet_in words ≡ Some p
    → (words ≡ words_with (gap_in words) p) × IsGap (gap_in words)
packet_in_read (kind ∷ secondary ∷ apid ∷ flags ∷ count ∷ gap ∷ payload ∷ []) p e =
    packet_row kind secondary apid flags count gap payload p e
packet_in_read words p e = cc e

-- a packet with the gap before it
abbrev with_gap : List (List ℕ) → Option (Option ℕ × PacketView)
with_gap words = option_map (λ (p : PacketView). (gap_in words, p)) (packet_in words)

with_gap_read : (words : List (List ℕ)) (it : Option ℕ × PacketView) → with_gap words ≡ Some it
    → ended words ≡ packet_text it.0 it.1
with_gap_read words it e =
    let p = mapped (λ (x : PacketView). (gap_in words, x)) (packet_in words) it e in
    ap ended (packet_in_read words p.value p.is).0 ∙ packet_words_joined (gap_in words) p.value
    ∙ ap (λ (x : Option ℕ × PacketView). packet_text x.0 x.1) p.gives

pub packet_line_read : (line : List ℕ) (p : PacketView) → packet_in (without_number (words_in line)) ≡ Some p
    → (gap : Option ℕ) × IsGap gap × IsLineOf (packet_text gap p) line
packet_line_read line p e =
    let words = without_number (words_in line) in (
      gap_in words,
      (packet_in_read words p e).1,
      line_read with_gap (λ (x : Option ℕ × PacketView). packet_text x.0 x.1) refl with_gap_read line (gap_in words, p)
          (ap (option_map (λ (x : PacketView). (gap_in words, x))) e),
    )

-- The line of a packet spells that packet.

-- ---- the fields are in range

pub record Ranges (p : PacketView) : Type 0 where
  pub apid : p.apid ≤ 2047
  pub flags : p.flags ≤ 3
  pub count : p.count ≤ 16383
  pub some : 0 < length p.payload

ranges : (p : PacketView) → packet_fits p ≡ true → Ranges p
ranges p fits = grind (arith, common_steps, fits)

-- ---- its words spell it

kind_said : (k : PacketKind) → kind_in (kind_word k) ≡ Some k
unfolding kind_word
kind_said Telemetry = refl
kind_said Telecommand = refl

secondary_said : (flag : Bool) → (secondary_bit flag ≤ 1) × ((secondary_bit flag == 1) ≡ flag)
secondary_said true = (omega arith, refl)
secondary_said false = (omega arith, refl)

gap_said : (gap : Option ℕ) → IsGap gap → is_gap (gap_word gap) ≡ true
gap_said None fits = refl
gap_said (Some n) fits =
    ap (λ (o : Option ℕ). bytes_eq (codes "gap=" ++ decimal n) (codes "gap=-") || is_some o)
    (number_spelled (codes "gap=") 16383 n (omega arith) fits)
    ∙ or-true (bytes_eq (codes "gap=" ++ decimal n) (codes "gap=-"))

words_said : (gap : Option ℕ) (p : PacketView) → Ranges p → IsBytes p.payload → IsGap gap
    → packet_in (words_with gap p) ≡ Some p
words_said gap p fits octets small =
    let secondary = secondary_said p.secondary in
    rw (
      gap_said gap small,
      kind_said p.kind,
      number_spelled (codes "secondary=") 1 (secondary_bit p.secondary) (omega arith) secondary.0,
      number_spelled (codes "apid=") 2047 p.apid (omega arith) fits.apid,
      number_spelled (codes "flags=") 3 p.flags (omega arith) fits.flags,
      number_spelled (codes "count=") 16383 p.count (omega arith) fits.count,
      data_spelled (codes "data=") p.payload octets,
    )
    (ap (λ (flag : Bool). Some (record p { secondary = flag })) secondary.1)

-- ---- its words are words

kind_plain : (k : PacketKind) → (is_word (kind_word k) ≡ true)
    × (number_in_word 18446744073709551615 (kind_word k) ≡ None)
unfolding kind_word number_in_word
kind_plain Telemetry = (refl, refl)
kind_plain Telecommand = (refl, refl)

gap_is_word : (gap : Option ℕ) → IsGap gap → is_word (gap_word gap) ≡ true
gap_is_word None small = refl
gap_is_word (Some n) small = number_word n (omega (arith, small))

all_words : (gap : Option ℕ) (p : PacketView) → Ranges p → IsBytes p.payload → IsGap gap
    → list_all is_word (words_with gap p) ≡ true
all_words gap p fits octets small =
    let secondary = secondary_said p.secondary in
    let apid = fits.apid in
    let flags = fits.flags in
    let count = fits.count in
    rw (
      (kind_plain p.kind).0,
      number_word (secondary_bit p.secondary) (omega (arith, secondary.0)),
      number_word p.apid (omega arith),
      number_word p.flags (omega arith),
      number_word p.count (omega arith),
      gap_is_word gap small,
      digits_word p.payload fits.some octets,
    ) refl

pub packet_line_said : (line : List ℕ) (p : PacketView) (gap : Option ℕ) → packet_fits p ≡ true → IsBytes p.payload
    → IsGap gap → IsLineOf (packet_text gap p) line → packet_in (without_number (words_in line)) ≡ Some p
packet_line_said line p gap fits octets small is =
    let range = ranges p fits in
    ap packet_in (line_words (kind_word p.kind) (more_words_with gap p) (packet_text gap p)
    (all_words gap p range octets small) (kind_plain p.kind).1 (packet_words_joined gap p) line is)
    ∙ words_said gap p range octets small

-- ---- its octets are read as the packet

pub packet_octets_read : (p : PacketView) (octets : List ℕ) → packet_octets p ≡ Some octets
    → packet_at octets ≡ Ok (p, length octets)
packet_octets_read p octets e =
    let test = passed (packet_fits p) (Some (spelling p)) octets e in
    let spelled : spelling p ≡ octets = same_Some (spelling p) octets test.1 in
    let first : IsFirstPacket p (length (spelling p)) (spelling p ++ []) =
    first_is p (spelling p) [] (spelling_is p test.0) in
    ap packet_at (sym spelled ∙ sym (append-nil (spelling p)))
    ∙ packet_again (spelling p ++ []) p (length (spelling p)) first
    ∙ ap (λ (b : List ℕ). Ok (p, length b)) spelled
