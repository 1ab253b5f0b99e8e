-- An encoding of segments. Proofs use it to distinguish lists of segments.
use Rattle.std.specs.Prelude.{◌≡◌, ℕ, List, refl}
use Rattle.std.proofs.Common.{ap}
use Rattle.std.specs.Coded.{Coded, code_by, coded×, coded_list, coded_ℕ}
use Rattle.tc_frame.specs.declared.frame.SegmentFlags.{SegmentFlags}
use Rattle.tc_frame.specs.declared.frame.SegmentFlags.TheVariants.{First, Continuing, Last, Alone}
use Rattle.tc_frame.specs.Layout.{SegmentView, flags_code}
use Rattle.tc_frame.specs.Decoding.{flags_at}

-- the flags, the MAP and the payload
abbrev pub segment_parts : SegmentView → ℕ × (ℕ × List ℕ)
segment_parts s = (flags_code s.header.flags, (s.header.map, s.payload))

abbrev pub segment_of_parts : ℕ × (ℕ × List ℕ) → SegmentView
segment_of_parts p = record {
  header = record { flags = flags_at p.0; map = p.1.0 };
  payload = p.1.1;
}

pub flags_again : (flags : SegmentFlags) → flags_at (flags_code flags) ≡ flags
flags_again First = refl
flags_again Continuing = refl
flags_again Last = refl
flags_again Alone = refl

abbrev segment_with : SegmentView → SegmentFlags → SegmentView
segment_with s flags = record {
  header = record { flags = flags; map = s.header.map };
  payload = s.payload;
}

pub segment_again : (s : SegmentView) → segment_of_parts (segment_parts s) ≡ s
segment_again s = ap (segment_with s) (flags_again s.header.flags)

abbrev pub segment_code : Coded SegmentView
segment_code =
    code_by (ℕ × (ℕ × List ℕ)) (coded× coded_ℕ (coded× coded_ℕ (coded_list coded_ℕ))) segment_parts
    segment_of_parts segment_again
