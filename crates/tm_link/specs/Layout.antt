-- The telemetry transfer frame, and the octets that spell it (CCSDS 132.0-B-3, 4.1).
use Rattle.std.specs.Prelude.{◌≡◌, ◌≤◌, ◌<◌, ℕ, ◌+◌, ◌-◌, ◌*◌, List, ◌++◌, length, slice_index}
use Rattle.std.specs.Prelude.{take, drop, Bool, true, nat_lt, IsTrue}
use Rattle.octets.specs.Number.{number_of, IsOctets}
use Rattle.octets.specs.Check.{HoldsCheck}
use Rattle.tm_link.specs.declared.frame.Pointer.{Pointer}
use Rattle.tm_link.specs.declared.frame.Pointer.TheVariants.{At, NoStart, OnlyIdle}
use Rattle.tm_link.specs.declared.frame.TmFrame.{TmFrame}

-- a frame, without the place of its data in memory
pub record FrameView : Type 0 where
  pub scid : ℕ
  pub vcid : ℕ
  pub mc_count : ℕ
  pub vc_count : ℕ
  pub pointer : Pointer
  pub payload : List ℕ
  pub ocf : List ℕ

abbrev pub frame_view : TmFrame → FrameView
frame_view f =
    record {
      scid =
          f.scid;
      vcid =
          f.vcid;
      mc_count =
          f.mc_count;
      vc_count = f.vc_count;
      pointer = f.pointer;
      payload = f.payload.now;
      ocf = f.ocf;
    }

-- ---- the first header pointer (4.1.2.7.6)

abbrev pub pointer_number : Pointer → ℕ
pointer_number (At place) = place
pointer_number NoStart = 2047
pointer_number OnlyIdle = 2046

-- the pointer's place, if it has one, lies in a data field of this many octets
abbrev pub pointer_fits : Pointer → ℕ → Bool
pointer_fits (At place) size = nat_lt place size
pointer_fits NoStart size = true
pointer_fits OnlyIdle size = true

-- ---- the frame

-- The octets b spell the frame f of this many octets.
pub record IsTmFrame (total : ℕ) (f : FrameView) (b : List ℕ) : Type 0 where
  pub count : length b ≡ total
  pub least : 16 ≤ total
  pub most : total ≤ 2048
  -- octets 0 and 1: version 00, the spacecraft, the virtual channel, the operational control flag 1
  pub first : number_of (take 2 b) ≡ 16 * f.scid + 2 * f.vcid + 1
  pub scid : f.scid < 1024
  pub vcid : f.vcid < 8
  -- octets 2 and 3
  pub mc_count : slice_index b 2 ≡ f.mc_count
  pub vc_count : slice_index b 3 ≡ f.vc_count
  -- octets 4 and 5: three flags 0, the segment length identifier 11, the pointer
  pub status : number_of (take 2 (drop 4 b)) ≡ 6144 + pointer_number f.pointer
  pub pointer : IsTrue (pointer_fits f.pointer (total - 12))
  -- from octet 6 on: the data, the operational control field, the check
  pub rest : drop 6 (take (total - 2) b) ≡ f.payload ++ f.ocf
  pub payload : length f.payload ≡ total - 12
  pub ocf : length f.ocf ≡ 4
  pub checked : HoldsCheck b

-- octets, which are whole numbers from 0 to 255, spell the frame
pub record IsSpelling (total : ℕ) (f : FrameView) (b : List ℕ) : Type 0 where
  pub spells : IsTmFrame total f b
  pub octets : IsOctets b
