-- Where a good frame of a channel begins. A good frame is a whole frame with a correct FECF that
-- names the spacecraft and the virtual channel.
use Rattle.std.specs.Prelude.{◌≡◌, ◌<◌, ◌≤◌, ◌/◌, ◌%◌, ◌==◌, ◌&&◌, ℕ}
use Rattle.std.specs.Prelude.{Bool, false, List, ◌++◌, length}
use Rattle.std.specs.Prelude.{take, drop, if◌then◌else◌, Option, Some, None, Result, Ok, Err}
use Rattle.octets.specs.Number.{number_of}
use Rattle.octets.specs.Records.{first_record}
use Rattle.tc_frame.specs.declared.frame.Check.TheVariants.{On}
use Rattle.tc_frame.specs.declared.fault.TcFault.{TcFault}
use Rattle.tc_frame.specs.Layout.{FrameView}
use Rattle.tc_frame.specs.Decoding.{frame_at}
use Rattle.tc_frame.specs.Splitter.{total_at}
use Rattle.frame_search.specs.declared.place.Place.{Place}
use Rattle.frame_search.specs.declared.place.Place.TheVariants.{Frame, Nothing, Open}

-- a frame of this spacecraft and this virtual channel
abbrev pub names : ℕ → ℕ → Result FrameView TcFault → Bool
names scid vcid (Ok f) = (f.scid == scid) && (f.vcid == vcid)
names scid vcid (Err e) = false

-- a record, if it is a good frame
abbrev pub if_good : ℕ → ℕ → Option (Result (List ℕ) TcFault) → Option (List ℕ)
if_good scid vcid None = None
if_good scid vcid (Some (Err e)) = None
if_good scid vcid (Some (Ok frame)) =
    if names scid vcid (frame_at On frame) then Some frame else None

-- the good frame that octets begin with: as many octets as the header declares (CCSDS 232.0-B-4,
-- 4.1.2.7), if they are all there and form a good frame
abbrev pub good_frame : ℕ → ℕ → List ℕ → Option (List ℕ)
good_frame scid vcid octets = if_good scid vcid (first_record 5 (total_at On) octets)

-- the header names the channel
abbrev pub header_names : ℕ → ℕ → List ℕ → Bool
header_names scid vcid octets =
    (number_of (take 2 octets) % 1024 == scid)
    && (number_of (take 2 (drop 2 octets)) / 1024 == vcid)

-- what is stated of a place is true
abbrev pub IsPlace : ℕ → ℕ → List ℕ → Place → Type 0
IsPlace scid vcid octets (Frame n) =
    (n ≤ length octets) × (5 ≤ n)
    × ((more : List ℕ) → good_frame scid vcid (octets ++ more) ≡ Some (take n octets))
IsPlace scid vcid octets Nothing = (more : List ℕ) → good_frame scid vcid (octets ++ more) ≡ None
IsPlace scid vcid octets Open = (length octets < 1024) × (good_frame scid vcid octets ≡ None)
