-- The spacecraft of a program in C: what a call returns, and what the program holds afterwards.
use Rattle.std.specs.Prelude.{◌≡◌, ◌≢◌, ◌<◌, ℕ, List, Bool, true, false, Option, Some, None}
use Rattle.std.specs.Prelude.{length, option_map, IfSome}
use Rattle.tc_frame.specs.declared.frame.Command.TheVariants.{Unlock, SetVr}
use Rattle.tc_frame.specs.Faults.{fault_row}
use Rattle.cop1.specs.declared.farm.FarmMode.{FarmMode}
use Rattle.cop1.specs.declared.farm.FarmMode.TheVariants.{Open, Wait, Lockout}
use Rattle.cop1.specs.Names.{verdict_row}
use Rattle.map_service.specs.declared.dropped.Dropped.{Dropped}
use Rattle.map_service.specs.Causes.{cause_row}
use Rattle.nodes.specs.declared.config.Config.{Config}
use Rattle.nodes.specs.declared.spacecraft.KeptNumbers.{KeptNumbers}
use Rattle.nodes.specs.Parameters.{IsConfig}
use Rattle.nodes.specs.declared.received.Received.{Received}
use Rattle.nodes.specs.declared.received.Received.TheVariants.{Invalid, Foreign, Sequence, Bypass}
use Rattle.nodes.specs.declared.received.Received.TheVariants.{Control}
use Rattle.nodes.specs.Packets.{PacketOn}
use Rattle.nodes.specs.Spacecraft.{SpacecraftState, Take, TakeBypass}
use Rattle.nodes.specs.Spacecraft.{spacecraft_step}
use Rattle.clcw.specs.Flags.{flags_number}
use Rattle.cop1.specs.Report.{report_of}
use Rattle.sedgechisel_nodes.specs.declared.readings.BoardReading.{BoardReading}
use Rattle.sedgechisel_nodes.specs.declared.spacecraft.KeptReceived.{KeptReceived}
use Rattle.sedgechisel_nodes.specs.Calls.{closed, next_answer, count_of, octets_on, map_left}
use Rattle.sedgechisel_nodes.specs.Calls.{IsHanding}

abbrev pub dropped_number : Option Dropped → ℕ
dropped_number None = 0
dropped_number (Some dropped) = (cause_row dropped).0

abbrev pub no_received : KeptReceived
no_received = record {
  ready = 0;
  kind = 0;
  fault = 0;
  n = 0;
  verdict = 0;
  dropped = 0;
  kept = false;
  command = 0;
  vr = 0;
}

abbrev pub received_kept : Received → KeptReceived
received_kept (Invalid fault) = record no_received { kind = 1; fault = (fault_row fault).0 }
received_kept Foreign = record no_received { kind = 2 }
received_kept (Sequence n verdict ready dropped) =
    record no_received {
      kind = 3;
      n = n;
      verdict = (verdict_row verdict).0;
      ready = ready;
      dropped = dropped_number dropped;
    }
received_kept (Bypass kept) = record no_received { kind = 4; kept = kept }
received_kept (Control Unlock) = record no_received { kind = 5 }
received_kept (Control (SetVr vr)) = record no_received { kind = 5; command = 1; vr = vr }

-- the receiver's state (CCSDS 232.1-B-2, 6.1.2)
abbrev pub farm_mode_number : FarmMode → ℕ
farm_mode_number mode = elim mode [ Open ↦ 0 | Wait ↦ 1 | Lockout ↦ 2 ]

abbrev pub board_reading_of : SpacecraftState → BoardReading
board_reading_of s =
    let word = report_of s.farm s.config.vcid in
    record {
      frame_length = s.config.frame_length;
      ready = length s.ready;
      bypassed = length s.bypass;
      status = word.status;
      vcid = word.vcid;
      flags = flags_number word.flags;
      farm_b = word.farm_b;
      value = word.value;
      state = farm_mode_number s.farm.state;
      mc_count = s.builder.mc_count;
      vc_count = s.builder.vc_count;
    }

-- ---- a spacecraft that continues from a reading of one

abbrev pub numbers_read : BoardReading → KeptNumbers
numbers_read read = record {
  vr = read.value;
  farm_b = read.farm_b;
  mc_count = read.mc_count;
  vc_count = read.vc_count;
}

-- a spacecraft can be opened with this reading
abbrev pub IsRestart : Config → BoardReading → Type 0
IsRestart c read = IsConfig c × (read.farm_b < 4)

-- ---- taking packets: bypass packets, or packets of sequence-controlled frames

abbrev pub next_packet : Bool → SpacecraftState → Option PacketOn
next_packet false s = (spacecraft_step s Take).answer
next_packet true s = (spacecraft_step s TakeBypass).answer

abbrev pub after_taking : Bool → SpacecraftState → SpacecraftState
after_taking false s = (spacecraft_step s Take).after
after_taking true s = (spacecraft_step s TakeBypass).after

-- the return value and the output of a call that describes the next packet, and the spacecraft
-- before and after it
pub record IsDescribed (past : Bool) (old new : Option SpacecraftState) (answer m m' : ℕ)
    (count count' : ℕ) : Type 0 where
  pub none : old ≡ None → (answer ≡ closed) × (m' ≡ m) × (count' ≡ count)
  pub answer_is : IfSome old (λ s. answer ≡ 0)
  pub on_map : IfSome old (λ s. m' ≡ map_left (next_packet past s) m)
  pub counted : IfSome old (λ s. count' ≡ count_of (octets_on (next_packet past s)))
  pub unchanged : new ≡ old

-- the same for a call that takes the packet
pub record IsTaken (past : Bool) (old new : Option SpacecraftState) (answer m m' : ℕ)
    (count count' : ℕ) (out out' : List ℕ) : Type 0 where
  pub packet : IsHanding next_answer (λ s. octets_on (next_packet past s))
      old answer count count' out out'
  pub after : answer ≡ 0 → new ≡ option_map (after_taking past) old
  pub on_map : answer ≡ 0 → IfSome old (λ s. m' ≡ map_left (next_packet past s) m)
  pub unchanged : answer ≢ 0 → (new ≡ old) × (m' ≡ m)
