-- The fields that describe a receiver, and what holds of every receiver.
use Rattle.std.specs.Prelude.{◌<◌}
use Rattle.cop1.specs.declared.farm.FarmFields.{FarmFields}
use Rattle.cop1.specs.Farm.{FarmState, IsWidth, state_of}
use Rattle.cop1.specs.Farm.{FlagsAgree}

-- the receiver with these fields; its state follows from the lockout flag and the wait flag
abbrev pub farm_with : FarmFields → FarmState
farm_with f =
    record {
      width =
          f.width;
      state =
          state_of f.lockout f.wait;
      vr =
          f.vr;
      lockout = f.lockout;
      wait = f.wait;
      retransmit = f.retransmit;
      farm_b = f.farm_b;
    }

-- what holds of every receiver
pub record IsFarm (s : FarmState) : Type 0 where
  pub width : IsWidth s.width
  pub flags : FlagsAgree s
  pub farm_b : s.farm_b < 4
