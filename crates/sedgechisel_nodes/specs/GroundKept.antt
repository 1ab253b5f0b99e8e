-- What a program in C keeps of a ground.
use Rattle.std.specs.Prelude.{ℕ, ◌≤◌, ◌==◌, Bool, true, false, replicate}
use Rattle.nodes.specs.declared.config.Config.{Config}
use Rattle.nodes.specs.declared.ground_node.kept.KeptGround.{KeptGround}
use Rattle.nodes.specs.Ground.{GroundState}
use Rattle.nodes.specs.KeptGround.{IsKept, kept_of}
use Rattle.nodes.specs.Parameters.{IsConfig}
use Rattle.sedgechisel_nodes.specs.declared.ground_kept.GroundKept.{GroundKept}

abbrev pub flag_number : Bool → ℕ
flag_number true = 1
flag_number false = 0

-- the record that is written of a ground
abbrev pub record_of : GroundState → GroundKept
record_of s =
    let kept = kept_of s in
    record {
      acknowledged = kept.acknowledged;
      vs = kept.vs;
      nn = kept.nn;
      known = flag_number kept.known;
      whole = kept.whole;
      segments = kept.segments;
      zeros = replicate 5 0;
    }

-- what is read from the record
abbrev pub record_read : GroundKept → KeptGround
record_read r = record {
  acknowledged = r.acknowledged;
  vs = r.vs;
  nn = r.nn;
  known = r.known == 1;
  whole = r.whole;
  segments = r.segments;
}

-- a ground can be opened with this record
abbrev pub IsRecord : Config → GroundKept → Type 0
IsRecord c r = IsConfig c × (r.known ≤ 1) × IsKept c (record_read r)
