-- The record of fixed size that is kept of a ground, and the ground that is opened with it after
-- the original ground was lost.
use Rattle.std.specs.Prelude.{◌≡◌, ◌≤◌, ℕ, ◌/◌, List, ◌++◌, take, drop, replicate}
use Rattle.cop1.specs.Modulo.{ahead_by}
use Rattle.cop1.specs.FopKept.{kept_fop}
use Rattle.nodes.specs.declared.config.Config.{Config}
use Rattle.nodes.specs.declared.ground_node.kept.KeptGround.{KeptGround}
use Rattle.nodes.specs.Fates.{fates_of, whole_within}
use Rattle.nodes.specs.Ground.{GroundState, new_ground, sent_beyond}

-- the slots of a record, one for each submission: as many as units may be sent and unacknowledged
abbrev pub no_counts : List ℕ
no_counts = replicate 127 0

-- how many of the submissions that are not acknowledged whole, from the oldest, were sent whole
abbrev pub whole_sent : GroundState → ℕ
whole_sent s = whole_within (sent_beyond s) s.fates.left

-- The record: V(S) and NN(R), and the bookkeeping of the submissions that were sent whole (CCSDS
-- 232.1-B-2, 5.1).
abbrev pub kept_of : GroundState → KeptGround
kept_of s = record {
  acknowledged = s.fates.acknowledged;
  vs = s.fop.vs;
  nn = s.fop.nn;
  known = s.fates.kept;
  whole = whole_sent s;
  segments = take (whole_sent s) s.fates.left ++ drop (whole_sent s) no_counts;
}

-- The ground that is opened with a record: a new ground with this V(S), NN(R) and bookkeeping.
abbrev pub opened_at : Config → KeptGround → GroundState
opened_at c kept = record (new_ground c) {
  fop = kept_fop c.width c.window c.limit c.timer kept.vs kept.nn;
  fates = fates_of kept.acknowledged (take kept.whole kept.segments) kept.known;
}

-- A record could have come from a ground with this configuration.
pub record IsKept (c : Config) (kept : KeptGround) : Type 0 where
  -- V(S) is above NN(R) by at most the number of units that may be sent and not acknowledged
  pub apart : ahead_by kept.vs kept.nn ≤ c.width / 2
  -- each submission in the record was sent whole with the units between NN(R) and V(S)
  pub sent : whole_within (ahead_by kept.vs kept.nn) (take kept.whole kept.segments) ≡ kept.whole
  -- the other slots are 0
  pub rest : drop kept.whole kept.segments ≡ drop kept.whole no_counts
