-- A session of a ground by itself, in terms of the ground's calls and the answers to them. These
-- definitions state what the ground holds outstanding and what it counts, whatever reaches it.
use Rattle.std.specs.Prelude.{◌≡◌, ◌<◌, ℕ, ◌+◌, ◌%◌, ◌^◌, List, [], ◌∷◌, ◌++◌, length, drop, map}
use Rattle.std.specs.Prelude.{flat_map, true, false, Ok}
use Rattle.std.specs.List.{AllByRecursion}
use Rattle.octets.specs.Number.{IsOctets}
use Rattle.tc_frame.specs.Layout.{SegmentView}
use Rattle.map_service.specs.Cutting.{segments_of}
use Rattle.cop1.specs.FopDirective.{is_initiation}
use Rattle.cop1.specs.Modulo.{ahead_by}
use Rattle.cop1.specs.declared.vocabulary.Directive.TheVariants.{SetVs}
use Rattle.nodes.specs.declared.config.Config.{Config}
use Rattle.nodes.specs.declared.ground_node.kept.KeptGround.{KeptGround}
use Rattle.nodes.specs.Fates.{whole_within, whole_with, submitted as submissions_of}
use Rattle.nodes.specs.Ground.{GroundState, GroundOutcome, GroundEvent, GroundAnswer, Submit}
use Rattle.nodes.specs.Ground.{Direct, Resume, Pull, Telemetry, ControlWord, ground_step}
use Rattle.nodes.specs.Ground.{new_ground, is_closed, can_resume, outstanding, sent_beyond}
use Rattle.nodes.specs.KeptGround.{opened_at}
use Rattle.nodes.specs.Packets.{PacketOn, packet_on}
use Rattle.nodes.specs.Parameters.{IsConfig}
use Rattle.simulated_link.specs.World.{first_in}
use Rattle.tc_link.specs.Reached.{IsDirective}
use Rattle.tc_link.specs.Repeated.{ground_run}

-- the ground, and how far its session has come
pub record GroundSession : Type 0 where
  pub ground_node : GroundState
  -- V(S) when the session began
  pub base : ℕ
  -- the submissions that were accepted, in order
  pub submissions : List PacketOn
  -- how many segments of these submissions were sent, and how many CLCWs have acknowledged
  pub sent : ℕ
  pub acknowledged : ℕ

-- a session that has just begun
abbrev pub begun_at : GroundState → GroundSession
begun_at s = record {
  ground_node = s;
  base = s.fop.vs;
  submissions = [];
  sent = 0;
  acknowledged = 0;
}

-- ---- a call

-- the submission that a call has accepted, if any
abbrev pub submitted_by : (event : GroundEvent) → GroundAnswer event → List PacketOn
submitted_by (Submit m octets) (Ok done) = packet_on m octets ∷ []
submitted_by event answer = []

-- how many segments a call sends for the first time: one if it pulls a Type-AD frame whose N(S) was
-- V(S), and otherwise none
abbrev pub sent_by : ℕ → (event : GroundEvent) → GroundAnswer event → ℕ
sent_by vs Pull frame = length (first_in vs frame)
sent_by vs event answer = 0

-- how many segments a call acknowledges: as many as its CLCW moves NN(R)
abbrev pub acknowledged_by : (old new : ℕ) → GroundEvent → ℕ
acknowledged_by old new (Telemetry octets) = ahead_by new old
acknowledged_by old new (ControlWord octets) = ahead_by new old
acknowledged_by old new event = 0

abbrev pub after_call : GroundSession → (event : GroundEvent)
    → GroundOutcome (GroundAnswer event) → GroundSession
after_call s event o = record {
  ground_node = o.after;
  base = s.base;
  submissions = s.submissions ++ submitted_by event o.answer;
  sent = s.sent + sent_by s.ground_node.fop.vs event o.answer;
  acknowledged =
      s.acknowledged + acknowledged_by s.ground_node.fop.nn o.after.fop.nn event;
}

abbrev pub session_step : GroundSession → GroundEvent → GroundSession
session_step s event = after_call s event (ground_step s.ground_node event)

abbrev pub session_run : GroundSession → List GroundEvent → GroundSession
session_run s [] = s
session_run s (event ∷ more) = session_run (session_step s event) more

-- ---- a session of a ground

-- the numbers and the octets that a call is given are whole numbers from 0 to 255
abbrev pub IsCall : GroundEvent → Type 0
IsCall (Direct directive) = IsDirective directive
IsCall (Resume value) = value < 256
IsCall (Telemetry octets) = IsOctets octets
IsCall (ControlWord octets) = IsOctets octets
IsCall _ = Unit {0}

-- the call begins a session: an initiation in S6, or a resumption that is accepted
abbrev pub BeginsHere : GroundState → GroundEvent → Type 0
BeginsHere s (Direct directive) =
    (is_initiation directive ≡ true) × (is_closed s.fop.state ≡ true)
BeginsHere s (Resume value) = can_resume s value ≡ true
BeginsHere s _ = ⊥

-- the call begins no session
abbrev pub BeginsNoOther : GroundState → GroundEvent → Type 0
BeginsNoOther s (Direct directive) =
    is_initiation directive ≡ true → is_closed s.fop.state ≡ false
BeginsNoOther s (Resume value) = can_resume s value ≡ false
BeginsNoOther s _ = Unit {0}

-- none of these calls begins a session
abbrev pub GoesOn : GroundState → List GroundEvent → Type 0
GoesOn s [] = Unit {0}
GoesOn s (event ∷ more) = BeginsNoOther s event × GoesOn (ground_step s event).after more

-- the call does not set V(S): it is not the directive that sets V(S), or the sender is not in S6
abbrev pub SetsNoVs : GroundState → GroundEvent → Type 0
SetsNoVs s (Direct (SetVs x)) = is_closed s.fop.state ≡ false
SetsNoVs s event = Unit {0}

-- none of these calls sets V(S)
abbrev pub LeavesVs : GroundState → List GroundEvent → Type 0
LeavesVs s [] = Unit {0}
LeavesVs s (event ∷ more) = SetsNoVs s event × LeavesVs (ground_step s event).after more

-- a new ground, or one that is opened from a record
pub data IsFirst (c : Config) : GroundState → Type 0 where
  fresh : IsFirst c (new_ground c)
  opened : (kept : KeptGround) → kept.vs < 256 → kept.nn < 256 → IsFirst c (opened_at c kept)

-- A session of a ground. Any calls come before the session, one call begins the session, and the
-- calls since then begin no other.
pub record IsSession (s : GroundSession) : Type 0 where
  pub config : Config
  pub ranges : IsConfig config
  pub first : GroundState
  pub is_first : IsFirst config first
  pub before : List GroundEvent
  pub initiation : GroundEvent
  pub since : List GroundEvent
  pub calls : AllByRecursion IsCall before × IsCall initiation × AllByRecursion IsCall since
  pub begins : BeginsHere (ground_run first before) initiation
  pub goes_on : GoesOn (ground_step (ground_run first before) initiation).after since
  pub led : session_run (begun_at (ground_step (ground_run first before) initiation).after) since
      ≡ s

-- a session in which no directive has set V(S)
pub record IsCountedSession (s : GroundSession) : Type 0 where
  pub session : IsSession s
  pub leaves : LeavesVs
      (ground_step (ground_run session.first session.before) session.initiation).after
      session.since

-- ---- what is promised

-- the segments into which the submissions are cut, in their order across all MAPs
abbrev pub segments_submitted : GroundSession → List SegmentView
segments_submitted s =
    flat_map (λ (p : PacketOn). segments_of s.ground_node.config.part p.on_map p.octets)
    s.submissions

-- In each session of each ground, in each state except S6, the ground holds outstanding exactly
-- what was submitted and is not acknowledged.
abbrev pub EachHoldsWhatIsNotAcknowledged : Type 0
EachHoldsWhatIsNotAcknowledged =
    (s : GroundSession) → IsSession s → is_closed s.ground_node.fop.state ≡ false
    → outstanding s.ground_node ≡ drop s.acknowledged (segments_submitted s)

-- Let `base` be V(S) when the session began. V(S) is `base` plus the number of segments sent, and
-- NN(R) is `base` plus the number of segments acknowledged, modulo 256. V(S) and NN(R) are equal
-- only if all that was sent is acknowledged.
pub record CountsSegments (s : GroundSession) : Type 0 where
  pub vs : s.ground_node.fop.vs ≡ (s.base + s.sent) % 256
  pub nn : s.ground_node.fop.nn ≡ (s.base + s.acknowledged) % 256
  pub all : s.ground_node.fop.vs ≡ s.ground_node.fop.nn → s.acknowledged ≡ s.sent

-- the number of segments of each submission
abbrev pub segments_of_each : GroundSession → List ℕ
segments_of_each s =
    map (λ (p : PacketOn). length (segments_of s.ground_node.config.part p.on_map p.octets))
    s.submissions

-- The ground's numbers of submissions, of those sent whole and of those acknowledged whole are
-- those of the calls, modulo 2^64.
pub record CountsItsSubmissions (s : GroundSession) : Type 0 where
  pub submitted : submissions_of s.ground_node.fates ≡ length s.submissions % 2 ^ 64
  pub sent : whole_with (sent_beyond s.ground_node) s.ground_node.fates
      ≡ whole_within s.sent (segments_of_each s) % 2 ^ 64
  pub acknowledged : whole_with 0 s.ground_node.fates
      ≡ whole_within s.acknowledged (segments_of_each s) % 2 ^ 64

-- Both counts hold in each session of each ground, in each state and after each alert, while no
-- directive sets V(S).
abbrev pub EachCountsSegments : Type 0
EachCountsSegments = (s : GroundSession) → IsCountedSession s → CountsSegments s

abbrev pub EachCountsItsSubmissions : Type 0
EachCountsItsSubmissions = (s : GroundSession) → IsCountedSession s → CountsItsSubmissions s
