-- The outcomes of a node's asks: octets that are sent, numbers, and refusals.
use Rattle.std.proofs.Common.{refl, ◌≡◌, Option, Some, None, is_some, true, ◌≤◌, ◌-◌, ℕ, List, ◌++◌, length, take, drop}
use Rattle.std.proofs.Common.{sym, ap, ◌∙◌, arith, length-append, length-drop, length-take, ◌≢◌, Result, Ok, Err}
use Rattle.std.proofs.Common.{IfSome, OnOk, OnErr, IsOkUnless, String, codes}
use Rattle.std.proofs.lemmas.List.{take_at}
use Rattle.std.specs.declared.alloc.AllocError.{AllocError}
use Rattle.octets.specs.Beginning.{Appends}
use Rattle.tc_frame.specs.declared.frame.Check.TheVariants.{On}
use Rattle.tc_frame.specs.Layout.{FrameView, IsTcFrame, body_octets}
use Rattle.tc_frame.specs.Encoding.{spelling, total_of}
use Rattle.nodes.specs.declared.config.Config.{Config}
use Rattle.nodes.specs.Parameters.{config_fault}
use Rattle.nodes.specs.Frames.{size_of, written_over, BeginsWith}
use Rattle.nodes.specs.declared.fault.LinkFault.{LinkFault}
use Rattle.nodes.specs.declared.fault.LinkFault.TheVariants.{Memory}
use Rattle.nodes.specs.Faults.{fault_row}
use Rattle.nodes.specs.Ground.{GroundState, unless_refused}
use Rattle.node_lines.specs.Answers.{sent_text, fault_text}
use Rattle.node_lines.specs.declared.player.NodePlayer.{NodePlayer}
use Rattle.node_lines.specs.declared.player.NodePlayer.TheVariants.{Configured}
use Rattle.node_lines.specs.Nodes.{Turn, NodeRules, turned, Takes}
use Rattle.node_lines.specs.Player.{asked_step, made_step}
use Rattle.node_lines.specs.Ground.{pulled_text, done_text}

-- The outcomes of a node's asks.

-- the first ask, of a node that is made from this configuration
pub first_as : {S : Type 0} (rules : NodeRules S) (cause : List ℕ) (p : NodePlayer S) (c : Config)
    (o : Option (S → Turn S)) → p ≡ Configured c → is_some o ≡ true
    → asked_step rules cause p o ≡ made_step rules c (config_fault c) (turned o)
first_as rules cause p c None is takes = cc takes
first_as rules cause p c (Some turn) is takes = rw is refl

-- The octets of a frame that is sent.

-- the octets that were written over the first ones are now the first ones
pub front_is : (n : ℕ) (out front old : List ℕ) → out ≡ front ++ drop n old → length out ≡ length old → n ≤ length old
    → take n out ≡ front
front_is n out front old written same within =
    ap (take n) written
    ∙ take_at front (drop n old) n (omega (
      arith,
      ap length written,
      length-append front (drop n old),
      length-drop n old,
    ))

-- a frame has at most 1,024 octets
short : (f : FrameView) (out : List ℕ) → length out ≡ 1024 → IsTcFrame On f (take (total_of On f) out)
    → total_of On f ≤ 1024
short f out long is =
    let b = take (total_of On f) out in
    let body : length (body_octets f.body) ≡ length b - 2 - 4 =
    sym (ap length is.rest) ∙ length-drop 4 (take (length b - 2) b)
    ∙ ap (λ (n : ℕ). n - 4) (length-take (length b - 2) b ∙ omega arith) in
    omega (arith, body, is.total)

-- the octets that are returned are those of the frame
pub pulled : (answer : Option FrameView) (count : ℕ) (out old : List ℕ) → Some count ≡ size_of answer
    → out ≡ written_over old answer → BeginsWith out answer → length out ≡ 1024 → length old ≡ 1024
    → pulled_text answer ≡ sent_text (take count out)
pulled None count out old is written begins long was = cc is
pulled (Some f) count out old is written begins long was =
    let same : count ≡ total_of On f = cc is in
    rw same (ap sent_text (sym (front_is (total_of On f) out (spelling On f) old written (long ∙ sym was)
    (omega (arith, was, short f out long begins)))))

-- A submission that the ground refuses.

abbrev pub submitting : Option LinkFault → GroundState → GroundState → Turn GroundState
submitting fault s next = record {
  answer = done_text (unless_refused fault s next).answer;
  after = (unless_refused fault s next).after;
}

-- a refusal for another reason than memory is the one that the ground has for it
reason : (fault : Option LinkFault) (r : Result (Unit {0}) LinkFault) (e : LinkFault) → r ≡ Err e
    → IfSome fault (λ f. r ≡ Err f) → (fault ≡ None → IsOkUnless r Memory) → e ≢ Memory → fault ≡ Some e
reason fault r e is why lacks known = grind (arith, is, why, lacks, known)

pub refused : {Z : Type 0} (push : Result (Unit {0}) AllocError) (before now : String Z) (s next new : GroundState)
    (fault : Option LinkFault) (r : Result (Unit {0}) LinkFault) (e : LinkFault) → r ≡ Err e
    → IfSome fault (λ f. r ≡ Err f) → (fault ≡ None → IsOkUnless r Memory) → OnErr r (new ≡ s)
    → Appends push before now (fault_text (codes "refused") (fault_row e)) → OnOk push (e ≢ Memory)
    → Takes (submitting fault s next) push before now new
refused (Err lacking) before now s next new fault r e is why lacks err told known = record { text = tt; node = tt }
refused (Ok done) before now s next new fault r e is why lacks err told known =
    let same : new ≡ s = rw is at err in
    rw (reason fault r e is why lacks known) (record { text = told; node = same })
