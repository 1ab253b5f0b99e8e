use Rattle.std.proofs.Common.{◌≡◌, true, false, ℕ, List, None, Some, IfSome, Option, Err, Bool, if◌then◌else◌, sym, ap}
use Rattle.std.proofs.Common.{subst, ◌∙◌, refl}
use Rattle.std.proofs.lemmas.Bool.{ltb-true, and_parts}
use Rattle.std.proofs.lemmas.Result.{IfOk-from_err}
use Rattle.map_service.specs.Assembly.{is_open}
use Rattle.map_service.specs.declared.limits.Limits.{Limits}
use Rattle.nodes.specs.CommandPackets.{commands_fault}
use Rattle.nodes.specs.declared.fault.LinkFault.{LinkFault}
use Rattle.nodes.specs.declared.fault.LinkFault.TheVariants.{NotOpen, ClosedMap, QueueFull, Memory}
use Rattle.nodes.specs.declared.ground_node.submission.Submission.{Submission}
use Rattle.nodes.specs.Ground.{GroundState, is_closed, is_over_slots, submit_fault}
use Rattle.nodes.specs.Parameters.{limits_of}
use Rattle.nodes.proofs.Submissions.{no_session, no_such_map, no_commands, but_for_places, IsRefusal, for_reason}
use Rattle.nodes.proofs.Submissions.{passed_on, for_places, not_refused}
use Rattle.nodes.proofs.ground_node.Ground.prepare.Goals as goal

none_is : {A : Type 0} (o : Option A) (P : A → Type 0) → o ≡ None → IfSome o P
none_is {A = A} o P e = subst (λ (x : Option A). IfSome x P) (sym e) tt

held_by : {A : Type 0} (P : A → Type 0) (o : Option A) (p : A) → o ≡ Some p → IfSome o P → P p
held_by {A = A} P o p e h = subst (λ (x : Option A). IfSome x P) e h

-- the code uses the configured limits
at_limits : (P : Limits → Type 0) (l : Limits) (t s : GroundState) → l ≡ limits_of t.config → t ≡ s → P l
    → P (limits_of s.config)
at_limits P l t s is same p = subst P (is ∙ ap (λ (x : GroundState). limits_of x.config) same) p

opened_by : (l : Limits) (t s : GroundState) (m : ℕ) (b : Bool) → l ≡ limits_of t.config → t ≡ s → b ≡ is_open l m
    → is_open (limits_of s.config) m ≡ b
opened_by l t s m b is same h = at_limits (λ (x : Limits). is_open x m ≡ b) l t s is same (sym h)

fault_by : (l : Limits) (t s : GroundState) (octets : List ℕ) (o : Option LinkFault) → l ≡ limits_of t.config → t ≡ s
    → commands_fault l octets ≡ o → commands_fault (limits_of s.config) octets ≡ o
fault_by l t s octets o is same h = at_limits (λ (x : Limits). commands_fault x octets ≡ o) l t s is same h

-- the case in which packets could not be cut
uncut : (l : Limits) (t s : GroundState) (m : ℕ) (octets : List ℕ) (fault : LinkFault) → l ≡ limits_of t.config → t ≡ s
    → false ≡ is_closed s.fop.state → true ≡ is_open l m → commands_fault l octets ≡ None
    → fault ≡ (if is_over_slots s m octets then QueueFull else Memory)
    → IsRefusal {A = Submission} (submit_fault s m octets) (Err fault)
uncut l t s m octets fault is same active opened passed lacks =
    for_places (is_over_slots s m octets) (submit_fault s m octets) fault
    (but_for_places s m octets (sym active) (opened_by l t s m true is same opened)
    (fault_by l t s octets None is same passed)) lacks

pub returns-then-is_closed : goal.returns-then-is_closed
returns-then-is_closed c =
    let s : GroundState = c.args.self.now in
    let m : ℕ = c.args.map in
    let octets : List ℕ = c.args.octets.now in
    let r : IsRefusal {A = Submission} (submit_fault s m octets) (Err NotOpen) =
    for_reason _ NotOpen (no_session s m octets (sym c.if-is_closed.ensures)) in
    record { given = tt; submission = tt; refused = r.refused; memory = r.memory; faults = r.faults }

pub returns-then-not-is_open : goal.returns-then-not-is_open
returns-then-not-is_open c =
    let s : GroundState = c.args.self.now in
    let m : ℕ = c.args.map in
    let octets : List ℕ = c.args.octets.now in
    let shut : is_open (limits_of s.config) m ≡ false =
    opened_by _ _ s m false c.limits-limits.ensures c.self.view_is c.if-not-is_open.ensures in
    let r : IsRefusal {A = Submission} (submit_fault s m octets) (Err ClosedMap) =
    for_reason _ ClosedMap (no_such_map s m octets (sym c.if-is_closed.ensures) shut) in
    record { given = tt; submission = tt; refused = r.refused; memory = r.memory; faults = r.faults }

pub returns-in_err-packets : goal.returns-in_err-packets
returns-in_err-packets c =
    let s : GroundState = c.args.self.now in
    let m : ℕ = c.args.map in
    let octets : List ℕ = c.args.octets.now in
    let opened : is_open (limits_of s.config) m ≡ true =
    opened_by _ _ s m true c.limits-limits.ensures c.self.view_is c.if-not-is_open.ensures in
    let why : submit_fault s m octets ≡ Some c.in_err-packets.field-0.0 =
    no_commands s m octets (sym c.if-is_closed.ensures) opened c.in_err-packets.field-0.0
    (fault_by _ _ s octets _ c.limits-limits.ensures c.self.view_is c.in_err-packets.ensures.err) in
    let r : IsRefusal {A = Submission} (submit_fault s m octets) c.from_residual.result =
    passed_on _ _ c.in_err-packets.field-0.0 c.from_residual.ensures.1 why in
    record {
      given = IfOk-from_err c.from_residual.result _ c.from_residual.ensures.0;
      submission = IfOk-from_err c.from_residual.result _ c.from_residual.ensures.0;
      refused = r.refused;
      memory = r.memory;
      faults = r.faults;
    }

pub lack_of-requires : goal.lack_of-requires
lack_of-requires c =
    fault_by _ _ c.args.self.now c.args.octets.now None c.limits-limits.ensures c.self.view_is
    c.in_ok-packets.ensures.ok

pub returns-in_default : goal.returns-in_default
returns-in_default c =
    let r = uncut _ _ c.args.self.now c.args.map c.args.octets.now c.lack_of.result c.limits-limits.ensures
    c.self.view_is c.if-is_closed.ensures c.if-not-is_open.ensures c.in_ok-packets.ensures.ok
    (c.lack_of.ensures c.args.map) in
    record { given = tt; submission = tt; refused = r.refused; memory = r.memory; faults = r.faults }

pub lack_of-requires-in_default-segments_of : goal.lack_of-requires-in_default-segments_of
lack_of-requires-in_default-segments_of c =
    fault_by _ _ c.args.self.now c.args.octets.now None c.limits-limits.ensures c.self.view_is
    c.in_ok-packets.ensures.ok

pub returns-in_default-segments_of : goal.returns-in_default-segments_of
returns-in_default-segments_of c =
    let r = uncut _ _ c.args.self.now c.args.map c.args.octets.now c.lack_of-in_default-segments_of.result
    c.limits-limits.ensures c.self.view_is c.if-is_closed.ensures c.if-not-is_open.ensures c.in_ok-packets.ensures.ok
    (c.lack_of-in_default-segments_of.ensures c.args.map) in
    record { given = tt; submission = tt; refused = r.refused; memory = r.memory; faults = r.faults }

pub segments_of-requires-clause-map : goal.segments_of-requires-clause-map
segments_of-requires-clause-map c = ltb-true c.args.map 64 (and_parts _ _ (sym c.if-not-is_open.ensures)).0

pub segments_of-requires-clause-commands : goal.segments_of-requires-clause-commands
segments_of-requires-clause-commands c =
    fault_by _ _ c.args.self.now c.args.octets.now None c.limits-limits.ensures c.self.view_is
    c.in_ok-packets.ensures.ok

pub returns : goal.returns
returns c =
    let s : GroundState = c.args.self.now in
    let m : ℕ = c.args.map in
    let octets : List ℕ = c.args.octets.now in
    let opened : is_open (limits_of s.config) m ≡ true =
    opened_by _ _ s m true c.limits-limits.ensures c.self.view_is c.if-not-is_open.ensures in
    let commands : commands_fault (limits_of s.config) octets ≡ None =
    fault_by _ _ s octets None c.limits-limits.ensures c.self.view_is c.in_ok-packets.ensures.ok in
    let fault : submit_fault s m octets ≡ None =
    not_refused s m octets (sym c.if-is_closed.ensures) opened commands c.in-Some-segments_of.ensures.places in
    record {
      given = (refl, refl);
      submission = record {
        fault = fault;
        packets = held_by _ c.in_ok-packets.field-0 c.in-Some.packets c.in-Some.is c.in_ok-packets.ensures.packets;
        segments = c.in-Some-segments_of.ensures.segments;
      };
      refused = none_is (submit_fault s m octets) _ fault;
      memory = λ h. tt;
      faults = tt;
    }
