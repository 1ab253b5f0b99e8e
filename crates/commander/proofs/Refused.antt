-- What follows where the ground refuses a packet.
use Rattle.std.proofs.Common.{◌≡◌, Option, Some, None, Result, Err, refl, Bool}
use Rattle.std.specs.Prelude.{IfOk, OnOk, OnErr, IsOkUnless, is_ok}
use Rattle.command_ledger.specs.declared.fault.LedgerFault.{LedgerFault}
use Rattle.command_ledger.specs.declared.fault.LedgerFault.TheVariants as ledger_faults
use Rattle.nodes.specs.declared.fault.LinkFault.{LinkFault}
use Rattle.nodes.specs.declared.fault.LinkFault.TheVariants as faults
use Rattle.nodes.specs.Ground.{GroundState, GroundOutcome, Submits, unless_refused}
use Rattle.commander.specs.Next.{refusal_of}

-- what is answered, and the ground, after a call that was refused
pub record IsRefused (o : GroundOutcome (Result (Unit {0}) LinkFault)) (old new : GroundState)
    (r : Result Bool LedgerFault) : Type 0 where
  pub answer : IfOk r (λ b. b ≡ is_ok o.answer)
  pub after : OnOk r (new ≡ o.after)
  pub err : OnErr r (new ≡ old)
  pub fault : IsOkUnless r ledger_faults.Memory

module _ (s next new : GroundState) where
  for_a_reason : (fault : LinkFault) → new ≡ s
      → IsRefused (unless_refused (Some fault) s next) s new (refusal_of fault)
  for_a_reason faults.Memory same = record { answer = tt; after = tt; err = same; fault = refl }
  for_a_reason faults.NotOpen same = record { answer = refl; after = same; err = tt; fault = tt }
  for_a_reason faults.ClosedMap same = record { answer = refl; after = same; err = tt; fault = tt }
  for_a_reason faults.NotCommand same = record { answer = refl; after = same; err = tt; fault = tt }
  for_a_reason faults.TooLong same = record { answer = refl; after = same; err = tt; fault = tt }
  for_a_reason faults.QueueFull same = record { answer = refl; after = same; err = tt; fault = tt }
  for_a_reason faults.NotKnown same = record { answer = refl; after = same; err = tt; fault = tt }

  pub refused : (reason : Option LinkFault) (fault : LinkFault) (r : Result (Unit {0}) LinkFault)
      → Submits reason (unless_refused reason s next) s new r → r ≡ Err fault
      → IsRefused (unless_refused reason s next) s new (refusal_of fault)
  refused None fault r is e =
      let same : new ≡ s = rw e at is.err in
      let lacks : fault ≡ faults.Memory = rw e at (is.memory refl) in
      rw lacks (record { answer = tt; after = tt; err = same; fault = refl })
  refused (Some f) fault r is e =
      let same : new ≡ s = rw e at is.err in
      let so : f ≡ fault = cc (e, is.refused) in
      rw so (for_a_reason fault same)
