use Rattle.std.proofs.Common.{◌≡◌, ℕ, ap, subst, sym, ◌∙◌, Ok, Err, Result}
use Rattle.std.specs.Prelude.{OnOk}
use Rattle.command_log.specs.declared.status.Status.{Status}
use Rattle.command_log.specs.declared.fault.LogFault.{LogFault}
use Rattle.command_ledger.specs.Ledger.{appended_if, news}
use Rattle.command_ledger.proofs.ledger.Ledger.hears.Goals as goal

same_read : (r : Result (Status × ℕ) LogFault) (a b : Status) (x y : ℕ) → r ≡ Ok (a, x) → r ≡ Ok (b, y) → a ≡ b
same_read r a b x y e f = let both : ◌≡◌ {A = Result (Status × ℕ) LogFault} (Ok (a, x)) (Ok (b, y)) = sym e ∙ f in
    let pair : ◌≡◌ {A = Status × ℕ} (a, x) (b, y) = cc in ap (λ (p : Status × ℕ). p.0) pair

never_read : (r : Result (Status × ℕ) LogFault) (fault : LogFault) (b : Status) (y : ℕ) → r ≡ Err fault → r ≡ Ok (b, y)
    → ⊥
never_read r fault b y e f = let both : ◌≡◌ {A = Result (Status × ℕ) LogFault} (Err fault) (Ok (b, y)) = sym e ∙ f in cc

pub returns-in-Ok-clause-taken : goal.returns-in-Ok-clause-taken
returns-in-Ok-clause-taken c status waiting range low e =
    let read = c.decode_status.ensures.only status waiting range low e in
    let same : c.in-Ok.status ≡ status = same_read c.decode_status.result c.in-Ok.status status c.in-Ok.field-0-1
    waiting
    c.in-Ok.is read in (
      c.hears_status.ensures.fault,
      subst (λ (st : Status). OnOk c.hears_status.result (c.hears_status.new.self
          ≡ appended_if c.args.self.now (news c.args.self.now st))) same c.hears_status.ensures.ok,
    )

pub returns-in-Err-clause-taken : goal.returns-in-Err-clause-taken
returns-in-Err-clause-taken c status waiting range low e =
    absurd (never_read c.decode_status.result c.in-Err.fault status waiting c.in-Err.is
    (c.decode_status.ensures.only status waiting range low e))

pub returns-in-Ok-clause-check : goal.returns-in-Ok-clause-check
returns-in-Ok-clause-check c long none = absurd (none c.in-Ok.status c.in-Ok.field-0-1 c.in-Ok.ensures.found)
