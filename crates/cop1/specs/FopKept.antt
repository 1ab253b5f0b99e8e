-- A sender that continues with numbers kept from another sender (CCSDS 232.1-B-2, 5.1).
use Rattle.std.specs.Prelude.{ℕ, ◌/◌, nat_lt, if◌then◌else◌, Option, Some, None}
use Rattle.cop1.specs.declared.fault.CopFault.{CopFault}
use Rattle.cop1.specs.declared.fault.CopFault.TheVariants.{State}
use Rattle.cop1.specs.Modulo.{ahead_by}
use Rattle.cop1.specs.FopNew.{new_fault}
use Rattle.cop1.specs.Units.{FopState, new_fop}

-- a new sender, but with this V(S) and this NN(R)
abbrev pub kept_fop : {U : Type 0} → ℕ → ℕ → ℕ → ℕ → (vs nn : ℕ) → FopState U
kept_fop width window limit timer vs nn =
    record (new_fop width window limit timer) { vs = vs; nn = nn }

-- the fault State if V(S) is above NN(R) by more units than may be sent and not acknowledged
abbrev pub numbers_fault : (width vs nn : ℕ) → Option CopFault
numbers_fault width vs nn = if nat_lt (width / 2) (ahead_by vs nn) then Some State else None

abbrev pub first_of : Option CopFault → Option CopFault → Option CopFault
first_of None fault = fault
first_of (Some fault) other = Some fault

-- the first fault that applies, if any
abbrev pub kept_fault : ℕ → ℕ → ℕ → ℕ → (vs nn : ℕ) → Option CopFault
kept_fault width window limit timer vs nn =
    first_of (new_fault width window limit timer) (numbers_fault width vs nn)
