-- The managed parameters by numbers.
use Rattle.std.specs.Prelude.{ℕ, Option, Some, None, List, [], ◌∷◌}
use Rattle.nodes.specs.declared.parameter.Parameter.{Parameter}
use Rattle.nodes.specs.declared.parameter.Parameter.TheVariants.{Scid, Vcid, TmVcid, Width, Window}
use Rattle.nodes.specs.declared.parameter.Parameter.TheVariants.{Limit, Timer, Part, MaxPacket}
use Rattle.nodes.specs.declared.parameter.Parameter.TheVariants.{Maps, ReadySlots, BypassSlots}
use Rattle.nodes.specs.declared.parameter.Parameter.TheVariants.{QueueSlots, FrameLength, Blocking}
use Rattle.c_words.specs.Words.{name_by}
use Rattle.nodes.specs.Parameters.{row_of, all_in_order}
use Rattle.nodes.specs.declared.fault.LinkFault.TheVariants as link
use Rattle.nodes.specs.Faults as link_faults
use Rattle.simulated_link.specs.declared.fault.SimFault.TheVariants as sim
use Rattle.simulated_link.specs.Faults as sim_faults
use Rattle.command_ledger.specs.declared.fault.LedgerFault.TheVariants as ledger
use Rattle.command_ledger.specs.Faults as ledger_faults

-- a parameter's number, in the order in which parameters are checked
abbrev pub parameter_number : Parameter → ℕ
parameter_number Scid = 1
parameter_number Vcid = 2
parameter_number TmVcid = 3
parameter_number Width = 4
parameter_number Window = 5
parameter_number Limit = 6
parameter_number Timer = 7
parameter_number Part = 8
parameter_number MaxPacket = 9
parameter_number Maps = 10
parameter_number ReadySlots = 11
parameter_number BypassSlots = 12
parameter_number QueueSlots = 13
parameter_number FrameLength = 14
parameter_number Blocking = 15

-- the number of the first parameter, 0 for none
abbrev pub first_number : Option Parameter → ℕ
first_number None = 0
first_number (Some parameter) = parameter_number parameter

-- The words for numbers, which are those of the crates.

abbrev pub parameter_word : ℕ → List ℕ
parameter_word n = name_by (λ p. (parameter_number p, (row_of p).name)) all_in_order n

abbrev pub link_fault_word : ℕ → List ℕ
link_fault_word n =
    name_by link_faults.fault_row
    (link.NotOpen ∷ link.ClosedMap ∷ link.NotCommand ∷ link.TooLong ∷ link.QueueFull ∷ link.Memory
    ∷ link.NotKnown ∷ []) n

abbrev pub sim_fault_word : ℕ → List ℕ
sim_fault_word n =
    name_by sim_faults.fault_row
    (sim.Memory ∷ sim.NothingInTransit ∷ sim.NotDetectable ∷ []) n

abbrev pub ledger_fault_word : ℕ → List ℕ
ledger_fault_word n =
    name_by ledger_faults.fault_row
    (ledger.Layout ∷ ledger.Check ∷ ledger.FieldRange ∷ ledger.TooLong ∷ ledger.NoNumber
    ∷ ledger.NotLost ∷ ledger.NoBoot ∷ ledger.Owing ∷ ledger.Memory ∷ []) n
