-- Packets are read as they were written, and no others are read.
use Rattle.std.specs.Prelude.{◌≡◌, ℕ, ◌<◌, ◌^◌, List, true, Ok}
use Rattle.octets.specs.Number.{IsOctets}
use Rattle.command_log.specs.declared.packets.Order.{Order}
use Rattle.command_log.specs.declared.packets.Order.TheVariants.{Restart, Rebuild}
use Rattle.command_log.specs.Packets.{CommandView, command_octets, command_fits, command_at}
use Rattle.command_log.specs.Packets.{order_octets, order_fits, order_at}

abbrev pub EachCommandIsRead : Type 0
EachCommandIsRead = (c : CommandView) → command_fits c ≡ true → command_at (command_octets c) ≡ Ok c

abbrev pub EachReadIsACommand : Type 0
EachReadIsACommand =
    (octets : List ℕ) (c : CommandView) → IsOctets octets → command_at octets ≡ Ok c
    → (command_fits c ≡ true) × (octets ≡ command_octets c)

abbrev pub IsOrderInRange : Order → Type 0
IsOrderInRange (Restart boot) = boot < 2 ^ 32
IsOrderInRange (Rebuild mark boot last) = (mark < 2 ^ 32) × (boot < 2 ^ 32) × (last < 2 ^ 32)

abbrev pub EachOrderIsRead : Type 0
EachOrderIsRead =
    (apid count : ℕ) (order : Order) → order_fits apid count ≡ true → IsOrderInRange order
    → order_at (order_octets apid count order) ≡ Ok order

abbrev pub EachReadIsAnOrder : Type 0
EachReadIsAnOrder =
    (octets : List ℕ) (order : Order) → IsOctets octets → order_at octets ≡ Ok order
    → (apid : ℕ) × (count : ℕ) × (order_fits apid count ≡ true)
    × (octets ≡ order_octets apid count order)
