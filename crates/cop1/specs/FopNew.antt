-- When a sender can be created, and its initial state.
use Rattle.std.specs.Prelude.{ℕ, ◌/◌, ◌%◌, ◌||◌, ◌==◌, nat_lt, if◌then◌else◌, Option, Some, None}
use Rattle.cop1.specs.declared.fault.CopFault.{CopFault}
use Rattle.cop1.specs.declared.fault.CopFault.TheVariants.{Width, Window, Limit, Timer}
use Rattle.cop1.specs.declared.vocabulary.FopMode.TheVariants.{S6}
use Rattle.cop1.specs.declared.vocabulary.Control.TheVariants.{Idle}
use Rattle.cop1.specs.FopVariables.{Store, SenderOf}

-- the first fault of a receiver's window width, a window, a limit and a timer's value, checked in
-- this order
abbrev pub new_fault : ℕ → ℕ → ℕ → ℕ → Option CopFault
new_fault width window limit timer =
    if (width == 0) || (width % 2 == 1) then Some Width
    else (if (window == 0) || nat_lt (width / 2) window then Some Window
    else (if limit == 0 then Some Limit
    else (if timer == 0 then Some Timer
    else None)))

-- a new sender, with this bypass queue
abbrev pub new_sender_of : {H : Store} → H.Bypass → ℕ → ℕ → ℕ → ℕ → SenderOf H
new_sender_of {H = H} bypass width window limit timer =
    record {
      room = width / 2;
      state = S6;
      vs = 0;
      nn = 0;
      waiting = H.no_unit;
      sent = H.no_units;
      bypass = bypass;
      window = window;
      limit = limit;
      timer = timer;
      ticks = None;
      count = 1;
      control = Idle;
    }
