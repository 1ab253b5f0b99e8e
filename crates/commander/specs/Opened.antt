-- A commander when it is opened, and its settings.
use Rattle.std.specs.Prelude.{ℕ, ◌*◌, ◌==◌, length, min, Bool, true, false, not, ◌||◌}
use Rattle.std.specs.Prelude.{nat_lt, nat_le, if◌then◌else◌, Option, Some, None}
use Rattle.command_ledger.specs.declared.fault.LedgerFault.{LedgerFault}
use Rattle.command_ledger.specs.declared.fault.LedgerFault.TheVariants.{FieldRange, TooLong}
use Rattle.command_ledger.specs.Store.{Reading}
use Rattle.command_ledger.specs.Ledger as ledgers
use Rattle.map_service.specs.Assembly.{is_open}
use Rattle.nodes.specs.declared.config.Config.{Config}
use Rattle.nodes.specs.Parameters.{limits_of}
use Rattle.nodes.specs.Ground.{new_ground}
use Rattle.commander.specs.declared.mission.Mission.{Mission}
use Rattle.commander.specs.declared.session.Session.{Session}
use Rattle.commander.specs.declared.commander.Commander.{Commander}
use Rattle.commander.specs.Commander.{wait}

-- without a session, before the first silence
abbrev pub new_session : Mission → Session
new_session m =
    record {
      sent = 0;
      busy = wait m;
      value = None;
      paused = false;
      alert = None;
      restarts = false;
      held = 0;
    }

-- why no commander is opened: orders cannot be sent
abbrev pub mission_fault : Config → Mission → Option LedgerFault
mission_fault c m =
    if not (is_open (limits_of c) m.map) || nat_le 2047 m.orders then Some FieldRange
    else if nat_lt c.part 23 || nat_lt c.max_packet 23 then Some TooLong else None

-- the maximum length of a packet whose segments all fit in the queue
abbrev pub longest : Config → ℕ
longest c = min (c.part * c.queue_slots) c.max_packet

abbrev pub opened : Config → Mission → Reading → Commander
opened c m all =
    record {
      ground_node = new_ground c;
      ledger = ledgers.opened (longest c) all;
      mission = m;
      limits = limits_of c;
      session = new_session m;
    }

abbrev pub paused : Commander → Bool → Commander
paused s hold = record s { session = record s.session { paused = hold } }

abbrev pub restarting : Commander → Commander
restarting s = record s { session = record s.session { restarts = true } }

abbrev pub stored : Commander → (count : ℕ) → Commander
stored s count =
    record s {
      ledger =
          if count == length s.ledger.unstored then ledgers.all_stored s.ledger else s.ledger;
    }

abbrev pub renewed : Commander → (count : ℕ) → Commander
renewed s count = record s { ledger = record s.ledger { stored = count } }
