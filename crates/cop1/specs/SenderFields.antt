-- How the fields of a sender that a caller keeps represent its numbers.
use Rattle.cop1.specs.declared.sender.SenderFields.{SenderFields}
use Rattle.cop1.specs.Numbers.{SenderNumbers}

abbrev pub numbers_of : SenderFields → SenderNumbers
numbers_of f =
    record {
      room = f.room;
      state = f.state;
      vs = f.vs;
      nn = f.nn;
      waiting = f.waiting;
      sent = record { count = f.sent; due = f.due };
      bypass = tt;
      window = f.window;
      limit = f.limit;
      timer = f.timer;
      ticks = f.ticks;
      count = f.count;
      control = f.control;
    }

abbrev pub fields_of : SenderNumbers → SenderFields
fields_of s =
    record {
      room = s.room;
      state = s.state;
      vs = s.vs;
      nn = s.nn;
      waiting = s.waiting;
      sent = s.sent.count;
      due = s.sent.due;
      window = s.window;
      limit = s.limit;
      timer = s.timer;
      ticks = s.ticks;
      count = s.count;
      control = s.control;
    }
