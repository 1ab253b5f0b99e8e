-- What an alert shows of the link, and how to recover after it.
use Rattle.std.specs.Prelude.{List, ℕ, ◌++◌, Bool, true, false, codes}
use Rattle.cop1.specs.declared.vocabulary.Alert.{Alert}
use Rattle.cop1.specs.declared.vocabulary.Alert.TheVariants.{Lockout, NnR, Clcw, Synch, Limit}
use Rattle.cop1.specs.declared.vocabulary.Alert.TheVariants.{Timer}
use Rattle.cop1.specs.declared.vocabulary.Alert.TheVariants.{Terminated}

-- the alert shows that a condition of the link is broken
abbrev pub shows_broken : Alert → Bool
shows_broken Lockout = true
shows_broken NnR = true
shows_broken Clcw = true
shows_broken Synch = true
shows_broken Limit = false
shows_broken Timer = false
shows_broken Terminated = false

-- the advice if a condition is broken
abbrev pub begin_anew : List ℕ
begin_anew =
    codes "a condition is broken (restart on board, reordering, second station?): begin anew"

-- the advice if the next session can continue from this one
abbrev pub resume_later : List ℕ
resume_later = codes ": after a silent round trip, resume by a newer CLCW, if the boot count is the same"

-- the advice after Limit and Timer
abbrev pub give_up : List ℕ
give_up = codes "frames or CLCWs were lost or late, or the board has no room" ++ resume_later

-- what to look for, and what to do, in ASCII
abbrev pub advice : Alert → List ℕ
advice Lockout = begin_anew
advice NnR = begin_anew
advice Clcw = begin_anew
advice Synch = begin_anew
advice Limit = give_up
advice Timer = give_up
advice Terminated = codes "the session was terminated" ++ resume_later
