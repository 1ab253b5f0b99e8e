-- When a board keeps its record. A copy is spoiled only while both are good, and no action is
-- broken off until both are good again. The board may restart between two actions at any time, and
-- otherwise in the middle of any action.
use Rattle.std.specs.Prelude.{◌≡◌, ⊤, List, [], ◌∷◌, Bool, true, false, ◌&&◌, not, is_some}
use Rattle.command_log.specs.Executor.{is_lost}
use Rattle.command_log.specs.Board.{Board, Event, Offers, Orders, Acts, Restarts, BreaksOff, Spoils}
use Rattle.command_log.specs.Board.{new_board, board_step, board_run}

abbrev pub are_both_good : Board → Bool
are_both_good b = is_some b.first && is_some b.second

-- whether a spoiled copy has not been rewritten yet
abbrev pub still_spoiled : Bool → Event → Board → Bool
still_spoiled was (Spoils place) after = true
still_spoiled was (Offers octets) after = was
still_spoiled was (Orders octets) after = was
still_spoiled was Acts after = was && not (are_both_good after)
still_spoiled was (Restarts mark) after = was
still_spoiled was (BreaksOff mark) after = was

abbrev pub IsMild : Bool → Board → Event → Type 0
IsMild spoiled b (Spoils place) = are_both_good b ≡ true
IsMild spoiled b (BreaksOff mark) = spoiled ≡ false
IsMild spoiled b (Offers octets) = ⊤
IsMild spoiled b (Orders octets) = ⊤
IsMild spoiled b Acts = ⊤
IsMild spoiled b (Restarts mark) = ⊤

abbrev pub AreMild : Bool → Board → List Event → Type 0
AreMild spoiled b [] = ⊤
AreMild spoiled b (event ∷ events) =
    IsMild spoiled b event
    × AreMild (still_spoiled spoiled event (board_step b event)) (board_step b event) events

abbrev pub EachKeepsItsRecord : Type 0
EachKeepsItsRecord =
    (events : List Event) → AreMild false new_board events
    → is_lost (board_run new_board events).executor ≡ false
