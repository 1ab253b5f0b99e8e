-- The directives by numbers (CCSDS 232.1-B-2, 5.2.4).
use Rattle.std.specs.Prelude.{ℕ, ◌&&◌, ◌==◌, nat_le, if◌then◌else◌, Option, Some, None}
use Rattle.cop1.specs.declared.vocabulary.Directive.{Directive}
use Rattle.cop1.specs.declared.vocabulary.Directive.TheVariants.{InitWithoutCheck, InitWithCheck}
use Rattle.cop1.specs.declared.vocabulary.Directive.TheVariants.{InitUnlock, InitSetVr, Terminate}
use Rattle.cop1.specs.declared.vocabulary.Directive.TheVariants.{SetVs, SetWindow, SetLimit}
use Rattle.cop1.specs.declared.vocabulary.Directive.TheVariants.{SetTimer}

-- a window or a limit above 255 is represented by 0, since no sender accepts either
abbrev pub octet_of : ℕ → ℕ
octet_of value = if nat_le value 255 then value else 0

-- the directive of this kind, with this value if it has one
abbrev pub directive_named : ℕ → ℕ → Option Directive
directive_named kind value =
    if kind == 1 then Some InitWithoutCheck
    else if kind == 2 then Some InitWithCheck
    else if kind == 3 then Some InitUnlock
    else if (kind == 4) && nat_le value 255 then Some (InitSetVr value)
    else if kind == 5 then Some Terminate
    else if (kind == 6) && nat_le value 255 then Some (SetVs value)
    else if kind == 7 then Some (SetWindow (octet_of value))
    else if kind == 8 then Some (SetLimit (octet_of value))
    else if kind == 9 then Some (SetTimer value)
    else None
