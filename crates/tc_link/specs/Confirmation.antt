-- The confirmation of a session, by the CLCW that takes the ground from S4 or S5 to S1.
use Rattle.std.specs.Prelude.{◌≡◌, ◌≢◌, ℕ, [], true, false, Option, Some, None}
use Rattle.std.specs.List.{AllByRecursion}
use Rattle.tc_frame.specs.declared.frame.Command.{Command}
use Rattle.tc_frame.specs.declared.frame.Command.TheVariants.{Unlock, SetVr}
use Rattle.cop1.specs.declared.farm.FarmMode.TheVariants.{Lockout}
use Rattle.cop1.specs.declared.vocabulary.Directive.{Directive}
use Rattle.cop1.specs.declared.vocabulary.Directive.TheVariants.{InitWithoutCheck}
use Rattle.cop1.specs.FopDirective.{is_initiation}
use Rattle.cop1.specs.FopVariables.{IsActive}
use Rattle.tc_link.specs.InTransit.{commands_up}
use Rattle.simulated_link.specs.World.{World, accepted, directive_of}

-- a session that this directive begins must be confirmed: by CLCW check, Unlock or Set V(R)
abbrev pub IsChecked : Directive → Type 0
IsChecked directive = (is_initiation directive ≡ true) × (directive ≢ InitWithoutCheck)

abbrev pub IsChecking : Option Directive → Type 0
IsChecking None = ⊥
IsChecking (Some directive) = IsChecked directive

-- V(R) = V(S) = NN(R)
abbrev pub AllAgree : World → Type 0
AllAgree w =
    (w.spacecraft.farm.vr ≡ w.ground_node.fop.vs) × (w.ground_node.fop.nn ≡ w.ground_node.fop.vs)

-- if the event confirms the session, the three agree, though nothing was assumed of V(R)
abbrev pub ConfirmsExactly : World → World → Type 0
ConfirmsExactly old new =
    old.session.confirmed ≡ false → new.session.confirmed ≡ true → AllAgree new

abbrev pub LeavesVr : ℕ → Command → Type 0
LeavesVr vr Unlock = Unit {0}
LeavesVr vr (SetVr x) = x ≡ vr

pub record IsConfirmedExactly (w : World) : Type 0 where
  -- nothing is sent before the confirmation
  pub nothing_before : IsChecking (directive_of w) → w.session.confirmed ≡ false
      → (w.session.sent ≡ []) × (accepted w ≡ [])
  -- from then on the three agree until the first Type-AD frame is sent
  pub exact : w.session.confirmed ≡ true → IsActive w.ground_node.fop.state → w.session.sent ≡ []
      → AllAgree w
  -- from then on each control frame still in transit leaves V(R) as it is
  pub commands : w.session.confirmed ≡ true
      → AllByRecursion (LeavesVr w.spacecraft.farm.vr) (commands_up w)
  -- from then on the receiver is not in Lockout
  pub unlocked : w.session.confirmed ≡ true → w.spacecraft.farm.state ≢ Lockout
