-- Each event keeps a receiver's flags and state in agreement.
use Rattle.std.proofs.Common.{◌≡◌, ℕ, Bool, true, false, List, [], ◌∷◌, refl, sym, ◌∙◌, ap}
use Rattle.cop1.specs.declared.farm.FarmMode.{FarmMode}
use Rattle.cop1.specs.declared.farm.FarmMode.TheVariants.{Open, Wait, Lockout}
use Rattle.cop1.specs.declared.farm.Place.{Place}
use Rattle.cop1.specs.declared.farm.Place.TheVariants.{Expected, InPositiveWindow, InNegativeWindow, OutsideWindows}
use Rattle.cop1.specs.Farm.{FarmState, FarmEvent, AdArrives, BdArrives, UnlockArrives, SetVrArrives, InvalidArrives}
use Rattle.cop1.specs.Farm.{BufferReleased, farm_step, new_farm, state_of, place_of, ad_verdict, after_verdict}
use Rattle.cop1.specs.Farm.{after_unlock, after_set_vr, after_release}
use Rattle.cop1.specs.Farm.{FlagsAgree, FlagsAlwaysAgree, farm_run}

in_open : (lockout wait : Bool) → Open ≡ state_of lockout wait → (lockout ≡ false) × (wait ≡ false)
in_open true wait e = absurd cc
in_open false true e = absurd cc
in_open false false e = (refl, refl)

in_wait : (lockout wait : Bool) → Wait ≡ state_of lockout wait → lockout ≡ false
in_wait true wait e = absurd cc
in_wait false true e = refl
in_wait false false e = absurd cc

in_lockout : (lockout wait : Bool) → Lockout ≡ state_of lockout wait → lockout ≡ true
in_lockout true wait e = refl
in_lockout false true e = absurd cc
in_lockout false false e = absurd cc

after_ad : (s : FarmState) (place : Place) (free : Bool) (mode : FarmMode) → mode ≡ s.state → FlagsAgree s
    → FlagsAgree (after_verdict s (ad_verdict place free mode))
after_ad s Expected true Open e is =
    let flags = in_open s.lockout s.wait (e ∙ is.state) in
    record { asks = λ w. absurd (cc (w, flags.1)); state = is.state }
after_ad s Expected false Open e is =
    let flags = in_open s.lockout s.wait (e ∙ is.state) in
    record { asks = λ w. refl; state = ap (λ lockout. state_of lockout true) (sym flags.0) }
after_ad s InPositiveWindow free Open e is = record { asks = λ w. refl; state = is.state }
after_ad s OutsideWindows free Open e is = record { asks = is.asks; state = refl }
after_ad s OutsideWindows free Wait e is = record { asks = is.asks; state = refl }
after_ad s InNegativeWindow free Open e is = is
after_ad s _ free _ e is = is

after_unlocking : (s : FarmState) (mode : FarmMode) → mode ≡ s.state → FlagsAgree s → FlagsAgree (after_unlock s mode)
after_unlocking s Open e is =
    let flags = in_open s.lockout s.wait (e ∙ is.state) in
    record { asks = λ w. absurd (cc (w, flags.1)); state = is.state }
after_unlocking s Wait e is =
    record {
      asks =
          λ w. w;
      state = ap (λ lockout. state_of lockout false) (sym (in_wait s.lockout s.wait (e ∙ is.state)));
    }
after_unlocking s Lockout e is = record { asks = λ w. w; state = refl }

after_setting : (s : FarmState) (vr : ℕ) (mode : FarmMode) → mode ≡ s.state → FlagsAgree s
    → FlagsAgree (after_set_vr s vr mode)
after_setting s vr Open e is =
    let flags = in_open s.lockout s.wait (e ∙ is.state) in
    record { asks = λ w. absurd (cc (w, flags.1)); state = is.state }
after_setting s vr Wait e is =
    record {
      asks =
          λ w. w;
      state = ap (λ lockout. state_of lockout false) (sym (in_wait s.lockout s.wait (e ∙ is.state)));
    }
after_setting s vr Lockout e is = record { asks = is.asks; state = is.state }

after_releasing : (s : FarmState) (mode : FarmMode) → mode ≡ s.state → FlagsAgree s → FlagsAgree (after_release s mode)
after_releasing s Open e is = is
after_releasing s Wait e is =
    record {
      asks =
          λ w. absurd cc;
      state = ap (λ lockout. state_of lockout false) (sym (in_wait s.lockout s.wait (e ∙ is.state)));
    }
after_releasing s Lockout e is =
    let locked = in_lockout s.lockout s.wait (e ∙ is.state) in
    record { asks = λ w. absurd cc; state = sym e ∙ ap (λ lockout. state_of lockout false) (sym locked) }

pub FlagsAgree-step : (s : FarmState) (event : FarmEvent) → FlagsAgree s → FlagsAgree (farm_step s event)
FlagsAgree-step s (AdArrives n free) is = after_ad s (place_of s n) free s.state refl is
FlagsAgree-step s BdArrives is = record { asks = is.asks; state = is.state }
FlagsAgree-step s UnlockArrives is = after_unlocking s s.state refl is
FlagsAgree-step s (SetVrArrives vr) is = after_setting s vr s.state refl is
FlagsAgree-step s InvalidArrives is = is
FlagsAgree-step s BufferReleased is = after_releasing s s.state refl is

pub FlagsAgree-run : (s : FarmState) (events : List FarmEvent) → FlagsAgree s → FlagsAgree (farm_run s events)
FlagsAgree-run s [] is = is
FlagsAgree-run s (event ∷ events) is = FlagsAgree-run (farm_step s event) events (FlagsAgree-step s event is)

pub always : FlagsAlwaysAgree
always width vr events = FlagsAgree-run (new_farm width vr) events (record { asks = λ w. absurd cc; state = refl })
