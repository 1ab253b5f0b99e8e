-- No field is reported as out of range exactly when each field is in range.
use Rattle.std.proofs.Common.{◌≡◌, ◌≤◌, ℕ, List, [], ◌∷◌, Bool, true, false, not, cond, Option, Some, None}
use Rattle.std.proofs.Common.{refl, ap, subst, arith}
use Rattle.std.specs.Prelude.{option_map}
use Rattle.std.specs.List.{find}
use Rattle.std.specs.Option.{unwrap_or}
use Rattle.std.specs.Str.{bytes_eq}
use Rattle.std.proofs.lemmas.Bool.{leb-true, le-leb, eqb-true, eq-eqb, and_parts}
use Rattle.nodes.specs.declared.config.Config.{Config}
use Rattle.nodes.specs.declared.parameter.Parameter.{Parameter}
use Rattle.nodes.specs.declared.parameter.Parameter.TheVariants as parameters
use Rattle.nodes.specs.Parameters.{all_in_order, row_of, parameter_named, value_of, is_within, is_in_range}
use Rattle.nodes.specs.Parameters.{out_of_range, config_fault, IsConfig}

-- ---- all parameters are checked

pub named : (p : Parameter) → parameter_named (row_of p).name ≡ Some p
named parameters.Maps = refl
named p = refl

module _ (c : Config) where
  abbrev first_out : List Parameter → Option Parameter
  first_out all = find (λ p. not (is_in_range c p)) all

  looked_at : (name : List ℕ) (one : Parameter) (more : List Parameter) (p : Parameter) (inside is : Bool)
      → is_in_range c one ≡ inside → cond (not inside) (Some one) (first_out more) ≡ None
      → cond is (Some one) (find (λ q. bytes_eq name (row_of q).name) more) ≡ Some p
      → (first_out more ≡ None → find (λ q. bytes_eq name (row_of q).name) more ≡ Some p → is_in_range c p ≡ true)
      → is_in_range c p ≡ true
  looked_at name one more p true true at none found rest = subst (λ (q : Parameter). is_in_range c q ≡ true)
      (ap (λ (o : Option Parameter). unwrap_or o one) found) at
  looked_at name one more p true false at none found rest = rest none found
  looked_at name one more p false is at none found rest = absurd cc

  each_of : (name : List ℕ) (all : List Parameter) (p : Parameter) → first_out all ≡ None
      → find (λ q. bytes_eq name (row_of q).name) all ≡ Some p → is_in_range c p ≡ true
  each_of name [] p none found = absurd cc
  each_of name (one ∷ more) p none found =
      looked_at name one more p (is_in_range c one) (bytes_eq name (row_of one).name) refl none found
      (each_of name more p)

  each : out_of_range c ≡ None → (p : Parameter) → is_in_range c p ≡ true
  each none p = each_of (row_of p).name all_in_order p none (named p)

  none_of : ((p : Parameter) → is_in_range c p ≡ true) → (all : List Parameter) → first_out all ≡ None
  none_of inside [] = refl
  none_of inside (one ∷ more) = rw (inside one) (none_of inside more)

none_named : (o : Option Parameter) → option_map (λ p. (row_of p).name) o ≡ None → o ≡ None
none_named None h = refl
none_named (Some p) h = absurd cc

-- ---- a parameter is in range exactly when it satisfies the inequalities

within : (c : Config) (p : Parameter) → is_within (value_of c p) (row_of p) ≡ true
    → ((row_of p).least ≤ value_of c p) × (value_of c p ≤ (row_of p).most)
within c p h = let both = and_parts _ _ h in (leb-true _ _ both.0, leb-true _ _ both.1)

inside : (c : Config) (p : Parameter) → (row_of p).least ≤ value_of c p → value_of c p ≤ (row_of p).most
    → is_within (value_of c p) (row_of p) ≡ true
inside c p low high = rw (le-leb _ _ low, le-leb _ _ high) refl

in_range : (c : Config) → IsConfig c → (p : Parameter) → is_in_range c p ≡ true
in_range c h parameters.Maps = refl
in_range c h parameters.Width = rw (inside c parameters.Width h.width.0 h.width.1, eq-eqb _ _ h.even) refl
in_range c h parameters.Window =
    rw (inside c parameters.Window h.window.0 (omega (arith, h.window, h.width)), le-leb _ _ h.window.1) refl
in_range c h p = inside c p (omega (arith, h)) (omega (arith, h))

pub config_is : (c : Config) → config_fault c ≡ None → IsConfig c
config_is c h =
    let at = each c (none_named (out_of_range c) h) in
    let width = and_parts _ _ (at parameters.Width) in
    let window = and_parts _ _ (at parameters.Window) in
    record {
      scid = (within c parameters.Scid (at parameters.Scid)).1;
      vcid = (within c parameters.Vcid (at parameters.Vcid)).1;
      tm_vcid = (within c parameters.TmVcid (at parameters.TmVcid)).1;
      even = eqb-true _ _ width.1;
      width = within c parameters.Width width.0;
      window = ((within c parameters.Window window.0).0, leb-true _ _ window.1);
      limit = within c parameters.Limit (at parameters.Limit);
      timer = within c parameters.Timer (at parameters.Timer);
      part = within c parameters.Part (at parameters.Part);
      max_packet = within c parameters.MaxPacket (at parameters.MaxPacket);
      ready_slots = within c parameters.ReadySlots (at parameters.ReadySlots);
      bypass_slots = within c parameters.BypassSlots (at parameters.BypassSlots);
      queue_slots = within c parameters.QueueSlots (at parameters.QueueSlots);
      frame_length = within c parameters.FrameLength (at parameters.FrameLength);
      blocking = (within c parameters.Blocking (at parameters.Blocking)).1;
    }

pub no_fault : (c : Config) → IsConfig c → config_fault c ≡ None
no_fault c h = rw (none_of c (in_range c h) all_in_order) refl
