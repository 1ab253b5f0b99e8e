-- How a builder's fields represent its state. The octets before `start` were sent.
use Rattle.std.specs.Prelude.{◌≤◌, ◌<◌, drop, vec_len}
use Rattle.tm_link.specs.declared.builder.TmBuilder.TheInside.{Inside}
use Rattle.tm_link.specs.Builder.{BuilderState}

abbrev pub state_of : Inside → BuilderState
state_of b = record {
  scid =
      b.scid;
  vcid =
      b.vcid;
  total =
      b.total;
  mc_count =
      b.mc_count;
  vc_count =
      b.vc_count;
  idle_left =
      b.idle_left;
  pending = drop b.start b.octets.items;
  begun = b.begun;
  sizes = b.sizes.items;
}

-- what holds of the fields
pub record IsSound (b : Inside) : Type 0 where
  pub scid : b.scid < 1024
  pub vcid : b.vcid < 8
  pub least : 16 ≤ b.total
  pub most : b.total ≤ 2048
  pub idle_left : b.idle_left ≤ 6
  pub start : b.start ≤ vec_len b.octets
