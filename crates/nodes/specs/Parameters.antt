-- The managed parameters. The table contains their names, ranges and defaults. Further definitions:
-- a parameter's value in a configuration, the first parameter that is out of range, and the limits
-- of the segmentation service.
use Rattle.std.specs.Prelude.{◌≡◌, ◌≤◌, ℕ, ◌/◌, ◌%◌, ◌^◌, ◌-◌, nat_le, List, [], ◌∷◌, codes}
use Rattle.std.specs.Prelude.{Bool, true, not, ◌&&◌, ◌==◌, Option, option_map}
use Rattle.std.specs.List.{find}
use Rattle.std.specs.Str.{bytes_eq}
use Rattle.map_service.specs.declared.limits.Limits.{Limits}
use Rattle.nodes.specs.declared.config.Config.{Config}
use Rattle.nodes.specs.declared.parameter.Parameter.{Parameter}
use Rattle.nodes.specs.declared.parameter.Parameter.TheVariants.{Scid, Vcid, TmVcid, Width}
use Rattle.nodes.specs.declared.parameter.Parameter.TheVariants.{Window, Limit, Timer, Part}
use Rattle.nodes.specs.declared.parameter.Parameter.TheVariants.{MaxPacket, Maps, ReadySlots}
use Rattle.nodes.specs.declared.parameter.Parameter.TheVariants.{BypassSlots, QueueSlots}
use Rattle.nodes.specs.declared.parameter.Parameter.TheVariants.{FrameLength, Blocking}

-- ---- the table

-- a parameter's name, its least and its greatest value, and its default
pub record Row : Type 0 where
  pub name : List ℕ
  pub least : ℕ
  pub most : ℕ
  pub default : ℕ

abbrev pub row : List ℕ → ℕ → ℕ → ℕ → Row
row name least most default = record {
  name = name;
  least = least;
  most = most;
  default = default;
}

-- in addition, `width` is even, and `window` is at most half of `width`; `maps` is any 64 bits
abbrev pub row_of : Parameter → Row
row_of Scid = row (codes "scid") 0 1023 1
row_of Vcid = row (codes "vcid") 0 63 2
row_of TmVcid = row (codes "tm_vcid") 0 7 0
row_of Width = row (codes "width") 2 254 254
row_of Window = row (codes "window") 1 127 127
row_of Limit = row (codes "limit") 1 255 3
row_of Timer = row (codes "timer") 1 65535 10
row_of Part = row (codes "part") 1 1016 1016
row_of MaxPacket = row (codes "max_packet") 7 65542 65542
row_of Maps = row (codes "maps") 0 (2 ^ 64 - 1) (2 ^ 64 - 1)
row_of ReadySlots = row (codes "ready_slots") 1 64 64
row_of BypassSlots = row (codes "bypass_slots") 1 64 4
row_of QueueSlots = row (codes "queue_slots") 1 65535 1000
row_of FrameLength = row (codes "frame_length") 16 2048 64
row_of Blocking = row (codes "blocking") 0 1 0

-- all parameters, in the order in which they are checked
abbrev pub all_in_order : List Parameter
all_in_order =
    Scid ∷ Vcid ∷ TmVcid ∷ Width ∷ Window ∷ Limit ∷ Timer ∷ Part ∷ MaxPacket ∷ Maps ∷ ReadySlots
    ∷ BypassSlots ∷ QueueSlots ∷ FrameLength ∷ Blocking ∷ []

-- the parameter with this name
abbrev pub parameter_named : List ℕ → Option Parameter
parameter_named name = find (λ parameter. bytes_eq name (row_of parameter).name) all_in_order

-- ---- a parameter of a configuration

abbrev pub value_of : Config → Parameter → ℕ
value_of c Scid = c.scid
value_of c Vcid = c.vcid
value_of c TmVcid = c.tm_vcid
value_of c Width = c.width
value_of c Window = c.window
value_of c Limit = c.limit
value_of c Timer = c.timer
value_of c Part = c.part
value_of c MaxPacket = c.max_packet
value_of c Maps = c.maps
value_of c ReadySlots = c.ready_slots
value_of c BypassSlots = c.bypass_slots
value_of c QueueSlots = c.queue_slots
value_of c FrameLength = c.frame_length
value_of c Blocking = c.blocking

-- the greatest number that the parameter's field can hold
abbrev pub greatest_of : Parameter → ℕ
greatest_of Maps = 2 ^ 64 - 1
greatest_of parameter = 2 ^ 32 - 1

abbrev pub with_value : Config → Parameter → ℕ → Config
with_value c Scid n = record c { scid = n }
with_value c Vcid n = record c { vcid = n }
with_value c TmVcid n = record c { tm_vcid = n }
with_value c Width n = record c { width = n }
with_value c Window n = record c { window = n }
with_value c Limit n = record c { limit = n }
with_value c Timer n = record c { timer = n }
with_value c Part n = record c { part = n }
with_value c MaxPacket n = record c { max_packet = n }
with_value c Maps n = record c { maps = n }
with_value c ReadySlots n = record c { ready_slots = n }
with_value c BypassSlots n = record c { bypass_slots = n }
with_value c QueueSlots n = record c { queue_slots = n }
with_value c FrameLength n = record c { frame_length = n }
with_value c Blocking n = record c { blocking = n }

-- ---- the default values

abbrev pub default_config : Config
default_config = record {
  scid = (row_of Scid).default;
  vcid = (row_of Vcid).default;
  tm_vcid = (row_of TmVcid).default;
  width = (row_of Width).default;
  window = (row_of Window).default;
  limit = (row_of Limit).default;
  timer = (row_of Timer).default;
  part = (row_of Part).default;
  max_packet = (row_of MaxPacket).default;
  maps = (row_of Maps).default;
  ready_slots = (row_of ReadySlots).default;
  bypass_slots = (row_of BypassSlots).default;
  queue_slots = (row_of QueueSlots).default;
  frame_length = (row_of FrameLength).default;
  blocking = (row_of Blocking).default;
}

-- ---- the ranges

abbrev pub is_within : ℕ → Row → Bool
is_within n bounds = nat_le bounds.least n && nat_le n bounds.most

-- a parameter's row defines its range; the first three equations define the exceptions
abbrev pub is_in_range : Config → Parameter → Bool
is_in_range c Width = is_within c.width (row_of Width) && (c.width % 2 == 0)
is_in_range c Window = is_within c.window (row_of Window) && nat_le c.window (c.width / 2)
is_in_range c Maps = true
is_in_range c parameter = is_within (value_of c parameter) (row_of parameter)

-- the first parameter that is out of range
abbrev pub out_of_range : Config → Option Parameter
out_of_range c = find (λ parameter. not (is_in_range c parameter)) all_in_order

-- the name of that parameter
abbrev pub config_fault : Config → Option (List ℕ)
config_fault c = option_map (λ parameter. (row_of parameter).name) (out_of_range c)

-- each field is in range; `maps` is any 64 bits
pub record IsConfig (c : Config) : Type 0 where
  pub scid : c.scid ≤ 1023
  pub vcid : c.vcid ≤ 63
  pub tm_vcid : c.tm_vcid ≤ 7
  pub even : c.width % 2 ≡ 0
  pub width : (2 ≤ c.width) × (c.width ≤ 254)
  pub window : (1 ≤ c.window) × (c.window ≤ c.width / 2)
  pub limit : (1 ≤ c.limit) × (c.limit ≤ 255)
  pub timer : (1 ≤ c.timer) × (c.timer ≤ 65535)
  pub part : (1 ≤ c.part) × (c.part ≤ 1016)
  pub max_packet : (7 ≤ c.max_packet) × (c.max_packet ≤ 65542)
  pub ready_slots : (1 ≤ c.ready_slots) × (c.ready_slots ≤ 64)
  pub bypass_slots : (1 ≤ c.bypass_slots) × (c.bypass_slots ≤ 64)
  pub queue_slots : (1 ≤ c.queue_slots) × (c.queue_slots ≤ 65535)
  pub frame_length : (16 ≤ c.frame_length) × (c.frame_length ≤ 2048)
  pub blocking : c.blocking ≤ 1

-- ---- the limits of cutting and assembly

abbrev pub limits_of : Config → Limits
limits_of c = record {
  part = c.part;
  max_packet = c.max_packet;
  maps = c.maps;
  blocking = c.blocking == 1;
}
