use Rattle.std.proofs.Common.{◌≡◌, ◌≤◌, ◌∙◌, ℕ, ◌+◌, ◌-◌, ◌*◌, ◌<◌, ◌/◌, ◌%◌, List, [], ◌∷◌, length, take, ap, arith}
use Rattle.octets.specs.Number.{number_of}
use Rattle.tc_frame.specs.declared.frame.Check.{Check}
use Rattle.tc_frame.specs.Layout.{FrameView, IsTcFrame, bypass_flag, control_flag}
use Rattle.space_packet.specs.Layout.{secondary_bit, type_bit}
use Rattle.listings.specs.Filters.{frame_vcid}
use Rattle.listings.proofs.filters.law_of_named_channels.Goals as goal

-- the flags above an identifier are multiples of its range
scid_below : (first bypass control scid : ℕ) → first ≡ 8192 * bypass + 4096 * control + scid → scid < 1024
    → first % 1024 ≡ scid
scid_below first bypass control scid is lt = omega arith

apid_below : (first kind secondary apid : ℕ) → first ≡ 4096 * kind + 2048 * secondary + apid → apid < 2048
    → first % 2048 ≡ apid
apid_below first kind secondary apid is lt = omega arith

vcid_above : (second vcid total : ℕ) → second ≡ 1024 * vcid + total - 1 → 1 ≤ total → total ≤ 1024
    → second / 1024 ≡ vcid
vcid_above second vcid total is least most = omega arith

vcid_named : (check : Check) (f : FrameView) (octets : List ℕ) → IsTcFrame check f octets
    → frame_vcid octets ≡ f.vcid
vcid_named check f [] h = omega (arith, h.second)
vcid_named check f (b ∷ bs) h = vcid_above _ f.vcid (length (b ∷ bs)) h.second (omega arith) h.total

-- the octet of the virtual channel in a CLCW, below its version and status
word_below : (status vcid : ℕ) → vcid < 64 → number_of ((4 * status + 1) ∷ 4 * vcid ∷ []) / 4 % 64 ≡ vcid
word_below status vcid lt = omega arith

pub returns : goal.returns
returns c = record {
  frame = λ check f octets h. (
    scid_below _ (bypass_flag f.body) (control_flag f.body) f.scid h.first h.scid,
    vcid_named check f octets h,
  );
  telemetry = λ size f octets h. (omega (arith, h.first, h.scid, h.vcid), omega (arith, h.first, h.scid, h.vcid));
  word = λ w octets h.
      ap (λ (l : List ℕ). number_of (take 2 l) / 4 % 64) h.spelled ∙ word_below w.status w.vcid h.vcid;
  packet = λ p octets h. apid_below _ (type_bit p.kind) (secondary_bit p.secondary) p.apid h.first h.apid;
}
