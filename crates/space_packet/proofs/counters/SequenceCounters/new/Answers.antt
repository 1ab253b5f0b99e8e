use Rattle.std.proofs.Common.{◌<◌, ℕ, zero, suc, slice_index, replicate, arith}
use Rattle.space_packet.proofs.counters.SequenceCounters.new.Goals as goal

-- a list that repeats one count is a list of counts
all_counts : (count n apid : ℕ) → count < 16384 → slice_index (replicate n count) apid < 16384
all_counts count zero apid lt = omega arith
all_counts count (suc n) zero lt = lt
all_counts count (suc n) (suc apid) lt = all_counts count n apid lt

pub invariant_of-result : goal.invariant_of-result
invariant_of-result c = λ apid. all_counts _ 2048 apid (omega arith)
