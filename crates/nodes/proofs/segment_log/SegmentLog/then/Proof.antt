-- `then` returns the log with one more segment. Assumes `Logic`.
use Rattle.std.proofs.Common.{[], ◌∷◌, ◌++◌, refl}
use contract.Monad.{fact_i}
use denote.Signature.{plain, named_lft}
use Rattle.octets.proofs.Walks.{makes_from, owned}
use Rattle.tc_frame.specs.Layout.{segment_view}
use Rattle.tc_frame.specs.contracts.frame.Segment as Segment
use Rattle.nodes.specs.contracts.segment_log.SegmentLog as SegmentLog
use Rattle.nodes.specs.contracts.segment_log.SegmentLog.then as F
use Rattle.nodes.proofs.segment_log.SegmentLog.then.Statement.{statement}
use Rattle.nodes.proofs.segment_log.SegmentLog.then.Code as code

pub then_spec : {M : Type 1} → statement M
then_spec 𝓤 𝓛 𝓜 𝓡 wired =
    makes_from 𝓛 𝓜 𝓡 _ _ _ _ (plain (λ _. SegmentLog.the_row)) (plain (λ κs. Segment.the_row (named_lft 3 2 tt κs)))
    F.signature.result (F.clauses 𝓛 𝓜.mem 𝓡.returns)
    (λ κs a. record { segments = a.0.now.segments ++ segment_view a.1.0.now ∷ [] }) (λ κs a. owned 𝓛)
    (λ κs a g. fact_i 𝓤 _ _ refl) (code.unfolded 𝓤 𝓛.H 𝓜 𝓡 wired)
