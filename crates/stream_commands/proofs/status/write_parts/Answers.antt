use Rattle.std.proofs.Common.{◌≡◌, ◌∙◌, ◌++◌, ℕ, List, sym, ap, subst, append_assoc}
use Rattle.octets.specs.Beginning.{IsBeginning}
use Rattle.streams.proofs.Beginnings.{begins_more}
use Rattle.stream_commands.proofs.status.write_parts.Goals as goal

pub returns-in_err-write_all-clause-beginning : goal.returns-in_err-write_all-clause-beginning
returns-in_err-write_all-clause-beginning g c =
    let rest : List ℕ = c.args.word.now ++ c.args.end.now in
    begins_more _ _ c.as_bytes.result.now rest _
    (ap (λ (t : List ℕ). t ++ rest) (sym c.as_bytes.ensures.value)) c.write_all.ensures.beginning

pub returns-in_err-write_all-2-clause-beginning : goal.returns-in_err-write_all-2-clause-beginning
returns-in_err-write_all-2-clause-beginning g c =
    let taken = g.W.Sink.taken_octets in
    let before : List ℕ = taken c.args.errors.now in
    let start : List ℕ = c.args.start.now in
    let end : List ℕ = c.args.end.now in
    let rest : List ℕ = c.args.word.now ++ end in
    let first : taken c.write_all.new.writer ++ rest ≡ before ++ (start ++ rest) =
    ap (λ (t : List ℕ). t ++ rest) (c.in_ok-write_all.ensures.ok
    ∙ ap (λ (t : List ℕ). before ++ t) c.as_bytes.ensures.value) ∙ append_assoc before start rest in
    subst (IsBeginning (taken c.write_all-2.new.writer)) first
    (begins_more _ _ c.as_bytes-2.result.now end _
    (ap (λ (t : List ℕ). t ++ end) (sym c.as_bytes-2.ensures.value)) c.write_all-2.ensures.beginning)
