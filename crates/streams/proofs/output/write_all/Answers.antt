use Rattle.std.proofs.Common.{◌≡◌, ◌∙◌, ◌++◌, ◌-◌, ◌<◌, ◌≤◌, ℕ, Bool, false, Ok, zero, suc, List, [], length, take}
use Rattle.std.proofs.Common.{drop, refl, sym, ap, arith}
use Rattle.std.proofs.lemmas.List.{append_assoc, append-nil, length-drop, take-append-drop, take_all}
use Rattle.std.proofs.Math.Dec.{eqb-suc-zero}
use Rattle.std.proofs.Math.Seq.{take-add}
use Rattle.std.specs.Prelude.{◌==◌, ◌&&◌, not, if◌then◌else◌}
use Rattle.octets.specs.Beginning.{IsBeginning}
use Rattle.streams.specs.Devices.{write_failed}
use Rattle.streams.proofs.output.write_all.Goals as goal

positive : (n : ℕ) → 0 < n → (n == 0) ≡ false
positive zero lt = absurd (omega arith)
positive (suc n) lt = eqb-suc-zero n

pub loop-done-preserved : goal.loop-done-preserved
loop-done-preserved g c =
    let done : ℕ = c.loop-done.done in
    let count : ℕ = c.in-Ok.count in
    let text : List ℕ = c.args.text.now in
    let whole : take (length text - done) (drop done text) ≡ drop done text =
    take_all (length text - done) (drop done text) (omega (arith, length-drop done text)) in
    let left : List ℕ = take (length text - done) (drop done text) in
    let none : write_failed (Ok count) left ≡ 0 =
    ap (λ (b : Bool). if b && not (length left == 0) then 1 else 0) (positive count (omega arith)) in
    record {
      taken = c.in-Ok.ensures.taken
          ∙ ap (λ (t : List ℕ). g.W.Sink.taken_octets c.loop-done.writer ++ take count t) whole
          ∙ ap (λ (t : List ℕ). t ++ take count (drop done text)) c.loop-done.invariant.taken
          ∙ append_assoc (g.W.Sink.taken_octets c.args.writer.now) (take done text) (take count (drop done text))
          ∙ ap (λ (t : List ℕ). g.W.Sink.taken_octets c.args.writer.now ++ t) (sym (take-add done count text));
      in_text = omega (
        arith,
        c.in-Ok.ensures.count,
        ap length whole,
        length-drop done text,
        c.loop-done.invariant.in_text,
      );
      failures = omega (arith, c.in-Ok.ensures.failures, c.loop-done.invariant.failures, none);
    }

-- what is written so far begins the text
begins : (before now text : List ℕ) (done : ℕ) → now ≡ before ++ take done text → IsBeginning now (before ++ text)
begins before now text done e = (
  drop done text,
  ap (λ (t : List ℕ). before ++ t) (sym (take-append-drop done text))
      ∙ sym (append_assoc before (take done text) (drop done text)) ∙ ap (λ (t : List ℕ). t ++ drop done text) (sym e),
)

none_of : (n : ℕ) (text : List ℕ) → n ≤ 0 → take n text ≡ []
none_of zero text le = refl
none_of (suc n) text le = absurd (omega arith)

pub returns-in-Ok-2-clause-beginning : goal.returns-in-Ok-2-clause-beginning
returns-in-Ok-2-clause-beginning g c = begins _ _ c.args.text.now c.loop-done.done
    (c.in-Ok.ensures.taken
    ∙ ap (λ (t : List ℕ). g.W.Sink.taken_octets c.loop-done.writer ++ t)
    (none_of c.in-Ok.count _ c.if-count-gt0.false) ∙ append-nil _ ∙ c.loop-done.invariant.taken)

pub returns-in-Err-clause-beginning : goal.returns-in-Err-clause-beginning
returns-in-Err-clause-beginning g c =
    begins _ _ c.args.text.now c.loop-done.done (c.in-Err.ensures.taken ∙ append-nil _ ∙ c.loop-done.invariant.taken)
