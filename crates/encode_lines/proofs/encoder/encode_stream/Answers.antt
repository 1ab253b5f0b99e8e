use Rattle.std.proofs.Common.{◌≡◌, ◌∙◌, ◌++◌, List, ℕ, ap, subst}
use Rattle.octets.specs.Beginning.{IsBeginning}
use Rattle.streams.specs.Devices.{gained}
use Rattle.streams.specs.Lines.{lines_of}
use Rattle.streams.specs.Player.{answers_of, after_text}
use Rattle.encode_lines.specs.declared.encoder.Encoder.{Encoder}
use Rattle.encode_lines.specs.Octets.{octets_in, encoding}
use Rattle.encode_lines.proofs.Runs.{written, refused}
use Rattle.encode_lines.proofs.encoder.encode_stream.Goals as goal

pub returns-in-Ok-clause-writes : goal.returns-in-Ok-clause-writes
returns-in-Ok-clause-writes g c =
    let text : List ℕ =
    gained (g.R.Source.given c.args.reader.now) (g.R.Source.given c.play_stream.new.reader) in
    let all : answers_of encoding c.new-encoder.result text ≡ octets_in c.args.skips c.args.check text =
    ap (λ (e : Encoder). answers_of encoding e text) c.new-encoder.ensures
    ∙ written c.args.skips c.args.check 0 (lines_of text) in
    record {
      whole = c.in-Ok.ensures.writes.whole
          ∙ ap (λ (t : List ℕ). g.W.Sink.taken_octets c.args.writer.now ++ t) all;
      beginning = tt;
      failed = c.in-Ok.ensures.writes.failed;
    }

pub returns-in-Ok-clause-unreadable : goal.returns-in-Ok-clause-unreadable
returns-in-Ok-clause-unreadable g c =
    let text : List ℕ =
    gained (g.R.Source.given c.args.reader.now) (g.R.Source.given c.play_stream.new.reader) in
    ap (λ (e : Encoder). e.refused) c.in-Ok.ensures.player
    ∙ ap (λ (e : Encoder). (after_text encoding e text).refused) c.new-encoder.ensures
    ∙ refused c.args.skips c.args.check 0 (lines_of text)

pub returns-in-Err-clause-writes : goal.returns-in-Err-clause-writes
returns-in-Err-clause-writes g c =
    let text : List ℕ =
    gained (g.R.Source.given c.args.reader.now) (g.R.Source.given c.play_stream.new.reader) in
    let all : answers_of encoding c.new-encoder.result text ≡ octets_in c.args.skips c.args.check text =
    ap (λ (e : Encoder). answers_of encoding e text) c.new-encoder.ensures
    ∙ written c.args.skips c.args.check 0 (lines_of text) in
    record {
      whole = tt;
      beginning = subst (λ (t : List ℕ). IsBeginning (g.W.Sink.taken_octets c.play_stream.new.writer)
          (g.W.Sink.taken_octets c.args.writer.now ++ t)) all c.in-Err.ensures.writes.beginning;
      failed = c.in-Err.ensures.writes.failed;
    }
