use Rattle.std.proofs.Common.{◌≡◌, ◌∙◌, ◌++◌, [], List, ℕ, false, Option, None, sym, ap, refl, subst, option_map}
use Rattle.std.specs.Prelude.{option_and_then, is_some}
use Rattle.std.specs.Option.{unwrap_or}
use Rattle.std.proofs.lemmas.List.{append-nil}
use Rattle.tc_frame.specs.Layout.{frame_view, FrameView}
use Rattle.encode_lines.specs.Fields.{octets_of_digits}
use Rattle.encode_lines.specs.Frames.{digits_of, frame_octets}
use Rattle.encode_lines.proofs.Words.{frame_decoded-none}
use Rattle.encode_lines.proofs.spellings.put_frame.Goals as goal

pub returns-in_default : goal.returns-in_default
returns-in_default c =
    let f = frame_view c.args.frame.now in
    let none : octets_of_digits (digits_of f.body) ≡ None =
    ap octets_of_digits (sym c.digits_of.ensures) ∙ sym c.in_ok-octets.ensures
    ∙ ap (option_map (λ some. some.items)) c.in_default.is in
    let text : List ℕ = c.args.text.now.items in
    subst (λ (o : Option FrameView). (text ≡ text ++ unwrap_or (option_and_then (frame_octets c.args.check) o) [])
    × (false ≡ is_some (option_and_then (frame_octets c.args.check) o)))
    (sym (frame_decoded-none f none)) (sym (append-nil text), refl)
