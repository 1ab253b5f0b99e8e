use Rattle.std.proofs.Common.{◌≡◌, ◌++◌, ℕ, List, drop, take, Bool, true, false, if◌then◌else◌, Ok, refl, sym, ap}
use Rattle.std.proofs.Common.{subst, ◌∙◌}
use Rattle.clcw.specs.declared.word.Clcw.{Clcw}
use Rattle.clcw.specs.Encoding as words
use Rattle.tm_link.specs.Builder.{BuilderState, is_at_rest, after_send, data_size, after_fill, with_next_count}
use Rattle.tm_link.specs.Builder.{build_step}
use Rattle.tm_link.specs.Layout.{FrameView, IsTmFrame}
use Rattle.tm_link.specs.Encoding.{spelling}
use Rattle.nodes.specs.declared.config.Config.{Config}
use Rattle.nodes.specs.Spacecraft.{SpacecraftState, spacecraft_step, Report, report_octets, IsOwnFrame}
use Rattle.nodes.specs.SpacecraftFields.{state_of, IsBuilderOf}
use Rattle.nodes.proofs.spacecraft.Spacecraft.report_in.Goals as goal

encoded : (word : Clcw) → words.fits word ≡ true → words.encode_answer word ≡ Ok (words.spelling word)
encoded word fits = rw fits refl

-- the next frame is of the same channel and length
one_of : (c : Config) (b : Bool) (s t : BuilderState) → IsBuilderOf c s → IsBuilderOf c t
    → IsBuilderOf c (if b then s else t)
one_of c true s t is other = is
one_of c false s t is other = other

built : (c : Config) (s : BuilderState) → IsBuilderOf c s → IsBuilderOf c (with_next_count (after_fill s))
built c s is =
    let filled : IsBuilderOf c (after_fill s) =
    one_of c (is_at_rest s) s (after_send s (data_size s)) is
    (record { scid = is.scid; vcid = is.vcid; total = is.total }) in
    record { scid = filled.scid; vcid = filled.vcid; total = filled.total }

pub unreachable-requires : goal.unreachable-requires
unreachable-requires c =
    let is = sym c.in_default.is ∙ c.encode.ensures.answer
    ∙ encoded c.control_word.result c.control_word.ensures.fits in
    absurd (cc is)

module _ (c : goal.After-slice_known-2-1) where
  abbrev s : SpacecraftState
  s = state_of c.self.inside

  -- the octets of the CLCW
  octets_are : c.in-Ok.ocf ≡ report_octets s
  octets_are =
      let is : Ok c.in-Ok.ocf ≡ Ok (words.spelling c.control_word.result) =
      c.in-Ok.ensures.answer ∙ encoded c.control_word.result c.control_word.ensures.fits in
      let octets : c.in-Ok.ocf ≡ words.spelling c.control_word.result = cc is in
      octets ∙ ap words.spelling c.control_word.ensures.report ∙ ap report_octets (sym c.self.view_is)

  frame_is : (build_step s.builder c.in-Ok.ocf).0 ≡ (spacecraft_step c.args.self.now Report).answer
  frame_is =
      ap (λ (o : List ℕ). (build_step s.builder o).0) octets_are
      ∙ ap (λ (s : SpacecraftState). (spacecraft_step s Report).answer) c.self.view_is

pub invariant_of-self : goal.invariant_of-self
invariant_of-self c =
    let frames = subst (IsBuilderOf c.self.inside.config) (sym c.build_in.ensures.after)
    (built c.self.inside.config c.self.inside.builder c.self.invariant.frames) in
    assumption (frames, c.self.invariant)

pub returns-clause-count : goal.returns-clause-count
returns-clause-count c =
    c.build_in.ensures.count ∙ c.self.invariant.frames.total
    ∙ ap (λ (s : SpacecraftState). s.config.frame_length) c.self.view_is

pub returns-clause-frame : goal.returns-clause-frame
returns-clause-frame c =
    c.build_in.ensures.frame ∙ ap (λ (f : FrameView). spelling f ++ drop c.build_in.result c.args.out.now) (frame_is c)

pub returns-clause-after : goal.returns-clause-after
returns-clause-after c =
    ap (λ (b : BuilderState). record (s c) { builder = b }) c.build_in.ensures.after
    ∙ ap (λ (s : SpacecraftState). (spacecraft_step s Report).after) c.self.view_is

pub returns-clause-spells : goal.returns-clause-spells
returns-clause-spells c =
    subst (λ (f : FrameView). IsTmFrame c.build_in.result f (take c.build_in.result c.build_in.new.out)) (frame_is c)
    c.build_in.ensures.spells

pub returns-clause-own : goal.returns-clause-own
returns-clause-own c =
    subst (λ (s : SpacecraftState). IsOwnFrame s.config (spacecraft_step s Report).answer) c.self.view_is
    (record { scid = c.self.invariant.frames.scid; vcid = c.self.invariant.frames.vcid })
