use Rattle.simulated_link.proofs.Common.{◌≡◌, List, ℕ, [], ◌∷◌, ◌++◌, map, refl, ap, sym, ◌∙◌, Ok, Clcw, octets_of}
use Rattle.simulated_link.proofs.Common.{segment_octets, SpacecraftState, spacecraft_step, Report, World}
use Rattle.std.proofs.lemmas.List.{map_push}
use Rattle.nodes.specs.declared.event.Event.TheVariants as events
use Rattle.simulated_link.specs.declared.reply.Reply.TheVariants as replies
use Rattle.simulated_link.specs.Replies.{Reported}
use Rattle.simulated_link.specs.World.{delivered}
use Rattle.simulated_link.specs.WorldFields.{world_of}
use Rattle.simulated_link.proofs.Transit.{happens, lacks}
use Rattle.simulated_link.proofs.world.World.report.Goals as goal

-- the world with another spacecraft, and other frames in transit on the downlink
abbrev with_down : World → SpacecraftState → List (List ℕ) → World
with_down w spacecraft down = record w { spacecraft = spacecraft; down = down }

pub returns-in_default : goal.returns-in_default
returns-in_default c =
    lacks c.self.inside c.args.self.now c.self.view_is events.Report c.args.self.now refl tt (λ none. none)

pub invariant_of-self : goal.invariant_of-self
invariant_of-self c = assumption c.self.invariant

pub returns-then-is_err : goal.returns-then-is_err
returns-then-is_err c =
    lacks c.self.inside c.args.self.now c.self.view_is events.Report
    (record (world_of c.self.inside) { down = octets_of c.try_reserve.new.self.items })
    (ap (λ xs. record (world_of c.self.inside) { down = octets_of xs }) c.try_reserve.ensures.items ∙ c.self.view_is)
    tt (λ none. none)

-- the records of what was accepted and delivered stay
pub invariant_of-self-2 : goal.invariant_of-self-2
invariant_of-self-2 c = record {
  accepted = c.self.invariant.accepted
      ∙ ap (λ (s : SpacecraftState). map segment_octets s.accepted) (sym c.put_report.ensures.after);
  before = c.self.invariant.before;
  counted = c.self.invariant.counted;
  submitted_on = c.self.invariant.submitted_on;
  delivered_on = λ m. c.self.invariant.delivered_on m
      ∙ ap (λ (s : SpacecraftState). delivered (record (world_of c.self.inside) { spacecraft = s }) m)
      (sym c.put_report.ensures.after);
}

pub returns : goal.returns
returns c =
    let w : World = world_of c.self.inside in
    let down : octets_of c.push_back_reserved.new.self.items ≡ w.down ++ c.put_report.new.to.items ∷ [] =
    ap octets_of c.push_back_reserved.ensures.items
    ∙ map_push (λ v. v.items) c.try_reserve.new.self.items c.put_report.new.to
    ∙ ap (λ xs. octets_of xs ++ c.put_report.new.to.items ∷ []) c.try_reserve.ensures.items in
    happens c.self.inside c.args.self.now c.self.view_is events.Report (replies.Reported c.control_word-clcw.result)
    (with_down w c.put_report.new.spacecraft (octets_of c.push_back_reserved.new.self.items))
    (ap (λ (r : Clcw). Ok (Reported r)) (sym c.control_word-clcw.ensures.report))
    (ap (λ (s : SpacecraftState). with_down w s (octets_of c.push_back_reserved.new.self.items))
    c.put_report.ensures.after
    ∙ ap (with_down w (spacecraft_step w.spacecraft Report).after)
    (down ∙ ap (λ (o : List ℕ). w.down ++ o ∷ []) c.put_report.ensures.frame))
