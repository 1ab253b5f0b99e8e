use Rattle.std.proofs.Common.{◌≡◌, ◌≤◌, ◌+◌, ◌++◌, ℕ, List, length, ap, sym, subst, ◌∙◌, arith, length-append}
use Rattle.std.proofs.lemmas.List.{length-map, append_assoc}
use Rattle.map_service.proofs.Handed.{AreWhole}
use Rattle.tm_link.specs.Extractor.{octets_of, extract_step}
use Rattle.tm_link.specs.Layout.{FrameView, frame_view}
use Rattle.nodes.specs.Ground.{GroundState}
use Rattle.nodes.proofs.Delivery.{whole_append, extracted_whole}
use Rattle.nodes.proofs.ground_node.Ground.extract.Goals as goal

pub returns-clause-count : goal.returns-clause-count
returns-clause-count c =
    let frame : FrameView = frame_view c.args.frame.now in
    let packets : List (List ℕ) = (extract_step c.self.inside.extractor frame).packets in
    let old : List (List ℕ) = octets_of c.self.inside.finished.items in
    let new : List (List ℕ) = octets_of c.frame.new.packets.items in
    let joined : length new ≡ length (old ++ packets) = ap length c.in-Ok.ensures.packets in
    let sum : length (old ++ packets) ≡ length old + length packets = length-append old packets in
    let before : length old ≡ length c.self.inside.finished.items = length-map c.self.inside.finished.items _ in
    let after : length new ≡ length c.frame.new.packets.items = length-map c.frame.new.packets.items _ in
    let gained : length c.frame.new.packets.items ≡ length c.self.inside.finished.items + length packets =
    omega arith in
    let count : c.len.result ≡ c.len-before.result + length packets = omega arith in
    let is : length packets ≡ length (extract_step c.args.self.now.extractor frame).packets =
    ap (λ (s : GroundState). length (extract_step s.extractor frame).packets) c.self.view_is in
    omega arith

pub invariant_of-self-2 : goal.invariant_of-self-2
invariant_of-self-2 c =
    let frame : FrameView = frame_view c.args.frame.now in
    let packets : List (List ℕ) = (extract_step c.self.inside.extractor frame).packets in
    let waiting : List (List ℕ) = octets_of c.self.inside.waiting.items in
    let old : List (List ℕ) = octets_of c.self.inside.finished.items in
    let all : AreWhole ((waiting ++ old) ++ packets) =
    whole_append (waiting ++ old) packets c.self.invariant.packets (extracted_whole c.self.inside.extractor frame) in
    let whole = subst AreWhole
    (append_assoc waiting old packets ∙ ap (λ (ps : List (List ℕ)). waiting ++ ps) (sym c.in-Ok.ensures.packets))
    all in
    let begun : length c.frame.new.self.part ≤ 65541 = c.frame.ensures.short in
    assumption (whole, begun, c.self.invariant)
