use Rattle.std.proofs.Common.{◌≡◌, ◌∙◌, ◌++◌, ◌+◌, [], sym, ap, subst, rules}
use Rattle.std.specs.Prelude.{◌&&◌}
use Rattle.std.proofs.lemmas.Result.{on_err_weaker, IfOk-weaker}
use Rattle.octets.specs.Beginning.{IsBeginning}
use Rattle.listings.specs.Listing.{rest_line, standing, is_empty}
use Rattle.listings.specs.Text.{written}
use Rattle.listings.proofs.Listed.{listed_open}
use Rattle.listings.proofs.stream.ListerTaker.end.Given.{Over}
use Rattle.listings.proofs.stream.ListerTaker.end.Goals as goal
use Rattle.listings.proofs.stream.ListerTaker.end.Goals.{In-Ok}

pub returns-in_default-clause-ends : goal.returns-in_default-clause-ends
returns-in_default-clause-ends g c =
    let line = rest_line g.C.Listing.lines g.S.Cutter.layout in
    let taken = g.W.Sink.taken_octets c.args.writer.now in
    let same = listed_open g.C.Listing.lines g.S.Cutter.layout g.met.S.Cutter.heads
    (standing [] c.args.arg2.now c.args.self.now.progress (g.S.Cutter.held c.args.self.now.cutter)) c.requires.open.0 in
    record {
      text = subst (λ x. taken ≡ taken ++ (x.text ++ line (x.count + 1) x.octets)) (sym same) (search rules);
      ends = subst (λ x. c.of_all.result ≡ record {
        records = x.count;
        octets = c.args.octets + 0;
        all_good = x.all_good && is_empty x.octets;
      }) (sym same) (search rules);
    }

-- what is written is the line of the rest
is_rest : (g : Over) (c : In-Ok g) → rest_line g.C.Listing.lines g.S.Cutter.layout
    (c.args.self.now.progress.count + 1) (g.S.Cutter.held c.args.self.now.cutter) ≡ written c.refuse.new.text
is_rest g c = search rules

pub returns-clause-ends : goal.returns-clause-ends
returns-clause-ends g c =
    let line = rest_line g.C.Listing.lines g.S.Cutter.layout in
    let taken = g.W.Sink.taken_octets c.args.writer.now in
    let same = listed_open g.C.Listing.lines g.S.Cutter.layout g.met.S.Cutter.heads
    (standing [] c.args.arg2.now c.args.self.now.progress (g.S.Cutter.held c.args.self.now.cutter)) c.requires.open.0 in
    IfOk-weaker c.put.result _ _ (λ answer h. record {
      text = h.1 ∙ ap (λ t. taken ++ t) (sym (ap (λ x. x.text ++ line (x.count + 1) x.octets) same
          ∙ is_rest g (goal.at.returns-clause-ends g c).In-Ok));
      ends = h.0 ∙ subst (λ x. c.of_all-2.result ≡ record {
        records = x.count;
        octets = c.args.octets + 0;
        all_good = x.all_good && is_empty x.octets;
      }) (sym same) (search rules);
    }) c.put.ensures.ok

pub returns-clause-beginning : goal.returns-clause-beginning
returns-clause-beginning g c =
    let line = rest_line g.C.Listing.lines g.S.Cutter.layout in
    let taken = g.W.Sink.taken_octets in
    let same = listed_open g.C.Listing.lines g.S.Cutter.layout g.met.S.Cutter.heads
    (standing [] c.args.arg2.now c.args.self.now.progress (g.S.Cutter.held c.args.self.now.cutter)) c.requires.open.0 in
    on_err_weaker c.put.result (subst (λ t. IsBeginning (taken c.put.new.writer) (taken c.args.writer.now ++ t))
    (sym (ap (λ x. x.text ++ line (x.count + 1) x.octets) same
    ∙ is_rest g (goal.at.returns-clause-beginning g c).In-Ok))) c.put.ensures.beginning
