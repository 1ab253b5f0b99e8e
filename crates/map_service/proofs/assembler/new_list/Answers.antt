use Rattle.std.proofs.Common.{rules, sym, ap, subst, ◌∙◌, ◌≡◌, ◌++◌, length, take, None, arith}
use Rattle.std.specs.List.{AllByRecursion}
use Rattle.map_service.specs.AssemblerFields.{HasPlaces}
use Rattle.map_service.proofs.PartLists.{closed_calls, taken_none}
use Rattle.map_service.proofs.assembler.new_list.Goals as goal

pub returns : goal.returns
returns c =
    let grown = c.in_ok-resize_with.ensures.items in
    let is : c.resize_with.new.self.items ≡ grown.0 =
    grown.2 ∙ ap (λ xs. take c.places-places.result xs ++ grown.0) c.in_ok-parts.ensures.items
    ∙ taken_none c.places-places.result grown.0 in
    let count : length c.resize_with.new.self.items ≡ c.places-places.result =
    omega (arith, c.in_ok-resize_with.ensures.len, c.resize_with.new.self.ok.0) in
    let all : HasPlaces c.args.limits.now (length c.resize_with.new.self.items) =
    subst (HasPlaces c.args.limits.now) (sym count) c.places-places.ensures.places in
    record {
      list = record {
        most = omega (arith, count, c.places-places.ensures.most);
        places = λ some. all;
        closed = subst (AllByRecursion (λ part. part ≡ None)) (sym is)
            (closed_calls _ grown.0 _ grown.1 (λ p y q call. search (rules, call)) grown.3);
      };
      places = all;
    }
