use Rattle.std.proofs.Common.{◌∙◌, sym, ap, ◌%◌}
use Rattle.clcw.proofs.NamedBits.{named-mod}
use Rattle.clcw.proofs.flags.ClcwFlags.are_named.Goals as goal

pub returns : goal.returns
returns c =
    let same = c.bits.ensures tt in
    let known = c.from_bits.ensures.known tt in
    let named = named-mod c.bits.result c.bits.type_inv in (
      λ yes. ap (λ n. n % 8) (sym same) ∙ named.0 (known.0 (sym c.is_some.ensures ∙ yes)),
      λ multiple. c.is_some.ensures ∙ known.1 (named.1 (ap (λ n. n % 8) same ∙ multiple)),
    )
