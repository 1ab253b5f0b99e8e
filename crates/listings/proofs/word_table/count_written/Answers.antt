use Rattle.std.proofs.Common.{◌≡◌, ◌∙◌, ◌++◌, List, ℕ, Ok, Result, Bool, map, ap}
use Rattle.std.specs.declared.alloc.AllocError.{AllocError}
use Rattle.listings.specs.Phrases.{with_words}
use Rattle.listings.specs.Phrases.{row_of}
use Rattle.listings.proofs.Words.{word_new}
use Rattle.listings.proofs.word_table.count_written.Goals as goal

abbrev known : Bool → Result Bool AllocError
known b = Ok b

pub returns : goal.returns
returns c =
    let new = c.count_known.ensures.new (c.in_ok-count_known.was ∙ ap known c.if-branch.false) in
    let key : c.extend_from_slice.new.self.items ≡ c.args.word.now =
    c.in_ok-extend_from_slice.ensures.items ∙ ap (λ (l : List ℕ). l ++ c.args.word.now) c.new-key.ensures.items in
    ap (map row_of) c.in_ok-insert.ensures.entries
    ∙ word_new c.count_known.new.table.entries c.extend_from_slice.new.self c.args.times c.requires
    (rw (key, new.0) new.1)
    ∙ ap (λ w. with_words (map row_of c.count_known.new.table.entries) w c.args.times) key
    ∙ ap (λ rows. with_words (map row_of rows) c.args.word.now c.args.times) new.0
