-- A line that spells something is read as that, and a line that is read as something spells it.
use Rattle.std.proofs.Common.{◌≡◌, ◌∙◌, ◌≤◌, ◌<◌, ◌^◌, ℕ, zero, suc, true, List, [], ◌∷◌, ◌++◌, Option, Some, refl, sym}
use Rattle.std.proofs.Common.{ap, arith, leb, ◌==◌, Bool, false, cond, None, inl, inr, subst}
use Rattle.std.specs.Prelude.{◌⊎◌, codes, decimal, length, map, slice_index_or, ◌↔◌, option_map, option_and_then}
use Rattle.std.specs.List.{Contains, find}
use Rattle.std.specs.Option.{unwrap_or, option_or}
use Rattle.std.specs.Map.{lookup}
use Rattle.std.specs.Str.{bytes_eq}
use Rattle.std.proofs.lemmas.Bool.{eqb-true, leb-true}
use Rattle.std.proofs.lemmas.Map.Views.{Contains-from_lookup}
use Rattle.std.proofs.lemmas.Slice.Eq.{bytes_eq-Decides}
use Rattle.std.proofs.lemmas.Option.{same_Some}
use Rattle.nodes.specs.declared.parameter.Parameter.{Parameter}
use Rattle.nodes.specs.declared.parameter.Parameter.TheVariants as parameters
use Rattle.nodes.specs.Parameters.{row_of, all_in_order, parameter_named}
use Rattle.nodes.proofs.InRange.{named}
use Rattle.node_lines.specs.Lines.{AskView, LineView, Skipped, Setting, Asking, Helping, Unreadable, line_in}
use Rattle.node_lines.specs.Lines.{Form, Number, Octets, Submission, plain_asks, worded_asks}
use Rattle.node_lines.specs.Lines.{ask_after, ask_by, ask_in, most_for, setting_in, readable_line}
use Rattle.streams.specs.Words.{number_in_word, octets_in_word, two_words, rest_after, after_words}
use Rattle.node_lines.specs.Spelling as spelling
use Rattle.node_lines.specs.Spelling.{Spells, Follows}
use Rattle.streams.proofs.SpelledWords.{spelled_octets, printed, is_word, number_word, hex_word, spelled_two, read_two}
use Rattle.streams.proofs.SpelledWords.{begins, read_octets, read, mapped, chained}

-- A line that spells something is read as that.

-- ---- settings

name_word : (p : Parameter) → is_word (row_of p).name ≡ true
name_word parameters.Maps = refl
name_word p = refl

pub most_small : (p : Parameter) → most_for p < 2 ^ 64
most_small parameters.Maps = omega arith
most_small p = omega arith

least_most : (p : Parameter) (n : ℕ) → (n ≤ 65542) ⊎ (n ≤ (row_of p).most) → n ≤ most_for p
least_most parameters.Maps n fits = omega (arith, fits)
least_most p n fits = omega (arith, fits)

set : (p : Parameter) (n : ℕ) → n ≤ most_for p
    → setting_in ((row_of p).name ++ 32 ∷ decimal n) ≡ Some (Setting p n)
set p n le =
    let small = most_small p in
    let two = spelled_two (row_of p).name (decimal n) (name_word p) (number_word n (omega (arith, le, small))) in
    rw (two, named p, printed (most_for p) n small le) refl

-- ---- asks

agree_at : {A B : Type 0} (f g : A → B) (all : List A) (a : A) (k : ℕ) → map f all ≡ map g all → k < length all
    → slice_index_or all k a ≡ a → f a ≡ g a
agree_at f g [] a k same less is = absurd (omega (arith, less))
agree_at f g (one ∷ more) a zero same less is = ap f (sym is) ∙ cc same ∙ ap g is
agree_at f g (one ∷ more) a (suc k) same less is = agree_at f g more a k (cc same) (omega (arith, less)) is

-- two functions that make one list of a table agree at each of its rows
agree : {A B : Type 0} (f g : A → B) (all : List A) (a : A) → map f all ≡ map g all → Contains all a → f a ≡ g a
agree f g all a same has = agree_at f g all a has.0 same has.1 has.2

abbrev is_small : Form → Bool
is_small (Number most ask) = leb most 65535
is_small form = true

-- the numbers of each row fit 64 bits
small : (words : List ℕ) (form : Form) → Contains worded_asks (words, form) → is_small form ≡ true
small words form has = agree (λ row. is_small row.1) (λ row. true) worded_asks (words, form) refl has

-- the meaning of a line that begins with a row's words, from what follows them
said_after : (words : List ℕ) (form : Form) (rest : List ℕ) → Contains worded_asks (words, form)
    → line_in (words ++ rest) ≡ unwrap_or (option_map Asking (ask_after form rest)) Unreadable
unfolding rest_after
said_after words form rest has =
    agree (λ row. line_in (row.0 ++ rest))
    (λ row. unwrap_or (option_map Asking (ask_after row.1 rest)) Unreadable) worded_asks (words, form) refl has

followed : {form : Form} {ask : AskView} {rest : List ℕ} → is_small form ≡ true → Follows form ask rest
    → ask_after form rest ≡ Some ask
followed fits (spelling.number {most} x le) =
    let below = leb-true most 65535 fits in rw (printed most x (omega (arith, below)) le) refl
followed fits (spelling.octets octets hex is) = rw (spelled_octets octets hex is) refl
followed fits (spelling.submission map le (spelling.octets octets hex is)) =
    let two = spelled_two (decimal map) hex (number_word map (omega arith)) (hex_word is) in
    rw (two, printed 255 map (omega arith) le, spelled_octets octets hex is) refl

pub spelled : {line : List ℕ} {what : LineView} → Spells what line → line_in line ≡ what
unfolding rest_after
spelled spelling.empty = refl
spelled (spelling.note text) = refl
spelled spelling.help = refl
spelled (spelling.plain ask line has) =
    agree (λ row. line_in row.0) (λ row. Asking row.1) plain_asks (line, ask) refl has
spelled (spelling.worded words form ask rest has follows) =
    said_after words form rest has
    ∙ ap (λ o. unwrap_or (option_map Asking o) Unreadable) (followed (small words form has) follows)
spelled (spelling.config p n fits) = ap (λ o. unwrap_or o Unreadable) (set p n (least_most p n fits))

-- A line that is read as something spells it.

-- ---- what is found

on_test : {A : Type 0} (P : A → Type 0) {one other : Option A} {a : A} (test : Bool) → cond test one other ≡ Some a
    → (test ≡ true → one ≡ Some a → P a) → (other ≡ Some a → P a) → P a
on_test P true e if_so if_not = if_so refl e
on_test P false e if_so if_not = if_not e

-- a test of a word
tested : {A : Type 0} (P : A → Type 0) {word name : List ℕ} {one other : Option A} {a : A}
    → cond (bytes_eq word name) one other ≡ Some a
    → (word ≡ name → one ≡ Some a → P a) → (other ≡ Some a → P a) → P a
tested P {word = word} {name = name} e if_so if_not =
    on_test P (bytes_eq word name) e (λ is. if_so ((bytes_eq-Decides word name).0 is)) if_not

-- a line that begins with words, or does not
begun : {A : Type 0} (P : A → Type 0) (read : List ℕ → Option A) (words line : List ℕ) {other : Option A} {a : A}
    → (o : Option (List ℕ)) → rest_after words line ≡ o → after_words read o other ≡ Some a
    → ((rest : List ℕ) → line ≡ words ++ rest → read rest ≡ Some a → P a) → (other ≡ Some a → P a) → P a
begun P read words line (Some rest) is e if_so if_not = if_so rest (begins words line rest is) e
begun P read words line None is e if_so if_not = if_not e

moved : {what other : LineView} {text line : List ℕ} → Spells what text → what ≡ other → line ≡ text
    → Spells other line
moved {what = what} {other = other} {text = text} {line = line} spells same is =
    subst (λ w. Spells w line) same (subst (λ t. Spells what t) (sym is) spells)

-- ---- asks

octets_follow : (make : List ℕ → AskView) (ask : AskView) (rest : List ℕ)
    → option_map make (octets_in_word rest) ≡ Some ask → Follows (Octets make) ask rest
octets_follow make ask rest e =
    let o = mapped make (octets_in_word rest) ask e in
    subst (λ w. Follows (Octets make) w rest) o.gives
    (spelling.octets o.value rest (read_octets o.value rest o.is))

follow : (form : Form) (ask : AskView) (rest : List ℕ) → is_small form ≡ true → ask_after form rest ≡ Some ask
    → Follows form ask rest
follow (Number most make) ask rest fits e =
    let below = leb-true most 65535 fits in
    let n = mapped make (number_in_word most rest) ask e in
    let number = read most n.value rest (omega (arith, below)) n.is in
    subst (λ w. Follows (Number most make) w rest) n.gives
    (subst (λ t. Follows (Number most make) (make n.value) t) (sym number.0) (spelling.number n.value number.1))
follow (Octets make) ask rest fits e = octets_follow make ask rest e
follow (Submission make) ask rest fits e =
    let two = chained (λ t. option_and_then (λ m. option_map (make m) (octets_in_word t.1)) (number_in_word 255 t.0))
    (two_words rest) ask e in
    let m = chained (λ x. option_map (make x) (octets_in_word two.value.1)) (number_in_word 255 two.value.0) ask
    two.gives in
    let number = read 255 m.value two.value.0 (omega arith) m.is in
    let text : decimal m.value ++ 32 ∷ two.value.1 ≡ rest =
    ap (λ word. word ++ 32 ∷ two.value.1) (sym number.0) ∙ sym (read_two rest two.value two.is) in
    subst (λ t. Follows (Submission make) ask t) text
    (spelling.submission m.value number.1 (octets_follow (make m.value) ask two.value.1 m.gives))

by_rows : (line : List ℕ) (ask : AskView) (rows : List (List ℕ × Form))
    → ((row : List ℕ × Form) → Contains rows row → Contains worded_asks row) → ask_by rows line ≡ Some ask
    → Spells (Asking ask) line
by_rows line ask [] among e = cc e
by_rows line ask (row ∷ more) among e =
    begun (λ ask. Spells (Asking ask) line) (ask_after row.1) row.0 line (rest_after row.0 line) refl e
    (λ rest is says.
    let has = among row (0, omega arith, refl) in
    moved (spelling.worded row.0 row.1 ask rest has (follow row.1 ask rest (small row.0 row.1 has) says)) refl is)
    (by_rows line ask more (λ other has. among other (suc has.0, omega (arith, has.1), has.2)))

by_ask : (line : List ℕ) (ask : AskView) (o : Option AskView) → lookup (bytes_eq line) plain_asks ≡ o
    → option_or o (ask_by worded_asks line) ≡ Some ask → Spells (Asking ask) line
by_ask line ask (Some other) is e =
    spelling.plain ask line
    (Contains-from_lookup (λ x y. (bytes_eq-Decides x y).0) line ask plain_asks (is ∙ e))
by_ask line ask None is e = by_rows line ask worded_asks (λ row has. has) e

-- ---- settings

small_or_in_range : (p : Parameter) (n : ℕ) → n ≤ most_for p → (n ≤ 65542) ⊎ (n ≤ (row_of p).most)
small_or_in_range parameters.Maps n le = inr le
small_or_in_range p n le = inl le

name_found : (word : List ℕ) (all : List Parameter) (p : Parameter)
    → find (λ one. bytes_eq word (row_of one).name) all ≡ Some p → word ≡ (row_of p).name
name_found word [] p e = cc e
name_found word (one ∷ more) p e =
    tested (λ (q : Parameter). word ≡ (row_of q).name) e
    (λ is same. is ∙ ap (λ (q : Parameter). (row_of q).name) (same_Some one p same)) (name_found word more p)

by_setting : (line rest : List ℕ) (what : LineView) → line ≡ codes "config " ++ rest
    → setting_in rest ≡ Some what → Spells what line
by_setting line rest what is e =
    let two = chained (λ t. option_and_then (λ q. option_map (λ n. Setting q n) (number_in_word (most_for q) t.1))
    (parameter_named t.0)) (two_words rest) what e in
    let p = chained (λ q. option_map (λ n. Setting q n) (number_in_word (most_for q) two.value.1))
    (parameter_named two.value.0) what two.gives in
    let n = mapped (λ x. Setting p.value x) (number_in_word (most_for p.value) two.value.1) what p.gives in
    let number = read (most_for p.value) n.value two.value.1 (most_small p.value) n.is in
    moved (spelling.config p.value n.value (small_or_in_range p.value n.value number.1)) n.gives
    (is ∙ ap (λ t. codes "config " ++ t) (read_two rest two.value two.is
    ∙ ap (λ w. w ++ 32 ∷ two.value.1) (name_found two.value.0 all_in_order p.value p.is)
    ∙ ap (λ w. (row_of p.value).name ++ 32 ∷ w) number.0))

-- ---- lines

by_line : (line : List ℕ) (what : LineView) → readable_line line ≡ Some what → Spells what line
by_line line what e =
    tested (λ (other : LineView). Spells other line) e
    (λ is same. moved spelling.help (same_Some Helping what same) is)
    (λ f.
    begun (λ (other : LineView). Spells other line) setting_in (codes "config ") line
    (rest_after (codes "config ") line) refl f
    (λ rest is g. by_setting line rest what is g)
    (λ g.
    let ask = mapped Asking (ask_in line) what g in
    moved (by_ask line ask.value (lookup (bytes_eq line) plain_asks) refl ask.is) ask.gives refl))

by_reading : (line : List ℕ) (what : LineView) (o : Option LineView) → readable_line line ≡ o
    → unwrap_or o Unreadable ≡ what → (what ≡ Unreadable → ⊥) → Spells what line
by_reading line what (Some other) is e readable =
    moved (by_line line other is) e refl
by_reading line what None is e readable = absurd (readable (sym e))

by_first : (octet : ℕ) (more : List ℕ) (what : LineView) (note : Bool) → (octet == 35) ≡ note
    → cond note Skipped (unwrap_or (readable_line (octet ∷ more)) Unreadable) ≡ what
    → (what ≡ Unreadable → ⊥) → Spells what (octet ∷ more)
by_first octet more what true is e readable =
    moved (spelling.note more) e (ap (λ (x : ℕ). x ∷ more) (eqb-true octet 35 is))
by_first octet more what false is e readable =
    by_reading (octet ∷ more) what (readable_line (octet ∷ more)) refl e readable

spells : (line : List ℕ) (what : LineView) → line_in line ≡ what → (what ≡ Unreadable → ⊥) → Spells what line
spells [] what e readable = moved spelling.empty e refl
spells (octet ∷ more) what e readable = by_first octet more what (octet == 35) refl e readable

unspelled : {line : List ℕ} → Spells Unreadable line → ⊥
unspelled spells = elim spells [ ]

-- a line is read as what it spells, and as nothing else that is readable
pub says : (line : List ℕ) (what : LineView) → Spells what line ↔ ((line_in line ≡ what) × (what ≡ Unreadable → ⊥))
says line what = (λ it. (spelled it, λ e. unspelled (subst (λ w. Spells w line) e it)), λ e. spells line what e.0 e.1)

unreadable_as : (line : List ℕ) (what : LineView) → line_in line ≡ what
    → ((other : LineView) → Spells other line → ⊥) → what ≡ Unreadable
unreadable_as line Unreadable e none = refl
unreadable_as line what e none = absurd (none what (spells line what e (λ no. cc no)))

-- a line is unreadable exactly when it spells nothing
pub unreadable : (line : List ℕ) → (line_in line ≡ Unreadable) ↔ ((what : LineView) → Spells what line → ⊥)
unreadable line = (
  λ e what it. unspelled (subst (λ w. Spells w line) (sym (spelled it) ∙ e) it),
  unreadable_as line (line_in line)
      refl,
)
