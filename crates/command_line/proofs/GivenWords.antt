-- What the argument parser guarantees about a value that it returns: the value passed the parser of its
-- argument.
use Rattle.std.proofs.Common.{codes, zero, suc, ◌≡◌, ◌∙◌, ◌++◌, subst, ◌<◌, ap, ◌||◌, ◌&&◌, not, ℕ, Bool}
use Rattle.std.proofs.Common.{true, false, List, [], ◌∷◌, length, is_some, Option, Some, None, refl, sym, inl, inr}
use Rattle.std.proofs.Common.{arith}
use Rattle.std.specs.List.{All, slice_index_or}
use Rattle.std.specs.Str.{bytes_eq}
use Rattle.std.specs.Prelude.{option_map, option_and_then, slice_get, pos, IfSome}
use Rattle.std.specs.Borrow.{Bor}
use Rattle.std.proofs.lemmas.List.Elements.{All-get_or, All-nil, All-tail}
use Rattle.std.proofs.lemmas.List.{append-nil, append_assoc}
use Rattle.std.proofs.lemmas.Bool.{OnTrue_at, OnTrue_from, and_parts}
use Rattle.std.proofs.lemmas.Grind.{common_steps}
use Rattle.std.proofs.lemmas.Slice.Eq.{bytes_eq-Decides}
use Rattle.clap.specs.Facts.{args_of, Entry, EntryPasses, PassesArg, HasReading, parser_of, parser_of_value}
use Rattle.clap.specs.Built.{AddsArg, AddsInTurn, HasDistinctIds, FitsChain, TakesValue, IsPlain, IsPlainArg}
use Rattle.clap.specs.Built.{IsParsedFrom, IsAuto, SameRules, KeepsList}
use Rattle.clap.specs.Matches.{matched_of, first_value, one_text, found_of}
use Rattle.clap.specs.Values.{Accepts, read_as, reading_of}
use Rattle.clap.specs.declared.builder.value_parser.Reading.{Reading}
use Rattle.clap.specs.declared.builder.arg.Arg.{Arg}
use Rattle.clap.specs.declared.builder.command.Command.{Command}
use Rattle.clap.specs.declared.builder.command.Command.TheViews.{out-Command}
use Rattle.clap.specs.declared.builder.value_parser.ValueParser.{ValueParser}
use Rattle.clap.specs.declared.builder.value_parser.ValueParser.TheVariants as vp
use Rattle.clap.specs.declared.parser.matches.ArgMatches.{ArgMatches}
use Rattle.clap.specs.declared.parser.matches.MatchedArg.{MatchedArg}
use Rattle.clap.proofs.CallerLemmas.{added_plain, entry_by_id, required_in_chain, same_rules_by_id}
use Rattle.command_line.specs.declared.commands.Named.{Named}
use Rattle.command_line.specs.declared.commands.Named.TheVariants as commands
use Rattle.command_line.specs.Arguments.{AreArguments, Gives, GivesAll, IsArgument, IsBare, IsNumberIn, Wanted}
use Rattle.command_line.specs.Arguments.{wanted_of}

-- a command that is built from these arguments, one after another
record IsMadeOf (xs : List Arg) (cmd : Command) : Type 0 where
  pub start : Command
  pub chain : AddsInTurn AddsArg start xs cmd
  pub bare : IsBare start
  pub fit : All FitsChain xs
  pub distinct : HasDistinctIds xs

-- what a command keeps of the arguments that were added
record Kept (before : List Arg) (xs : List Arg) (cmd : Command) : Type 0 where
  pub added : List Arg
  pub args : args_of cmd ≡ before ++ added
  pub rules : KeepsList xs added
  pub plain : IsPlain cmd
  pub globals : (out-Command cmd).has_globals ≡ false

first_kept : (x y : Arg) (xs ys : List Arg) → SameRules x y → KeepsList xs ys → KeepsList (x ∷ xs) (y ∷ ys)
first_kept x y xs ys first rest = (ap suc rest.0, at)
  where
    at : (k : ℕ) (d e : Arg) → k < length (x ∷ xs)
        → SameRules (slice_index_or (x ∷ xs) k d) (slice_index_or (y ∷ ys) k e)
    at zero d e lt = first
    at (suc n) d e lt = rest.1 n d e (omega arith)

kept : (c cmd : Command) (xs : List Arg) → AddsInTurn AddsArg c xs cmd → All FitsChain xs → IsPlain c
    → (out-Command c).has_globals ≡ false → Kept (args_of c) xs cmd
kept c cmd [] chain fit plain globals = record {
  added = [];
  args = ap args_of (sym chain) ∙ sym (append-nil (args_of c));
  rules = (refl, (λ k d e lt. absurd (omega arith)));
  plain = subst IsPlain chain plain;
  globals = ap (λ (x : Command). (out-Command x).has_globals) (sym chain) ∙ globals;
}
kept c cmd (x ∷ xs) chain fit plain globals =
    let added = chain.1 in
    let fits = fit 0 x (omega arith) in
    let globals2 = added.globals ∙ (ap (λ (b : Bool). b || x.global) globals ∙ ap (λ (b : Bool). false || b) fits.1) in
    let more = kept chain.0 cmd xs chain.2 (All-tail FitsChain x xs fit) (added_plain c chain.0 x added plain fits.0)
    globals2 in
    record {
      added = added.arg ∷ more.added;
      args = more.args
          ∙ (ap (λ (l : List Arg). l ++ more.added) added.args ∙ append_assoc (args_of c) (added.arg ∷ []) more.added);
      rules = first_kept x added.arg xs more.added added.rules more.rules;
      plain = more.plain;
      globals = more.globals;
    }

-- a text that an argument gives, as its parser reads and accepts it
record IsAccepted (a : Arg) (q : ValueParser) (text : List ℕ) : Type 0 where
  pub given : List ℕ
  pub read : text ≡ read_as (reading_of q) given
  pub accepted : Accepts a.ignore_case q given

accepts_of : (a y : Arg) (q : ValueParser) (t : List ℕ) → SameRules a y → a.value_parser ≡ Some q
    → Accepts y.ignore_case (parser_of y) t → Accepts a.ignore_case q t
accepts_of a y q t s parser h =
    let is_q : parser_of y ≡ q = ap parser_of_value (s.parser q parser) in rw (← s.ignore_case, ← is_q) h

-- the first value of an entry whose values all pass
first_passes : (P : Bor (List ℕ) → Type 0) (how : Reading) (vs : List (Bor (List ℕ))) (t : List ℕ) → All P vs
    → option_map (λ s. read_as how s.now) (slice_get vs 0) ≡ Some t → (v : Bor (List ℕ)) × (t ≡ read_as how v.now) × P v
first_passes P how [] t h e = absurd cc
first_passes P how (v ∷ vs) t h e = (v, cc, All-get_or P (v ∷ vs) 0 v (omega arith) h)

module _ (cmd : Command) (m : ArgMatches) (p : IsParsedFrom cmd m) (plain : IsPlain cmd)
    (globals : (out-Command cmd).has_globals ≡ false)
    (k : ℕ) (d : Arg) (lt : k < length (args_of cmd))
    (unique : (j : ℕ) (e : Arg) → j < length (args_of cmd)
    → bytes_eq (slice_index_or (args_of cmd) j e).id.now (slice_index_or (args_of cmd) k d).id.now ≡ true → j ≡ k)
    (named : (slice_index_or (args_of cmd) k d).id.now ≡ [] → ⊥) (own : IsAuto (slice_index_or (args_of cmd) k d) → ⊥)
    (q : ValueParser) (parser : (slice_index_or (args_of cmd) k d).value_parser ≡ Some q) where
  abbrev arg : Arg
  arg = slice_index_or (args_of cmd) k d

  passes : (w : List ℕ) (v : Bor (List ℕ)) → w ≡ arg.id.now → PassesArg p.built w v.now
      → Accepts arg.ignore_case q v.now
  passes w v key pass =
      let same : bytes_eq pass.1.id.now arg.id.now ≡ true = rw key at pass.4.0 in
      accepts_of arg pass.1 q v.now (same_rules_by_id cmd m p k d lt unique own pass.0 pass.1 pass.2 pass.3 same) parser
      pass.4.1

  reads : (w : List ℕ) (r : Reading) → w ≡ arg.id.now → HasReading p.built w r → r ≡ reading_of q
  reads w r key any =
      let same : bytes_eq any.1.id.now arg.id.now ≡ true = rw key at any.4.0 in
      let s = same_rules_by_id cmd m p k d lt unique own any.0 any.1 any.2 any.3 same in
      sym any.4.1 ∙ ap (λ (o : Option ValueParser). reading_of (parser_of_value o)) (s.parser q parser)

  entry_accepted : (x : MatchedArg) (t : List ℕ) (e : Entry) → e.1 ≡ x → e.0.now ≡ arg.id.now → EntryPasses p.built e
      → option_map (λ s. read_as x.reading s.now) (slice_get x.vals.items 0) ≡ Some t → IsAccepted arg q t
  entry_accepted x t e is key pass first =
      let no_group : e.1.is_group ≡ true → ⊥ = λ g. elim (pass.3 g) [
        | inl empty ↦ named (sym key ∙ empty)
        | inr some ↦ let bad : 0 < 0 =
            subst (λ (l : List _). 0 < length l) (p.from.plain plain).1 some in absurd (omega arith)
      ] in
      let all : All (λ v. PassesArg p.built e.0.now v.now) e.1.vals.items =
      elim pass.0 [ inl g ↦ absurd (no_group g) | inr vals ↦ vals ] in
      let how : e.1.reading ≡ reading_of q =
      elim pass.4 [ inl g ↦ absurd (no_group g) | inr h ↦ reads e.0.now e.1.reading key h ] in
      let first2 : option_map (λ s. read_as e.1.reading s.now) (slice_get e.1.vals.items 0) ≡ Some t =
      ap (λ (y : MatchedArg). option_map (λ s. read_as y.reading s.now) (slice_get y.vals.items 0)) is ∙ first in
      let v = first_passes (λ v. PassesArg p.built e.0.now v.now) e.1.reading e.1.vals.items t all first2 in
      record {
        given = v.0.now;
        read = v.1 ∙ ap (λ (r : Reading). read_as r v.0.now) how;
        accepted = passes e.0.now v.0 key v.2;
      }

  accepted_of : (o : Option MatchedArg) (t : List ℕ) → matched_of (found_of m) arg.id.now ≡ o
      → option_and_then (λ a. option_map (λ s. read_as a.reading s.now) (slice_get a.vals.items 0)) o ≡ Some t
      → IsAccepted arg q t
  accepted_of None t found one = absurd cc
  accepted_of (Some x) t found one =
      let parsed = p.parsed (p.from.globals ∙ globals) in
      let got = entry_by_id (EntryPasses p.built) (found_of m).entries.items arg.id.now x parsed.values found in
      entry_accepted x t got.0 got.1 ((bytes_eq-Decides got.0.0.now arg.id.now).0 got.2) got.3 one

  accepted_at : (t : List ℕ) → one_text (found_of m) arg.id.now ≡ Some t → IsAccepted arg q t
  accepted_at t one = accepted_of (matched_of (found_of m) arg.id.now) t refl one

-- ---- a command that is built from arguments

module _ (xs : List Arg) (cmd : Command) (made : IsMadeOf xs cmd) (m : ArgMatches) (p : IsParsedFrom cmd m) (k : ℕ)
    (d : Arg) (lt : k < length xs) where
  has : Kept (args_of made.start) xs cmd
  has = kept made.start cmd xs made.chain made.fit
      (subst (All IsPlainArg) (sym made.bare.0) (All-nil IsPlainArg), made.bare.1) made.bare.2

  list : args_of cmd ≡ has.added
  list = has.args ∙ ap (λ (l : List Arg). l ++ has.added) made.bare.0

  abbrev given : Arg
  given = slice_index_or xs k d

  abbrev kept_arg : Arg
  kept_arg = slice_index_or (args_of cmd) k d

  in_cmd : k < length (args_of cmd)
  in_cmd = let e : length (args_of cmd) ≡ length xs = ap length list ∙ has.rules.0 in omega arith

  same : SameRules given kept_arg
  same = subst (λ (l : List Arg). SameRules (slice_index_or xs k d) (slice_index_or l k d)) (sym list)
      (has.rules.1 k d d lt)

  only_one : (j : ℕ) (e : Arg) → j < length (args_of cmd)
      → bytes_eq (slice_index_or (args_of cmd) j e).id.now kept_arg.id.now ≡ true → j ≡ k
  only_one j e low eq =
      let there : j < length xs =
      (let l : length (args_of cmd) ≡ length xs = ap length list ∙ has.rules.0 in omega arith) in
      let other : SameRules (slice_index_or xs j e) (slice_index_or (args_of cmd) j e) =
      subst (λ (l : List Arg). SameRules (slice_index_or xs j e) (slice_index_or l j e)) (sym list)
      (has.rules.1 j e e there) in
      made.distinct j k d e there lt (subst (λ (u : List ℕ). bytes_eq (slice_index_or xs j e).id.now u ≡ true)
      (ap (λ (a : Bor (List ℕ)). a.now) same.id)
      (subst (λ (u : List ℕ). bytes_eq u kept_arg.id.now ≡ true) (ap (λ (a : Bor (List ℕ)). a.now) other.id) eq))

  -- a text that the argument gives is one that its parser accepts
  gives : (q : ValueParser) → given.value_parser ≡ Some q → (t : List ℕ)
      → one_text (found_of m) given.id.now ≡ Some t
      → (u : List ℕ) × (t ≡ read_as (reading_of q) u) × Accepts kept_arg.ignore_case q u
  gives q parser t one =
      let fit = made.fit k d lt in
      let same_now : kept_arg.id.now ≡ given.id.now = ap (λ (a : Bor (List ℕ)). a.now) same.id in
      let a = accepted_at cmd m p has.plain has.globals k d in_cmd only_one
      (λ e. fit.2 (sym same_now ∙ e))
      (λ auto. fit.3 (elim auto [ inl h ↦ inl (sym same_now ∙ h) | inr h ↦ inr (sym same_now ∙ h) ]))
      q (same.parser q parser) t (subst (λ (u : List ℕ). one_text (found_of m) u ≡ Some t) (sym same_now) one) in
      (a.given, a.read, a.accepted)

  -- a required argument gives a value
  value_given : TakesValue given → is_some (first_value (found_of m) given.id.now) ≡ true
  value_given takes =
      required_in_chain made.start cmd xs k d m made.chain made.bare.0 made.bare.1 made.bare.2 made.bare.3 made.fit
      made.distinct lt takes p

  -- and so the argument gives what is expected of it
  gives_wanted : (w : Wanted) → IsArgument given w → Gives m w
  gives_wanted w is = (OnTrue_from w.is_required _ some, in_range w.range is.4)
    where
      some : w.is_required ≡ true → is_some (first_value (found_of m) w.name) ≡ true
      some must = subst (λ (n : List ℕ). is_some (first_value (found_of m) n) ≡ true) is.0
          (value_given (OnTrue_at must is.3))

      in_range : (o : Option (ℕ × ℕ)) → IfSome o (λ r. given.value_parser ≡ Some (vp.Signed (pos r.0) (pos r.1)))
          → IfSome o (λ r. (t : List ℕ) → one_text (found_of m) w.name ≡ Some t → IsNumberIn r t)
      in_range None h = tt
      in_range (Some r) h =
          λ t one. gives (vp.Signed (pos r.0) (pos r.1)) h t
          (subst (λ (n : List ℕ). one_text (found_of m) n ≡ Some t) (sym is.0) one)

-- ---- arguments whose names are their own

-- a name that building adds to no command
abbrev is_own : List ℕ → Bool
is_own name =
    not (bytes_eq name []) && (not (bytes_eq name (codes "help")) && not (bytes_eq name (codes "version")))

abbrev is_none_of : List ℕ → List Wanted → Bool
is_none_of name [] = true
is_none_of name (w ∷ ws) = not (bytes_eq name w.name) && is_none_of name ws

-- no two of the names are the same
abbrev have_own_names : List Wanted → Bool
have_own_names [] = true
have_own_names (w ∷ ws) = is_own w.name && (is_none_of w.name ws && have_own_names ws)

apart : (a b : List ℕ) → not (bytes_eq a b) ≡ true → a ≡ b → ⊥
apart a b h e = grind (arith, (bytes_eq-Decides a b).1 e, h)

fits : (a : Arg) (w : Wanted) → IsArgument a w → is_own w.name ≡ true → FitsChain a
fits a w is own =
    let some = and_parts (not (bytes_eq w.name [])) _ own in
    let others = and_parts (not (bytes_eq w.name (codes "help"))) _ some.1 in (
      is.1,
      is.2,
      (λ e. apart w.name [] some.0 (sym is.0 ∙ e)),
      (λ auto. elim auto [
        | inl e ↦ apart w.name (codes "help") others.0 (sym is.0 ∙ e)
        | inr e ↦ apart w.name (codes "version") others.1 (sym is.0 ∙ e)
      ]),
    )

parted : (w : Wanted) (ws : List Wanted) → have_own_names (w ∷ ws) ≡ true
    → (is_own w.name ≡ true) × (is_none_of w.name ws ≡ true) × (have_own_names ws ≡ true)
parted w ws h = grind (arith, common_steps, h)

fit_all : (xs : List Arg) (ws : List Wanted) → AreArguments xs ws → have_own_names ws ≡ true → All FitsChain xs
fit_all [] ws are own k d lt = absurd (omega arith)
fit_all (a ∷ xs) [] are own k d lt = absurd are
fit_all (a ∷ xs) (w ∷ ws) are own zero d lt = fits a w are.0 (parted w ws own).0
fit_all (a ∷ xs) (w ∷ ws) are own (suc k) d lt = fit_all xs ws are.1 (parted w ws own).2 k d (omega arith)

other_name : (a : Arg) (w : Wanted) (xs : List Arg) (ws : List Wanted) → IsArgument a w → AreArguments xs ws
    → is_none_of w.name ws ≡ true → (k : ℕ) (d : Arg) → k < length xs
    → bytes_eq a.id.now (slice_index_or xs k d).id.now ≡ true → ⊥
other_name a w [] ws is are none k d lt same = absurd (omega arith)
other_name a w (b ∷ xs) [] is are none k d lt same = are
other_name a w (b ∷ xs) (v ∷ ws) is are none zero d lt same =
    apart w.name v.name (and_parts (not (bytes_eq w.name v.name)) (is_none_of w.name ws) none).0
    (sym is.0 ∙ ((bytes_eq-Decides a.id.now b.id.now).0 same ∙ are.0.0))
other_name a w (b ∷ xs) (v ∷ ws) is are none (suc k) d lt same =
    other_name a w xs ws is are.1 (and_parts (not (bytes_eq w.name v.name)) (is_none_of w.name ws) none).1 k d
    (omega arith) same

turned : (a b : List ℕ) → bytes_eq a b ≡ true → bytes_eq b a ≡ true
turned a b e = (bytes_eq-Decides b a).1 (sym ((bytes_eq-Decides a b).0 e))

distinct_all : (xs : List Arg) (ws : List Wanted) → AreArguments xs ws → have_own_names ws ≡ true → HasDistinctIds xs
distinct_all [] ws are own j k d f l m t = absurd (omega arith)
distinct_all (a ∷ xs) [] are own j k d f l m t = absurd are
distinct_all (a ∷ xs) (w ∷ ws) are own zero zero d f l m t = refl
distinct_all (a ∷ xs) (w ∷ ws) are own zero (suc k) d f l m t =
    absurd (other_name a w xs ws are.0 are.1 (parted w ws own).1 k d (omega arith) t)
distinct_all (a ∷ xs) (w ∷ ws) are own (suc j) zero d f l m t =
    absurd (other_name a w xs ws are.0 are.1 (parted w ws own).1 j f (omega arith)
    (turned (slice_index_or xs j f).id.now a.id.now t))
distinct_all (a ∷ xs) (w ∷ ws) are own (suc j) (suc k) d f l m t =
    ap suc (distinct_all xs ws are.1 (parted w ws own).2 j k d f (omega arith) (omega arith) t)

each_gives : (m : ArgMatches) (xs : List Arg) (ws : List Wanted) → AreArguments xs ws
    → ((k : ℕ) (d : Arg) → k < length xs → (w : Wanted) → IsArgument (slice_index_or xs k d) w → Gives m w)
    → GivesAll m ws
each_gives m [] [] are f = tt
each_gives m [] (w ∷ ws) are f = absurd are
each_gives m (a ∷ xs) [] are f = absurd are
each_gives m (a ∷ xs) (w ∷ ws) are f =
    (f 0 a (omega arith) w are.0, each_gives m xs ws are.1 (λ k d lt. f (suc k) d (omega arith)))

-- ---- the arguments of a command

own_names : (command : Named) → have_own_names (wanted_of command) ≡ true
own_names commands.Farm = refl
own_names command = refl

-- the input of a command gives what is expected of its arguments
pub words_give : (command : Named) (xs : List Arg) (start cmd : Command) → AreArguments xs (wanted_of command)
    → IsBare start → AddsInTurn AddsArg start xs cmd → (m : ArgMatches) → IsParsedFrom cmd m
    → GivesAll m (wanted_of command)
words_give command xs start cmd are bare chain m p =
    let made : IsMadeOf xs cmd =
    record {
      start = start;
      chain = chain;
      bare = bare;
      fit = fit_all xs (wanted_of command) are (own_names command);
      distinct = distinct_all xs (wanted_of command) are (own_names command);
    } in
    each_gives m xs (wanted_of command) are (λ k d lt. gives_wanted xs cmd made m p k d lt)

-- and so does the last argument
pub last_given : (m : ArgMatches) (ws : List Wanted) (w : Wanted) → GivesAll m (ws ++ w ∷ []) → Gives m w
last_given m [] w h = h.0
last_given m (v ∷ ws) w h = last_given m ws w h.1
