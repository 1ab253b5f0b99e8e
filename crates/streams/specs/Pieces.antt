-- What a taker makes of a stream that arrives in pieces, however the stream was cut into them.
use Rattle.std.specs.Prelude.{◌≡◌, ℕ, ◌+◌, List, ◌++◌, length}

-- What a taker makes of octets. S is the taker, K is what it keeps for its caller, and A is the
-- answer for a whole stream.
pub record Taking (S K A : Type 0) : Type 1 where
  -- all that is written for octets that end the stream
  pub text : S → K → List ℕ → List ℕ
  -- the answer for them, if this many came before, and K after it
  pub ends : S → K → ℕ → List ℕ → A → K → Type 0
  -- how the text grows by octets after which more may come
  pub so_far : S → K → List ℕ → List ℕ → List ℕ → Type 0
  -- nothing more is read after these octets
  pub stops : S → K → List ℕ → Type 0
  -- more octets may come after this many
  pub is_open : S → K → ℕ → Type 0

module _ {S K A : Type 0} (taking : Taking S K A) (n : ℕ) (octets : List ℕ) (s : S) (k : K)
    (before : List ℕ) where
  -- Octets were taken. Whatever octets follow, the outcome is as if all of them came at once.
  pub record GoesOn (s' : S) (k' : K) (now : List ℕ) : Type 0 where
    pub is_open : taking.is_open s' k' (n + length octets)
    pub text : (more : List ℕ)
        → before ++ taking.text s k (octets ++ more) ≡ now ++ taking.text s' k' more
    pub ends : (more : List ℕ) (answer : A) (last : K)
        → taking.ends s' k' (n + length octets) more answer last
        → taking.ends s k n (octets ++ more) answer last
    pub so_far : (more text : List ℕ) → taking.so_far s' k' more now text
        → taking.so_far s k (octets ++ more) before text
    pub stops : (more : List ℕ) → taking.stops s' k' more → taking.stops s k (octets ++ more)

  -- The last octets were taken: everything is written and answered.
  pub record Ends (answer : A) (last : K) (now : List ℕ) : Type 0 where
    pub text : now ≡ before ++ taking.text s k octets
    pub ends : taking.ends s k n octets answer last

  -- Octets were taken, and nothing more is read after them.
  pub record Stops (answer : A) (last : K) (now : List ℕ) : Type 0 where
    pub whole : Ends answer last now
    pub stops : taking.stops s k octets
