use Rattle.std.proofs.Common.{◌≡◌, ℕ, ◌+◌, ◌-◌, List, ◌++◌, length, take, drop, arith}
use Rattle.std.proofs.Common.{length-take, length-append, refl}
use Rattle.std.proofs.lemmas.List.{append_assoc, drop_at, drop-drop}
use Rattle.sedgechisel.proofs.assembly.add.Goals as goal

pub returns-clause-rest : goal.returns-clause-rest
returns-clause-rest c =
    let count : ℕ = c.args.count in
    let n : ℕ = count + length c.args.octets.now in
    let memory : List ℕ = c.args.memory.now in
    let some : ℕ = n - count in
    let put : List ℕ = c.copy_from_slice.new.self in
    let long : length (take count memory ++ put) ≡ n =
    omega (
      arith,
      length-append (take count memory) put,
      length-take count memory,
      c.requires.room,
    ) in
    let all : count + some ≡ n = omega arith in
    rw (
      ← append_assoc (take count memory) put (drop some (drop count memory)),
      drop_at (take count memory ++ put) (drop some (drop count memory)) n long,
      drop-drop some count memory,
      all,
    ) refl
