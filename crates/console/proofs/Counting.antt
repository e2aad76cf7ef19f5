-- From a bound on a count to what the contracts and `&text[..n]` ask. Assumes nothing.
use Rattle.std.specs.Prelude.{ℕ, ◌≤◌, List, length}
use Rattle.std.proofs.Math.Path.{sym}
use Rattle.std.proofs.lemmas.List.{length-take-le}
use Rattle.console.specs.Counts.{IsPrefixLen}

pub prefix_len_of_le : (n : ℕ) (text : List ℕ) → n ≤ length text → IsPrefixLen n text
prefix_len_of_le n text h = (h, sym (length-take-le n text h))
