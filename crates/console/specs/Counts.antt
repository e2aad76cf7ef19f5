-- A count of bytes that lies within a text. Assumes nothing.
use Rattle.std.specs.Prelude.{◌≡◌, ℕ, ◌≤◌, List, length, take}

-- `&text[..n]` is in bounds and has n bytes. The second part follows from the first, and spares a caller's `&text[..n]` a proof file.
abbrev pub IsPrefixLen : ℕ → List ℕ → Type 0
IsPrefixLen n text = (n ≤ length text) × (n ≡ length (take n text))
