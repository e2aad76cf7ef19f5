-- `word` meets its contract. Assumes nothing.
use Prim.Native.Nat.{◌*◌, ◌-◌, ◌^◌}
use lib.ListN.{drop}
use Rattle.labels.proofs.WordLaw.{Wording}
use Rattle.labels.proofs.words.word.Given as goal

abbrev pub invariant-loop-i : goal.invariant-loop-i
invariant-loop-i l = Wording l.s l.count (drop (2 * l.i) l.s) (l.count - l.i) l.sum (2 ^ l.i)
