-- A job, or a copy, that was asked for by a caller in another language: a number and what is stored with it stand for the answer. Assumes nothing.
use Rattle.std.specs.Prelude.{◌≡◌, List, ℕ, zero, suc, ◌<◌}
use Rattle.csl.specs.Text.{Text}
use Rattle.csl.specs.Lent.{Buffers}
use Rattle.csl.specs.Refusal.{Job}
use Rattle.csl.specs.Finished.{Answer, refused_with, accepted_with, Finished}
use Rattle.csl.specs.Copy.{CopyAnswer, copy_refused, copied, Copied}
use Rattle.checker.specs.Leaves.{leaves}

-- 0 says accepted, with the depth that is stored; any other number is the refusal's
abbrev pub answer_from : (number depth : ℕ) → Answer
answer_from zero depth = accepted_with depth
answer_from (suc k) depth = refused_with (suc k)

-- the job is finished as the paper has it, the buffers hold what is found of its chain and formula, and a refusal leaves the depth as it was
pub record Called (j : Job) (before : Buffers (List ℕ)) (old number new : ℕ) (after : Buffers (List ℕ)) : Type 0 where
  pub finished : Finished j before (answer_from number new) after
  pub found : after ≡ leaves j before
  pub kept : 0 < number → new ≡ old

-- 0 says copied, with the length that is stored
abbrev pub copy_answer_from : (number length : ℕ) → CopyAnswer
copy_answer_from zero length = copied length
copy_answer_from (suc k) length = copy_refused (suc k)

-- the copy is made as the paper has it, and a refusal leaves the length as it was
pub record CopyCalled (moves labels : Text) (before : List ℕ) (old number new : ℕ) (after : List ℕ) : Type 0 where
  pub made : Copied moves labels before (copy_answer_from number new) after
  pub kept : 0 < number → new ≡ old
