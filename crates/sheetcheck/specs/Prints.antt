-- The text for a job, whatever its bytes: "A refusal prints `refused` and, on the next line, its number"; else it is the report. Assumes nothing.
use Rattle.std.specs.Prelude.{◌≡◌, List, ℕ, length, Option, None, Some}
use Rattle.csl.specs.Text.{Text}
use Rattle.csl.specs.Verdicts.{Verdict}
use Rattle.csl.specs.Report.{Reported, report_text, refusal_text, depth_of}
use Rattle.csl.specs.Lent.{written}
use Rattle.csl.specs.Refusal.{Job, job_states, job_chain, job_formula, text_refusal}
use Rattle.console.specs.Told.{number_told}
use Rattle.console.specs.declared.printing.Written.{Written}

-- the text is a report that has a backing
pub record PrintsReport (j : Job) (text : Text) : Type 0 where
  pub lower : ℕ → ℕ
  pub upper : ℕ → ℕ
  pub verdict : ℕ → Verdict
  pub reported : Reported (job_chain j) (job_formula j) lower upper verdict
  pub lines : text ≡ report_text (job_states j) lower upper (depth_of (job_chain j) (job_formula j)) verdict

abbrev pub PrintsBy : Job → Option ℕ → Text → Type 0
PrintsBy j (Some number) text = text ≡ refusal_text number
PrintsBy j None text = PrintsReport j text

-- by the three texts alone: the program lends buffers that are long enough for every job
unfoldable pub Prints : Job → Text → Type 0
Prints j text = PrintsBy j (text_refusal j) text

-- the text for a job stands at the front of a buffer, whose other bytes are as they were; its length and the refusal are answered
pub record Answered (j : Job) (old new : List ℕ) (r : Written) : Type 0 where
  pub text : Text
  pub prints : Prints j text
  pub count : r.length ≡ length text
  pub number : number_told r.refusal ≡ text_refusal j
  pub buffer : new ≡ written text old
