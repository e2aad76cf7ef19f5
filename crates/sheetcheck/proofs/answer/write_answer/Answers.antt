-- `write_answer` meets its contract: what the checker promises, rendered. Assumes nothing.
use Rattle.std.proofs.Common.{arith}
use Rattle.sheetcheck.proofs.Printing.{answer_text, text_answered, numbered_printed}
use Rattle.sheetcheck.proofs.answer.write_answer.Goals as goal

pub returns : goal.returns
returns c =
    let both = text_answered c.check-checked.result _
    (answer_text _ _ _ _ _ _ _ _ c.requires (numbered_printed _ _ c.map_err-numbered.ensures.cases _ _ _ _ c.render-rendered.ensures)
    c.check-checked.ensures.finished c.check-checked.ensures.counted
    (record { lowers = omega arith; uppers = omega arith; bytes = omega arith; places = omega arith; words = omega arith; vectors = omega arith; marks = omega arith }))
    c.unwrap_or.ensures c.err.ensures.value in
    record { prefix_len = both.0; answered = both.1 }
