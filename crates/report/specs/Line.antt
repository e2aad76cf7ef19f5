-- The line that a row of the program stands for. Assumes nothing.
use Rattle.csl.specs.Text.{Text}
use Rattle.csl.specs.Report.{row_text}
use Rattle.verdicts.specs.Paper.{verdict_of}
use Rattle.report.specs.declared.row.Row.{Row}

abbrev pub text_of : Row → Text
text_of r = row_text r.state r.lower r.upper r.depth (verdict_of r.verdict)
