-- `render_refusal` meets its contract: the test decides whether the text fits. Assumes nothing.
use Rattle.std.proofs.Common.{rules, arith}
use Rattle.report.proofs.FitsLaw.{refusal_short, refusal_room, refusal_shown}
use Rattle.report.proofs.render_refusal.Goals as goal

pub returns-then-out-decimal_length : goal.returns-then-out-decimal_length
returns-then-out-decimal_length c = refusal_short _ _ (omega arith)

pub write_refusal-requires : goal.write_refusal-requires
write_refusal-requires c = search (rules, refusal_room)

pub returns : goal.returns
returns c = search (rules, refusal_shown)
