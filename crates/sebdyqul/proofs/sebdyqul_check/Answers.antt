-- `sebdyqul_check` meets its contract: what the checker promises, told by a number and a depth. Assumes nothing.
use Rattle.sebdyqul.proofs.CalledLaw.{accepted_called, refused_called}
use Rattle.sebdyqul.proofs.sebdyqul_check.Goals as goal

pub returns-in-Ok : goal.returns-in-Ok
returns-in-Ok c = accepted_called _ _ _ c.in-Ok.ensures.found _ c.in-Ok.accepted c.in-Ok.ensures.finished

pub returns-in-Err : goal.returns-in-Err
returns-in-Err c = refused_called _ _ _ c.in-Err.ensures.found _ _ c.from.ensures c.in-Err.ensures.finished
