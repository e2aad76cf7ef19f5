-- `sebdyqul_copy` meets its contract: what the copier promises, told by a number and a length. Assumes nothing.
use Rattle.sebdyqul.proofs.CopyLaw.{copied_called, refused_called}
use Rattle.sebdyqul.proofs.sebdyqul_copy.Goals as goal

pub returns-in-Ok : goal.returns-in-Ok
returns-in-Ok c = copied_called _ _ _ _ _ _ c.in-Ok.ensures

pub returns-in-Err : goal.returns-in-Err
returns-in-Err c = refused_called _ _ _ _ _ _ c.from.ensures c.in-Err.ensures
