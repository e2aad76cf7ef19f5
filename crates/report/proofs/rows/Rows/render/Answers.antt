-- `render` meets its contract: the test decides whether both listings fit. Assumes nothing.
use Rattle.std.proofs.Common.{arith, sym, leb-true}
use Rattle.report.proofs.FitsLaw.{first_room, second_room, both_wrote, shown}
use Rattle.report.proofs.rows.Rows.render.Goals as goal

pub write_listing-at-requires : goal.write_listing-at-requires
write_listing-at-requires c = first_room c.args.self.now c.args.out.now (leb-true _ _ (sym c.if-fit.ensures))

pub write_listing-requires : goal.write_listing-requires
write_listing-requires c = second_room c.args.self.now c.args.out.now (leb-true _ _ (sym c.if-fit.ensures)) c.write_listing-at.ensures (omega arith)

pub returns-then-fit : goal.returns-then-fit
returns-then-fit c =
    shown (sym c.if-fit.ensures)
    (both_wrote c.args.self.now c.args.out.now (leb-true _ _ (sym c.if-fit.ensures)) c.write_listing-at.ensures c.write_listing.ensures)
