-- What only serves the code: what a printer's methods do. Stands on `lists`.
--     Prints old new xs      the printer old has written xs at its place, in the slice that it was lent, and is now new
use Rattle.std.specs.Prelude.{◌≡◌, List, ℕ, ◌+◌, length}
use Rattle.lists.specs.Places.{placed}
use Rattle.listing.specs.declared.printer.Printer.{Printer}

pub record Prints (old new : Printer) (xs : List ℕ) : Type 0 where
  pub reference : new.out.ghost_name ≡ old.out.ghost_name
  pub list : new.out.now ≡ placed old.out.now old.at xs
  pub ends : new.at ≡ old.at + length xs
