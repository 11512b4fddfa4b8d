-- `listing::printer::Printer::decimal` meets its contract: one digit, or those of n / 10 and the last one. The measure is n. Assumes nothing.
use Rattle.listing.proofs.printer.Printer.+decimal.Given as goal

abbrev pub decreases-decimal : goal.decreases-decimal
decreases-decimal l = l.n
