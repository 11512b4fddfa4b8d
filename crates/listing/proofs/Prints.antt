-- What a printer's methods do one after the other (`Prints` of specs/Printing.antt).
--     prints-length      the slice keeps its length
--     prints-next        one list behind the other
-- Assumes nothing.
use mathlib.Core.Path.{◌≡◌, ap, ap₂, ◌∙◌}
use mathlib.Core.List.{List, ◌++◌}
use Prim.Native.Nat.{ℕ, ◌+◌, ◌≤◌}
use native.Mathlib.Omega.{arith}
use lib.ListN.{length, length-append}
use Rattle.lists.specs.Places.{placed}
use Rattle.lists.proofs.Placing.{placed-length, placed-placed}
use Rattle.listing.specs.Printing.{Prints}
use Rattle.listing.specs.declared.printer.Printer.{Printer}

pub prints-length : {p q : Printer} {xs : List ℕ} → Prints p q xs → p.at + length xs ≤ length p.out.now → length q.out.now ≡ length p.out.now
prints-length {p} {q} {xs} a room = ap length a.list ∙ placed-length p.out.now p.at xs room

pub prints-next : {p q r : Printer} {xs ys : List ℕ} → Prints p q xs → Prints q r ys → p.at + length xs ≤ length p.out.now → Prints p r (xs ++ ys)
prints-next {p} {q} {r} {xs} {ys} a b room = record {
  reference = b.reference ∙ a.reference;
  list = b.list ∙ ap₂ (λ (o : List ℕ) (k : ℕ). placed o k ys) a.list a.ends ∙ placed-placed p.out.now p.at xs ys room;
  ends = rw length-append (omega (arith, a.ends, b.ends));
}
