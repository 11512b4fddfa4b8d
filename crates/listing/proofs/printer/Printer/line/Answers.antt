use mathlib.Core.Path.{refl, subst, ◌∙◌}
use mathlib.Core.List.{List}
use Prim.Native.Nat.{ℕ, ◌-◌, ◌≤◌, ◌<◌}
use native.Mathlib.Omega.{arith}
use lib.ListN.{length, take, set}
use lib.Seq.{take_all}
use Rattle.lists.specs.Places.{at}
use Rattle.listing.specs.Decimal.{line}
use Rattle.listing.proofs.Digits.{decimal-most}
use Rattle.listing.proofs.Puts.{Put}
use Rattle.listing.proofs.Prints.{prints-length, prints-next}
use Rattle.listing.proofs.Lines.{spread, spread-none, spread-left, spread-turn, spread-done}
use Rattle.listing.proofs.printer.Printer.line.Goals as goal

pub loop-n-init : goal.loop-n-init
loop-n-init c = record { reference = refl; put = spread-none c.args.numbers.now _ _ (omega arith) }

pub decimal-requires : goal.decimal-requires
decimal-requires c =
    omega (arith, spread-left c.args.numbers.now c.loop-n.n-index c.loop-n.invariant.put c.loop-n-test.true c.requires.in_bounds)

pub byte-requires : goal.byte-requires
byte-requires c =
    let most = decimal-most (at c.args.numbers.now c.loop-n.n-index) in
    let left = spread-left c.args.numbers.now c.loop-n.n-index c.loop-n.invariant.put c.loop-n-test.true c.requires.in_bounds in
    omega (arith, most, left, c.decimal.ensures.ends, prints-length c.decimal.ensures (omega (arith, most, left)))

pub loop-n-preserved : goal.loop-n-preserved
loop-n-preserved c =
    let most = decimal-most (at c.args.numbers.now c.loop-n.n-index) in
    let left = spread-left c.args.numbers.now c.loop-n.n-index c.loop-n.invariant.put c.loop-n-test.true c.requires.in_bounds in
    let one = prints-next c.decimal.ensures c.byte.ensures (omega (arith, most, left)) in record {
      reference = one.reference ∙ c.loop-n.invariant.reference;
      put = spread-turn c.args.numbers.now c.loop-n.n-index c.loop-n.invariant.put c.loop-n-test.true c.requires.in_bounds one.list one.ends;
    }

-- the last turn is done
done : {e out : List ℕ} {k next : ℕ} (ns : List ℕ) (i : ℕ) → Put e k (spread (take i ns)) out next → length ns ≤ i → 0 < length ns
    → (0 < next) × (next ≤ length out) × Put e k (line ns) (set out (next - 1) 10) next
done {e} {out} {k} {next} ns i p h some =
    spread-done ns (subst (λ (xs : List ℕ). Put e k (spread xs) out next) (take_all i ns h) p) some

pub overflow_sub-self : goal.overflow_sub-self
overflow_sub-self c =
    (done c.args.numbers.now c.loop-n.n-index c.loop-n.invariant.put c.loop-n-test.false c.requires.some).0

pub returns : goal.returns
returns c =
    let whole = (done c.args.numbers.now c.loop-n.n-index c.loop-n.invariant.put c.loop-n-test.false c.requires.some).2 in
    record { reference = c.loop-n.invariant.reference; list = whole.list; ends = whole.ends }
