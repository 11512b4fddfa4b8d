use mathlib.Core.Path.{◌≡◌, refl, sym, ap, subst, ◌∙◌}
use Prim.Native.Nat.{ℕ, ◌+◌, ◌-◌}
use native.Mathlib.Omega.{arith}
use lib.ListN.{length, take, drop}
use Rattle.lists.proofs.Sums.{sum-zero, sum-next}
use Rattle.lists.proofs.Maxima.{largest-none}
use Rattle.plan.specs.Parts.{link_start}
use Rattle.plan.proofs.Chains.{link-room}
use Rattle.listing.specs.Norm.{squares}
use Rattle.listing.proofs.Norms.{rows-turn}
use Rattle.listing.proofs.norm.links_norm.Goals as goal

pub loop-k-init : goal.loop-k-init
loop-k-init c = record { place = sym (sum-zero _); value = largest-none _ }

pub overflow_add-end-in-loop-k : goal.overflow_add-end-in-loop-k
overflow_add-end-in-loop-k c =
    omega (arith, link-room c.args.plan c.args.weights.now c.loop-k.begin c.loop-k.k c.requires.weights_len.0 c.loop-k.invariant.place c.loop-k-test.true)

pub slice_bounds-squares-end : goal.slice_bounds-squares-end
slice_bounds-squares-end c =
    omega (arith, link-room c.args.plan c.args.weights.now c.loop-k.begin c.loop-k.k c.requires.weights_len.0 c.loop-k.invariant.place c.loop-k-test.true)

pub loop-k-preserved : goal.loop-k-preserved
loop-k-preserved c =
    let P = c.args.plan in
    let w = c.args.weights.now in
    let k = c.loop-k.k in
    let place = c.loop-k.invariant.place in record {
      place = ap (λ (a : ℕ). a + (P.n + k)) place ∙ sym (sum-next (λ i. P.n + i) k);
      value =
          rows-turn P.p w (link_start P) (λ i. P.n + i) k (link-room P w (link_start P k) k c.requires.weights_len.0 refl c.loop-k-test.true)
          c.loop-k.invariant.value (subst (λ (a : ℕ). let row = take (a + (P.n + k) - a) (drop a w) in c.squares.result ≡ squares P.p row 0 (length row)) place c.squares.ensures) c.max-top.ensures;
    }
