use mathlib.Core.Path.{refl, ap, ◌∙◌}
use mathlib.Core.List.{List}
use Prim.Native.Nat.{ℕ, ◌+◌, ◌/◌, ◌<◌}
use native.Mathlib.Omega.{arith}
use lib.ListN.{length}
use Rattle.lists.specs.Places.{placed}
use Rattle.listing.proofs.Lines.{step-line, lines_none, lines_left, lines-turn}
use Rattle.listing.proofs.printer.Printer.steps.Goals as goal

pub loop-kind-init : goal.loop-kind-init
loop-kind-init c = record { reference = refl; put = lines_none c.args.steps.now c.requires.by_index _ _ (omega arith) }

pub line-requires-clause-in_bounds : goal.line-requires-clause-in_bounds
line-requires-clause-in_bounds c =
    let inside : c.loop-kind.kind-index < length c.args.steps.now / 4 = omega (arith, c.loop-kind-test.true, c.as_chunks.ensures.front_len) in
    lines_left c.args.steps.now c.requires.by_index c.loop-kind.kind-index c.loop-kind.invariant.put inside c.requires.steps_in_bounds

pub loop-kind-preserved : goal.loop-kind-preserved
loop-kind-preserved c =
    let inside : c.loop-kind.kind-index < length c.args.steps.now / 4 = omega (arith, c.loop-kind-test.true, c.as_chunks.ensures.front_len) in
    let this = step-line c.args.steps.now c.as_chunks.result.0.now c.loop-kind.kind-index c.as_chunks.ensures.front inside in record {
      reference = c.line.ensures.reference ∙ c.loop-kind.invariant.reference;
      put =
          lines-turn c.args.steps.now c.requires.by_index c.loop-kind.kind-index c.loop-kind.invariant.put inside c.requires.steps_in_bounds
          (c.line.ensures.list ∙ ap (placed c.loop-kind.self.out.now c.loop-kind.self.at) this)
          (c.line.ensures.ends ∙ ap (λ (xs : List ℕ). c.loop-kind.self.at + length xs) this);
    }
