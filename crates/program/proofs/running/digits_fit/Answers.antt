use Rattle.std.proofs.Common.{rules, ◌∙◌}
use Rattle.std.proofs.lemmas.Iterator.{YieldsList-from_slice, YieldsList-from_zip}
use Rattle.std.proofs.lemmas.Iterator.Search.{all_from_yields_List}
use borrow.Author.Tests.{tests}
use Prim.Native.Nat.{ℕ}
use native.Mathlib.Omega.{arith}
use lib.Dec.{ltb}
use Rattle.program.specs.Calls.{digits_fit}
use Rattle.program.proofs.Lists.{zip-every}
use Rattle.program.proofs.running.digits_fit.Goals as goal

pub returns : goal.returns
unfolding digits_fit
returns c =
    let pairs = YieldsList-from_zip (YieldsList-from_slice {s = c.zip.result.a} c.args.digits.now cc) (YieldsList-from_slice {s = c.zip.result.b} c.args.radices.now cc) in
    all_from_yields_List (λ (p : ℕ × ℕ). ltb p.0 p.1) c.all.new.self _ c.all.result c.all.ensures.ran pairs (λ x b q k. search (rules, tests))
    ∙ zip-every c.args.digits.now c.args.radices.now (omega arith)
