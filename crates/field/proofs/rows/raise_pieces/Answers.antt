use Rattle.std.proofs.Common.{◌≡◌, ℕ, ◌+◌, ◌*◌, ◌/◌, ◌≤◌, List, length, refl, subst, arith}
use native.Mathlib.Nat.{zero-mul, mul-le-mul_right, div-mul-le_self, mod-add-div'}
use Rattle.lists.proofs.Overwrite.{Written, written_none, written_all}
use Rattle.field.proofs.Raising.{raised-next}
use Rattle.field.proofs.rows.raise_pieces.Goals as goal

at-place : {n i j : ℕ} {f : ℕ → ℕ} {e xs : List ℕ} → i ≡ j → Written n f e i xs → Written n f e j xs
at-place {n} {i} {j} {f} {e} {xs} h = subst (λ (m : ℕ). Written n f e m xs) h

pub loop-k-init : goal.loop-k-init
loop-k-init g c = rw zero-mul (written_none _ _ _ refl)

pub loop-k-preserved : goal.loop-k-preserved
loop-k-preserved g c =
    let n = length c.args.tops.now in
    let N = g.row.N in
    let k = c.loop-k.k in
    let room : (k + 1) * N ≤ n / N * N = mul-le-mul_right N (omega arith) in
    let next : k * N + N ≡ (k + 1) * N = omega arith in
    at-place next
    (raised-next (k * N + N) c.args.xs.now c.raise.new.tops c.loop-k.invariant (omega arith) (omega (arith, room, div-mul-le_self n N)) c.raise.ensures)

pub returns : goal.returns
returns g c =
    let n = length c.args.tops.now in
    let N = g.row.N in
    let whole : n / N * N ≤ c.loop-k.k * N = mul-le-mul_right N c.loop-k-test.false in
    written_all c.loop-k.invariant (omega (arith, whole, mod-add-div' n N, c.requires.whole))
