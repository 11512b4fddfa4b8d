-- Powers by squaring: x times b to the e stays the same modulo p when a turn moves b's factor into x, squares b and halves e.
-- Assumes nothing.
use mathlib.Core.Path.{◌≡◌, sym, ap, ◌∙◌}
use Prim.Native.Nat.{ℕ, zero, suc, ◌+◌, ◌*◌, ◌/◌, ◌%◌, ◌^◌}
use native.Mathlib.Nat.{pow-zero, pow-suc, one-mul, zero-add, mod-mod}
use native.Mathlib.Omega.{arith}
use lib.Pow.{pow-add}
use Rattle.field.proofs.Modular.{cong-mul, pow-cong}

pub pow-one : (b : ℕ) → b ^ 1 ≡ b
pow-one b = pow-suc b 0 ∙ ap (λ (n : ℕ). n * b) (pow-zero b) ∙ one-mul b

pow-square : (b k : ℕ) → (b * b) ^ k ≡ b ^ k * b ^ k
pow-square b zero = rw (pow-zero (b * b), pow-zero b)
pow-square b (suc k) = rw (pow-suc (b * b) k, pow-suc b k, pow-square b k) (omega arith)

pow-halves : (b e : ℕ) → b ^ e ≡ b ^ (e % 2) * (b * b) ^ (e / 2)
pow-halves b e =
    let h : e ≡ e % 2 + (e / 2 + e / 2) = omega arith in
    ap (λ (n : ℕ). b ^ n) h
    ∙ pow-add b (e % 2) (e / 2 + e / 2)
    ∙ ap (λ (n : ℕ). b ^ (e % 2) * n) (pow-add b (e / 2) (e / 2) ∙ sym (pow-square b (e / 2)))

-- in the form in which two calls of `cell` leave it
pub square-turn : (p x b e : ℕ) → ((0 + b ^ (e % 2) * x) % p * ((0 + b * b) % p) ^ (e / 2)) % p ≡ (x * b ^ e) % p
square-turn p x b e =
    cong-mul p ((0 + b ^ (e % 2) * x) % p) (0 + b ^ (e % 2) * x) (((0 + b * b) % p) ^ (e / 2)) ((b * b) ^ (e / 2))
    (mod-mod (0 + b ^ (e % 2) * x) p) (pow-cong p ((0 + b * b) % p) (b * b) (rw (zero-add (b * b)) (mod-mod (b * b) p)) (e / 2))
    ∙ ap (λ (n : ℕ). n % p) (rw (pow-halves b e) (omega arith))
