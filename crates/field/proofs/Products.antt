-- A product by two squares, 003's Equation 2 modulo p: table m at u + v and table m+1 at u - v leave u * v when added.
-- With p = r + 1 the difference u - v is u + r * v, and 4 u v + (u + r v)² differs from (u + v)² by a multiple of p.
-- Assumes nothing.
use mathlib.Core.Path.{◌≡◌, refl, sym, ap, ◌∙◌}
use mathlib.Core.Bool.{true}
use Prim.Native.Nat.{ℕ, ◌+◌, ◌-◌, ◌*◌, ◌/◌, ◌%◌, ◌<◌}
use native.Mathlib.Nat.{mod-mod, mod-lt, mod-eq_of_lt, mod-add-div', mul-one}
use native.Mathlib.Omega.{arith}
use Rattle.field.specs.Primes.{odd_prime}
use Rattle.field.specs.Residues.{inverse, square, minus_square}
use Rattle.field.proofs.PrimeTable.{odd_prime-means}
use Rattle.field.proofs.Inverses.{quarter}
use Rattle.field.proofs.Modular.{mods, cong-of, cong-add, cong-mul}

-- a difference: where a is c + b, a plus the negative of b is c
pub minus-law : (p a b c : ℕ) → 0 < p → a % p ≡ (c + b) % p → (a % p + (p - b % p) % p) % p ≡ c % p
minus-law p a b c pos e =
    simp mods
    (cong-add p a (c + b) (p - b % p) (p - b % p) e refl
    ∙ cong-of p (c + b + (p - b % p)) c 0 (b / p + 1) (omega (arith, mod-add-div' b p, mod-lt b pos)))

-- 4 u v + (u - v)² is (u + v)², all times q
squares : (r u v q : ℕ) → ((u + v) * (u + v) * q) % (r + 1) ≡ (u * v * (4 * q) + (u + r * v) * (u + r * v) * q) % (r + 1)
squares r u v q =
    cong-of (r + 1) ((u + v) * (u + v) * q) (u * v * (4 * q) + (u + r * v) * (u + r * v) * q)
    ((2 * (u * v) + r * (v * v)) * q) (v * v * q) (omega arith)

square-of : (p z q : ℕ) → (z % p * (z % p) * q) % p ≡ (z * z * q) % p
square-of p z q = cong-mul p (z % p * (z % p)) (z * z) q q (cong-mul p (z % p) z (z % p) z (mod-mod z p) (mod-mod z p)) refl

pub product : (p u v : ℕ) → odd_prime p ≡ true → (square p ((u + v) % p) + minus_square p ((u + (p - 1) * v) % p)) % p ≡ (u * v) % p
unfolding square minus_square
product p u v prime =
    minus-law p (s * s * q) (d * d * q) (u * v) pos
    (square-of p (u + v) q ∙ split ∙ cong-add p (u * v * (4 * q)) (u * v) (w * w * q) (d * d * q) four (sym (square-of p w q)))
  where
    q : ℕ
    q = inverse p 4

    s : ℕ
    s = (u + v) % p

    w : ℕ
    w = u + (p - 1) * v

    d : ℕ
    d = w % p

    pos : 0 < p
    pos = omega (arith, ((odd_prime-means p).0 prime).0)

    split : ((u + v) * (u + v) * q) % p ≡ (u * v * (4 * q) + w * w * q) % p
    split =
        let e : p - 1 + 1 ≡ p = omega (arith, pos) in
        rw e at (squares (p - 1) u v q)

    four : (u * v * (4 * q)) % p ≡ (u * v) % p
    four =
        let one : 1 % p ≡ 1 = mod-eq_of_lt (omega (arith, ((odd_prime-means p).0 prime).0)) in
        cong-mul p (u * v) (u * v) (4 * q) 1 refl (quarter p prime ∙ sym one) ∙ ap (λ (n : ℕ). n % p) (mul-one (u * v))
