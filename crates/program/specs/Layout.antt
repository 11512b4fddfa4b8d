-- 01, "The written program": order and registers, and the step count.
-- "Registers 0 to L−1 are the variables; then u = L, v = L+1, a = L+2, b = L+3, y = L+4. Order, zero weights written too"
-- The order is that of Algorithms 1 to 3 of 003. Stands on `plan`.
--     step kind to from by       one step
--     clear r                    kind 0: register r becomes 0
--     add r from by              kind 1: register r gains by times register `from`
--     boot r k                   kind 2: register r bootstrapped in place by table k
--     adds r f n                 variable j added to register r by weight f j, for j from 0 to n - 1
--     link_steps P w k           point 1 of the order, for link k
--     square_steps u m q         a product's steps behind its two weighted sums: u the register of the first sum, m the first of the
--                                two tables, q for p − 1
--     product_steps P d β i      point 3 of the order, for product i
--     layout P w d β             the whole program
--     step_count P               "m(n+2) + m(m−1)/2 + 1 + t(2L+12) + L"
use Rattle.std.specs.Prelude.{List, [], ◌∷◌, ◌++◌, ℕ, ◌+◌, ◌-◌, ◌*◌, ◌/◌}
use Rattle.lists.specs.Places.{joined, at}
use Rattle.plan.specs.declared.numbers.Plan.{Plan}
use Rattle.plan.specs.Numbers.{variables}
use Rattle.plan.specs.Parts.{link_start}

abbrev pub step : ℕ → ℕ → ℕ → ℕ → List ℕ
step kind to from by = kind ∷ to ∷ from ∷ by ∷ []

abbrev pub clear : ℕ → List ℕ
clear r = step 0 r 0 0

abbrev pub add : ℕ → ℕ → ℕ → List ℕ
add r from by = step 1 r from by

abbrev pub boot : ℕ → ℕ → List ℕ
boot r k = step 2 r r k

unfoldable pub adds : ℕ → (ℕ → ℕ) → ℕ → List ℕ
adds r f n = joined (λ j. add r j (f j)) n

-- "link k: clear n+k, add each earlier variable by its weight, bootstrap n+k in place by table k"
unfoldable pub link_steps : Plan → List ℕ → ℕ → List ℕ
link_steps P w k =
    clear (P.n + k) ++ (adds (P.n + k) (λ j. at w (link_start P k + j)) (P.n + k) ++ boot (P.n + k) k)

-- ".. clear a, add u by 1, v by 1; clear b, add u by 1, v by p−1; bootstrap a by m, b by m+1, each in place; add a, then b, to y by 1"
abbrev pub square_steps : ℕ → ℕ → ℕ → List ℕ
square_steps u m q =
    let v = u + 1 in
    let a = u + 2 in
    let b = u + 3 in
    let y = u + 4 in
    (clear a ++ (add a u 1 ++ add a v 1))
    ++ ((clear b ++ (add b u 1 ++ add b v q))
    ++ (boot a m ++ (boot b (m + 1) ++ (add y a 1 ++ add y b 1))))

-- "product: clear u, add β row; clear v, add d row; .."
unfoldable pub product_steps : Plan → List ℕ → List ℕ → ℕ → List ℕ
product_steps P d β i =
    let u = variables P in
    let v = variables P + 1 in
    clear u ++ (adds u (λ j. at β (i * variables P + j)) (variables P)
    ++ (clear v ++ (adds v (λ j. at d (i * variables P + j)) (variables P)
    ++ square_steps u P.m (P.p - 1))))

unfoldable pub layout : Plan → List ℕ → List ℕ → List ℕ → List ℕ
layout P w d β =
    joined (link_steps P w) P.m
    ++ (clear (variables P + 4)
    ++ (joined (product_steps P d β) P.t
    ++ adds (variables P + 4) (λ j. at β (P.t * variables P + j)) (variables P)))

unfoldable pub step_count : Plan → ℕ
step_count P =
    P.m * (P.n + 2) + P.m * (P.m - 1) / 2 + 1 + P.t * (2 * variables P + 12) + variables P
