-- `field::rows::dot` meets its contract: the products of the pairs of the two lists are those by place (`pairs`). Assumes nothing.
use Rattle.std.proofs.Common.{rules, ◌≡◌, ◌∙◌, ap, sym, refl, ℕ, zero, suc, ◌+◌, ◌*◌, ◌%◌, List, [], ◌∷◌, length, arith}
use Rattle.std.proofs.lemmas.Iterator.{YieldsList-from_slice, YieldsList-from_zip, YieldsList-from_map}
use Rattle.std.proofs.lemmas.Iterator.Consumers.{YieldsList-at, sum_by_from_yields_List}
use Rattle.std.proofs.lemmas.List.Sums.{sum_by-cons}
use Rattle.std.specs.List.{zip, sum_by}
use Rattle.lists.specs.Places.{sum, at}
use Rattle.field.specs.Rows as specs
use Rattle.field.proofs.rows.dot.Goals as goal

times : ℕ × ℕ → ℕ
times q = q.0 * q.1

sum-front : (f : ℕ → ℕ) (n : ℕ) → sum f (suc n) ≡ f 0 + sum (λ j. f (suc j)) n
unfolding sum
sum-front f zero = omega arith
sum-front f (suc n) = omega (arith, sum-front f n)

pairs : (ws xs : List ℕ) → length xs ≡ length ws → sum_by times (zip ws xs) ≡ specs.dot ws xs (length ws)
unfolding sum times
pairs [] xs h = refl
pairs (w ∷ ws) [] h = absurd (omega arith)
pairs (w ∷ ws) (x ∷ xs) h =
    sum_by-cons times (w, x) (zip ws xs)
    ∙ ap (λ (n : ℕ). w * x + n) (pairs ws xs (omega arith))
    ∙ sym (sum-front (λ j. at (w ∷ ws) j * at (x ∷ xs) j) (length ws))

pub returns : goal.returns
unfolding times
returns c =
    let ws = c.args.ws.now in
    let xs = c.args.xs.now in
    let e : c.sum-total.result ≡ sum_by times (zip ws xs) =
    sum_by_from_yields_List times (zip ws xs) c.map.result c.sum-total.result c.sum-total.ensures.ran
    (YieldsList-from_map _ times
    (YieldsList-at c.map.ensures.source (YieldsList-from_zip (YieldsList-at c.zip.ensures.first (YieldsList-from_slice ws (cc))) (YieldsList-from_slice xs (cc))))
    c.map.ensures.closure
    (λ x r q k. search rules)) in
    ap (λ (n : ℕ). n % c.args.p) (e ∙ pairs ws xs c.requires.xs_len)
