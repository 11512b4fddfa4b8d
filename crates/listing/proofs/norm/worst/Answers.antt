-- `listing::norm::worst` meets its contract: the largest of the links, of the products and of β's rows (`Norms`). Assumes nothing.
use Rattle.listing.proofs.Norms.{norm-of}
use Rattle.listing.proofs.norm.worst.Goals as goal

pub returns : goal.returns
returns c =
    let s = c.args in
    norm-of s.plan s.weights.now s.d.now s.beta.now c.variables-l.ensures c.links_norm-links.ensures c.rows_norm-products.ensures
    c.rows_norm-last.ensures c.max.ensures c.max-2.ensures
