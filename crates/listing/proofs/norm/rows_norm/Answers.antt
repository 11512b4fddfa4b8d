use Prim.Native.Nat.{◌*◌}
use Rattle.lists.proofs.Maxima.{largest-none}
use Rattle.listing.proofs.Norms.{row_room, rows-turn, row-residues}
use Rattle.listing.proofs.norm.rows_norm.Goals as goal

pub loop-b-init : goal.loop-b-init
loop-b-init c = largest-none _

pub squares-requires-clause-residues : goal.squares-requires-clause-residues
squares-requires-clause-residues c = row-residues c.args.p c.args.ws.now _ _ c.requires.l_in_bounds.1

pub loop-b-preserved : goal.loop-b-preserved
loop-b-preserved c =
    let s = c.args in
    rows-turn s.p s.ws.now (λ b. b * s.l) (λ _. s.l) c.loop-b.b
    (row_room c.loop-b.b s.l s.count _ c.loop-b-test.true c.requires.l_in_bounds.0) c.loop-b.invariant c.squares.ensures c.max-top.ensures
