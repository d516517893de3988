-- `pairing::offers` meets its contract. Assumes nothing.
use Rattle.pairing.proofs.Offering.{offered}
use Rattle.pairing.proofs.offers.Goals as goal

pub returns : goal.returns
returns c =
    let s = c in
    offered s.args.nx.now s.args.ny.now s.args.x s.args.y _ _ _ _ _ c.offer.ensures c.offer-2.ensures
    c.offer-3.ensures
    c.offer-4.ensures
    c.offer-5.ensures
