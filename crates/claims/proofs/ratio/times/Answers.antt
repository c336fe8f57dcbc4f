use Rattle.claims.proofs.RatioLaws.{product_in_two}
use Rattle.claims.proofs.ratio.times.Goals as goal

pub returns : goal.returns
returns c = record { product = product_in_two c.args.number c.args.factor }
