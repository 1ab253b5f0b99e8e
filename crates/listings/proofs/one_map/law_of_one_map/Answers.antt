use Rattle.listings.proofs.ListedMaps.{as_all}
use Rattle.listings.proofs.one_map.law_of_one_map.Goals as goal

pub returns : goal.returns
returns c = λ check map width vr blocking records. as_all check map width vr blocking records
