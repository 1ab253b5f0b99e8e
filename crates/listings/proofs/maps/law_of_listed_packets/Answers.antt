use Rattle.listings.proofs.ListedMaps.{told_of_all}
use Rattle.listings.proofs.maps.law_of_listed_packets.Goals as goal

pub returns : goal.returns
returns c = λ check width vr blocking m records. told_of_all check m width vr blocking records
