use Rattle.vir_simplify.proofs.NumberedPlaces.{places-numbered, places-contains}
use Rattle.vir_simplify.proofs.laws.places_are_numbered_in_preorder.Goals as goal

pub returns-clause-numbered : goal.returns-clause-numbered
returns-clause-numbered c = places-numbered

pub returns-clause-all : goal.returns-clause-all
returns-clause-all c = λ t old i at. places-contains t i old at
