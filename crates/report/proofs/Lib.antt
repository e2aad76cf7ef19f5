-- Laws behind the proofs of `report`.
mod PartsLaw
mod StatesLaw
mod LinesLaw
mod FitsLaw
