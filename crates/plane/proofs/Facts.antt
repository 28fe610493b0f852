-- Everything that is stated of corners, for the points of any two planes.
use Rattle.plane.specs.Points.{Point}
use Rattle.plane.specs.Facts.{FactsOf}
use Rattle.plane.proofs.Minima.{minimum_of, lightest_of, lightest_one_of, weigh_of, weigh_first_of}
use Rattle.plane.proofs.Searches.{step_of, start_of, search_of}
use Rattle.plane.proofs.Fronts.{first_of, last_of, begins_of, goes_on_of, finishes_of, front_of, unique_of}
use Rattle.plane.proofs.Exchanges.{same_of, exchange_of}
use Rattle.plane.proofs.Neighbours.{turns_of}
use Rattle.plane.proofs.Chains.{chain_of}
use Rattle.plane.proofs.Finite.{exists_of, empty_of}

pub facts_of : (P Q : Point → Type 0) → FactsOf P Q
facts_of P Q = record {
  minimum_of = minimum_of P;
  first_of = first_of P;
  last_of = last_of P;
  lightest_of = lightest_of P;
  lightest_one_of = lightest_one_of P;
  weigh_of = weigh_of P;
  weigh_first_of = weigh_first_of P;
  step_of = step_of P;
  start_of = start_of P;
  search_of = search_of P;
  begins_of = begins_of P;
  goes_on_of = goes_on_of P;
  finishes_of = finishes_of P;
  front_of = front_of P;
  exists_of = exists_of P;
  unique_of = unique_of P;
  empty_of = empty_of P;
  turns_of = turns_of P;
  chain_of = chain_of P;
  same_of = same_of P Q;
  exchange_of = exchange_of P Q;
}
