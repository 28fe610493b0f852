use Rattle.flows.proofs.Prices.{lightest_by_prices, fit_where_as_light, minimum_by_prices, fit_at_point, opening_by_prices, closing_by_prices, searching_by_prices, weighing_by_prices, weighing_first_by_prices}
use Rattle.flows.proofs.theorems.minima_stand.Goals as goal

pub returns : goal.returns
returns c = record {
  lightest = lightest_by_prices;
  as_light = fit_where_as_light;
  minimum = minimum_by_prices;
  at_point = fit_at_point;
  opening = opening_by_prices;
  closing = closing_by_prices;
  searching = searching_by_prices;
  weighing = weighing_by_prices;
  weighing_first = weighing_first_by_prices;
}
