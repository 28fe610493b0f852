-- What an account counts.
use Rattle.std.specs.Prelude.{ℕ, suc, List, length, ℤ, pos, negsuc, sum_by, count_by, int_lt}
use Rattle.network.specs.Net.{reach_of}
use Rattle.network.specs.declared.road.Road.{Road}
use Rattle.account.specs.declared.account.Account.{Account}

-- the chests that a node of this stock offers, and those that it wants
abbrev pub surplus : ℤ → ℕ
surplus (pos n) = n
surplus (negsuc n) = 0

abbrev pub lack : ℤ → ℕ
lack (pos n) = 0
lack (negsuc n) = suc n

-- the same of all the nodes
abbrev pub chests_offered : List ℤ → ℕ
chests_offered stocks = sum_by surplus stocks

abbrev pub chests_wanted : List ℤ → ℕ
chests_wanted stocks = sum_by lack stocks

-- how many nodes have a stock above zero, and how many one below
abbrev pub nodes_offering : List ℤ → ℕ
nodes_offering stocks = count_by (λ z. int_lt (pos 0) z) stocks

abbrev pub nodes_wanting : List ℤ → ℕ
nodes_wanting stocks = count_by (λ z. int_lt z (pos 0)) stocks

abbrev pub account_of : List Road → List ℤ → Account
account_of roads stocks = record {
  nodes = length stocks;
  arcs = length roads;
  offered = chests_offered stocks;
  wanted = chests_wanted stocks;
  offering = nodes_offering stocks;
  wanting = nodes_wanting stocks;
  reach = (reach_of (λ r. r.first) roads, reach_of (λ r. r.second) roads);
}
