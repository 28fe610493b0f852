use Rattle.flows.proofs.Lists.{reach_stands, corners_stand, list_exists, list_unique, empty_is_no_flow, neighbours_turn}
use Rattle.flows.proofs.theorems.lists_stand.Goals as goal

pub returns : goal.returns
returns c = record { reach = reach_stands; corners = corners_stand; exists = list_exists; unique = list_unique; empty = empty_is_no_flow; neighbours = neighbours_turn }
