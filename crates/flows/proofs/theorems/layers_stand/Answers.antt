use Rattle.flows.proofs.Lists.{exchange_stands, exchange_no_flow, floor_stands, floor_no_flow}
use Rattle.flows.proofs.theorems.layers_stand.Goals as goal

pub returns : goal.returns
returns c = record { exchange = exchange_stands; exchange_none = exchange_no_flow; floor = floor_stands; floor_none = floor_no_flow }
