use Rattle.worths.specs.Laws.{plain_ordered, ranked_ordered}
use Rattle.worths.proofs.Parts.{first_parts, plain_ranked}
use Rattle.worths.proofs.kind.worths_stand.Goals as goal

pub returns : goal.returns
returns c = record {
  plain_ordered = plain_ordered;
  ranked_ordered = ranked_ordered;
  first_parts = first_parts;
  plain_ranked = plain_ranked;
}
