use Rattle.std.proofs.Common.{ap, is_some}
use Rattle.std.proofs.lemmas.List.{get_or-replicate}
use Rattle.text.specs.Drafts.{stock_said}
use Rattle.text.proofs.draft.Draft.new.Goals as goal

pub returns-clause-empty : goal.returns-clause-empty
returns-clause-empty c = record {
  stock = λ i h. ap stock_said (get_or-replicate _ i _ _ h);
  marks = λ i h. ap is_some (get_or-replicate _ i _ _ h);
  roads_are = c.new.ensures;
}
