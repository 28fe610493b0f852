use Rattle.std.proofs.Common.{◌∙◌, set, Some, refl, ap, inr, sym, w32, SFits, rules}
use Rattle.std.proofs.lemmas.Int.{to_z-of_z}
use Rattle.std.proofs.lemmas.List.{set-set}
use Rattle.text.proofs.draft.Draft.take_stock.Goals as goal

pub returns-then-is_some : goal.returns-then-is_some
returns-then-is_some c = inr ((c.in_ok-node.node, c.in_ok-node.amount), c.in_ok-node.ensures.reads, c.in_ok-node.ensures.node, sym c.if-is_some.ensures, (refl, refl))

pub returns : goal.returns
returns c =
    let f : SFits w32 c.in_ok-node.amount = search rules in (
      (c.in_ok-node.node, c.in_ok-node.amount),
      c.in_ok-node.ensures.reads,
      c.in_ok-node.ensures.node,
      sym c.if-is_some.ensures,
      record {
        stocks = set-set _ _ _ _ ∙ ap (λ z. set c.args.self.now.stocks c.in_ok-node.node (Some z)) (to_z-of_z w32 c.in_ok-node.amount f);
        roads = refl;
        sizes = refl;
      },
    )
