-- The account or the refusal is the one that the text calls for.
use Rattle.std.proofs.Common.{◌≡◌, ℕ, List, length, take, drop, ℤ, Ok, Err, ap, ◌∙◌, arith}
use Rattle.std.proofs.lemmas.List.{take_at}
use Rattle.network.specs.Limits.{max_nodes, max_arcs}
use Rattle.network.specs.declared.refusal.Refusal.{Refusal}
use Rattle.network.specs.declared.road.Road.{Road}
use Rattle.text.specs.declared.sizes.Sizes.{Sizes}
use Rattle.text.specs.Reader.{Answered}
use Rattle.account.specs.Accounts.{account_of}
use Rattle.account.specs.Lines.{account_lines}
use Rattle.print.specs.Refused.{refusal_line}
use Rattle.planner.specs.Answer.{Answers, consigned, refused}

pub accounted : (text : List ℕ) (road_row road_row' : List Road) (stock_row stock_row' : List ℤ) (s : Sizes) (bytes : List ℕ) → length road_row ≡ max_arcs → length stock_row ≡ max_nodes
    → Answered text road_row stock_row (Ok s) road_row' stock_row' → bytes ≡ account_lines (account_of (take s.arcs road_row') (take s.nodes stock_row')) → Answers text bytes
accounted text road_row road_row' stock_row stock_row' s bytes ea en a is = record {
  decided = consigned a.outcome.short s.nodes s.arcs a.outcome.stocks a.outcome.roads a.outcome.consignment;
  accounts = λ n m stocks roads short c.
      let few = c.sized.arcs in
      let some = c.sized.nodes in
      let t = a.accepts n m stocks roads short (omega arith) (omega arith) c in
      let arcs = ap (take m) t.1.roads_is ∙ take_at roads (drop m road_row) m c.arcs in
      let nodes = ap (take n) t.1.stocks_is ∙ take_at stocks (drop n stock_row) n c.nodes in
      cc;
  declines = λ e h. let clash = a.refuses e (rw (ea, en) h) in cc;
}

pub declined : (text : List ℕ) (road_row road_row' : List Road) (stock_row stock_row' : List ℤ) (x : Refusal) (bytes : List ℕ) → length road_row ≡ max_arcs → length stock_row ≡ max_nodes
    → Answered text road_row stock_row (Err x) road_row' stock_row' → bytes ≡ refusal_line x → Answers text bytes
declined text road_row road_row' stock_row stock_row' x bytes ea en a is = record {
  decided = refused x (rw (← ea, ← en) a.outcome.0);
  accounts = λ n m stocks roads short c.
      let few = c.sized.arcs in
      let some = c.sized.nodes in
      let clash = (a.accepts n m stocks roads short (omega arith) (omega arith) c).0 in cc;
  declines = λ e h. let same = a.refuses e (rw (ea, en) h) in cc;
}
