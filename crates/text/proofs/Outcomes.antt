-- What reading comes to at each exit.
use Rattle.std.proofs.Common.{◌≡◌, ℕ, ◌≤◌, List, ◌++◌, length, take, drop, map, ℤ, pos, IsErrAnd, None, Ok, Err, Result, sym, refl, ap, ◌∙◌, subst, arith}
use Rattle.std.proofs.lemmas.List.{take_all, length-map, length-take-le, get_or-map, get_or-take}
use Rattle.network.specs.Limits.{max_text, max_stock}
use Rattle.network.specs.Roads.{Near, Ranged}
use Rattle.network.specs.Tested.{row_fault}
use Rattle.network.proofs.Tested.{rows_pass}
use Rattle.network.specs.declared.refusal.Refusal.{Refusal}
use Rattle.network.specs.declared.road.Road.{Road}
use Rattle.text.specs.declared.draft.Draft.{Draft}
use Rattle.text.specs.declared.sizes.Sizes.{Sizes}
use Rattle.text.specs.Consignment.{IsConsignment}
use Rattle.text.specs.Refused.{Refused, no_end, bad_line}
use Rattle.text.specs.Drafts as drafts
use Rattle.text.specs.Drafts.{stock_said, Holds, Completed, Stopped}
use Rattle.text.specs.Reader.{Taken, Answered}
use Rattle.std.specs.List.{AllByRecursion}
use Rattle.std.proofs.ByRecursion.{All-from_get_or}
use Rattle.text.proofs.Entries.{stock_near}
use Rattle.text.proofs.Settled.{settled}

-- a fault after the first line
pub later : (text : List ℕ) (a b n m : ℕ) (e : Refusal) → length text ≤ max_text → m ≤ a → n ≤ b → Stopped text n m e → Refused text a b e
later text a b n m e short p q (drafts.no_end es rs place begun none left says) = no_end short n m es rs place begun p q none left says
later text a b n m e short p q (drafts.bad_line es rs place begun form at fault) = bad_line short n m es rs place begun p q form at fault

-- the exit of a `?`
pub refusal : (text : List ℕ) (road_row : List Road) (stock_row : List ℤ) (r : Result Sizes Refusal) (e : Refusal) → IsErrAnd r (λ y. y ≡ e) → Refused text (length road_row) (length stock_row) e
    → Answered text road_row stock_row r road_row stock_row
refusal text road_row stock_row (Ok x) e h w = absurd h
refusal text road_row stock_row (Err y) e h w = settled text road_row stock_row (Err y) road_row stock_row (subst (λ z. Refused text (length road_row) (length stock_row) z) (sym h) w, refl, refl)

-- the draft holds a consignment
consigned : (text : List ℕ) (d : Draft) (c : Completed text d) → IsConsignment text d.sizes.nodes d.sizes.arcs (map stock_said (take d.sizes.nodes d.stocks)) c.roads
consigned text d c =
    let b = c.begun in
    let few = d.nodes_few in
    let len = d.stocks_len in
    record {
      entries = c.entries;
      sized = b.sized;
      is = sym (take_all (length text) text (omega arith)) ∙ b.front;
      fitting = b.fitting;
      arcs = c.arcs;
      nodes = length-map (take d.sizes.nodes d.stocks) stock_said ∙ length-take-le d.sizes.nodes d.stocks (omega arith);
      stock = λ i l. get_or-map stock_said (take d.sizes.nodes d.stocks) i None (pos 0) (omega (arith, length-take-le d.sizes.nodes d.stocks (omega arith))) ∙ ap stock_said (get_or-take d.sizes.nodes d.stocks i None l) ∙ c.holds.stock i (omega arith);
    }

-- its rows pass the test of a table
rows_tested : (text : List ℕ) (n m : ℕ) (stocks : List ℤ) (roads : List Road) → IsConsignment text n m stocks roads → row_fault roads stocks ≡ None
rows_tested text n m stocks roads c =
    let some = c.sized.some in
    let nodes = c.sized.nodes in
    let arcs = c.sized.arcs in
    let en = c.nodes in
    let em = c.arcs in
    rows_pass roads stocks (omega arith) (omega arith) (omega arith)
    (All-from_get_or (Near max_stock) stocks (pos 0) (λ i h. subst (Near max_stock) (sym (c.stock i (omega arith))) (stock_near n c.entries i c.fitting.stocked)))
    (subst (λ k. AllByRecursion (Ranged k) roads) (sym c.nodes) c.fitting.ranged) c.fitting.passable

pub taken : (text : List ℕ) (d₀ d : Draft) (s : Sizes) (road_row road_row' : List Road) (stock_row stock_row' : List ℤ) → length text ≤ max_text → s.arcs ≤ length road_row → s.nodes ≤ length stock_row
    → d₀.sizes ≡ s → d.sizes ≡ d₀.sizes → Completed text d
    → road_row' ≡ d.roads.items ++ drop (length d.roads.items) road_row → stock_row' ≡ map stock_said (take d.sizes.nodes d.stocks) ++ drop d.sizes.nodes stock_row
    → Taken text s.nodes s.arcs road_row road_row' stock_row stock_row'
taken text d₀ d s road_row road_row' stock_row stock_row' short p q first same c er es =
    let whole = consigned text d c in
    let sizes : d.sizes ≡ s = same ∙ first in
    subst (λ k. Taken text k.nodes k.arcs road_row road_row' stock_row stock_row') sizes (record {
      short = short;
      road_room = subst (λ k. k.arcs ≤ length road_row) (sym sizes) p;
      stock_room = subst (λ k. k.nodes ≤ length stock_row) (sym sizes) q;
      stocks = map stock_said (take d.sizes.nodes d.stocks);
      roads = c.roads;
      consignment = whole;
      tested = rows_tested text d.sizes.nodes d.sizes.arcs (map stock_said (take d.sizes.nodes d.stocks)) c.roads whole;
      filled = record {
        roads_is = er ∙ ap (λ l. l ++ drop (length d.roads.items) road_row) c.holds.roads_are ∙ ap (λ k. c.roads ++ drop k road_row) (ap length c.holds.roads_are ∙ c.arcs);
        stocks_is = es;
      };
    })
