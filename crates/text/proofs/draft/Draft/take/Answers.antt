use Rattle.std.proofs.Common.{◌≡◌, ◌+◌, length, sym, subst, arith, rules}
use Rattle.std.proofs.lemmas.Bool.{eqb-false}
use Rattle.network.specs.Refusals.{SaysAt}
use Rattle.lines.specs.Word.{furthest}
use Rattle.lines.specs.declared.word.Word.TheVariants.{Net, Stock, Arc}
use Rattle.text.specs.Refused.{open_words}
use Rattle.text.proofs.Lines.{stock_line, arc_line, closed_line, closed_known}
use Rattle.text.proofs.draft.Draft.take.Goals as goal
use Rattle.text.proofs.draft.Draft.take.Goals.{in_default-via-in-Some-Stock-default+else-is_empty, in_default-via-in-Some-Arc-default+else-len-self, in_default-via-in-Some+in_default, in_default-via-in_default}

pub returns-in-Some-Stock-default : goal.returns-in-Some-Stock-default
returns-in-Some-Stock-default c =
    let k = c.in-Some-Stock-default in
    let h = rw k.field-0-0-is at k.ensures in
    stock_line c.args.self.now _ c.args.line.bytes.now k.rest.bytes.now c.args.line.place k.rest.place c.take_stock.result h.1 h.0 (search rules) c.take_stock.ensures

pub returns-in-Some-Arc-default : goal.returns-in-Some-Arc-default
returns-in-Some-Arc-default c =
    let k = c.in-Some-Arc-default in
    let h = rw k.field-0-0-is at k.ensures in
    arc_line c.args.self.now _ c.args.line.bytes.now k.rest.bytes.now c.args.line.place k.rest.place c.take_arc.result h.1 h.0 (search rules) c.take_arc.ensures

pub returns-in_default : goal.returns-in_default
returns-in_default c =
    let d = c.args.self.now in
    let form = c.args.line.bytes.now in
    let place = c.args.line.place in
    let says : SaysAt c.no_word.result 10 (place + furthest (open_words d.sizes.arcs (length d.roads.items)) form) =
    subst (λ ws. SaysAt c.no_word.result 10 (place + furthest ws form)) c.open_words.ensures c.no_word.ensures in
    elim c.in_default.branch [
      | in_default-via-in-Some-Stock-default+else-is_empty w ↦ (let k = w.in-Some-Stock-default in let h = rw k.field-0-0-is at k.ensures in
          closed_known d form Stock k.rest.bytes.now place c.no_word.result h.0 (λ z q. eqb-false (length d.roads.items) 0 (sym w.if-is_empty.ensures) z) (λ l q. omega arith) says)
      | in_default-via-in-Some-Arc-default+else-len-self w ↦ (let k = w.in-Some-Arc-default in let h = rw k.field-0-0-is at k.ensures in
          closed_known d form Arc k.rest.bytes.now place c.no_word.result h.0 (λ z q. omega arith) (λ l q. (let full = w.if-len-self.false in let n = w.len.ensures.value in omega arith)) says)
      | in_default-via-in-Some+in_default w ↦ (let k = w.in_default in
          let e : k.field-0.0 ≡ Net = search rules in
          let h = rw e at (rw k.is at c.word.ensures) in
          closed_known d form Net k.field-0.1.bytes.now place c.no_word.result h.0 (λ z q. omega arith) (λ l q. omega arith) says)
      | in_default-via-in_default w ↦ (let none = rw w.in_default.is at c.word.ensures in closed_line d form place c.no_word.result (λ z. none Stock) (λ l. none Arc) says)
    ]
