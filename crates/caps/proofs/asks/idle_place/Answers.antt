use Rattle.std.proofs.Common.{◌≡◌, ◌<◌, true, None, length, get_or, sym, ap, ◌∙◌, subst, arith}
use Rattle.caps.specs.Caps.{idle}
use Rattle.caps.proofs.Rows.{position_at, position_none}
use Rattle.caps.proofs.asks.idle_place.Goals as goal

pub returns-then-is_idle-clause-value : goal.returns-then-is_idle-clause-value
returns-then-is_idle-clause-value g c =
    let ps = c.args.table.now in
    let place = c.loop-place.place in
    let inside : place < length ps = subst (λ xs. place < length xs) c.places-entry-items.ensures.value c.loop-place-test.true in
    let means = g.N.Network.meaning in
    let here : idle (means c.args.below.now).roads (get_or ps place None) ≡ true =
    ap (λ n. idle n.roads (get_or ps place None)) (sym c.loop-place.invariant.0) ∙ ap (λ xs. idle (means c.loop-place.below).roads (get_or xs place None)) (sym c.places-entry-items.ensures.value)
    ∙ sym c.if-is_idle.ensures.value in
    sym (position_at (idle (means c.args.below.now).roads) ps None place inside c.loop-place.invariant.1 here)

pub returns-clause-value : goal.returns-clause-value
returns-clause-value g c =
    let ps = c.args.table.now in
    sym (position_none (idle (g.N.Network.meaning c.args.below.now).roads) ps None (λ k l. c.loop-place.invariant.1 k (omega (arith, ap length c.places-entry-items.ensures.value))))
