use Rattle.std.proofs.Common.{◌≡◌, Some, sym, refl, ◌∙◌}
use Rattle.std.proofs.lemmas.Result.{OkIff-at_ok}
use Rattle.network.specs.declared.refusal.Refusal.TheVariants.{CapsFull}
use Rattle.caps.specs.Caps.{place_for}
use Rattle.caps.proofs.Rows.{no_value}
use Rattle.caps.proofs.Changes.{taken_alone, lowered, room_taken, room_none}
use Rattle.caps.proofs.layer.Cap.lower.Goals as goal

pub returns-in_err-place-clause-done : goal.returns-in_err-place-clause-done
returns-in_err-place-clause-done g c =
    let ps = c.args.self.now.table in
    let roads = (g.N.Network.meaning c.args.self.now.below).roads in
    let full = no_value c.place_for.result CapsFull _ _ c.from_residual.ensures.1 c.in_err-place.ensures.value in
    rw full.1 (room_none ps roads c.args.arc c.place_for.ensures.kept.full (sym c.place_for.ensures.value ∙ full.0), (refl, refl), c.place_for.ensures.table)

pub put-requires-clause-alone : goal.put-requires-clause-alone
put-requires-clause-alone g c =
    let ps = c.args.self.now.table in
    let roads = (g.N.Network.meaning c.args.self.now.below).roads in
    let takes : place_for ps roads c.args.arc ≡ Some c.in_ok-place.place = sym c.place_for.ensures.value ∙ c.in_ok-place.ensures.ok_part in
    let arc_is = (OkIff-at_ok c.try_from.result _ _ _ c.try_from.ensures c.unwrap.ensures).1 in
    rw (arc_is, c.place_for.ensures.table) (taken_alone ps roads c.args.arc c.in_ok-place.place c.place_for.ensures.kept.once takes)

pub returns-clause-done : goal.returns-clause-done
returns-clause-done g c =
    let ps = c.args.self.now.table in
    let roads = (g.N.Network.meaning c.args.self.now.below).roads in
    let place = c.in_ok-place.place in
    let table = c.place_for.ensures.kept in
    let takes : place_for ps roads c.args.arc ≡ Some place = sym c.place_for.ensures.value ∙ c.in_ok-place.ensures.ok_part in
    let arc_is = (OkIff-at_ok c.try_from.result _ _ _ c.try_from.ensures c.unwrap.ensures).1 in
    let amount_is = (OkIff-at_ok c.try_from-2.result _ _ _ c.try_from-2.ensures c.unwrap-2.ensures).1 in (
      room_taken ps roads c.args.arc place table.full takes,
      rw (c.put.ensures.value, arc_is, amount_is, c.place_for.ensures.table)
          (lowered ps roads c.args.arc c.args.road c.args.amount place table.once (sym c.requires.there) c.requires.fit c.requires.low takes),
    )
