use Rattle.std.proofs.Common.{◌<◌, refl, subst, inl, inr}
use Rattle.text.proofs.Fronts.{reading_more, line_stops, end_stops, past_end, stops}
use Rattle.text.proofs.draft.Draft.take_lines.Goals as goal

pub returns-in_err-bytes : goal.returns-in_err-bytes
returns-in_err-bytes c =
    let p = c.in_err-bytes.ensures in
    stops c.args.text.now c.args.self.now _ c.from_residual.result _ c.from_residual.ensures.1
    (end_stops c.args.text.now c.args.self.now c.loop-place.self c.loop-place.place _ p.1 (inl c.loop-place-test.true) p.0 c.loop-place.invariant)

pub returns-in_err-take : goal.returns-in_err-take
returns-in_err-take c =
    stops c.args.text.now c.args.self.now _ c.from_residual-in_err-take.result _ c.from_residual-in_err-take.ensures.1
    (line_stops c.args.text.now c.args.self.now c.loop-place.self c.loop-place.place c.in_ok-bytes.bytes.now _ c.in_ok-bytes.ensures c.in_err-take.ensures c.loop-place.invariant)

pub loop-place-preserved : goal.loop-place-preserved
loop-place-preserved c = reading_more c.args.text.now c.args.self.now c.loop-place.self c.take.new.self c.loop-place.place c.in_ok-bytes.bytes.now
    c.in_ok-bytes.ensures c.in_ok-take.ensures c.loop-place.invariant

pub returns-then-len-self : goal.returns-then-len-self
returns-then-len-self c = end_stops c.args.text.now c.args.self.now c.loop-place.self c.loop-place.place _
    (past_end c.args.text.now c.loop-place.place c.loop-place-test.false) (inr (subst (λ n. n < c.loop-place.self.sizes.arcs) c.len.ensures.value c.if-len-self.true)) (refl, refl) c.loop-place.invariant
