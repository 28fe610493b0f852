use Rattle.std.proofs.Common.{ℕ, get_or, rules}
use Rattle.std.proofs.lemmas.Iterator.{cases_from_all, YieldsList-from_slice}
use Rattle.std.proofs.lemmas.Iterator.Consumers.{YieldsList-from_enumerate}
use Rattle.network.specs.declared.road.Road.{Road}
use Rattle.worths.specs.Kinds.{ranked}
use Rattle.worths.specs.Fit.{FitsArc}
use Rattle.worths.specs.Rows.{reduced_of}
use Rattle.worths.specs.Values.{wrapped_pair}
use Rattle.worths.proofs.Fitting.{decides_arcs, exact_fits}
use Rattle.worths.proofs.fit.fits.Goals as goal

pub returns : goal.returns
returns g c =
    let roads = c.args.roads.now in
    let flow = c.args.flow.now in
    let f = reduced_of g.W.Worth.value roads c.args.worths.now c.args.prices.now in
    let P = λ (a : ℕ) (r : Road). FitsArc ranked r (wrapped_pair (f a)) (get_or flow a 0) in
    let each = cases_from_all _ _ _ (λ (x : ℕ × Road). P x.0 x.1) (λ (x : ℕ × Road). P x.0 x.1 → ⊥) c.all.ensures.ran (YieldsList-from_enumerate (YieldsList-from_slice roads cc) (cc)) (λ x q k. search rules) (λ x q k. search rules) in
    let wraps = decides_arcs c.all.result roads P each in
    record { exact = exact_fits c.all.result roads f flow wraps; wraps = wraps }
