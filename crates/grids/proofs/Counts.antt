-- What stands at a number of a counted list.
use Rattle.std.proofs.Common.{◌≡◌, ℕ, ◌<◌, map, length, Some, None, Option, MatchOption, SomeIff, sym, ap, ◌∙◌, zero-add, arith}
use Rattle.std.specs.List.{slice_get, range_with_len}
use Rattle.std.specs.Option.{IsSomeAnd}
use Rattle.std.proofs.lemmas.List.FromFn.{length-map-range_with_len, get_or-map-range_with_len}
use Rattle.std.proofs.lemmas.Option.{slice_get-get_or, slice_get_past}

-- what a closure makes of a number that is told only where it is below the count
pub counted : {X : Type 0} (f : ℕ → X) (n m i : ℕ) (o : Option ℕ) (r : Option X) (P : ℕ → X → Type 0) → m ≡ n → SomeIff o (i < m) i → MatchOption o (r ≡ None) (λ j. IsSomeAnd r (P j))
    → ((j : ℕ) (x : X) → j ≡ i → j < n → P j x → x ≡ f j) → r ≡ slice_get (map f (range_with_len 0 n)) i
counted f n m i None r P e h is makes = is ∙ sym (slice_get_past (map f (range_with_len 0 n)) i (omega (arith, length-map-range_with_len f 0 n)))
counted f n m i (Some j) None P e h is makes = absurd is
counted f n m i (Some j) (Some x) P e h is makes =
    let below : i < m = h.0 in
    let same : j ≡ i = h.1 in
    let inside : i < length (map f (range_with_len 0 n)) = omega (arith, length-map-range_with_len f 0 n) in
    ap Some (makes j x same (omega arith) is) ∙ ap (λ k. Some (f k)) same
    ∙ sym (slice_get-get_or (map f (range_with_len 0 n)) i (f 0) inside ∙ ap Some (get_or-map-range_with_len f 0 n i i (f 0) (omega arith) (zero-add i)))
