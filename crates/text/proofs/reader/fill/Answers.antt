use Rattle.std.proofs.Common.{◌≡◌, ◌<◌, ◌+◌, ◌++◌, ◌∷◌, [], ℕ, ℤ, pos, List, take, map, set, get_or, length, None, Option, sym, ap, ◌∙◌, w32, SFits, arith, rules}
use Rattle.std.proofs.lemmas.Int.{to_z-of_z}
use Rattle.std.proofs.lemmas.List.{take_more, take_more_set, take-map, length-map, take_all}
use lib.ListN.{get_or-map}
use Rattle.text.specs.Drafts.{stock_said}
use Rattle.text.proofs.reader.fill.Goals as goal

-- one entry more
filled_more :
    (said : List (Option ℤ)) (row : List ℤ) (i : ℕ) (z : ℤ) → i < length row → i < length said → z ≡ stock_said (get_or said i None) → take i row ≡ take i (map stock_said said)
    → take (i + 1) (set row i z) ≡ take (i + 1) (map stock_said said)
filled_more said row i z inside there is before =
    take_more_set row i z inside ∙ ap (λ (xs : List ℤ). xs ++ (z ∷ [])) before ∙ ap (λ (x : ℤ). take i (map stock_said said) ++ (x ∷ [])) (is ∙ sym (get_or-map stock_said said i None))
    ∙ sym (take_more (map stock_said said) i (pos 0) (omega (arith, there, length-map said stock_said)))

pub loop-i-preserved : goal.loop-i-preserved
loop-i-preserved c =
    let l = c.loop-i in
    let fits : SFits w32 c.unwrap_or.result = search rules in
    filled_more c.args.said.now l.row l.i _ (omega (arith, l.auto.row, c.loop-i-test.true)) (omega (arith, c.loop-i-test.true, c.requires)) (to_z-of_z w32 c.unwrap_or.result fits ∙ c.unwrap_or.ensures) l.invariant

pub returns : goal.returns
returns c =
    let l = c.loop-i in
    let said = c.args.said.now in
    let all : l.i ≡ length c.args.row.now = omega (arith, l.auto.i-end, c.loop-i-test.false) in
    sym (take_all l.i l.row (omega (arith, l.auto.row, c.loop-i-test.false))) ∙ l.invariant ∙ take-map stock_said l.i said ∙ ap (λ n. map stock_said (take n said)) all
