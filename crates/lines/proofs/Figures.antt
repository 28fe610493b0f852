-- Runs of digits.
use Rattle.std.proofs.Common.{◌≡◌, ℕ, ◌+◌, ◌-◌, ◌*◌, ◌^◌, ◌<◌, ◌≤◌, true, cond, List, [], ◌∷◌, length, get_or, take, drop, sym, refl, ap, ◌∙◌, subst, arith, rules}
use Rattle.std.specs.Char.{is_ascii_digit}
use Rattle.std.specs.List.{fold, prefix_len}
use Rattle.std.specs.Int.{IsInRange}
use Rattle.std.proofs.lemmas.List.{take_rest, length-take-le, get_or-take}
use Rattle.std.proofs.lemmas.List.Folds.{length-prefix_len}
use Rattle.std.proofs.lemmas.List.Sums.{fold_more, prefix_len_passes}
use Rattle.std.proofs.lemmas.Bool.Decides.{nat_tests}
use Rattle.std.proofs.lemmas.Str.Parse.{IsNumeralModel, numerals_by_fold, tells_by_index, digits_value_short}
use Rattle.lines.specs.Number.{run, AllDigits, continued, minus, unsigned, figures}

-- the digits of the library are these
pub own : IsNumeralModel AllDigits (continued 0)
own = numerals_by_fold AllDigits tells_by_index continued (search rules)

digit_in : (b : ℕ) → is_ascii_digit b ≡ true → IsInRange 48 57 b
digit_in b h = grind (arith, nat_tests)

pub front_digits : (bs : List ℕ) → AllDigits (take (run bs) bs)
front_digits bs i l =
    let m : i < run bs = omega (arith, length-prefix_len is_ascii_digit bs) in
    subst (IsInRange 48 57) (sym (get_or-take (run bs) bs i 0 m)) (digit_in (get_or bs i 0) (prefix_len_passes is_ascii_digit bs i 0 m))

-- what `take_while` gives after the sign
pub figures_are : (bs : List ℕ) (k n : ℕ) → k ≡ cond (minus bs) 1 0
    → n ≡ length (take (prefix_len is_ascii_digit (take (length bs - k) (drop k bs))) (take (length bs - k) (drop k bs)))
    → take n (take (length bs - k) (drop k bs)) ≡ figures bs
figures_are bs k n i e =
    let s : take (length bs - k) (drop k bs) ≡ unsigned bs = take_rest bs k ∙ ap (λ j. drop j bs) i in
    ap (λ j. take j (take (length bs - k) (drop k bs))) (e ∙ length-prefix_len is_ascii_digit (take (length bs - k) (drop k bs)))
    ∙ ap (λ l. take (run l) l) s

continued_fold : (n : ℕ) (ds : List ℕ) → continued n ds ≡ fold (λ m d. m * 10 + (d - 48)) n ds
continued_fold n [] = refl
continued_fold n (d ∷ ds) = continued_fold (n * 10 + (d - 48)) ds

-- one more digit
pub continued_more : (ds : List ℕ) (i : ℕ) → i < length ds → continued 0 (take (i + 1) ds) ≡ continued 0 (take i ds) * 10 + (get_or ds i 0 - 48)
continued_more ds i l = continued_fold 0 (take (i + 1) ds) ∙ fold_more _ 0 ds i 0 l ∙ ap (λ n. n * 10 + (get_or ds i 0 - 48)) (sym (continued_fold 0 (take i ds)))

-- a few digits write a small number
pub continued_small : (ds : List ℕ) (i k : ℕ) → AllDigits ds → i ≤ length ds → i ≤ k → continued 0 (take i ds) < 10 ^ k
continued_small ds i k h l s = digits_value_short own (take i ds) k (λ j m. subst (IsInRange 48 57) (sym (get_or-take i ds j 0 (omega (arith, length-take-le i ds l)))) (h j (omega (arith, length-take-le i ds l)))) (omega (arith, length-take-le i ds l))
